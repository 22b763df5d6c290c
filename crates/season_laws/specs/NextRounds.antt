-- That every round is there, and so every reply.
use Rattle.office_asks.specs.declared.ask.Request.{Request}
use Rattle.office_moves.specs.Facts.{IsSound, SeasonFacts}
use Rattle.office_moves.specs.State.{State}
use Rattle.office_moves.specs.Moves.{IsMove, IsNextRound}
use Rattle.office_moves.specs.declared.moves.Reply.{Reply}
use Rattle.history_laws.specs.Orderly.{IsOrderly}
use Rattle.rounds.specs.declared.round.Round.{Round}

-- A state in which all is in order has a next round.
abbrev pub NextRoundExists : SeasonFacts → Type 0
NextRoundExists facts = (state : State) → IsSound facts → IsOrderly facts state → (round : Round) × IsNextRound facts state round

-- So every request in such a state has a reply and a next state.
abbrev pub EveryRequestIsAnswered : SeasonFacts → Type 0
EveryRequestIsAnswered facts = (state : State) (request : Request) → IsSound facts → IsOrderly facts state → (reply : Reply) × (after : State) × IsMove facts state request reply after
