-- What holds of the texts of replies.
use Rattle.office_moves.specs.Facts.{IsSound, SeasonFacts}
use Rattle.office_moves.specs.State.{State}
use Rattle.office_moves.specs.declared.moves.Reply.{Reply}
use Rattle.history_laws.specs.Orderly.{IsOrderly}
use Rattle.shown_replies.specs.Shown.{CameOf, CanBeShown}

-- In a state in which all is in order the reply that led to it can be shown.
abbrev pub RepliesCanBeShown : SeasonFacts → Type 0
RepliesCanBeShown facts = IsSound facts → (state : State) (reply : Reply) → IsOrderly facts state → CameOf facts state reply → CanBeShown facts state reply
