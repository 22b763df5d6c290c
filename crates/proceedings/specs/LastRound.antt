-- The last published round.
use Rattle.std.specs.Prelude.{◌≡◌, Some, length}
use Rattle.rounds.specs.Rule.{AreSeeks}
use Rattle.rounds.specs.declared.round.Round.{Round}
use Rattle.office_moves.specs.Facts.{SeasonFacts, lists_in_order}
use Rattle.office_moves.specs.State.{State, round_at}

-- The last published round. It has a seek of each person, within their own list, and the lists of each programme.
pub record IsLastRound (facts : SeasonFacts) (state : State) (round : Round) : Type 0 where
  pub there : round_at state.rounds (length state.rounds) ≡ Some round
  pub full : length round.seeks ≡ length facts.people
  pub seeks : AreSeeks (lists_in_order facts) round.seeks
  pub programmes : length round.programmes ≡ length facts.matrix.programmes
