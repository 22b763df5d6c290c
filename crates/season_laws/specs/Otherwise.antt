-- The next round compared with the one that other answers of a candidate, or other raises, would bring.
use Rattle.std.specs.Prelude.{◌≡◌, ◌≢◌, ◌<◌, ◌≤◌, ℕ, Some, slice_get}
use Rattle.office_base.specs.declared.person.Person.{Person}
use Rattle.allocations.specs.Market.{rank_of}
use Rattle.choice_lists.specs.Choices.{list_of}
use Rattle.history_laws.specs.Orderly.{IsOrderly}
use Rattle.office_moves.specs.Facts.{IsSound, SeasonFacts}
use Rattle.office_moves.specs.Moves.{IsNextRound, next_seek}
use Rattle.office_moves.specs.Promise.{standing_then}
use Rattle.office_moves.specs.Raised.{matrix_at}
use Rattle.office_moves.specs.State.{State, rows_of, seat_of}
use Rattle.round_options.specs.declared.standing.Standing.TheVariants.{Float}
use Rattle.rounds.specs.Rule.{IsRaised}
use Rattle.rounds.specs.declared.round.Round.{Round}
use Rattle.seeks.specs.Seek.{seek_leaves}

-- The second state has the cuts, rounds and raises of the first, and the answers of all candidates but this one.
pub record AnswersOtherwise (state other : State) (id : ℕ) : Type 0 where
  pub now : other.now ≡ state.now
  pub rounds : other.rounds ≡ state.rounds
  pub raises : other.raises ≡ state.raises
  pub others : (n : ℕ) → n ≢ id → rows_of n other.answers ≡ rows_of n state.answers

-- A candidate who floats gets in the next round, by their own choice list, no worse seat than with any other answers.
abbrev pub FloatIsNoWorse : SeasonFacts → Type 0
FloatIsNoWorse facts = (state other : State) (id : ℕ) (first second : Round) → IsSound facts → IsOrderly facts state → IsOrderly facts other → state.now < facts.rounds
    → AnswersOtherwise state other id → standing_then facts state state.now id ≡ Float → IsNextRound facts state first → IsNextRound facts other second
    → rank_of (list_of facts.lists id) (seat_of facts (Some first) id) ≤ rank_of (list_of facts.lists id) (seat_of facts (Some second) id)

-- The second state has the cuts, rounds and answers of the first.
pub record IsRaisedAlone (state other : State) : Type 0 where
  pub now : other.now ≡ state.now
  pub rounds : other.rounds ≡ state.rounds
  pub answers : other.answers ≡ state.answers

-- Where raises alone are added, and no seat number falls, nobody has a worse seat in the next round than without them, by what the person seeks there.
abbrev pub RaisesHurtNobody : SeasonFacts → Type 0
RaisesHurtNobody facts = (state other : State) (first second : Round) (i : ℕ) (person : Person) → IsSound facts → IsOrderly facts state → IsOrderly facts other → IsRaisedAlone state other
    → IsRaised (matrix_at facts state) (matrix_at facts other) → IsNextRound facts state first → IsNextRound facts other second → slice_get facts.people i ≡ Some person
    → rank_of (seek_leaves (matrix_at facts state) (next_seek facts state person.id.0) (list_of facts.lists person.id.0)) (seat_of facts (Some second) person.id.0)
    ≤ rank_of (seek_leaves (matrix_at facts state) (next_seek facts state person.id.0) (list_of facts.lists person.id.0)) (seat_of facts (Some first) person.id.0)
