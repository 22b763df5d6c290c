-- How many have a seat or are still in: no more than there are people.
use Rattle.std.proofs.Common.{◌≡◌, ◌≤◌, ◌+◌, ℕ, Bool, true, false, List, [], ◌∷◌, length, arith, subst, if◌then◌else◌}
use Rattle.office_base.specs.declared.choice.Choice.{Choice}
use Rattle.office_base.specs.declared.choice.Choice.TheVariants.{Freeze, Float, Slide, Withdraw}
use Rattle.office_base.specs.declared.person.Person.{Person}
use Rattle.office_base.specs.declared.person.ProgId.{ProgId}
use Rattle.seat_matrix.specs.Matrix.{SeatTable}
use Rattle.seeks.specs.declared.seek.Seek.{Seek}
use Rattle.rounds.specs.Round.{seated}
use Rattle.rounds.specs.Rule.{seekers_of}
use Rattle.rounds.specs.declared.round.Round.{Round}
use Rattle.office_moves.specs.Facts.{SeasonFacts, lists_in_order}
use Rattle.office_moves.specs.Moves.{IsNextRound, final_rows, final_seat, next_seeks}
use Rattle.office_moves.specs.State.{State, standing_at, view_of}
use Rattle.office_moves.specs.Judge.{is_gone}
use Rattle.office_moves.specs.Raised.{matrix_at}
use Rattle.proceedings.specs.Changes.{StillAfter}
use Rattle.proceedings.specs.Proceeding.{still_among}
use Rattle.proceedings.proofs.Published.{seated_most, rows_most}

seekers_few : (table : SeatTable) (people : List Person) (lists : List (List ProgId)) (seeks : List Seek) → length (seekers_of table people lists seeks) ≤ length people
seekers_few table [] lists seeks = omega arith
seekers_few table (person ∷ people) [] seeks = omega arith
seekers_few table (person ∷ people) (list ∷ lists) [] = omega arith
seekers_few table (person ∷ people) (list ∷ lists) (seek ∷ seeks) = let few = seekers_few table people lists seeks in omega (arith, few)

pub round_few : (facts : SeasonFacts) (state : State) (round : Round) → IsNextRound facts state round → seated round.seats ≤ length facts.people
round_few facts state round next =
    let some = seated_most round.seats in
    let full = next.best.fair.allocation.full in
    let few = seekers_few (matrix_at facts state) facts.people (lists_in_order facts) (next_seeks facts state) in
    omega (arith, some, full, few)

pub final_few : (facts : SeasonFacts) (state : State) → length (final_rows facts state) ≤ length facts.people
final_few facts state = rows_most (facts.rounds + 1) (final_seat facts state) facts.people

one_more : (gone : Bool) (count : ℕ) → (if gone then count else count + 1) ≤ count + 1
one_more true count = omega arith
one_more false count = omega arith

pub still_few : (facts : SeasonFacts) (state : State) (people : List Person) → still_among facts state people ≤ length people
still_few facts state [] = omega arith
still_few facts state (person ∷ people) =
    let rest = still_few facts state people in
    let one = one_more (is_gone (standing_at facts (view_of state person.id.0) person.id.0 state.now)) (still_among facts state people) in
    omega (arith, rest, one)

pub still_most : (choice : Choice) (old new : ℕ) → StillAfter choice old new → new ≤ old
still_most Freeze old new e = omega (arith, e)
still_most Float old new e = omega (arith, e)
still_most Slide old new e = omega (arith, e)
still_most Withdraw old new e = omega (arith, e)

pub still_less : (choice : Choice) (old new : ℕ) → choice ≡ Withdraw → StillAfter choice old new → new + 1 ≡ old
still_less choice old new is e = subst (λ c. StillAfter c old new) is e
