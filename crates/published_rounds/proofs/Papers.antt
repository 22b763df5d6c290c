-- The seats of each round of papers that break no clause can be justified to each person.
use Rattle.std.proofs.Common.{◌≡◌, ◌≤◌, ℕ, zero, suc, List, Option, Some, length, arith, add-one, sym, ap, ◌∙◌, subst}
use Rattle.std.specs.Prelude.{slice_get}
use Rattle.std.proofs.lemmas.Option.{slice_get_within}
use Rattle.office_base.proofs.Lists.{there_is}
use Rattle.office_asks.specs.declared.ask.Request.{Request}
use Rattle.office_base.specs.declared.seat.Seat.{Seat}
use Rattle.office_base.specs.declared.person.Person.{Person}
use Rattle.allocations.specs.Fair.{IsFair}
use Rattle.allocations.specs.Market.{Seeker}
use Rattle.seat_matrix.specs.Laws.{OneStepChanges}
use Rattle.seat_matrix.specs.Matrix.{SeatTable}
use Rattle.rounds.specs.Rule.{nobody, rule_of}
use Rattle.rounds.proofs.Entrants.{market}
use Rattle.office_moves.specs.Facts.{IsSound, SeasonFacts, lists_in_order}
use Rattle.office_moves.specs.Moves.{next_seeks}
use Rattle.office_moves.specs.Raised.{matrix_at}
use Rattle.office_moves.specs.State.{State}
use Rattle.history_laws.proofs.Entering.{entrants}
use Rattle.history_laws.proofs.Fits.{map_at}
use Rattle.published_rounds.specs.Fair.{AreFairOver}
use Rattle.published_rounds.specs.People.{FairSeatsAreJustified}
use Rattle.published_rounds.proofs.People.{fair_to}
use Rattle.audit_rules.specs.Cut.{seat_given, seekers_at, sought_by}
use Rattle.audit_rules.specs.InOrder.{IsInOrder}
use Rattle.audit_rules.specs.Laws.{SoundIsFair}
use Rattle.audit_rules.specs.Papers.{Papers, rows_after, seat_told, seats_told}
use Rattle.audit_rules.specs.Replay.{before}
use Rattle.audit_rules.specs.Verdict.{HoldsThere}
use Rattle.audit_rules.proofs.FairCuts.{enters, full_seekers}
use Rattle.audit_rules.proofs.Ordering.{before_next, in_order_at_first, in_order_next}
use Rattle.published_rounds.specs.Papers.{SoundPapersAreJustified}

-- ---- the state before a request

-- it is in order, if no clause is broken
pub in_order : OneStepChanges → (facts : SeasonFacts) (script : List Request) (papers : Papers) → IsSound facts
    → ((i : ℕ) (request : Request) → slice_get script i ≡ Some request → HoldsThere facts script papers i request) → (j : ℕ) → j ≤ length script
    → IsInOrder facts (before facts script papers j)
in_order law facts script papers sound holds zero within = in_order_at_first facts sound
in_order law facts script papers sound holds (suc j) within =
    let here = in_order law facts script papers sound holds j (omega (arith, within)) in
    let request = there_is script j (omega (arith, within)) in
    let next = in_order_next law facts papers (before facts script papers j) request.0 sound here (holds j request.0 request.1) in
    subst (IsInOrder facts) (sym (ap (before facts script papers) (sym (add-one j)) ∙ before_next facts script papers j request.0 request.1)) next

-- ---- the seats of its round

module _ (facts : SeasonFacts) (papers : Papers) (state : State) (sound : IsSound facts) (order : IsInOrder facts state) where
  abbrev table : SeatTable
  table = matrix_at facts state

  abbrev seats : List (Option Seat)
  seats = seats_told (rows_after papers state.now) facts.people

  pub over_seekers : IsFair (rule_of facts.version nobody table) (length facts.matrix.programmes) (seekers_at facts state) seats → AreFairOver facts.version table (seekers_at facts state) seats
  over_seekers fair = record {
    are_seats = order.seats;
    market = market table facts.people (lists_in_order facts) (next_seeks facts state) order.seats (entrants facts table sound order.programmes);
    fair = subst (λ n. IsFair (rule_of facts.version nobody table) n (seekers_at facts state) seats) (ap length (sym order.programmes)) fair;
  }

  who : (i : ℕ) (s : Seeker) (person : Person) → slice_get (seekers_at facts state) i ≡ Some s → slice_get facts.people i ≡ Some person
      → (s.person ≡ person) × (s.list ≡ sought_by facts state person.id.0)
  who i s person there at =
      let e = enters facts state i s sound there in
      let one : s.person ≡ person = (let mine = e.person_at in cc) in
      (one, e.leaves ∙ ap (λ (p : Person). sought_by facts state p.id.0) one)

  gets : (i : ℕ) (seat : Option Seat) (person : Person) → slice_get seats i ≡ Some seat → slice_get facts.people i ≡ Some person → seat ≡ seat_given papers state person.id.0
  gets i seat person there at = let mine = map_at (λ (p : Person). seat_told (rows_after papers state.now) p.id.0) facts.people i person at in cc

pub sound_papers_are_justified : OneStepChanges → SoundIsFair → FairSeatsAreJustified → SoundPapersAreJustified
sound_papers_are_justified law fair_cuts justify facts script papers rounds j request sound whole verdict there publishes =
    let state = before facts script papers j in
    let within = slice_get_within script j request there in
    let order = in_order law facts script papers sound verdict.1 j (omega (arith, within)) in
    let cut = (fair_cuts facts script papers rounds sound whole verdict).rounds j request there publishes in
    justify facts.version (matrix_at facts state) facts.people (sought_by facts state) (seat_given papers state)
    (fair_to facts.version (matrix_at facts state) facts.people (sought_by facts state) (seat_given papers state) (seekers_at facts state) (seats_told (rows_after papers state.now) facts.people)
    (full_seekers facts state sound) (who facts papers state sound order) (gets facts papers state sound order) (over_seekers facts papers state sound order cut.fair))
