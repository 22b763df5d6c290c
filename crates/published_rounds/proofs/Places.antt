-- Where the people of a season stand in a published round.
use Rattle.std.proofs.Common.{◌≡◌, ◌<◌, ◌≤◌, inl, inr, ℕ, suc, List, [], ◌∷◌, Option, Some, None, length, arith, refl, sym, ap, ◌∙◌, subst}
use Rattle.std.specs.Prelude.{slice_get}
use Rattle.std.specs.Option.{option_and_then}
use Rattle.std.proofs.lemmas.Option.{slice_get_within}
use Rattle.office_base.proofs.People.{at_person-get}
use Rattle.office_base.specs.Lists.{IsAmong}
use Rattle.office_base.specs.declared.seat.Seat.{Seat}
use Rattle.office_base.specs.declared.person.Person.{Person}
use Rattle.office_base.specs.declared.person.ProgId.{ProgId}
use Rattle.office_base.proofs.Lists.{there_is}
use Rattle.allocations.specs.Market.{Seeker, place_of, rank_of}
use Rattle.choice_lists.specs.Choices.{list_of}
use Rattle.seeks.proofs.Left.{leaves_same}
use Rattle.rounds.specs.Round.{IsRound}
use Rattle.rounds.specs.Rule.{AreEntrants, nobody}
use Rattle.rounds.specs.declared.round.Round.{Round}
use Rattle.office_moves.specs.Facts.{IsSound, SeasonFacts, lists_in_order}
use Rattle.office_moves.specs.History.{Reaches}
use Rattle.office_moves.specs.Promise.{all_sought_then, sought_then}
use Rattle.office_moves.specs.State.{State, opening, seat_of}
use Rattle.office_moves.specs.declared.moves.Entry.{Entry}
use Rattle.history_laws.specs.Orderly.{IsOrderly}
use Rattle.history_laws.proofs.Entering.{entrants}
use Rattle.history_laws.proofs.Fits.{enters, full_seekers}
use Rattle.published_rounds.specs.Published.{IsPublished, IsThatOrEarlier, market_then, matrix_then, wanted_then}

-- what the law of histories says
abbrev pub AreOrderly : Type 0
AreOrderly = (facts : SeasonFacts) (entries : List Entry) (state : State) → IsSound facts → Reaches facts opening entries state → IsOrderly facts state

pub order_of : AreOrderly → (facts : SeasonFacts) (entries : List Entry) (state : State) (window : ℕ) (round : Round) → IsPublished facts entries state window round → IsOrderly facts state
order_of orderly facts entries state window round published = orderly facts entries state published.sound published.history.reached

-- one of the people is at a place
pub place_among : (people : List Person) (person : Person) → IsAmong person people → (i : ℕ) × (slice_get people i ≡ Some person)
place_among [] person here = absurd here
place_among (x ∷ people) person here = elim here [
  | inl first ↦ (0, ap Some (sym first))
  | inr later ↦ let rest = place_among people person later in (suc rest.0, rest.1)
]

-- a seat whose place is that of a listed programme or an earlier one
pub seat_there_is : (list : List ProgId) (p : ℕ) (seat : Option Seat) → place_of list p < length list → rank_of list seat ≤ place_of list p → IsThatOrEarlier list p seat
seat_there_is list p None less within = absurd (omega (arith, less, within))
seat_there_is list p (Some own) less within = (own, refl, within)

-- A person at a place of the people, with what the person seeks and has in a round.
pub record InRound (facts : SeasonFacts) (state : State) (window place : ℕ) (round : Round) (person : Person) : Type 0 where
  pub s : Seeker
  pub there : slice_get (market_then facts state window) place ≡ Some s
  pub person_is : s.person ≡ person
  pub list_is : s.list ≡ wanted_then facts state window person.id.0
  pub seat : Option Seat
  pub has : slice_get round.seats place ≡ Some seat
  pub seat_is : seat_of facts (Some round) person.id.0 ≡ seat

pub made_then : (facts : SeasonFacts) (state : State) (window : ℕ) (round : Round) → IsOrderly facts state → slice_get state.rounds window ≡ Some round
    → IsRound facts.version nobody (matrix_then facts state window) facts.people (lists_in_order facts) (suc window) (all_sought_then facts state window) round
made_then facts state window round order is =
    subst (λ n. IsRound facts.version nobody (matrix_then facts state window) facts.people (lists_in_order facts) n (all_sought_then facts state window) round) (omega arith)
    (order.alone window round is)

pub in_round : (facts : SeasonFacts) (state : State) (window place : ℕ) (round : Round) (person : Person) → IsSound facts → IsOrderly facts state → slice_get state.rounds window ≡ Some round
    → slice_get facts.people place ≡ Some person → InRound facts state window place round person
in_round facts state window place round person sound order is at =
    let less = slice_get_within facts.people place person at in
    let full = full_seekers facts state window sound in
    let found = there_is (market_then facts state window) place (omega (arith, less, full)) in
    let entry = enters facts state window place found.0 sound found.1 in
    let one : found.0.person ≡ person = (let e = entry.person_at in cc) in
    let size = (made_then facts state window round order is).best.fair.allocation.full in
    let seat = there_is round.seats place (omega (arith, less, full, size)) in
    let leaves = entry.leaves ∙ leaves_same facts.matrix (matrix_then facts state window) (sought_then facts state window found.0.person.id.0) (list_of facts.lists found.0.person.id.0)
    (order.course.programmes (suc window)) in
    record {
      s = found.0;
      there = found.1;
      person_is = one;
      list_is = leaves ∙ ap (λ (p : Person). wanted_then facts state window p.id.0) one;
      seat = seat.0;
      has = seat.1;
      seat_is = ap (λ o. option_and_then (λ s. s) o) (at_person-get facts.people round.seats place person sound.ranks.rising at ∙ seat.1);
    }

pub may_enter : (facts : SeasonFacts) (state : State) (window : ℕ) → IsSound facts → IsOrderly facts state → AreEntrants (matrix_then facts state window) facts.people (lists_in_order facts)
may_enter facts state window sound order = entrants facts (matrix_then facts state window) sound (order.course.programmes (suc window))
