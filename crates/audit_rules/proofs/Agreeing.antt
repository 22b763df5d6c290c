-- Where a round's seats and the lists of its programmes agree, the seats are fair.
use Rattle.std.proofs.Common.{◌≡◌, ◌≢◌, ◌<◌, ◌↔◌, ◌⊎◌, ◌==◌, ℕ, Bool, true, false, List, [], ◌∷◌, Option, Some, None, refl, sym, ap, ◌∙◌, subst, inl, inr, if◌then◌else◌}
use Rattle.std.specs.Prelude.{IsTrue, slice_get}
use Rattle.std.proofs.lemmas.Bool.{cases_Bool, cond-false, cond-true, eq-eqb, eqb-true}
use Rattle.office_base.specs.Lists.{IsAmong, Pairwise}
use Rattle.office_base.specs.declared.seat.Seat.{Seat}
use Rattle.office_base.specs.declared.person.Person.{Person}
use Rattle.office_base.specs.declared.seat.SeatKind.{SeatKind}
use Rattle.placements.proofs.Convert.{same_cand}
use Rattle.allocations.specs.Fair.{IsAllocation, IsFair}
use Rattle.allocations.specs.Market.{Seeker, applicants, applies, seat_at}
use Rattle.allocations.specs.Rule.{Rule}
use Rattle.allocations.proofs.Those.{of_those, same_place}
use Rattle.audit_rules.specs.Cut.{is_named}

-- a person among people is named by the id
pub named_by_id : (person : Person) (people : List Person) → IsAmong person people → is_named person.id.0 people ≡ true
named_by_id person [] there = absurd there
named_by_id person (other ∷ people) there = elim (cases_Bool (other.id.0 == person.id.0)) [
  | inl same ↦ cond-true (other.id.0 == person.id.0) true (is_named person.id.0 people) same
  | inr apart ↦ elim there [
    | inl here ↦ cond-true (other.id.0 == person.id.0) true (is_named person.id.0 people) (eq-eqb other.id.0 person.id.0 (ap (λ (p : Person). p.id.0) (sym here)))
    | inr later ↦ cond-false (other.id.0 == person.id.0) true (is_named person.id.0 people) apart ∙ named_by_id person people later
  ]
]

-- and a person whose id is named is somebody there
pub somebody_named : (id : ℕ) (people : List Person) → is_named id people ≡ true → (person : Person) × IsAmong person people × (person.id.0 ≡ id)
somebody_named id [] e = absurd (cc)
somebody_named id (other ∷ people) e = elim (cases_Bool (other.id.0 == id)) [
  | inl same ↦ (other, inl refl, eqb-true other.id.0 id same)
  | inr apart ↦
      let later = somebody_named id people (sym (cond-false (other.id.0 == id) true (is_named id people) apart) ∙ e) in
      (later.0, inr later.1, later.2)
]

-- Seats of own lists, and lists that name whom each programme admits from those who apply to it: where both say the same of each candidate, the seats are fair.
pub fair_from_lists : (rule : Rule) (count : ℕ) (seekers : List Seeker) (seats : List (Option Seat)) (named : ℕ → SeatKind → List Person) → IsAllocation seekers seats
    → Pairwise (λ (a b : Seeker). a.person.id ≢ b.person.id) seekers
    → ((p : ℕ) (person : Person) (kind : SeatKind) → p < count → rule p (applicants p seekers seats) person kind ↔ IsAmong person (named p kind))
    → ((p : ℕ) (person : Person) (kind : SeatKind) → p < count → IsAmong person (named p kind) → IsAmong person (applicants p seekers seats))
    → ((p i : ℕ) (s : Seeker) (kind : SeatKind) → p < count → slice_get seekers i ≡ Some s → IsTrue (is_named s.person.id.0 (named p kind)) ↔ (slice_get seats i ≡ Some (Some (seat_at p kind))))
    → IsFair rule count seekers seats
fair_from_lists rule count seekers seats named own distinct chosen within agree = record {
  allocation = own;
  agrees = λ p i s kind less there. (
    (λ admits. (agree p i s kind less there).0 (named_by_id s.person (named p kind) ((chosen p s.person kind less).0 admits))),
    (λ has.
        let who = somebody_named s.person.id.0 (named p kind) ((agree p i s kind less there).1 has) in
        let applied = of_those (λ (t : Seeker) (seat : Option Seat). applies p t.list seat) seekers seats who.0 (within p who.0 kind less who.1) in
        let id = same_cand s.person.id applied.s.person.id (sym who.2 ∙ ap (λ (q : Person). q.id.0) applied.person_is) in
        let place = same_place seekers i applied.place s applied.s distinct there applied.there id in
        let one : Some s ≡ Some applied.s = sym there ∙ (ap (λ (n : ℕ). slice_get seekers n) place ∙ applied.there) in
        let same : s ≡ applied.s = cc in
        let person : who.0 ≡ s.person = applied.person_is ∙ ap (λ (t : Seeker). t.person) (sym same) in
        (chosen p s.person kind less).1 (subst (λ (q : Person). IsAmong q (named p kind)) person who.1)),
  );
}
