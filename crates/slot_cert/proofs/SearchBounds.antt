-- The steps of the search: its bounds by their numbers, before and after a person.
use Rattle.std.proofs.Common.{◌≡◌, ◌<◌, ◌≤◌, ◌+◌, ◌-◌, ℕ, Bool, true, false, List, ◌∷◌, length, get_or, set, None, MatchBool, ◌∙◌, inr, ⊎_elim, arith}
use Rattle.std.proofs.lemmas.Bool.{cases_Bool}
use Rattle.std.proofs.lemmas.List.{get_or-set_same, get_or-set_other}
use Rattle.office_base.specs.Person.{has_trait, IsTraitSet}
use Rattle.office_base.specs.Placement.{protected}
use Rattle.office_base.specs.declared.person.Person.{Person}
use Rattle.office_base.specs.declared.person.TraitSet.{TraitSet}
use Rattle.office_base.specs.declared.step.Protections.{Protections}
use Rattle.placements.specs.Demand.{is_within}
use Rattle.placements.specs.Greatest.{one_less}
use Rattle.placements.proofs.Hall.{one_if, one_if_true, one_if_false}
use Rattle.placements.proofs.Outside.{none_if}
use borrow.Author.Count.{below_more}
use Rattle.slot_cert.specs.Bounds.{bound, AreBounds, IsLeastBound}
use Rattle.slot_cert.specs.First.{MayTake, MustPass, IsFirstChoice}
use Rattle.slot_cert.specs.Search.{IsSearch}
use Rattle.slot_cert.specs.declared.canonical.Search.{Search}
use Rattle.slot_cert.proofs.First.{six-one_less}
use Rattle.slot_cert.proofs.Least.{bound-one_less, IsLeastBound-passed, IsLeastBound-taken}

-- one bound more is known
pub bounds_more : (bounds : List ℕ) (protections : Protections) (people : List Person) (i value : ℕ) → i < length bounds
    → ((n : ℕ) → n < i → get_or bounds n 0 ≡ bound (record { 0 = n }) protections people) → value ≡ bound (record { 0 = i }) protections people
    → (n : ℕ) → n < i + 1 → get_or (set bounds i value) n 0 ≡ bound (record { 0 = n }) protections people
bounds_more bounds protections people i value within before here =
    below_more (λ n. get_or (set bounds i value) n 0 ≡ bound (record { 0 = n }) protections people) i
    (λ n l. get_or-set_other bounds i n value 0 (λ e. omega arith) ∙ before n l)
    (get_or-set_same bounds i value 0 within ∙ here)

-- the least of the bounds, by their numbers
pub IsLeastBound-numbered : (bounds : List ℕ) (protections : Protections) (people : List Person) (most : ℕ) → AreBounds bounds protections people
    → ((n : ℕ) → n < 64 → most ≤ get_or bounds n 0) → ((n : ℕ) × (n < 64) × (get_or bounds n 0 ≡ most)) → IsLeastBound protections people most
IsLeastBound-numbered bounds protections people most are below met = record {
  below = λ chosen small. omega (arith, below chosen.0 small, are chosen.0 small);
  met = (record { 0 = met.0 }, met.1, omega (arith, are met.0 met.1, met.2));
}

-- a trait held with a position left may be taken or must be passed, as the bounds show
pub takes_or_passes : (bounds : List ℕ) (room : Protections) (rest : List Person) (most : ℕ) (traits : TraitSet) (t : ℕ) (kept : Bool) → t < 6 → AreBounds bounds room rest
    → has_trait traits t ≡ true → 0 < protected room t
    → MatchBool kept ((n : ℕ) → n < 64 → has_trait (record { 0 = n }) t ≡ true → most ≤ get_or bounds n 0)
    ((n : ℕ) × (n < 64) × (has_trait (record { 0 = n }) t ≡ true) × (get_or bounds n 0 < most))
    → MatchBool kept (MayTake room rest most traits t) (MustPass room rest most traits t)
takes_or_passes bounds room rest most traits t true low are held left kept = record {
  held = held;
  left = left;
  keeps = λ chosen small e. omega (arith, kept chosen.0 small e, are chosen.0 small);
}
takes_or_passes bounds room rest most traits t false low are held left lost = inr (inr (record { 0 = lost.0 }, lost.1, lost.2, omega (arith, are lost.0 lost.1, lost.3)))

-- the bounds without the person
pub AreBounds-left : (old new : List ℕ) (room : Protections) (person : Person) (rest : List Person) → AreBounds old room (person ∷ rest)
    → ((n : ℕ) → n < 64 → none_if (is_within person.traits (record { 0 = n })) + get_or new n 0 ≡ get_or old n 0) → AreBounds new room rest
AreBounds-left old new room person rest are moved n l = omega (arith, are n l, moved n l)

-- the bounds with a position of the trait taken
pub AreBounds-taken : (old new : List ℕ) (room : Protections) (rest : List Person) (t : ℕ) → length room.counts ≡ 6 → 0 < protected room t → AreBounds old room rest
    → ((n : ℕ) → n < 64 → one_if (has_trait (record { 0 = n }) t) + get_or new n 0 ≡ get_or old n 0) → AreBounds new (one_less room t) rest
AreBounds-taken old new room rest t six left are moved n l = omega (arith, are n l, moved n l, bound-one_less (record { 0 = n }) room rest t six left)

-- no bound of a set with the trait is 0 where it may be taken
pub counted-taken : (bounds : List ℕ) (room : Protections) (rest : List Person) (most : ℕ) (traits : TraitSet) (t : ℕ) → 0 < most → AreBounds bounds room rest → MayTake room rest most traits t
    → (n : ℕ) → n < 64 → one_if (has_trait (record { 0 = n }) t) ≤ get_or bounds n 0
counted-taken bounds room rest most traits t some are take n l = ⊎_elim
    (λ e. let one = one_if_true (has_trait (record { 0 = n }) t) e in omega (arith, are n l, take.keeps (record { 0 = n }) l e))
    (λ e. let none = one_if_false (has_trait (record { 0 = n }) t) e in omega arith)
    (cases_Bool (has_trait (record { 0 = n }) t))

-- behind a person who is passed over
pub IsSearch-passed : (search : Search) (person : Person) (rest : List Person) (bounds : List ℕ) → IsTraitSet person.traits → IsSearch search (person ∷ rest) → AreBounds bounds search.room rest
    → IsFirstChoice search.room rest search.most person.traits None → IsSearch (record search { bounds = bounds }) rest
IsSearch-passed search person rest bounds traits before are pass = record {
  six = before.six;
  bounds = are;
  least = IsLeastBound-passed search.room person rest search.most traits pass before.least;
}

-- somebody is to be placed where somebody may be
pub some_left : (search : Search) (person : Person) (rest : List Person) (t : ℕ) → IsSearch search (person ∷ rest) → MayTake search.room rest search.most person.traits t → 0 < search.most
some_left search person rest t before take = (IsLeastBound-taken search.room person rest search.most t before.six take before.least).0

-- behind a person who is placed
pub IsSearch-taken : (search : Search) (person : Person) (rest : List Person) (t : ℕ) (bounds : List ℕ) → IsSearch search (person ∷ rest) → AreBounds bounds (one_less search.room t) rest
    → MayTake search.room rest search.most person.traits t → IsSearch (record { room = one_less search.room t; bounds = bounds; most = search.most - 1 }) rest
IsSearch-taken search person rest t bounds before are take = record {
  six = six-one_less search.room t before.six;
  bounds = are;
  least = (IsLeastBound-taken search.room person rest search.most t before.six take before.least).1;
}
