-- The people of a register, whose ids rise: where each of them is, and what goes along with them.
use Rattle.std.proofs.Common.{◌≡◌, ◌≢◌, ◌<◌, inl, inr, ℕ, zero, suc, false, List, [], ◌∷◌, Some, arith, refl, sym, ap, ◌∙◌, ◌+◌, ◌==◌, add-one}
use Rattle.std.specs.Prelude.{slice_get, option_map}
use Rattle.std.specs.List.{AllByRecursion}
use Rattle.std.proofs.lemmas.Bool.{cases_Bool, cond-false, cond-true, eq-eqb, eqb-true}
use Rattle.office_base.proofs.Lists.{all-get}
use Rattle.office_base.specs.Lists.{Pairwise}
use Rattle.office_base.specs.Person.{at_person}
use Rattle.office_base.specs.declared.person.CandId.{CandId}
use Rattle.office_base.specs.declared.person.Person.{Person}
use Rattle.rank_lists.specs.Register.{find_person, row_of}
pub use Rattle.office_base.proofs.Lists.{there_is}

-- a number is not below itself
pub apart_of_less : (m n : ℕ) → m < n → (n == m) ≡ false
apart_of_less m n less = elim (cases_Bool (n == m)) [ inl e ↦ absurd (let same = eqb-true n m e in omega (arith, same, less)) | inr e ↦ e ]

-- the person at a place is found by the id, where ids rise
pub found_at : (people : List Person) (i : ℕ) (person : Person) → Pairwise (λ (a b : Person). a.id.0 < b.id.0) people → slice_get people i ≡ Some person → find_person person.id.0 people ≡ Some person
found_at [] i person rising at = absurd (cc)
found_at (x ∷ people) zero person rising at =
    let same : x ≡ person = cc in
    cond-true (person.id.0 == x.id.0) (Some x) (find_person person.id.0 people) (eq-eqb person.id.0 x.id.0 (ap (λ (z : Person). z.id.0) (sym same))) ∙ ap Some same
found_at (x ∷ people) (suc i) person rising at =
    let less = all-get (λ (b : Person). x.id.0 < b.id.0) people i person rising.0 at in
    cond-false (person.id.0 == x.id.0) (Some x) (find_person person.id.0 people) (apart_of_less x.id.0 person.id.0 less) ∙ found_at people i person rising.1 at

-- persons whose numbers rise are distinct
pub distinct_of_rising : (people : List Person) → Pairwise (λ (a b : Person). a.id.0 < b.id.0) people → Pairwise (λ (a b : Person). a.id ≢ b.id) people
distinct_of_rising [] rising = tt
distinct_of_rising (x ∷ people) rising = (apart_all x people rising.0, distinct_of_rising people rising.1)
  where
    apart_all : (x : Person) (people : List Person) → AllByRecursion (λ (b : Person). x.id.0 < b.id.0) people → AllByRecursion (λ (b : Person). x.id ≢ b.id) people
    apart_all x [] all = tt
    apart_all x (y ∷ people) all = ((λ e. let same = ap (λ (z : CandId). z.0) e in let less = all.0 in omega (arith, same, less)), apart_all x people all.1)

-- one id is at one place
pub one_row : (people : List Person) (i j : ℕ) (a b : Person) → Pairwise (λ (a b : Person). a.id.0 < b.id.0) people → slice_get people i ≡ Some a → slice_get people j ≡ Some b → a.id.0 ≡ b.id.0 → i ≡ j
one_row [] i j a b rising at at' same = absurd (cc)
one_row (x ∷ people) zero zero a b rising at at' same = refl
one_row (x ∷ people) zero (suc j) a b rising at at' same = absurd (
    let first : x ≡ a = cc in
    let less = all-get (λ (b : Person). x.id.0 < b.id.0) people j b rising.0 at' in
    let e = ap (λ (z : Person). z.id.0) first in
    omega (arith, less, e, same))
one_row (x ∷ people) (suc i) zero a b rising at at' same = absurd (
    let first : x ≡ b = cc in
    let less = all-get (λ (b : Person). x.id.0 < b.id.0) people i a rising.0 at in
    let e = ap (λ (z : Person). z.id.0) first in
    omega (arith, less, e, same))
one_row (x ∷ people) (suc i) (suc j) a b rising at at' same = ap suc (one_row people i j a b rising.1 at at' same)

-- the row of a person, where ids rise
pub row_at : (people : List Person) (i : ℕ) (person : Person) → Pairwise (λ (a b : Person). a.id.0 < b.id.0) people → slice_get people i ≡ Some person → row_of person.id.0 people ≡ Some i
row_at [] i person rising at = absurd (cc)
row_at (x ∷ people) zero person rising at =
    let same : x ≡ person = cc in
    cond-true (person.id.0 == x.id.0) (Some 0) (option_map (λ n. n + 1) (row_of person.id.0 people)) (eq-eqb person.id.0 x.id.0 (ap (λ (z : Person). z.id.0) (sym same)))
row_at (x ∷ people) (suc i) person rising at =
    let less = all-get (λ (b : Person). x.id.0 < b.id.0) people i person rising.0 at in
    cond-false (person.id.0 == x.id.0) (Some 0) (option_map (λ n. n + 1) (row_of person.id.0 people)) (apart_of_less x.id.0 person.id.0 less)
    ∙ (ap (λ row. option_map (λ n. n + 1) row) (row_at people i person rising.1 at) ∙ ap Some (add-one i))

-- ---- what goes along with the people

-- what a person has is at the person's place
pub record StandsAt {X : Type 0} (id : ℕ) (people : List Person) (xs : List X) (x : X) : Type 0 where
  pub place : ℕ
  pub person : Person
  pub person_at : slice_get people place ≡ Some person
  pub is : person.id.0 ≡ id
  pub at : slice_get xs place ≡ Some x

pub stands_at : {X : Type 0} (id : ℕ) (people : List Person) (xs : List X) (x : X) → at_person id people xs ≡ Some x → StandsAt id people xs x
stands_at id [] xs x e = absurd (cc)
stands_at id (y ∷ people) [] x e = absurd (cc)
stands_at id (y ∷ people) (z ∷ xs) x e = elim (cases_Bool (y.id.0 == id)) [
  | inl here ↦
      let taken = sym (cond-true (y.id.0 == id) (Some z) (at_person id people xs) here) ∙ e in
      let value : z ≡ x = cc in
      record { place = 0; person = y; person_at = refl; is = eqb-true y.id.0 id here; at = ap Some value }
  | inr other ↦
      let rest = stands_at id people xs x (sym (cond-false (y.id.0 == id) (Some z) (at_person id people xs) other) ∙ e) in
      record { place = suc rest.place; person = rest.person; person_at = rest.person_at; is = rest.is; at = rest.at }
]
