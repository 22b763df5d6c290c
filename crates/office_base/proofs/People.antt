-- Lists with one element for each person.
use Rattle.std.proofs.Common.{◌≡◌, ◌<◌, ℕ, zero, suc, List, [], ◌∷◌, Some, refl, ap, ◌∙◌, arith}
use Rattle.std.specs.Prelude.{slice_get, ◌==◌}
use Rattle.std.proofs.lemmas.Bool.{eq-eqb, ne_eqb, cond-true, cond-false}
use Rattle.office_base.proofs.Lists.{all-get}
use Rattle.office_base.specs.Lists.{Pairwise}
use Rattle.office_base.specs.Person.{at_person}
use Rattle.office_base.specs.declared.person.Person.{Person}

-- If the numbers of the people rise, a list with one element for each person has
-- that person's element at the person's place.
pub at_person-get : {X : Type 0} (people : List Person) (xs : List X) (at : ℕ) (person : Person) → Pairwise (λ a b. a.id.0 < b.id.0) people
    → slice_get people at ≡ Some person → at_person person.id.0 people xs ≡ slice_get xs at
at_person-get [] xs zero person rising found = absurd cc
at_person-get [] xs (suc at) person rising found = absurd cc
at_person-get (first ∷ people) [] zero person rising found = refl
at_person-get (first ∷ people) [] (suc at) person rising found = refl
at_person-get (first ∷ people) (x ∷ xs) zero person rising found =
    let same : first ≡ person = cc in
    let number : first.id.0 ≡ person.id.0 = ap (λ (p : Person). p.id.0) same in
    cond-true (first.id.0 == person.id.0) (Some x) (at_person person.id.0 people xs) (eq-eqb first.id.0 person.id.0 number)
at_person-get (first ∷ people) (x ∷ xs) (suc at) person rising found =
    let above : first.id.0 < person.id.0 = all-get (λ b. first.id.0 < b.id.0) people at person rising.0 found in
    cond-false (first.id.0 == person.id.0) (Some x) (at_person person.id.0 people xs) (ne_eqb first.id.0 person.id.0 (λ same. absurd (omega (arith, above, same))))
    ∙ at_person-get people xs at person rising.1 found
