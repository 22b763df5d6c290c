-- Each step has a number, which is its place in the order of the steps, and each category has one.
use Rattle.std.proofs.Common.{◌≡◌, ◌<◌, ◌+◌, ◌&&◌, ℕ, zero, suc, Bool, true, false, eqb, List, [], ◌∷◌, Some, None, get_or, length, map, arith, inl, inr, refl, sym, ap, ◌∙◌, subst}
use Rattle.std.proofs.lemmas.Bool.{and_parts, cases_Bool, cond-false, cond-true, eqb-true}
use Rattle.std.specs.List.{list_all}
use Rattle.std.specs.Prelude.{find, slice_get}
use Rattle.office_base.specs.declared.person.Category.{Category}
use Rattle.office_base.specs.declared.person.Category.TheVariants.{Gen}
use Rattle.office_base.specs.declared.step.StepKind.{StepKind}
use Rattle.office_base.specs.declared.step.StepKind.TheVariants.{Open, Dereserved}
use Rattle.office_base.specs.CategorySteps.{all_steps, category_number, category_steps, own_steps}
use Rattle.office_base.specs.StepNumbers.{step_number}

-- the step of a number
abbrev kind_of : ℕ → StepKind
kind_of number = get_or all_steps number Open

of_number : (kind : StepKind) → kind_of (step_number kind) ≡ kind
of_number Open = refl
of_number kind = refl

-- different steps have different numbers
pub one_number : (kind other : StepKind) → step_number kind ≡ step_number other → kind ≡ other
one_number kind other same = sym (of_number kind) ∙ (ap kind_of same ∙ of_number other)

-- each is below their count
pub below_all : (kind : StepKind) → step_number kind < length all_steps
below_all Open = omega arith
below_all kind = omega arith

-- those with a smaller number than the last have seats of their own, and each is at the place of its number among them
pub own_at : (kind : StepKind) → step_number kind < length own_steps → slice_get own_steps (step_number kind) ≡ Some kind
own_at Dereserved below = absurd (omega (arith, below))
own_at kind below = refl

-- the steps have the numbers from this one on
abbrev pub numbered : ℕ → List StepKind → Bool
numbered number [] = true
numbered number (kind ∷ more) = eqb (step_number kind) number && numbered (suc number) more

-- in such a list, the number of a step is its place
numbered_at : (number : ℕ) (steps : List StepKind) (j : ℕ) (kind : StepKind) → numbered number steps ≡ true → slice_get steps j ≡ Some kind → step_number kind ≡ number + j
numbered_at number [] j kind all at = absurd (cc)
numbered_at number (first ∷ steps) zero kind all at =
    let one = eqb-true (step_number first) number (and_parts (eqb (step_number first) number) (numbered (suc number) steps) all).0 in
    let same : step_number first ≡ step_number kind = ap step_number (let it : first ≡ kind = cc in it) in
    omega arith
numbered_at number (first ∷ steps) (suc j) kind all at =
    let later = numbered_at (suc number) steps j kind (and_parts (eqb (step_number first) number) (numbered (suc number) steps) all).1 at in
    omega (arith, later)

-- the number of a step with seats of its own is its place among them
pub own_number_at : (j : ℕ) (kind : StepKind) → slice_get own_steps j ≡ Some kind → step_number kind ≡ j
own_number_at j kind at = let is = numbered_at 0 own_steps j kind refl at in omega (arith, is)

-- the steps in their order
abbrev pub kinds : List StepKind
kinds = all_steps

-- each step is at the place of its number
pub kind_at : (kind : StepKind) → slice_get kinds (step_number kind) ≡ Some kind
kind_at Open = refl
kind_at kind = refl

-- the number of a step is its place
pub number_at : (j : ℕ) (kind : StepKind) → slice_get kinds j ≡ Some kind → step_number kind ≡ j
number_at j kind at = let is = numbered_at 0 all_steps j kind refl at in omega (arith, is)

-- what passes a test that all of some steps pass
all_at : (test : StepKind → Bool) (steps : List StepKind) (j : ℕ) (kind : StepKind) → list_all test steps ≡ true → slice_get steps j ≡ Some kind → test kind ≡ true
all_at test [] j kind all at = absurd (cc)
all_at test (first ∷ steps) zero kind all at = let same : first ≡ kind = cc in subst (λ k. test k ≡ true) same (and_parts (test first) (list_all test steps) all).0
all_at test (first ∷ steps) (suc j) kind all at = all_at test steps j kind (and_parts (test first) (list_all test steps) all).1 at

-- a test that all steps pass is passed by each: so what computes for every step is proved once
pub each_step : (test : StepKind → Bool) → list_all test all_steps ≡ true → (kind : StepKind) → test kind ≡ true
each_step test all kind = all_at test all_steps (step_number kind) kind all (kind_at kind)

pub found_among : {A : Type 0} (test : A → Bool) (steps : List A) (kind : A) → find test steps ≡ Some kind → test kind ≡ true
found_among test [] kind found = absurd (cc)
found_among test (first ∷ steps) kind found = elim (cases_Bool (test first)) [
  | inl holds ↦
      let one : Some first ≡ Some kind = sym (cond-true (test first) (Some first) (find test steps) holds) ∙ found in
      let same : first ≡ kind = cc (one) in
      subst (λ k. test k ≡ true) same holds
  | inr fails ↦ found_among test steps kind (sym (cond-false (test first) (Some first) (find test steps) fails) ∙ found)
]

pub none_among : {A : Type 0} (test : A → Bool) (steps : List A) (j : ℕ) (kind : A) → find test steps ≡ None → slice_get steps j ≡ Some kind → test kind ≡ false
none_among test [] j kind none at = absurd (cc)
none_among test (first ∷ steps) zero kind none at = elim (cases_Bool (test first)) [
  | inl holds ↦ absurd (let one : Some first ≡ None = sym (cond-true (test first) (Some first) (find test steps) holds) ∙ none in cc (one))
  | inr fails ↦ let same : first ≡ kind = cc in subst (λ k. test k ≡ false) same fails
]
none_among test (first ∷ steps) (suc j) kind none at = elim (cases_Bool (test first)) [
  | inl holds ↦ absurd (let one : Some first ≡ None = sym (cond-true (test first) (Some first) (find test steps) holds) ∙ none in cc (one))
  | inr fails ↦ none_among test steps j kind (sym (cond-false (test first) (Some first) (find test steps) fails) ∙ none) at
]

-- the category of a number
abbrev category_of : ℕ → Category
category_of number = get_or (Gen ∷ map (λ row. row.category) category_steps) number Gen

of_category : (category : Category) → category_of (category_number category) ≡ category
of_category Gen = refl
of_category category = refl

-- different categories have different numbers
pub one_category : (category other : Category) → category_number category ≡ category_number other → category ≡ other
one_category category other same = sym (of_category category) ∙ (ap category_of same ∙ of_category other)
