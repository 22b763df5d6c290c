-- The rows of the table of steps, one after another.
use Rattle.std.proofs.Common.{◌≡◌, ◌<◌, ◌+◌, ℕ, zero, suc, Some, List, [], ◌∷◌, length, get_or, arith, refl, sym, ap, subst, inl, inr}
use Rattle.std.specs.Prelude.{map, slice_get, sum, if◌then◌else◌}
use Rattle.std.proofs.lemmas.List.Sums.{sum_by-cons}
use Rattle.office_base.specs.CategorySteps.{category_steps, gives_up}
use Rattle.office_base.specs.Lists.{IsAmong}
use Rattle.office_base.specs.StepNumbers.{step_number}
use Rattle.office_base.specs.declared.category_steps.CategoryStep.{CategoryStep}
use Rattle.office_base.specs.declared.step.StepKind.{StepKind}
use Rattle.office_base.proofs.StepNumbers.{own_number_at}
use Rattle.programme_lists.proofs.Table.{IsRow}

map_get : {X Y : Type 0} (f : X → Y) (xs : List X) (n : ℕ) (x : X) → slice_get xs n ≡ Some x → slice_get (map f xs) n ≡ Some (f x)
map_get f [] n x at = absurd (cc)
map_get f (y ∷ xs) zero x at = let same : y ≡ x = cc in ap (λ z. Some (f z)) same
map_get f (y ∷ xs) (suc n) x at = map_get f xs n x at

-- the number of the step of a row is one more than its place
pub row_number : (index : ℕ) (row : CategoryStep) → slice_get category_steps index ≡ Some row → step_number row.step ≡ suc index
row_number index row at = own_number_at (suc index) row.step (map_get (λ (one : CategoryStep). one.step) category_steps index row at)

at_below : {X : Type 0} (xs : List X) (n : ℕ) (x : X) → slice_get xs n ≡ Some x → n < length xs
at_below [] n x at = absurd (cc)
at_below (y ∷ xs) zero x at = omega arith
at_below (y ∷ xs) (suc n) x at = let rest = at_below xs n x at in omega (arith, rest)

among_at : {X : Type 0} (xs : List X) (x : X) → IsAmong x xs → (n : ℕ) × (slice_get xs n ≡ Some x)
among_at [] x there = absurd there
among_at (y ∷ xs) x there = elim there [
  | inl here ↦ (0, ap (λ z. Some z) (sym here))
  | inr later ↦ let found = among_at xs x later in (suc found.0, found.1)
]

pub row_below : (row : CategoryStep) → IsRow row → step_number row.step < length category_steps + 1
row_below row here =
    let found = among_at category_steps row here in
    let few = at_below category_steps found.0 row found.1 in
    let is = row_number found.0 row found.1 in
    omega (arith, few, is)

-- the row at a place of the table
pub row_at : (items : List CategoryStep) (index : ℕ) (d : CategoryStep) → items ≡ category_steps → index < length items → slice_get category_steps index ≡ Some (get_or items index d)
row_at items index d same less = subst (λ (rows : List CategoryStep). slice_get rows index ≡ Some (get_or items index d)) same (got items index less)
  where
    got : (rows : List CategoryStep) (n : ℕ) → n < length rows → slice_get rows n ≡ Some (get_or rows n d)
    got [] n less = absurd (omega (arith, less))
    got (row ∷ rows) zero less = refl
    got (row ∷ rows) (suc n) less = got rows n (omega (arith, less))

-- ---- sums

-- what a row adds to a sum over those that give their empty seats away
abbrev pub given : ℕ → (StepKind → ℕ) → CategoryStep → ℕ
given version number row = if gives_up row version then number row.step else 0

-- the sum over some rows
abbrev pub given_by : ℕ → (StepKind → ℕ) → List CategoryStep → ℕ
given_by version number rows = sum (map (given version number) rows)

pub given_first : (version : ℕ) (number : StepKind → ℕ) (row : CategoryStep) (rows : List CategoryStep)
    → given_by version number (row ∷ rows) ≡ given version number row + given_by version number rows
given_first version number row rows = sum_by-cons (λ (n : ℕ). n) (given version number row) (map (given version number) rows)
