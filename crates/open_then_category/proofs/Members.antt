-- One member more, counted row by row.
use Rattle.std.proofs.Common.{◌≡◌, ◌<◌, ◌+◌, ℕ, Bool, List, ◌∷◌, ◌++◌, drop, length, get_or, set, take, sym, ap, ◌∙◌, subst, arith}
use Rattle.std.proofs.lemmas.List.{drop-set-lt, drop_more, take_more_set}
use Rattle.std.specs.List.{AllByRecursion}
use Rattle.office_base.specs.declared.category_steps.CategoryStep.{CategoryStep}
use Rattle.office_base.specs.declared.person.Category.{Category}
use Rattle.office_base.specs.declared.person.Person.{Person}
use Rattle.programme_lists.specs.Programme.{is_of}
use Rattle.open_then_category.specs.Tried.{one_if, with_member}
use Rattle.open_then_category.proofs.Handed.{regroup}

-- those after the next one stay
same_later : (counts : List ℕ) (i : ℕ) (one : ℕ) → i < length counts → drop (i + 1) (set counts i one) ≡ drop (i + 1) counts
same_later counts i one below = drop-set-lt (i + 1) counts i one (omega arith)

pub few_later : (counts : List ℕ) (i : ℕ) → i < length counts → (one : ℕ) → AllByRecursion (λ count. count < 4294967295) (drop i counts)
    → AllByRecursion (λ count. count < 4294967295) (drop (i + 1) (set counts i one))
few_later counts i below one few =
    subst (AllByRecursion (λ count. count < 4294967295)) (sym (same_later counts i one below)) (subst (AllByRecursion (λ count. count < 4294967295)) (drop_more counts i 0 below) few).1

module _ (person : Person) (rows : List CategoryStep) (counts : List ℕ) (i : ℕ) (first : CategoryStep) (in_rows : i < length rows) (in_counts : i < length counts) where
  pub whole_later : (category : Category) (is : Bool) (whole : List ℕ) (more : ℕ) → is ≡ is_of category person → category ≡ (get_or rows i first).category → more ≡ one_if is
      → take i counts ++ with_member person (drop i rows) (drop i counts) ≡ whole
      → take (i + 1) (set counts i (get_or counts i 0 + more)) ++ with_member person (drop (i + 1) rows) (drop (i + 1) (set counts i (get_or counts i 0 + more))) ≡ whole
  whole_later category is whole more tested same added now =
      let count = get_or counts i 0 + more in
      let later = with_member person (drop (i + 1) rows) (drop (i + 1) counts) in
      let counts_one : more ≡ one_if (is_of (get_or rows i first).category person) = added ∙ ap one_if (tested ∙ ap (λ (c : Category). is_of c person) same) in
      let next : with_member person (drop i rows) (drop i counts) ≡ count ∷ later =
      ap (λ (some : List CategoryStep). with_member person some (drop i counts)) (drop_more rows i first in_rows)
      ∙ ap (λ (some : List ℕ). with_member person (get_or rows i first ∷ drop (i + 1) rows) some) (drop_more counts i 0 in_counts)
      ∙ ap (λ (n : ℕ). (get_or counts i 0 + n) ∷ later) (sym counts_one) in
      ap (λ (some : List ℕ). take (i + 1) (set counts i count) ++ with_member person (drop (i + 1) rows) some) (same_later counts i count in_counts)
      ∙ ap (λ (front : List ℕ). front ++ later) (take_more_set counts i count in_counts)
      ∙ regroup (take i counts) count later
      ∙ ap (λ (some : List ℕ). take i counts ++ some) (sym next)
      ∙ now
