-- A binary search among the ids of final rows finds a candidate's, or the candidate has none.
use Rattle.std.proofs.Common.{◌≡◌, ◌<◌, ℕ, zero, suc, Bool, true, false, List, [], ◌∷◌, Option, Some, Result, Ok, Err, length, map, get_or, refl, sym, ap, subst, inl, inr, ◌∙◌, arith, ◌==◌, ◌||◌}
use Rattle.std.specs.Prelude.{is_ok}
use Rattle.std.specs.List.{AllByRecursion}
use Rattle.std.specs.List.Sorted.{IsBinarySearchResult}
use Rattle.std.specs.Ordering.{nat_cmp}
use Rattle.std.proofs.lemmas.Bool.{cases_order, eq-eqb, ne_eqb, or_right}
use Rattle.std.proofs.lemmas.List.Sorted.{searched}
use Rattle.office_base.specs.Lists.{Pairwise}
use Rattle.choice_lists.proofs.FoundLemmas.{never_falls}
use Rattle.kept_rows.specs.declared.rows.AllotRow.{AllotRow}
use Rattle.special_round.specs.Season.{has_final, is_admitted}

-- numbers rise
abbrev Rising : List ℕ → Type 0
Rising ids = Pairwise (λ a b. a < b) ids

abbrev ids_of : List AllotRow → List ℕ
ids_of rows = map (λ row. row.cand.0) rows

-- ---- the ids of rows

here_or : (first later : Bool) → first ≡ true → (first || later) ≡ true
here_or true later e = refl
here_or false later e = absurd (cc)

neither : (first later : Bool) → first ≡ false → later ≡ false → (first || later) ≡ false
neither true later e f = e
neither false later e f = f

final_at : (rows : List AllotRow) (q i : ℕ) → i < length (ids_of rows) → get_or (ids_of rows) i 0 ≡ q → has_final q rows ≡ true
final_at [] q i within e = absurd (omega arith)
final_at (row ∷ rows) q zero within e = here_or (row.cand.0 == q) (has_final q rows) (eq-eqb row.cand.0 q e)
final_at (row ∷ rows) q (suc i) within e = or_right (row.cand.0 == q) (has_final q rows) (final_at rows q i (omega arith) e)

final_nowhere : (rows : List AllotRow) (q : ℕ) → ((i : ℕ) → i < length (ids_of rows) → get_or (ids_of rows) i 0 ≡ q → ⊥) → has_final q rows ≡ false
final_nowhere [] q none = refl
final_nowhere (row ∷ rows) q none =
    neither (row.cand.0 == q) (has_final q rows) (ne_eqb row.cand.0 q (λ same. none 0 (omega arith) same)) (final_nowhere rows q (λ i within e. none (suc i) (omega arith) e))

-- the answer of a search says whether the candidate has a final row
pub search_says : (rows : List AllotRow) (q : ℕ) (r : Result ℕ ℕ) → Rising (ids_of rows) → IsBinarySearchResult (λ y. nat_cmp y q) (ids_of rows) r → is_ok r ≡ has_final q rows
search_says rows q (Ok at) rising result =
    let (within, same) = searched (ids_of rows) q (Ok at) result (never_falls (ids_of rows) rising) in
    sym (final_at rows q at within same)
search_says rows q (Err at) rising result =
    let (end, below, above) = searched (ids_of rows) q (Err at) result (never_falls (ids_of rows) rising) in
    sym (final_nowhere rows q (λ i within e. elim (cases_order i at) [
      | inl same ↦ (let more = above i (omega (arith, same)) within in omega arith)
      | inr other ↦ elim other [
        | inl less ↦ (let h = below i less in omega arith)
        | inr more ↦ (let h = above i (omega arith) within in omega arith)
      ]
    ]))

rise_of_all : (row : AllotRow) (rows : List AllotRow) → AllByRecursion (λ (later : AllotRow). row.cand.0 < later.cand.0) rows → AllByRecursion (λ b. row.cand.0 < b) (ids_of rows)
rise_of_all row [] all = tt
rise_of_all row (later ∷ rows) all = (all.0, rise_of_all row rows all.1)

-- rows of rising ids have rising ids
pub ids_rise : (rows : List AllotRow) → Pairwise (λ (a b : AllotRow). a.cand.0 < b.cand.0) rows → Pairwise (λ a b. a < b) (ids_of rows)
ids_rise [] rising = tt
ids_rise (row ∷ rows) rising = (rise_of_all row rows rising.0, ids_rise rows rising.1)

-- so it says of a number that is spelled
pub tells : (ids : List ℕ) (finals : List AllotRow) (q : ℕ) (r : Result ℕ ℕ) (number : Option ℕ) → ids ≡ ids_of finals → Rising ids → IsBinarySearchResult (λ y. nat_cmp y q) ids r → number ≡ Some q
    → is_ok r ≡ is_admitted number finals
tells ids finals q r number same rising result spelled =
    search_says finals q r (subst Rising same rising) (subst (λ (l : List ℕ). IsBinarySearchResult (λ y. nat_cmp y q) l r) same result) ∙ ap (λ n. is_admitted n finals) (sym spelled)
