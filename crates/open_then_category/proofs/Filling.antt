-- The lists of the categories' steps, made in the order of the rows.
use Rattle.std.proofs.Common.{◌≡◌, ◌<◌, ◌+◌, ℕ, suc, List, [], ◌∷◌, ◌++◌, get_or, length, take, refl, sym, ap, subst}
use Rattle.std.proofs.lemmas.List.{take_more}
use Rattle.office_base.specs.declared.category_steps.CategoryStep.{CategoryStep}
use Rattle.programme_lists.specs.declared.programme.StepList.{StepList}
use Rattle.open_then_category.specs.State.{ProgrammeKept}
use Rattle.open_then_category.specs.Tried.{ShowCategories, ShowsCategory}

-- the lists with one more
shows_push : (state : ProgrammeKept) (rows : List CategoryStep) (counts : List ℕ) (lists : List StepList) (row : CategoryStep) (came : ℕ) (list : StepList)
    → ShowCategories state rows counts lists → ShowsCategory state row came list → ShowCategories state (rows ++ row ∷ []) (counts ++ came ∷ []) (lists ++ list ∷ [])
shows_push state [] [] [] row came list shows one = (one, tt)
shows_push state (other ∷ rows) (count ∷ counts) (some ∷ lists) row came list shows one = (shows.0, shows_push state rows counts lists row came list shows.1 one)
shows_push state _ _ _ row came list shows one = absurd shows

-- the lists of the first rows, with that of the next one
pub shows_next : (state : ProgrammeKept) (rows : List CategoryStep) (counts : List ℕ) (lists : List StepList) (i : ℕ) (row : CategoryStep) (came : ℕ) (list : StepList)
    → i < length rows → i < length counts → ShowCategories state (take i rows) (take i counts) lists → ShowsCategory state (get_or rows i row) (get_or counts i came) list
    → ShowCategories state (take (i + 1) rows) (take (i + 1) counts) (lists ++ list ∷ [])
shows_next state rows counts lists i row came list in_rows in_counts shows one =
    subst (λ (some : List CategoryStep). ShowCategories state some (take (i + 1) counts) (lists ++ list ∷ [])) (sym (take_more rows i row in_rows))
    (subst (λ (some : List ℕ). ShowCategories state (take i rows ++ get_or rows i row ∷ []) some (lists ++ list ∷ [])) (sym (take_more counts i came in_counts))
    (shows_push state (take i rows) (take i counts) lists (get_or rows i row) (get_or counts i came) list shows one))

-- they are as many as the rows
pub shows_length : (state : ProgrammeKept) (rows : List CategoryStep) (counts : List ℕ) (lists : List StepList) → ShowCategories state rows counts lists → length lists ≡ length rows
shows_length state [] [] [] shows = refl
shows_length state (row ∷ rows) (count ∷ counts) (list ∷ lists) shows = ap suc (shows_length state rows counts lists shows.1)
shows_length state _ _ _ shows = absurd shows
