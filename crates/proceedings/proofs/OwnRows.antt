-- The rows of a candidate in a window, from the choices of their turns.
use Rattle.std.proofs.Common.{◌≡◌, ◌<◌, ◌≤◌, ◌+◌, ℕ, zero, suc, Bool, true, false, List, [], ◌∷◌, ◌++◌, Some, None, length, map, take, arith, refl, sym, ap, ◌∙◌, subst, add-one, append_assoc, ◌==◌, if◌then◌else◌}
use Rattle.std.specs.Prelude.{option_map, slice_get}
use Rattle.std.specs.List.{AllByRecursion}
use Rattle.std.proofs.lemmas.Bool.{eqb-true}
use Rattle.std.proofs.lemmas.List.{take_all}
use Rattle.std.proofs.lemmas.Option.{same_Some, slice_get-map}
use Rattle.office_base.proofs.Lists.{there_is}
use Rattle.office_base.specs.declared.choice.Choice.{Choice}
use Rattle.office_base.specs.declared.person.CandId.{CandId}
use Rattle.office_base.specs.declared.person.Person.{Person}
use Rattle.kept_rows.specs.declared.rows.AnswerRow.{AnswerRow}
use Rattle.rank_lists.specs.Register.{row_of}
use Rattle.office_moves.specs.Facts.{SeasonFacts}
use Rattle.office_moves.specs.State.{State, in_window, rows_of}
use Rattle.answer_table.specs.Turns.{choice_at}
use Rattle.history_laws.specs.Orderly.{AreTurnsAfter}
use Rattle.proceedings.specs.Proceeding.{choices_in, rows_after, table_along}
use Rattle.proceedings.proofs.Positions.{stands}

-- one turn more
pub rows_more : (window : ℕ) (cand : CandId) (t n turn : ℕ) (choices : List Choice) (choice : Choice) → slice_get choices n ≡ Some choice → turn ≡ t + n + 1
    → rows_after window cand t (take (suc n) choices) ≡ rows_after window cand t (take n choices) ++ record { window = window; cand = cand; turn = turn; choice = choice } ∷ []
rows_more window cand t n turn [] choice there same = absurd (cc)
rows_more window cand t zero turn (first ∷ choices) choice there same =
    let number : t + 1 ≡ turn = omega (arith, same) in
    let what : first ≡ choice = same_Some first choice there in
    λ i. record { window = window; cand = cand; turn = number i; choice = what i } ∷ []
rows_more window cand t (suc n) turn (first ∷ choices) choice there same =
    ap (λ (rows : List AnswerRow). record { window = window; cand = cand; turn = t + 1; choice = first } ∷ rows) (rows_more window cand (t + 1) n turn choices choice there (omega (arith, same)))

-- what a table has at the position of a candidate
at_place : {X : Type 0} (f : List Choice → X) (table : List (List Choice)) (at : ℕ) (choices : List Choice) (x : X) → slice_get table at ≡ Some choices
    → option_map f (slice_get table at) ≡ Some x → f choices ≡ x
at_place f table at choices x there told = same_Some (f choices) x (ap (option_map f) (sym there) ∙ told)

pub turn_pushed : (window : ℕ) (cand : CandId) (table : List (List Choice)) (at before : ℕ) (choice : Choice) (old rows new : List AnswerRow) (choices : List Choice) → slice_get table at ≡ Some choices
    → option_map (λ (own : List Choice). choice_at own (before + 1)) (slice_get table at) ≡ Some (Some choice) → rows ≡ old ++ rows_after window cand 0 (take before choices)
    → new ≡ rows ++ record { window = window; cand = cand; turn = before + 1; choice = choice } ∷ [] → new ≡ old ++ rows_after window cand 0 (take (before + 1) choices)
turn_pushed window cand table at before choice old rows new choices there told so_far pushed =
    let row : AnswerRow = record { window = window; cand = cand; turn = before + 1; choice = choice } in
    let turn = at_place (λ (own : List Choice). choice_at own (before + 1)) table at choices (Some choice) there told in
    let found : slice_get choices before ≡ Some choice = subst (λ (n : ℕ). choice_at choices n ≡ Some choice) (add-one before) turn in
    let more = rows_more window cand 0 before (before + 1) choices choice found (omega arith) in
    let all : new ≡ old ++ rows_after window cand 0 (take (suc before) choices) =
    pushed ∙ (ap (λ (z : List AnswerRow). z ++ row ∷ []) so_far ∙ (append_assoc old (rows_after window cand 0 (take before choices)) (row ∷ []) ∙ ap (λ (z : List AnswerRow). old ++ z) (sym more))) in
    subst (λ (n : ℕ). new ≡ old ++ rows_after window cand 0 (take n choices)) (sym (add-one before)) all

-- a turn that was taken has a choice
pub turn_taken : (table : List (List Choice)) (at before taken : ℕ) (choices : List Choice) → slice_get table at ≡ Some choices → option_map (λ (own : List Choice). length own) (slice_get table at) ≡ Some taken
    → before < taken → option_map (λ (own : List Choice). choice_at own (before + 1)) (slice_get table at) ≡ Some None → ⊥
turn_taken table at before taken choices there count less told =
    let many = at_place (λ (own : List Choice). length own) table at choices taken there count in
    let turn = at_place (λ (own : List Choice). choice_at own (before + 1)) table at choices None there told in
    let none : slice_get choices before ≡ None = subst (λ (n : ℕ). choice_at choices n ≡ None) (add-one before) turn in
    let some = there_is choices before (omega (arith, less, many)) in
    let both = some.1 in
    cc

-- all turns
pub turns_all : (window : ℕ) (cand : CandId) (table : List (List Choice)) (at before taken : ℕ) (old rows : List AnswerRow) (choices : List Choice) → slice_get table at ≡ Some choices
    → option_map (λ (own : List Choice). length own) (slice_get table at) ≡ Some taken → taken ≤ before → rows ≡ old ++ rows_after window cand 0 (take before choices)
    → rows ≡ old ++ rows_after window cand 0 choices
turns_all window cand table at before taken old rows choices there count over so_far =
    let many = at_place (λ (own : List Choice). length own) table at choices taken there count in
    so_far ∙ ap (λ (own : List Choice). old ++ rows_after window cand 0 own) (take_all before choices (omega (arith, over, many)))

-- ---- the rows of a window are the candidate's own

abbrev IsOwn : ℕ → ℕ → AnswerRow → Type 0
IsOwn window id row = (row.window ≡ window) × (row.cand.0 ≡ id)

own_window : (window id : ℕ) (row : AnswerRow) (rows : List AnswerRow) (b : Bool) → row.cand.0 ≡ id → (row.window == window) ≡ b → AllByRecursion (IsOwn window id) rows
    → AllByRecursion (IsOwn window id) (if b then row ∷ rows else rows)
own_window window id row rows true mine e all = ((eqb-true row.window window e, mine), all)
own_window window id row rows false mine e all = all

own_candidate : (window id : ℕ) (row : AnswerRow) (rows : List AnswerRow) (b : Bool) → (row.cand.0 == id) ≡ b → AllByRecursion (IsOwn window id) (in_window window rows)
    → AllByRecursion (IsOwn window id) (in_window window (if b then row ∷ rows else rows))
own_candidate window id row rows true e all = own_window window id row (in_window window rows) (row.window == window) (eqb-true row.cand.0 id e) refl all
own_candidate window id row rows false e all = all

all_own : (window id : ℕ) (answers : List AnswerRow) → AllByRecursion (IsOwn window id) (in_window window (rows_of id answers))
all_own window id [] = tt
all_own window id (row ∷ answers) = own_candidate window id row (rows_of id answers) (row.cand.0 == id) refl (all_own window id answers)

-- rows whose turns count up are those of their choices
rows_again : (window : ℕ) (cand : CandId) (t : ℕ) (rows : List AnswerRow) → AllByRecursion (IsOwn window cand.0) rows → AreTurnsAfter t rows
    → rows_after window cand t (map (λ row. row.choice) rows) ≡ rows
rows_again window cand t [] own turns = refl
rows_again window cand t (row ∷ rows) own turns =
    let when = sym own.0.0 in
    let who = sym own.0.1 in
    let number = sym turns.0 in
    let first : record { window = window; cand = cand; turn = t + 1; choice = row.choice } ≡ row = λ i. record { window = when i; cand = record { 0 = who i }; turn = number i; choice = row.choice } in
    ap (λ (r : AnswerRow). r ∷ rows_after window cand (t + 1) (map (λ (row : AnswerRow). row.choice) rows)) first ∙ ap (λ (rs : List AnswerRow). row ∷ rs) (rows_again window cand (t + 1) rows own.1 turns.1)

pub rows_are : (state : State) (window : ℕ) (cand : CandId) → AreTurnsAfter 0 (in_window window (rows_of cand.0 state.answers))
    → rows_after window cand 0 (choices_in state window cand.0) ≡ in_window window (rows_of cand.0 state.answers)
rows_are state window cand turns = rows_again window cand 0 (in_window window (rows_of cand.0 state.answers)) (all_own window cand.0 state.answers) turns

-- the choices of a candidate in the table of a window
pub choices_at : (facts : SeasonFacts) (state : State) (window : ℕ) (cand : CandId) (at : ℕ) (table : List (List Choice)) → table ≡ table_along facts state window
    → row_of cand.0 facts.people ≡ Some at → slice_get table at ≡ Some (choices_in state window cand.0)
choices_at facts state window cand at table same place =
    let found = stands cand.0 facts.people at place in
    ap (λ (t : List (List Choice)). slice_get t at) same
    ∙ (slice_get-map (λ (person : Person). choices_in state window person.id.0) facts.people at
    ∙ (ap (λ o. option_map (λ (person : Person). choices_in state window person.id.0) o) found.there ∙ ap (λ (id : ℕ). Some (choices_in state window id)) found.mine))
