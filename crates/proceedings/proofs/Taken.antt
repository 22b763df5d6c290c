-- The turns of a candidate in a window, as rows and as choices.
use Rattle.std.proofs.Common.{◌≡◌, ◌≤◌, ◌+◌, ◌-◌, ℕ, zero, suc, Bool, true, false, List, [], ◌∷◌, Option, Some, None, length, map, arith, refl, sym, ap, ◌∙◌, ◌==◌, if◌then◌else◌, subst}
use Rattle.std.specs.Prelude.{slice_get, ◌&&◌}
use Rattle.std.proofs.lemmas.Bool.{eq-eqb, ne_eqb}
use Rattle.std.proofs.lemmas.List.{length-map}
use Rattle.std.proofs.lemmas.Option.{slice_get-get_or}
use Rattle.office_base.specs.declared.choice.Choice.{Choice}
use Rattle.kept_rows.specs.declared.rows.AnswerRow.{AnswerRow}
use Rattle.round_options.specs.Options.{standing_of}
use Rattle.round_options.specs.declared.standing.Standing.{Standing}
use Rattle.office_moves.specs.State.{accepted, answered, in_window, last_turn}
use Rattle.answer_table.specs.Turns.{choice_at, last_choice}
use Rattle.history_laws.specs.Orderly.{AreTurnsAfter}
use Rattle.history_laws.proofs.Turns.{greater_next, turns_count}
use Rattle.proceedings.proofs.Lasts.{last_of_rest}

-- the choices of rows
abbrev pub choices : List AnswerRow → List Choice
choices rows = map (λ row. row.choice) rows

-- ---- what was accepted at a turn

none_when : (b : Bool) (turn k : ℕ) (row : AnswerRow) (inside : List AnswerRow) (rest : Option Choice) → AreTurnsAfter k (if b then row ∷ inside else inside)
    → ((j : ℕ) → turn ≤ j → AreTurnsAfter j inside → rest ≡ None) → turn ≤ k → (if b && row.turn == turn then Some row.choice else rest) ≡ None
none_when true turn k row inside rest turns later below = rw (ne_eqb row.turn turn (λ e. absurd (omega (arith, turns.0)))) (later (k + 1) (omega arith) turns.1)
none_when false turn k row inside rest turns later below = later k below turns

none_before : (window turn k : ℕ) (rows : List AnswerRow) → AreTurnsAfter k (in_window window rows) → turn ≤ k → accepted window turn rows ≡ None
none_before window turn k [] turns below = refl
none_before window turn k (row ∷ rows) turns below =
    none_when (row.window == window) turn k row (in_window window rows) (accepted window turn rows) turns (λ j less after. none_before window turn j rows after less) below

here_when : (b : Bool) (n k turn : ℕ) (row : AnswerRow) (inside : List AnswerRow) (rest : Option Choice) → AreTurnsAfter k (if b then row ∷ inside else inside) → turn ≡ k + n + 1
    → ((m j : ℕ) → AreTurnsAfter j inside → turn ≡ j + m + 1 → rest ≡ slice_get (choices inside) m)
    → (if b && row.turn == turn then Some row.choice else rest) ≡ slice_get (choices (if b then row ∷ inside else inside)) n
here_when true zero k turn row inside rest turns e later = rw (eq-eqb row.turn turn (omega (arith, turns.0))) refl
here_when true (suc n) k turn row inside rest turns e later = rw (ne_eqb row.turn turn (λ same. absurd (omega (arith, turns.0)))) (later n (k + 1) turns.1 (omega arith))
here_when false n k turn row inside rest turns e later = later n k turns e

accepted_after : (window n k turn : ℕ) (rows : List AnswerRow) → AreTurnsAfter k (in_window window rows) → turn ≡ k + n + 1 → accepted window turn rows ≡ slice_get (choices (in_window window rows)) n
accepted_after window n k turn [] turns e = refl
accepted_after window n k turn (row ∷ rows) turns e =
    here_when (row.window == window) n k turn row (in_window window rows) (accepted window turn rows) turns e (λ m j after same. accepted_after window m j turn rows after same)

-- turns count from 1, so what was accepted at a turn is the choice at that place
pub accepted_is : (window turn : ℕ) (rows : List AnswerRow) → AreTurnsAfter 0 (in_window window rows) → accepted window turn rows ≡ choice_at (choices (in_window window rows)) turn
accepted_is window zero rows turns = none_before window 0 0 rows turns (omega arith)
accepted_is window (suc n) rows turns = accepted_after window n 0 (suc n) rows turns (omega arith)

-- ---- the last turn

pub last_turn_is : (rows : List AnswerRow) → AreTurnsAfter 0 rows → last_turn rows ≡ length (choices rows)
last_turn_is rows turns = sym (greater_next 0 (last_turn rows) (omega arith)) ∙ (turns_count 0 rows turns ∙ omega (arith, length-map rows (λ (row : AnswerRow). row.choice)))

-- ---- the standing after them

-- the standing of a candidate after the last of some choices, or unchanged if there is none
abbrev pub after_last : Standing → Option Choice → Standing
after_last left None = left
after_last left (Some choice) = standing_of choice

answered_last : (left : Standing) (rows : List AnswerRow) (choice : Choice) → last_choice (choices rows) ≡ Some choice → answered left rows ≡ standing_of choice
answered_last left [] choice e = absurd (cc)
answered_last left (row ∷ []) choice e = let same : row.choice ≡ choice = cc in ap standing_of same
answered_last left (row ∷ next ∷ rows) choice e = answered_last (standing_of row.choice) (next ∷ rows) choice (last_of_rest row.choice next.choice (choices rows) choice e)

answered_none : (left : Standing) (rows : List AnswerRow) → last_choice (choices rows) ≡ None → answered left rows ≡ left
answered_none left [] e = refl
answered_none left (row ∷ rows) e =
    let there = slice_get-get_or (choices (row ∷ rows)) (length (choices (row ∷ rows)) - 1) row.choice (omega arith) in
    absurd (cc)

pub answered_is : (left : Standing) (rows : List AnswerRow) (last : Option Choice) → last_choice (choices rows) ≡ last → answered left rows ≡ after_last left last
answered_is left rows None e = answered_none left rows e
answered_is left rows (Some choice) e = answered_last left rows choice e

-- ---- where nothing was answered

pub accepted_none : (window turn : ℕ) (rows : List AnswerRow) → in_window window rows ≡ [] → accepted window turn rows ≡ None
accepted_none window turn rows none =
    accepted_is window turn rows (let P : List AnswerRow → Type 0 = λ inside. AreTurnsAfter 0 inside in subst P (sym none) tt)
    ∙ (ap (λ (inside : List AnswerRow). choice_at (choices inside) turn) none ∙ no_choice turn)
  where
    no_choice : (turn : ℕ) → choice_at [] turn ≡ None
    no_choice zero = refl
    no_choice (suc n) = refl

pub last_turn_none : (rows : List AnswerRow) → rows ≡ [] → last_turn rows ≡ 0
last_turn_none rows none = ap last_turn none
