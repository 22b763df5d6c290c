-- What a cut makes of the arrays.
use Rattle.std.proofs.Common.{◌≡◌, ◌≤◌, ◌+◌, ◌⊎◌, inl, inr, ℕ, zero, suc, Bool, true, false, List, [], ◌∷◌, ◌++◌, Option, Some, length, map, arith, refl, sym, ap, ◌∙◌, if◌then◌else◌}
use Rattle.std.specs.Prelude.{slice_get}
use Rattle.office_base.specs.declared.choice.Choice.{Choice}
use Rattle.office_base.specs.declared.seat.Seat.{Seat}
use Rattle.office_base.specs.declared.person.Person.{Person}
use Rattle.kept_rows.specs.declared.rows.AnswerRow.{AnswerRow}
use Rattle.round_options.specs.Options.{after_cut}
use Rattle.round_options.specs.declared.standing.Standing.{Standing}
use Rattle.round_options.specs.declared.standing.Standing.TheVariants.{Waiting, Offered, Freeze, Float, Slide, Withdrawn, NoShow}
use Rattle.answer_table.specs.Turns.{no_turns}
use Rattle.office_moves.specs.Facts.{SeasonFacts}
use Rattle.office_moves.specs.State.{State, answered, in_window, left_by, rows_of, standing_at, view_of}
use Rattle.office_moves.specs.Judge.{is_gone}
use Rattle.cut_arrays.specs.WindowEnd.{after_cuts, still_in}
use Rattle.proceedings.specs.Proceeding.{in_after, left_along, still_among, still_of, table_along}

-- no answers in a window of a state
abbrev pub HasNone : State → ℕ → Type 0
HasNone state window = (id : ℕ) → in_window window (rows_of id state.answers) ≡ []

-- a window without answers has a table of no turns
none_along : (state : State) (window : ℕ) (people : List Person) → HasNone state window
    → no_turns (length people) ≡ map (λ (p : Person). map (λ (row : AnswerRow). row.choice) (in_window window (rows_of p.id.0 state.answers))) people
none_along state window [] none = refl
none_along state window (p ∷ people) none =
    ap (λ (z : List Choice). z ∷ no_turns (length people)) (sym (ap (λ (rows : List AnswerRow). map (λ (row : AnswerRow). row.choice) rows) (none p.id.0)))
    ∙ ap (λ (z : List (List Choice)). map (λ (row : AnswerRow). row.choice) (in_window window (rows_of p.id.0 state.answers)) ∷ z) (none_along state window people none)

pub no_table : (facts : SeasonFacts) (state : State) (window : ℕ) → HasNone state window → no_turns (length facts.people) ≡ table_along facts state window
no_table facts state window none = none_along state window facts.people none

-- without answers everybody has the standing that the cut left
still_made : (facts : SeasonFacts) (state : State) (people : List Person) → HasNone state state.now
    → still_among facts state people ≡ still_in (map (λ (p : Person). left_by facts (view_of state p.id.0) p.id.0 state.now) people)
still_made facts state [] none = refl
still_made facts state (p ∷ people) none =
    ap (λ (n : ℕ). in_after n (standing_at facts (view_of state p.id.0) p.id.0 state.now)) (still_made facts state people none)
    ∙ ap (λ (rows : List AnswerRow). in_after (still_in (map (λ (p : Person). left_by facts (view_of state p.id.0) p.id.0 state.now) people)) (answered (left_by facts (view_of state p.id.0) p.id.0 state.now) rows)) (none p.id.0)

pub still_left : (facts : SeasonFacts) (state : State) → HasNone state state.now → still_of facts state ≡ still_in (left_along facts state)
still_left facts state none = still_made facts state facts.people none

still_stood : (facts : SeasonFacts) (state : State) (people : List Person) → still_among facts state people ≡ still_in (map (λ (p : Person). standing_at facts (view_of state p.id.0) p.id.0 state.now) people)
still_stood facts state [] = refl
still_stood facts state (p ∷ people) = ap (λ (n : ℕ). in_after n (standing_at facts (view_of state p.id.0) p.id.0 state.now)) (still_stood facts state people)

pub still_now : (facts : SeasonFacts) (state : State) → still_of facts state ≡ still_in (map (λ (p : Person). standing_at facts (view_of state p.id.0) p.id.0 state.now) facts.people)
still_now facts state = still_stood facts state facts.people

-- a cut takes nobody back
stays_gone : (standing : Standing) (seat : Option Seat) → is_gone standing ≡ true → is_gone (after_cut standing seat) ≡ true
stays_gone Waiting seat e = absurd (cc)
stays_gone Offered seat e = absurd (cc)
stays_gone Freeze seat e = absurd (cc)
stays_gone Float seat e = absurd (cc)
stays_gone Slide seat e = absurd (cc)
stays_gone Withdrawn seat e = refl
stays_gone NoShow seat e = refl

fewer : (before after : Bool) (m n : ℕ) → (before ≡ true → after ≡ true) → m ≤ n → (if after then m else m + 1) ≤ (if before then n else n + 1)
fewer true true m n stays less = less
fewer true false m n stays less = absurd (let e = stays refl in cc)
fewer false true m n stays less = omega (arith, less)
fewer false false m n stays less = omega (arith, less)

pub cut_takes : (all : List Standing) (seats : List (Option Seat)) → still_in (after_cuts all seats) ≤ still_in all
cut_takes [] seats = omega arith
cut_takes (standing ∷ all) [] = omega arith
cut_takes (standing ∷ all) (seat ∷ seats) =
    fewer (is_gone standing) (is_gone (after_cut standing seat)) (still_in (after_cuts all seats)) (still_in all) (stays_gone standing seat) (cut_takes all seats)

-- ---- tables

get_end : {X : Type 0} (xs : List X) (x y : X) (i : ℕ) → slice_get (xs ++ x ∷ []) i ≡ Some y → (slice_get xs i ≡ Some y) ⊎ ((i ≡ length xs) × (y ≡ x))
get_end [] x y zero here = inr (refl, cc)
get_end [] x y (suc i) here = absurd (cc)
get_end (z ∷ zs) x y zero here = inl here
get_end (z ∷ zs) x y (suc i) here = elim (get_end zs x y i here) [ inl h ↦ inl h | inr h ↦ inr (ap suc h.0, h.1) ]

-- the tables of the windows of a state
abbrev pub AreTables : SeasonFacts → State → List (List (List Choice)) → Type 0
AreTables facts state tables = (window : ℕ) (table : List (List Choice)) → slice_get tables window ≡ Some table → table ≡ table_along facts state window

-- with a table of no turns for the next window
pub tables_next : (facts : SeasonFacts) (old new : State) (tables : List (List (List Choice))) (table : List (List Choice)) → new.answers ≡ old.answers → AreTables facts old tables → HasNone old (length tables)
    → table ≡ no_turns (length facts.people) → AreTables facts new (tables ++ table ∷ [])
tables_next facts old new tables table same all none empty window t here = elim (get_end tables table t window here) [
  | inl h ↦ all window t h ∙ moved window
  | inr h ↦ h.1 ∙ (empty ∙ (no_table facts old (length tables) none ∙ (ap (λ (w : ℕ). table_along facts old w) (sym h.0) ∙ moved window)))
]
  where
    moved : (window : ℕ) → table_along facts old window ≡ table_along facts new window
    moved window = ap (λ (answers : List AnswerRow). map (λ (p : Person). map (λ (row : AnswerRow). row.choice) (in_window window (rows_of p.id.0 answers))) facts.people) (sym same)
