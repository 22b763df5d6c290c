-- Kept records are replayed: window after window, first the raises of the window in their order, then its answers in theirs, then its cut, where there is
-- one, and then the seats that it published are compared with the kept ones.
use Rattle.std.specs.Prelude.{◌≡◌, ◌<◌, ◌+◌, ◌⊎◌, ℕ, zero, suc, Bool, true, false, ◌==◌, ◌&&◌, nat_lt, List, [], ◌∷◌, Some, Result, Ok, Err, is_some, length, map, if◌then◌else◌}
use Rattle.kept_rows.specs.declared.rows.AnswerRow.{AnswerRow}
use Rattle.kept_rows.specs.declared.rows.Kept.{Kept}
use Rattle.kept_rows.specs.declared.rows.RaiseRow.{RaiseRow}
use Rattle.office_moves.specs.Decided.{decided}
use Rattle.office_moves.specs.Facts.{SeasonFacts}
use Rattle.office_moves.specs.History.{asked, newly}
use Rattle.office_moves.specs.Moves.{IsMove}
use Rattle.office_moves.specs.Stands.{first_allot, published_seat}
use Rattle.office_moves.specs.State.{State, opening, with_raise, with_row}
use Rattle.office_moves.specs.declared.moves.Act.{Act}
use Rattle.office_moves.specs.declared.moves.Act.TheVariants.{Answer, Raise, Cut}
use Rattle.office_moves.specs.declared.moves.Reply.{Reply}

-- ---- rows

-- an answer is newly accepted: it is neither refused nor a repeat
abbrev pub takes_answer : SeasonFacts → State → AnswerRow → Bool
takes_answer facts state row = is_some (newly state.now (decided facts state (asked facts (Answer row))))

-- a raise is newly accepted: its programme is in the matrix, and it is neither refused nor a repeat
abbrev pub takes_raise : SeasonFacts → State → RaiseRow → Bool
takes_raise facts state row = nat_lt row.prog.0 (length facts.matrix.programmes) && is_some (newly state.now (decided facts state (asked facts (Raise row))))

-- a kept row is newly accepted; a cut is no row
abbrev pub takes : SeasonFacts → State → Act → Bool
takes facts state (Answer row) = takes_answer facts state row
takes facts state (Raise row) = takes_raise facts state row
takes facts state (Cut window) = false

-- the state with a row more
abbrev pub with_act : State → Act → State
with_act state (Answer row) = with_row state row
with_act state (Raise row) = with_raise state row
with_act state (Cut window) = state

-- the window of a row
abbrev pub window_of : Act → ℕ
window_of (Answer row) = row.window
window_of (Raise row) = row.window
window_of (Cut window) = window

-- The rows of a window, one after another in the order of their table. The result is the state to which they lead.
-- If a row is not newly accepted when the replay reaches it, the result is the place of the first such row.
-- The first row of the list has the given place in the table.
abbrev pub rows_replayed : SeasonFacts → ℕ → ℕ → List Act → State → Result State ℕ
rows_replayed facts window place [] state = Ok state
rows_replayed facts window place (row ∷ rows) state =
    if window_of row == window
    then (if takes facts state row then rows_replayed facts window (place + 1) rows (with_act state row) else Err place)
    else rows_replayed facts window (place + 1) rows state

-- the same of the table of raises, and of the table of answers
abbrev pub raises_replayed : SeasonFacts → ℕ → List RaiseRow → State → Result State ℕ
raises_replayed facts window rows state = rows_replayed facts window 1 (map Raise rows) state

abbrev pub answers_replayed : SeasonFacts → ℕ → List AnswerRow → State → Result State ℕ
answers_replayed facts window rows state = rows_replayed facts window 1 (map Answer rows) state

-- all kept rows of a window are newly accepted at their places: the raises first, then the answers
pub record RowsPass (facts : SeasonFacts) (kept : Kept) (window : ℕ) (old new : State) : Type 0 where
  pub raised : State
  pub raises : raises_replayed facts window kept.raises old ≡ Ok raised
  pub answers : answers_replayed facts window kept.answers raised ≡ Ok new

-- ---- the cut of a window

-- the cut of the open window is accepted, and leads from one state to another
pub record CutPasses (facts : SeasonFacts) (old new : State) : Type 0 where
  pub accepted : newly old.now (decided facts old (asked facts (Cut old.now))) ≡ Some (Cut old.now)
  pub reply : Reply
  pub moves : IsMove facts old (asked facts (Cut old.now)) reply new

-- the kept seats of a round are those of the state
abbrev pub AreAllotsOf : SeasonFacts → State → Kept → ℕ → Type 0
AreAllotsOf facts state kept number = (id : ℕ) → first_allot number id kept.allots ≡ published_seat facts state number id

-- At the end of its rows a window that has a cut is closed by it, and the kept seats are those that the cut published; a window that has none stays as it is.
abbrev pub Closes : SeasonFacts → Kept → ℕ → Bool → State → State → Type 0
Closes facts kept window true old new = CutPasses facts old new × AreAllotsOf facts new kept (window + 1)
Closes facts kept window false old new = new ≡ old

-- a window passes without a fault
pub record WindowPasses (facts : SeasonFacts) (kept : Kept) (window : ℕ) (old new : State) : Type 0 where
  pub last : State
  pub rows : RowsPass facts kept window old last
  pub close : Closes facts kept window (nat_lt window kept.cuts) last new

-- the first windows, so many, pass without a fault, and lead to a state
abbrev pub Pass : SeasonFacts → Kept → ℕ → State → Type 0
Pass facts kept zero state = state ≡ opening
Pass facts kept (suc window) state = (old : State) × Pass facts kept window old × WindowPasses facts kept window old state

-- all windows pass without a fault, also those after the last cut
abbrev pub AllPass : SeasonFacts → Kept → State → Type 0
AllPass facts kept state = (windows : ℕ) → kept.cuts < windows → Pass facts kept windows state

-- no counted cut publishes a round of this number
abbrev pub IsUncounted : Kept → ℕ → Type 0
IsUncounted kept number = (number ≡ 0) ⊎ (kept.cuts < number)

-- The records are replayed to this state without a fault.
pub record IsReplayed (facts : SeasonFacts) (kept : Kept) (state : State) : Type 0 where
  pub passed : AllPass facts kept state
  -- there are no kept seats of rounds that no counted cut publishes
  pub uncounted : (number : ℕ) → IsUncounted kept number → AreAllotsOf facts state kept number
