-- What is kept, as acts in the order in which they are accepted again: window after window its raises, in the order of their table, then its answers in theirs, and then
-- its cut, where it is counted.
use Rattle.std.specs.Prelude.{◌+◌, ℕ, zero, suc, Bool, true, false, ◌==◌, nat_lt, List, [], ◌∷◌, ◌++◌, map, if◌then◌else◌}
use Rattle.kept_rows.specs.declared.rows.Kept.{Kept}
use Rattle.office_moves.specs.Stands.{raises_in}
use Rattle.office_moves.specs.State.{in_window}
use Rattle.office_moves.specs.declared.moves.Act.{Act}
use Rattle.office_moves.specs.declared.moves.Act.TheVariants.{Answer, Raise, Cut}
use Rattle.replays.specs.Replay.{window_of}

-- the acts of a window
abbrev pub acts_in : ℕ → List Act → List Act
acts_in window [] = []
acts_in window (act ∷ acts) = if window_of act == window then act ∷ acts_in window acts else acts_in window acts

-- the rows of a window: the raises first
abbrev pub row_acts : Kept → ℕ → List Act
row_acts kept window = map Raise (raises_in window kept.raises) ++ map Answer (in_window window kept.answers)

-- the cut of a window, where there is one
abbrev pub cut_acts : ℕ → Bool → List Act
cut_acts window true = Cut window ∷ []
cut_acts window false = []

-- all that is kept of a window
abbrev pub window_acts : Kept → ℕ → List Act
window_acts kept window = row_acts kept window ++ cut_acts window (nat_lt window kept.cuts)

-- all that is kept of the first windows, so many
abbrev pub acts_before : Kept → ℕ → List Act
acts_before kept zero = []
acts_before kept (suc window) = acts_before kept window ++ window_acts kept window

-- all that is kept: after the counted cuts there is one window more
abbrev pub kept_acts : Kept → List Act
kept_acts kept = acts_before kept (kept.cuts + 1)
