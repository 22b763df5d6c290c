-- Which cuts of a script are accepted, and which texts they publish.
use Rattle.std.specs.Prelude.{◌<◌, ◌+◌, ◌^◌, ℕ, zero, suc, Bool, false, ◌==◌, ◌&&◌, nat_le, List, [], ◌∷◌, ◌++◌, length, if◌then◌else◌}
use Rattle.office_asks.specs.declared.ask.Ask.{Ask}
use Rattle.office_asks.specs.declared.ask.Ask.TheVariants.{Cut}
use Rattle.office_asks.specs.declared.ask.By.{By}
use Rattle.office_asks.specs.declared.ask.By.TheVariants.{Clerk}
use Rattle.office_asks.specs.declared.ask.Request.{Request}
use Rattle.seat_matrix.specs.Matrix.{SeatTable}
use Rattle.dossier_file.specs.declared.due.Due.{Due}
use Rattle.dossier_file.specs.declared.due.Due.TheVariants.{Round as RoundDue, List as ListDue, Final as FinalDue}

-- the ask is the cut of this window
abbrev pub is_cut : ℕ → Ask → Bool
is_cut now (Cut window) = window == now
is_cut now _ = false

-- the clerk cuts this window
abbrev pub is_cut_by : ℕ → By → Ask → Bool
is_cut_by now Clerk ask = is_cut now ask
is_cut_by now _ ask = false

-- How many cuts of a script are accepted, where the windows before this one were cut: the clerk cuts the open window, and the
-- window after the last round is the last.
abbrev pub cuts_accepted : ℕ → ℕ → List Request → ℕ
cuts_accepted rounds now [] = 0
cuts_accepted rounds now (request ∷ script) = if is_cut_by now request.by request.ask && nat_le now rounds then suc (cuts_accepted rounds (suc now) script) else cuts_accepted rounds now script

-- the lists of a round, of so many programmes
abbrev pub lists_due : ℕ → ℕ → List Due
lists_due number zero = []
lists_due number (suc programmes) = lists_due number programmes ++ ListDue number (record { 0 = programmes }) ∷ []

-- what the cut of a window publishes: the next round and the lists of its programmes, or the final admissions
abbrev pub published_by : ℕ → ℕ → ℕ → List Due
published_by rounds programmes window = if window == rounds then FinalDue ∷ [] else RoundDue (window + 1) ∷ lists_due (window + 1) programmes

-- the texts that so many accepted cuts publish, in their order
abbrev pub due : ℕ → ℕ → ℕ → List Due
due rounds programmes zero = []
due rounds programmes (suc cuts) = due rounds programmes cuts ++ published_by rounds programmes cuts

-- a text that can be due: its round has 16 bits, and its programme is one of the matrix
abbrev pub IsDueOf : SeatTable → Due → Type 0
IsDueOf table (RoundDue number) = number < 2 ^ 16
IsDueOf table (ListDue number prog) = (number < 2 ^ 16) × (prog.0 < length table.programmes)
IsDueOf table FinalDue = Unit {0}
