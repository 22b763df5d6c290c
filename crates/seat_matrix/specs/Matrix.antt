-- The grammar of the matrix: what a row gives after the entries of the rows before it, or what is wrong with it.
use Rattle.std.specs.Prelude.{◌≡◌, ◌≢◌, ◌≤◌, ◌<◌, ◌+◌, ℕ, not, ◌==◌, ◌&&◌, nat_le, nat_lt, sum, List, [], ◌∷◌, ◌++◌, is_some, Option, Some, None, Result, Ok, length, map, slice_get, slice_index_or, slice_set, option_map, position, bytes_eq, codes, if◌then◌else◌}
use Rattle.std.specs.BTreeMap.{is_at}
use Rattle.std.specs.Cmp.Lexicographic.{slice_cmp}
use Rattle.std.specs.List.{list_any}
use Rattle.std.specs.List.Sorted.{IsStrictlySortedBy}
use Rattle.std.specs.Map.{keys_of, lookup}
use Rattle.std.specs.Option.{unwrap_or}
use Rattle.std.specs.Ordering.{nat_cmp}
use Rattle.office_base.specs.CategorySteps.{own_steps}
use Rattle.office_base.specs.Limits.{most_matrix_seats, most_programmes}
use Rattle.office_base.specs.Lists.{Pairwise}
use Rattle.office_base.specs.Person.{IsList}
use Rattle.office_base.specs.declared.person.ListId.{ListId}
use Rattle.office_base.specs.declared.person.ProgId.{ProgId}
use Rattle.office_base.specs.declared.step.StepKind.{StepKind}
use Rattle.office_text.specs.Names.{code_of, step_of}
use Rattle.office_text.specs.Number.{number_within}
use Rattle.section_rows.specs.Rows.{Row, field}
use Rattle.section_rows.specs.Steps.{after, first_of, needs, unless}
use Rattle.section_rows.specs.Table.{Given, IsTableFault, Reading, table_of}
use Rattle.section_rows.specs.declared.fault.TableFault.{TableFault}
use Rattle.office_base.specs.StepNumbers.{step_number}
use Rattle.seat_matrix.specs.Fields.{seating_of}
use Rattle.seat_matrix.specs.declared.entry.Entry.{Entry}
use Rattle.seat_matrix.specs.declared.entry.Home.{Home}
use Rattle.seat_matrix.specs.declared.fault.MatrixKind.{MatrixKind}
use Rattle.seat_matrix.specs.declared.seats.ProgrammeSeats.{ProgrammeSeats}
use Rattle.seat_matrix.specs.declared.seats.Seating.{Seating}
use Rattle.seat_matrix.specs.declared.seats.Seatings.{Seatings}
use Rattle.seat_matrix.specs.Seats.{AreProgrammeSeats, IsSeated, no_seating, no_seatings, of_step, with_seating}
use Rattle.seat_matrix.specs.declared.fault.MatrixKind.TheVariants.{BadHeader, BadCode, RepeatedRow, BadNumber, ProtectionsExceedSeats, UnknownList, TwoInstitutes, TwoLists, TooMany}

-- the fields of the header
abbrev pub header : Row
header = codes "programme" ∷ codes "institute" ∷ codes "list" ∷ codes "step" ∷ codes "seats" ∷ codes "W" ∷ codes "D" ∷ codes "X" ∷ codes "S" ∷ codes "F" ∷ codes "L" ∷ []

-- the seats of a programme in the step of this number
abbrev pub seating_at : List ℕ → ℕ → List Entry → Option Seating
seating_at code step entries = first_of (λ entry. bytes_eq code entry.programme && step == step_number entry.step) (λ entry. entry.seating) entries

-- the institute of a programme, and its list
abbrev pub home_at : List ℕ → List Entry → Option Home
home_at code entries = first_of (λ entry. bytes_eq code entry.programme) (λ entry. entry.home) entries

-- the codes with one more, unless it is among them
abbrev pub with_code : List (List ℕ) → List ℕ → List (List ℕ)
with_code codes code = if list_any (bytes_eq code) codes then codes else codes ++ code ∷ []

-- the programmes, in the order in which they first appear
abbrev pub codes_after : List (List ℕ) → List Entry → List (List ℕ)
codes_after codes [] = codes
codes_after codes (entry ∷ entries) = codes_after (with_code codes entry.programme) entries

abbrev pub codes_of : List Entry → List (List ℕ)
codes_of entries = codes_after [] entries

-- the seats of all rows
abbrev pub seats_after : ℕ → List Entry → ℕ
seats_after seats [] = seats
seats_after seats (entry ∷ entries) = seats_after (seats + entry.seating.seats) entries

abbrev pub all_seats : List Entry → ℕ
all_seats entries = seats_after 0 entries

-- a programme may be a new one, or it has the same institute and the same list as before
abbrev pub settles : Option Home → ℕ → Home → Result Home MatrixKind
settles None count home = unless (nat_le most_programmes count) TooMany (Ok home)
settles (Some known) count home = unless (not (bytes_eq known.institute home.institute)) TwoInstitutes (unless (not (known.list.0 == home.list.0)) TwoLists (Ok home))

-- a programme and a step that no earlier row has
abbrev pub new_row : List Entry → Row → Result (List ℕ × List ℕ × StepKind) MatrixKind
new_row entries row =
    needs (code_of (field row 0)) BadCode (λ programme. needs (code_of (field row 1)) BadCode (λ institute. needs (step_of (field row 3)) BadCode
    (λ step. unless (is_some (seating_at programme (step_number step) entries)) RepeatedRow (Ok (programme, institute, step)))))

-- What a row gives after these entries, or the first of its faults.
unfoldable pub reading : Reading Entry MatrixKind
reading entries row =
    after (new_row entries row) (λ p. needs (seating_of row) BadNumber (λ seating.
    unless (nat_lt seating.seats (sum seating.protections.counts)) ProtectionsExceedSeats (needs (number_within 1 4 (field row 2)) UnknownList (λ list.
    after (settles (home_at p.0 entries) (length (codes_of entries)) (record { institute = p.1; list = record { 0 = list } })) (λ home.
    unless (nat_lt most_matrix_seats (all_seats entries + seating.seats)) TooMany (Ok (record { programme = p.0; home = home; step = p.2; seating = seating })))))))

-- the entries of a matrix's rows, or the first fault
abbrev pub entries_of : List Row → Given Entry MatrixKind
entries_of rows = table_of BadHeader header reading rows

-- what a row gave for a step, and no seats where no row was given
abbrev pub given : Option Seating → Seating
given None = no_seating
given (Some seating) = seating

-- what the entries give for the steps of a programme
abbrev pub seatings_in : List Entry → List ℕ → Seatings
seatings_in entries code = record { own = map (λ step. given (seating_at code (step_number step) entries)) own_steps }

-- what a matrix knows: the programmes by their numbers, and the seats of the steps of each
pub record SeatTable : Type 0 where
  pub programmes : List (List ℕ × Home)
  pub steps : List Seatings

-- the institute of a programme, and its list
abbrev pub find_home : List ℕ → List (List ℕ × Home) → Option Home
find_home code programmes = first_of (λ held. bytes_eq code held.0) (λ held. held.1) programmes

-- the codes of programmes
abbrev pub codes_in : List (List ℕ × Home) → List (List ℕ)
codes_in programmes = map (λ held. held.0) programmes

-- The matrix of these entries: their programmes in the order in which they first appear, and the seats that they give to each.
pub record IsMatrix (entries : List Entry) (table : SeatTable) : Type 0 where
  pub programmes : codes_in table.programmes ≡ codes_of entries
  pub homes : (code : List ℕ) → find_home code table.programmes ≡ home_at code entries
  pub steps : table.steps ≡ map (seatings_in entries) (codes_of entries)

-- What holds of the entries of every matrix.
pub record AreEntries (entries : List Entry) : Type 0 where
  pub seated : (code : List ℕ) (step : ℕ) (seating : Seating) → seating_at code step entries ≡ Some seating → IsSeated seating
  pub lists : (code : List ℕ) (home : Home) → home_at code entries ≡ Some home → IsList home.list
  pub few : length (codes_of entries) ≤ most_programmes
  pub total : all_seats entries ≤ most_matrix_seats

-- the first of the merit lists
abbrev pub first_list : ListId
first_list = record { 0 = 1 }

-- the merit list of the programme of this number
abbrev pub list_in : SeatTable → ℕ → ListId
list_in table prog = unwrap_or (option_map (λ held. held.1.list) (slice_get table.programmes prog)) first_list

-- the seats of the programme of this number in its steps
abbrev pub steps_in : SeatTable → ℕ → Seatings
steps_in table prog = slice_index_or table.steps prog no_seatings

-- all that a matrix has for the programme of this number
abbrev pub seats_in : SeatTable → ℕ → ProgrammeSeats
seats_in table prog = record { list = list_in table prog; steps = steps_in table prog }

-- the seats of the programme of this number in a step
abbrev pub seating_in : SeatTable → ℕ → StepKind → Seating
seating_in table prog step = of_step (steps_in table prog) step

-- so many seats in a step of a programme, with its protections as they are
abbrev pub resized : SeatTable → ℕ → StepKind → ℕ → Seating
resized table prog step seats = record { seats = seats; protections = (seating_in table prog step).protections }

-- What holds of every matrix: no code is listed twice, and the seats of each programme are sound.
pub record AreSeats (table : SeatTable) : Type 0 where
  pub codes : Pairwise (λ a b. a ≢ b) (codes_in table.programmes)
  pub few : length table.programmes ≤ most_programmes
  pub steps : length table.steps ≡ length table.programmes
  pub sound : (prog : ℕ) → prog < length table.programmes → AreProgrammeSeats (seats_in table prog)

-- What a matrix keeps: its table, and the number of each programme under its code, in the order of the codes.
pub record IsKeptMatrix (pairs : List (List ℕ × ProgId)) (table : SeatTable) : Type 0 where
  pub sound : AreSeats table
  pub sorted : IsStrictlySortedBy (slice_cmp nat_cmp) (keys_of pairs)
  pub numbers : (code : List ℕ) → option_map (λ prog. prog.0) (lookup (is_at (slice_cmp nat_cmp code)) pairs) ≡ position (bytes_eq code) (codes_in table.programmes)

-- the same matrix, but for the seats of one step
abbrev pub matrix_with : SeatTable → ℕ → StepKind → Seating → SeatTable
matrix_with table prog step seating = record { programmes = table.programmes; steps = slice_set table.steps prog (with_seating (steps_in table prog) step seating) }

-- One step has these seats, and all else is as before.
pub record HasSeating (before : SeatTable) (prog : ℕ) (step : StepKind) (seating : Seating) (after : SeatTable) : Type 0 where
  pub programmes : after.programmes ≡ before.programmes
  pub here : seating_in after prog step ≡ seating
  pub elsewhere : (other : ℕ) (kind : StepKind) → (other ≡ prog → kind ≡ step → ⊥) → seating_in after other kind ≡ seating_in before other kind

-- a body's rows have no fault, and this is the matrix of their entries
abbrev pub IsRead : List Row → SeatTable → Type 0
IsRead rows table = (entries : List Entry) × (entries_of rows ≡ Ok entries) × IsMatrix entries table

-- the first fault of a body's rows; `OutOfMemory` says nothing of them
abbrev pub IsFault : List Row → TableFault MatrixKind → Type 0
IsFault rows = IsTableFault (entries_of rows)
