-- A reader of lists: what it keeps, and what completes its text.
use Rattle.std.specs.Prelude.{◌≡◌, ◌≢◌, ◌<◌, ◌≤◌, ◌+◌, ◌^◌, ℕ, List, [], ◌∷◌, length, if◌then◌else◌}
use Rattle.std.specs.BTreeSet.{contains}
use Rattle.std.specs.Ordering.{nat_cmp}
use Rattle.office_base.specs.Lists.{Pairwise}
use Rattle.office_base.specs.declared.person.Person.{Person}
use Rattle.office_base.specs.declared.step.Pair.{Pair}
use Rattle.office_base.specs.declared.step.StepKind.{StepKind}
use Rattle.programme_lists.specs.declared.programme.StepList.{StepList}
use Rattle.seat_matrix.specs.Matrix.{SeatTable, codes_in}
use Rattle.text_readers.specs.Parts.{AreSmall, AreSpelled}
use Rattle.text_readers.specs.Reading.{Grammar}
use Rattle.list_texts.specs.ListLines.{IsListEnd, Said, after_rows, honoured_text, lines_text, rows_text, steps_text}
use Rattle.list_texts.specs.Listing.{is_listed, step_kinds}
use Rattle.list_texts.specs.declared.list_reader.ListReader.{ListReader}
use Rattle.list_texts.specs.declared.list_stage.ListStage.{ListStage}
use Rattle.list_texts.specs.declared.list_stage.ListStage.TheVariants.{Head, Steps, Honoured, Rows, Done}
use Rattle.list_texts.specs.declared.list_stage.OpenStep.{OpenStep}

-- the people are in rising order of id
abbrev pub AreRising : List Person → Type 0
AreRising people = Pairwise (λ a b. a.id.0 < b.id.0) people

-- how many of the people have not had a row
abbrev pub free_in : List Person → List Person → ℕ
free_in [] used = 0
free_in (person ∷ people) used = (if is_listed person.id.0 used then 0 else 1) + free_in people used

-- what the text of a reader said so far
abbrev pub said_by : ListReader → Said
said_by r = (r.number, r.prog.0, r.steps.items)

-- what follows the rows of the step that is read
abbrev pub after_step : ListReader → OpenStep → List Person → List Pair → Grammar Said
after_step r step = after_rows r.register.now.people r.kinds.now (said_by r) step

-- what completes the text of a reader at each stage
abbrev pub list_at : ListStage → ListReader → Grammar Said
list_at Head r = lines_text r.matrix.now r.register.now.people
list_at Steps r = steps_text r.register.now.people r.kinds.now (said_by r)
list_at (Honoured step rows) r = honoured_text r.register.now.people (after_step r step) step.kind rows
list_at (Rows step rows slots) r = rows_text r.register.now.people (after_step r step) rows slots r.admitted r.pairs
list_at Done r = IsListEnd (said_by r)

-- what completes the text of a reader at the stage where it is
abbrev pub list_grammar : ListReader → Grammar Said
list_grammar r = list_at r.stage r

-- nobody was read of the next step
pub record IsUnread (admitted : List Person) (pairs : List Pair) : Type 0 where
  pub people : admitted ≡ []
  pub slots : pairs ≡ []

-- Nothing was read.
pub record IsUnbegun (kinds : List StepKind) (done : List StepList) (admitted : List Person) (pairs : List Pair) : Type 0 where
  pub steps : kinds ≡ step_kinds
  pub none : done ≡ []
  pub unread : IsUnread admitted pairs

-- How many rows can follow: as many as are to come, for there are people who had none, and no fewer than the slots to come.
pub record CanFollow (people admitted : List Person) (rows slots : ℕ) : Type 0 where
  pub some : 0 < rows
  pub few : rows ≤ free_in people admitted
  pub enough : slots ≤ rows

-- what a reader keeps at each stage
abbrev pub IsInStage : ListStage → ListReader → Type 0
IsInStage Head r = IsUnbegun r.kinds.now r.steps.items r.admitted r.pairs
IsInStage Steps r = IsUnread r.admitted r.pairs
IsInStage (Honoured step rows) r = IsUnread r.admitted r.pairs × (rows ≤ length r.register.now.people)
IsInStage (Rows step rows slots) r = CanFollow r.register.now.people r.admitted rows slots
IsInStage Done r = Unit {0}

-- What a matrix and a register keep: the codes are spelled and distinct, and the ids are small and distinct.
pub record AreKnown (table : SeatTable) (people : List Person) : Type 0 where
  pub some : 0 < length table.programmes
  pub spelled : AreSpelled table
  pub codes : Pairwise (λ a b. a ≢ b) (codes_in table.programmes)
  pub small : AreSmall people
  pub rising : AreRising people
  pub few : length people < 2 ^ 28

-- a number above that of the lines of these steps and the last one
abbrev pub most_lines : ℕ → List StepKind → ℕ
most_lines people [] = 2
most_lines people (kind ∷ kinds) = people + 3 + most_lines people kinds

-- a number above that of the lines to come at each stage, where there are so many people, before these steps
abbrev pub left_at : ListStage → ℕ → List StepKind → ℕ
left_at Head people kinds = most_lines people step_kinds + 1
left_at Steps people kinds = most_lines people kinds
left_at (Honoured step rows) people kinds = most_lines people kinds + rows + 1
left_at (Rows step rows slots) people kinds = most_lines people kinds + rows
left_at Done people kinds = 1

-- a number above that of the lines to come
abbrev pub list_left : ListReader → ℕ
list_left r = left_at r.stage (length r.register.now.people) r.kinds.now

-- What a reader keeps.
pub record KeepsList (r : ListReader) : Type 0 where
  pub known : AreKnown r.matrix.now r.register.now.people
  pub used : (id : ℕ) → contains nat_cmp r.used id ≡ is_listed id r.admitted
  pub stage : IsInStage r.stage r
