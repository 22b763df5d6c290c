-- The texts of a season bundle.
use Rattle.std.specs.Prelude.{ℕ, List, ◌++◌, codes, length, sum_by}
use Rattle.std.specs.Fmt.{decimal}
use Rattle.office_base.specs.FaultLines.{memory_line, read_line}
use Rattle.rank_lists.specs.Kinds as rank_kinds
use Rattle.seat_matrix.specs.Kinds as matrix_kinds
use Rattle.choice_lists.specs.Choices.{list_of}
use Rattle.choice_lists.specs.Kinds as choice_kinds
use Rattle.season_file.specs.declared.fault.SeasonFault.{SeasonFault}
use Rattle.season_file.specs.declared.fault.SeasonFault.TheVariants.{ReadFault, TooLong, BadFirstLine, Section, BadSeason, Register, Matrix, Choices, NotUtf8, BadRequest, OutOfMemory}
use Rattle.season_file.specs.declared.season.Season.{Season}
use Rattle.section_rows.specs.declared.fault.TableFault.{TableFault}
use Rattle.section_rows.specs.declared.fault.TableFault.TheVariants.{Bad as BadRow, OutOfMemory as NoTableMemory}
use Rattle.rank_lists.specs.declared.fault.RankKind.{RankKind}
use Rattle.seat_matrix.specs.declared.fault.MatrixKind.{MatrixKind}
use Rattle.choice_lists.specs.declared.fault.ChoiceKind.{ChoiceKind}

-- how many programmes are on the choice lists of all candidates together
abbrev pub choice_count : Season → ℕ
choice_count season = sum_by (λ person. length (list_of season.choices person.id.0)) season.register.people

-- the line of these counts
abbrev pub line_of_counts : ℕ → ℕ → ℕ → ℕ → List ℕ
line_of_counts candidates programmes choices rounds =
    codes "bundle candidates " ++ decimal candidates ++ codes " programmes " ++ decimal programmes ++ codes " choices " ++ decimal choices ++ codes " rounds " ++ decimal rounds ++ codes "\n"

-- the line of a season's counts: candidates of the register, programmes of the matrix, programmes on all choice lists, rounds
abbrev pub counts_line : Season → List ℕ
counts_line season = line_of_counts (length season.register.people) (length season.matrix.programmes) (choice_count season) season.rounds

-- the line of a fault at a line of the bundle
abbrev pub section_line : ℕ → List ℕ
section_line line = codes "fault: bundle line " ++ decimal line ++ codes " Section\n"

-- the line of a fault at a row of a section, by its kind
abbrev pub row_line : List ℕ → ℕ → List ℕ → List ℕ
row_line section row kind = codes "fault: " ++ section ++ codes " row " ++ decimal row ++ codes " " ++ kind ++ codes "\n"

-- the line of a table's fault, by the table's name and the names of its kinds
abbrev pub table_line : {Kind : Type 0} → List ℕ → (Kind → List ℕ) → TableFault Kind → List ℕ
table_line name kind_name (BadRow row kind) = row_line name row (kind_name kind)
table_line name kind_name NoTableMemory = memory_line

-- the line that reports a fault
abbrev pub fault_line : SeasonFault → List ℕ
fault_line ReadFault = read_line
fault_line TooLong = codes "fault: bundle TooLong\n"
fault_line BadFirstLine = codes "fault: bundle BadFirstLine\n"
fault_line (Section line) = section_line line
fault_line (BadSeason row) = row_line (codes "season") row (codes "BadSeason")
fault_line (Register fault) = table_line (codes "register") rank_kinds.kind_name fault
fault_line (Matrix fault) = table_line (codes "matrix") matrix_kinds.kind_name fault
fault_line (Choices fault) = table_line (codes "choices") choice_kinds.kind_name fault
fault_line NotUtf8 = codes "fault: bundle NotUtf8\n"
fault_line (BadRequest row) = row_line (codes "requests") row (codes "BadRequest")
fault_line OutOfMemory = memory_line
