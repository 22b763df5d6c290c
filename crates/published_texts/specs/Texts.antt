-- The texts that the office publishes. Each line ends with LF.
use Rattle.std.specs.Prelude.{◌<◌, ℕ, Bool, true, false, List, [], ◌∷◌, ◌++◌, length, Option, Some, None, IfSome, codes, slice_get, unwrap_or}
use Rattle.std.specs.Fmt.{decimal}
use Rattle.std.specs.List.{AllByRecursion, flat_map}
use Rattle.std.specs.Option.{option_map}
use Rattle.kept_rows.specs.declared.rows.AllotRow.{AllotRow}
use Rattle.office_base.specs.declared.seat.Seat.{Seat}
use Rattle.office_base.specs.declared.person.Person.{Person}
use Rattle.office_base.specs.declared.seat.SeatKind.{SeatKind}
use Rattle.programme_lists.specs.declared.programme.Programme.{Programme}
use Rattle.programme_lists.specs.declared.programme.StepList.{StepList}
use Rattle.reasons.specs.declared.reason.Reason.{Reason}
use Rattle.reasons.specs.declared.reason.Reason.TheVariants.{Admitted, Refused}
use Rattle.reasons.specs.declared.reason.StepWhy.{StepWhy}
use Rattle.reasons.specs.declared.reason.WhyAnswer.{WhyAnswer}
use Rattle.reasons.specs.declared.reason.WhyAnswer.TheVariants.{Reason as ReasonIs, Better, NotSought}
use Rattle.rounds.specs.Round.{seated}
use Rattle.rounds.specs.declared.round.Round.{Round}
use Rattle.seat_matrix.specs.Matrix.{SeatTable}
use Rattle.step_lines.specs.Lines.{seat_kind_name, step_lines, step_name}

-- the code of the programme of this number
abbrev pub code_in : SeatTable → ℕ → List ℕ
code_in table prog = unwrap_or (option_map (λ held. held.0) (slice_get table.programmes prog)) []

-- the rest of the line of a seat: the candidate, the programme's code and the kind of the seat
abbrev pub seat_line : SeatTable → ℕ → ℕ → SeatKind → List ℕ
seat_line table cand prog step = decimal cand ++ codes " " ++ code_in table prog ++ codes " " ++ seat_kind_name step ++ codes "\n"

-- ---- a round

-- a seat, where there is one, is in a programme of the matrix
abbrev pub IsSeatOf : SeatTable → Option Seat → Type 0
IsSeatOf table seat = IfSome seat (λ held. held.prog.0 < length table.programmes)

-- all seats are
abbrev pub AreSeatsOf : SeatTable → List (Option Seat) → Type 0
AreSeatsOf table seats = AllByRecursion (IsSeatOf table) seats

-- the line of a candidate who has a seat, and nothing for one who has none
abbrev pub allot_line : SeatTable → ℕ → Option Seat → List ℕ
allot_line table cand None = []
allot_line table cand (Some seat) = codes "allot " ++ seat_line table cand seat.prog.0 seat.step

-- a line for each person who has a seat
abbrev pub allot_lines : SeatTable → List Person → List (Option Seat) → List ℕ
allot_lines table [] seats = []
allot_lines table (person ∷ people) [] = []
allot_lines table (person ∷ people) (seat ∷ seats) = allot_line table person.id.0 seat ++ allot_lines table people seats

-- the first line of a round
abbrev pub round_head : ℕ → ℕ → List ℕ
round_head number seated = codes "round " ++ decimal number ++ codes " seated " ++ decimal seated ++ codes "\n"

-- the text of a round: its number, how many persons have a seat, and their seats in the order of the register
abbrev pub round_text : SeatTable → List Person → Round → List ℕ
round_text table people round = round_head round.number (seated round.seats) ++ allot_lines table people round.seats ++ codes "end round\n"

-- ---- the final admissions

-- the line of an admission
abbrev pub admit_line : SeatTable → AllotRow → List ℕ
admit_line table row = codes "admit " ++ seat_line table row.cand.0 row.prog.0 row.step

-- the first line of the final admissions
abbrev pub final_head : ℕ → List ℕ
final_head admitted = codes "final " ++ decimal admitted ++ codes "\n"

-- the text of the final admissions: how many they are, and each of them
abbrev pub final_text : SeatTable → List AllotRow → List ℕ
final_text table rows = final_head (length rows) ++ flat_map (admit_line table) rows ++ codes "end final\n"

-- ---- the list of a programme

-- a step of a programme
abbrev pub list_step : StepList → List ℕ
list_step list = codes "step " ++ step_name list.kind ++ step_lines list.seats list.candidates list.admitted list.cert.pairs

-- the first line of a list
abbrev pub list_head : SeatTable → ℕ → ℕ → List ℕ
list_head table number prog = codes "list " ++ decimal number ++ codes " " ++ code_in table prog ++ codes "\n"

-- the text of a programme's list in the round of this number: its steps
abbrev pub list_text : SeatTable → ℕ → ℕ → Programme → List ℕ
list_text table number prog programme = list_head table number prog ++ flat_map list_step programme.steps ++ codes "end list\n"

-- ---- a reason

-- somebody worse in merit was admitted, or nobody
abbrev pub worse_words : Bool → List ℕ
worse_words true = codes " worse yes\n"
worse_words false = codes " worse no\n"

-- what counted against a person at a step
abbrev pub step_why : StepWhy → List ℕ
step_why why = step_name why.kind ++ codes " seats " ++ decimal why.seats ++ worse_words why.worse

-- nothing if the person did not compete for the seats of the step
abbrev pub why_line : Option StepWhy → List ℕ
why_line None = []
why_line (Some why) = step_why why

-- the step that admits, or that a seat is kept, or what counted against the person at each step
abbrev pub reason_lines : Reason → List ℕ
reason_lines (Admitted step) = codes " admitted " ++ seat_kind_name step ++ codes "\n"
reason_lines (Refused at_open at_category at_dereserved) = codes " refused\n" ++ why_line at_open ++ why_line at_category ++ why_line at_dereserved ++ codes "end why\n"

-- the programme of the better seat
abbrev pub better_line : SeatTable → ℕ → List ℕ
better_line table held = codes " better " ++ code_in table held ++ codes "\n"

-- an answer, after its first words
abbrev pub answer_lines : SeatTable → WhyAnswer → List ℕ
answer_lines table (ReasonIs reason) = reason_lines reason
answer_lines table (Better held) = better_line table held.0
answer_lines table NotSought = codes " notsought\n"

-- the first words of a reason: the candidate and the programme that was asked for
abbrev pub reason_head : SeatTable → ℕ → ℕ → List ℕ
reason_head table cand prog = codes "why " ++ decimal cand ++ codes " " ++ code_in table prog

-- the text of the answer to why this candidate has no seat in the programme, or has one
abbrev pub reason_text : SeatTable → ℕ → ℕ → WhyAnswer → List ℕ
reason_text table cand prog answer = reason_head table cand prog ++ answer_lines table answer

-- the programme that an answer names is of the matrix
abbrev pub IsAnswerOf : SeatTable → WhyAnswer → Type 0
IsAnswerOf table (ReasonIs reason) = Unit {0}
IsAnswerOf table (Better held) = held.0 < length table.programmes
IsAnswerOf table NotSought = Unit {0}
