-- What the proceedings of a season are: its facts, the history, the state to which the history leads, and room.
use Rattle.std.specs.Prelude.{◌+◌, ℕ, List, [], ◌∷◌, map, if◌then◌else◌}
use Rattle.office_base.specs.Numbered.{last_of_numbers}
use Rattle.office_base.specs.declared.choice.Choice.{Choice}
use Rattle.office_base.specs.declared.person.CandId.{CandId}
use Rattle.office_base.specs.declared.person.Person.{Person}
use Rattle.kept_rows.specs.declared.rows.AnswerRow.{AnswerRow}
use Rattle.round_options.specs.declared.standing.Standing.{Standing}
use Rattle.office_moves.specs.Facts.{SeasonFacts}
use Rattle.office_moves.specs.State.{State, in_window, left_by, rows_of, standing_at, view_of}
use Rattle.office_moves.specs.Judge.{is_gone}
use Rattle.office_moves.specs.declared.moves.Act.{Act}
use Rattle.office_moves.specs.declared.moves.Act.TheVariants.{Answer, Raise, Cut}
use Rattle.office_moves.specs.declared.moves.Entry.{Entry}

-- The proceedings. `still` is how many stand neither at Withdrawn nor at NoShow; `room` and `raise_room` are how many entries and raises can be put in
-- without memory.
pub record Proceeding : Type 0 where
  pub season : SeasonFacts
  pub entries : List Entry
  pub state : State
  pub still : ℕ
  pub room : ℕ
  pub raise_room : ℕ

-- the number of the last entry, 0 where there is none
abbrev pub last_of : List Entry → ℕ
last_of entries = last_of_numbers (map (λ entry. entry.number) entries)

-- the row of an answer before others
abbrev pub answer_before : Act → List AnswerRow → List AnswerRow
answer_before (Answer row) rows = row ∷ rows
answer_before (Raise row) rows = rows
answer_before (Cut window) rows = rows

-- the answers of a history
abbrev pub answers_of : List Entry → List AnswerRow
answers_of [] = []
answers_of (entry ∷ entries) = answer_before entry.act (answers_of entries)

-- ---- along the people

-- how the last cut left each
abbrev pub left_along : SeasonFacts → State → List Standing
left_along facts state = map (λ person. left_by facts (view_of state person.id.0) person.id.0 state.now) facts.people

-- the choices of a candidate in a window, in the order of their turns
abbrev pub choices_in : State → ℕ → ℕ → List Choice
choices_in state window id = map (λ row. row.choice) (in_window window (rows_of id state.answers))

-- the rows of choices of a candidate in a window, at the turns after this one
abbrev pub rows_after : ℕ → CandId → ℕ → List Choice → List AnswerRow
rows_after window cand turn [] = []
rows_after window cand turn (choice ∷ choices) = record { window = window; cand = cand; turn = turn + 1; choice = choice } ∷ rows_after window cand (turn + 1) choices

-- the choices of each in a window
abbrev pub table_along : SeasonFacts → State → ℕ → List (List Choice)
table_along facts state window = map (λ person. choices_in state window person.id.0) facts.people

-- one more, unless a candidate with this standing is out
abbrev pub in_after : ℕ → Standing → ℕ
in_after count standing = if is_gone standing then count else count + 1

-- how many of the people are still in: each but those who stand at withdrawn or no-show now
abbrev pub still_among : SeasonFacts → State → List Person → ℕ
still_among facts state [] = 0
still_among facts state (person ∷ people) = in_after (still_among facts state people) (standing_at facts (view_of state person.id.0) person.id.0 state.now)

abbrev pub still_of : SeasonFacts → State → ℕ
still_of facts state = still_among facts state facts.people
