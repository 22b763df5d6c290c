-- What each request comes to in a state: what it looks at, and what is judged by that.
use Rattle.std.specs.Prelude.{ℕ, Bool, true, false, ◌==◌, ◌&&◌, List, Option, Some, None, length, is_some, option_map}
use Rattle.std.specs.List.{list_any}
use Rattle.office_asks.specs.declared.ask.Ask.{Ask}
use Rattle.office_asks.specs.declared.ask.Ask.TheVariants.{Answer, Cut, Seat as AskSeat, Why, List as AskList, Round as AskRound, Choices as AskChoices, Cutoffs as AskCutoffs, Register as AskRegister, Answers as AskAnswers, State as AskState, Raise}
use Rattle.office_asks.specs.declared.ask.By.{By}
use Rattle.office_asks.specs.declared.ask.Request.{Request}
use Rattle.office_base.specs.declared.person.CandId.{CandId}
use Rattle.office_base.specs.declared.person.ProgId.{ProgId}
use Rattle.office_base.specs.declared.step.StepKind.{StepKind}
use Rattle.office_base.specs.StepNumbers.{step_number}
use Rattle.kept_rows.specs.declared.rows.AnswerRow.{AnswerRow}
use Rattle.kept_rows.specs.declared.rows.RaiseRow.{RaiseRow}
use Rattle.rank_lists.specs.Register.{find_person}
use Rattle.seat_matrix.specs.Matrix.{seating_in}
use Rattle.choice_lists.specs.Choices.{list_of}
use Rattle.seeks.specs.Seek.{is_listed}
use Rattle.office_moves.specs.Facts.{SeasonFacts, find_programme}
use Rattle.office_moves.specs.State.{State, View, accepted, in_window, last_seat, last_turn, left_by, standing_at, view_of}
use Rattle.office_moves.specs.Raised.{matrix_at, total_seats}
use Rattle.office_moves.specs.Judge.{judge_answer, judge_cut, judge_list, judge_own, judge_raise, judge_round, judge_why, with_programme}
use Rattle.office_moves.specs.declared.decide.AnswerFacts.{AnswerFacts}
use Rattle.office_moves.specs.declared.decide.Decision.{Decision}
use Rattle.office_moves.specs.declared.decide.Decision.TheVariants.{Tell}
use Rattle.office_moves.specs.declared.decide.Question.{Question}
use Rattle.office_moves.specs.declared.decide.Question.TheVariants.{Seat as TheSeat, List as TheList, Choices as TheChoices, Cutoffs as TheCutoffs, Register as TheRegister, Answers as TheAnswers, State as TheState}
use Rattle.office_moves.specs.declared.decide.RaiseFacts.{RaiseFacts}

-- ---- requests of a candidate: they look at the season and at the candidate's view

-- the candidate is in the register
abbrev pub is_known : SeasonFacts → CandId → Bool
is_known facts cand = is_some (find_person cand.0 facts.people)

-- what an answer is judged by
abbrev pub answer_facts : SeasonFacts → View → AnswerRow → AnswerFacts
answer_facts facts view row = record {
  known = is_known facts row.cand;
  kept = accepted row.window row.turn view.rows;
  window = view.now;
  rounds = facts.rounds;
  last = last_turn (in_window view.now view.rows);
  left = left_by facts view row.cand.0 view.now;
  standing = standing_at facts view row.cand.0 view.now;
  seated = is_some (last_seat facts view.rounds row.cand.0);
}

abbrev pub decide_answer : SeasonFacts → View → By → AnswerRow → Decision
decide_answer facts view by row = judge_answer (answer_facts facts view row) by row

abbrev pub decide_own : SeasonFacts → By → CandId → Question → Decision
decide_own facts by cand question = judge_own (is_known facts cand) by cand question

-- the programme is on the candidate's choice list
abbrev pub is_chosen_by : SeasonFacts → CandId → Option ProgId → Bool
is_chosen_by facts cand None = false
is_chosen_by facts cand (Some prog) = is_listed prog.0 (list_of facts.lists cand.0)

abbrev pub decide_why : SeasonFacts → View → By → CandId → List ℕ → Decision
decide_why facts view by cand code =
    judge_why (is_known facts cand) (find_programme facts code) (is_chosen_by facts cand (find_programme facts code)) (length view.rounds) by cand

-- ---- the other requests

abbrev pub decide_cut : SeasonFacts → State → By → ℕ → Decision
decide_cut facts state by window = judge_cut by state.now facts.rounds window

-- a question about the programme of this code in a round
abbrev pub decide_list : SeasonFacts → State → ℕ → List ℕ → (ProgId → Question) → Decision
decide_list facts state round code question = judge_list (option_map question (find_programme facts code)) (length state.rounds) round

abbrev pub decide_round : State → ℕ → Decision
decide_round state round = judge_round state.now (length state.rounds) round

-- the two raises are one
abbrev pub same_raise : RaiseRow → RaiseRow → Bool
same_raise row other = row.window == other.window && row.prog.0 == other.prog.0 && step_number row.step == step_number other.step && row.seats == other.seats

-- what a raise is judged by
abbrev pub raise_facts : SeasonFacts → State → RaiseRow → RaiseFacts
raise_facts facts state row = record {
  again = list_any (same_raise row) state.raises;
  window = state.now;
  rounds = facts.rounds;
  seats = (seating_in (matrix_at facts state) row.prog.0 row.step).seats;
  total = total_seats (matrix_at facts state);
}

-- a raise of a programme of the matrix
abbrev pub decide_raise_of : SeasonFacts → State → By → RaiseRow → Decision
decide_raise_of facts state by row = judge_raise (raise_facts facts state row) by row

abbrev pub decide_raise : SeasonFacts → State → By → ℕ → List ℕ → StepKind → ℕ → Decision
decide_raise facts state by window code step seats =
    with_programme (find_programme facts code) (λ prog. decide_raise_of facts state by (record { window = window; prog = prog; step = step; seats = seats }))

-- ---- every request

abbrev pub decided_by : SeasonFacts → State → By → Ask → Decision
decided_by facts state by (Answer cand window turn choice) = decide_answer facts (view_of state cand.0) by (record { window = window; cand = cand; turn = turn; choice = choice })
decided_by facts state by (Cut window) = decide_cut facts state by window
decided_by facts state by (AskSeat cand) = decide_own facts by cand (TheSeat cand)
decided_by facts state by (Why cand code) = decide_why facts (view_of state cand.0) by cand code
decided_by facts state by (AskList round code) = decide_list facts state round code (λ prog. TheList round prog)
decided_by facts state by (AskRound round) = decide_round state round
decided_by facts state by (AskChoices cand) = decide_own facts by cand (TheChoices cand)
decided_by facts state by (AskCutoffs round code) = decide_list facts state round code (λ prog. TheCutoffs round prog)
decided_by facts state by (AskRegister cand) = decide_own facts by cand (TheRegister cand)
decided_by facts state by (AskAnswers cand) = decide_own facts by cand (TheAnswers cand)
decided_by facts state by AskState = Tell TheState
decided_by facts state by (Raise window code step seats) = decide_raise facts state by window code step seats

-- the ask is a question: it changes nothing, whatever the state
abbrev pub is_question : Ask → Bool
is_question (Answer cand window turn choice) = false
is_question (Cut window) = false
is_question (Raise window code step seats) = false
is_question _ = true

-- What a request comes to in a state.
abbrev pub decided : SeasonFacts → State → Request → Decision
decided facts state request = decided_by facts state request.by request.ask
