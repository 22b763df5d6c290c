-- A script of requests, run on the definitions alone: the rounds are given, and all else is computed.
use Rattle.std.specs.Prelude.{◌+◌, ℕ, List, [], ◌∷◌, Option, Some, None, length}
use Rattle.office_asks.specs.declared.ask.Request.{Request}
use Rattle.office_base.specs.declared.person.Person.{Person}
use Rattle.office_base.specs.declared.person.ProgId.{ProgId}
use Rattle.rank_lists.specs.Register.{find_person}
use Rattle.choice_lists.specs.Choices.{list_of}
use Rattle.programme_lists.specs.declared.programme.Programme.{Programme}
use Rattle.rounds.specs.Round.{seated}
use Rattle.rounds.specs.declared.round.Round.{Round}
use Rattle.office_moves.specs.Facts.{SeasonFacts}
use Rattle.office_moves.specs.State.{State, opening, round_at, view_of, with_finals, with_raise, with_round, with_row}
use Rattle.office_moves.specs.Decided.{decided}
use Rattle.office_moves.specs.Moves.{answers_reply, final_rows, noted, programme_in, raised_reply, receipt, seat_reply, state_reply, why_reply}
use Rattle.office_moves.specs.declared.decide.Decision.{Decision}
use Rattle.office_moves.specs.declared.decide.Decision.TheVariants.{Refuse, NotedAgain, RaisedAgain, CutAgain, Note, Lift, Publish, Finish, Tell}
use Rattle.office_moves.specs.declared.decide.Question.{Question}
use Rattle.office_moves.specs.declared.decide.Question.TheVariants.{Seat as TheSeat, Why as TheReason, List as TheList, Round as TheRound, Choices as TheChoices, Cutoffs as TheCutoffs, Register as TheRegister, Answers as TheAnswers, State as TheState}
use Rattle.office_moves.specs.declared.moves.Reply.{Reply}
use Rattle.office_moves.specs.declared.moves.Reply.TheVariants.{Published, Final, ListIs, RoundIs, ChoicesAre, RegisterIs, Refused}
use Rattle.office_moves.specs.declared.refusal.Refusal.TheVariants.{NotChosen}

-- how far a run is: the state, the rounds to come, and the replies so far, the last one first
pub record Run : Type 0 where
  pub state : State
  pub rounds : List Round
  pub replies : List Reply

-- after a request that leaves the state
abbrev pub told : Run → Reply → Run
told run reply = record run { replies = reply ∷ run.replies }

-- after one that leads to another
abbrev pub changed : Run → State → Reply → Run
changed run state reply = record run { state = state; replies = reply ∷ run.replies }

-- after a cut, by the rounds to come; a run that needs more rounds than are given stops with a wrong reply
abbrev pub published : Run → List Round → Run
published run [] = told run (Refused NotChosen)
published run (round ∷ rounds) =
    record { state = with_round run.state round; rounds = rounds; replies = Published (run.state.now + 1) (seated round.seats) ∷ run.replies }

-- the lists of a programme, or a wrong reply where there are none
abbrev pub listed : ℕ → ProgId → Option Programme → Reply
listed number prog None = Refused NotChosen
listed number prog (Some programme) = ListIs number prog programme

-- the entry of a candidate, or a wrong reply where there is none
abbrev pub entered : Option Person → Reply
entered None = Refused NotChosen
entered (Some person) = RegisterIs person

-- the reply to a question; cutoffs are not computed here, so a run that asks for them has a wrong reply
abbrev pub reply_to : SeasonFacts → State → Question → Reply
reply_to facts state (TheSeat cand) = seat_reply facts (view_of state cand.0) cand
reply_to facts state (TheReason cand prog) = why_reply facts (view_of state cand.0) cand prog
reply_to facts state (TheList number prog) = listed number prog (programme_in (round_at state.rounds number) prog.0)
reply_to facts state (TheRound number) = RoundIs number
reply_to facts state (TheChoices cand) = ChoicesAre cand (list_of facts.lists cand.0)
reply_to facts state (TheCutoffs number prog) = Refused NotChosen
reply_to facts state (TheRegister cand) = entered (find_person cand.0 facts.people)
reply_to facts state (TheAnswers cand) = answers_reply facts (view_of state cand.0) cand
reply_to facts state TheState = state_reply facts state

-- what a decision does
abbrev pub after : SeasonFacts → Run → Decision → Run
after facts run (Refuse refusal) = told run (Refused refusal)
after facts run (NotedAgain row) = told run (noted row)
after facts run (RaisedAgain row) = told run (raised_reply row)
after facts run (CutAgain window) = told run (receipt facts run.state window)
after facts run (Note row) = changed run (with_row run.state row) (noted row)
after facts run (Lift row) = changed run (with_raise run.state row) (raised_reply row)
after facts run Publish = published run run.rounds
after facts run Finish = changed run (with_finals run.state (final_rows facts run.state)) (Final (length (final_rows facts run.state)))
after facts run (Tell question) = told run (reply_to facts run.state question)

-- after some requests
abbrev pub run_on : SeasonFacts → Run → List Request → Run
run_on facts run [] = run
run_on facts run (request ∷ requests) = run_on facts (after facts run (decided facts run.state request)) requests

-- the run of a script from the opening on
abbrev pub run_of : SeasonFacts → List Round → List Request → Run
run_of facts rounds requests = run_on facts (record { state = opening; rounds = rounds; replies = [] }) requests
