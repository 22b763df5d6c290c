-- What holds of every refusal, and of each other thing that a request of its kind can come to, holds of what it comes to.
-- What a decision names is there.
use Rattle.std.proofs.Common.{◌≡◌, ◌<◌, ◌≤◌, ◌||◌, ◌&&◌, ◌==◌, ◌+◌, ◌-◌, ℕ, zero, suc, Bool, true, false, not, List, Option, Some, None, length, option_map, arith, refl, subst, nat_lt, nat_le, if◌then◌else◌}
use Rattle.std.proofs.lemmas.Bool.{ltb-false, or_parts}
use Rattle.office_base.specs.Limits.{most_matrix_seats, most_step_seats, most_turns}
use Rattle.office_asks.specs.declared.ask.Ask.{Ask}
use Rattle.office_asks.specs.declared.ask.Ask.TheVariants.{Answer, Cut, Seat as AskSeat, Why, List as AskList, Round as AskRound, Choices as AskChoices, Cutoffs as AskCutoffs, Register as AskRegister, Answers as AskAnswers, State as AskState, Raise}
use Rattle.office_asks.specs.declared.ask.By.{By}
use Rattle.office_base.specs.declared.choice.Choice.{Choice}
use Rattle.office_asks.specs.declared.ask.Request.{Request}
use Rattle.office_base.specs.declared.person.CandId.{CandId}
use Rattle.office_base.specs.declared.person.ProgId.{ProgId}
use Rattle.office_base.specs.declared.step.StepKind.{StepKind}
use Rattle.seat_matrix.specs.Seats.{is_dereserved}
use Rattle.kept_rows.specs.declared.rows.AnswerRow.{AnswerRow}
use Rattle.kept_rows.specs.declared.rows.RaiseRow.{RaiseRow}
use Rattle.round_options.specs.Options.{may_follow}
use Rattle.office_moves.specs.Facts.{SeasonFacts, find_programme}
use Rattle.office_moves.specs.State.{State, view_of}
use Rattle.office_moves.specs.Judge.{choice_of, is_candidate, is_clerk, is_gone, is_withdraw, judge_answer, judge_cut, judge_list, judge_new_answer, judge_next_answer, judge_own, judge_raise, judge_round, judge_why, may_ask, not_open, once_more, refuse_as, refuse_if, same_choice, with_programme}
use Rattle.office_moves.specs.Decided.{answer_facts, decided, decided_by, is_chosen_by, is_known, is_question, raise_facts}
use Rattle.office_moves.specs.History.{newly}
use Rattle.office_moves.specs.declared.decide.AnswerFacts.{AnswerFacts}
use Rattle.office_moves.specs.declared.decide.Decision.{Decision}
use Rattle.office_moves.specs.declared.decide.Decision.TheVariants.{Refuse, NotedAgain, RaisedAgain, CutAgain, Note, Lift, Publish, Finish, Tell}
use Rattle.office_moves.specs.declared.decide.Question.{Question}
use Rattle.office_moves.specs.declared.decide.Question.TheVariants.{Seat as TheSeat, Why as TheReason, List as TheList, Round as TheRound, Choices as TheChoices, Cutoffs as TheCutoffs, Register as TheRegister, Answers as TheAnswers, State as TheState}
use Rattle.office_moves.specs.declared.decide.RaiseFacts.{RaiseFacts}
use Rattle.office_moves.specs.declared.refusal.Refusal.{Refusal}
use Rattle.office_moves.specs.declared.refusal.Refusal.TheVariants.{Ahead, Denied, Falling, Gap, Gone, LastWindow, NoSeat, NoSuchRound, NotChosen, SeatLimit, StepFixed, TooManyTurns, TurnUsed, UnknownCandidate, UnknownProgramme, Widening}
use Rattle.office_moves.proofs.Found.{was_found}

-- What holds of answers, of cuts, of raises and of questions holds of every ask.
pub by_kind : (Q : Ask → Type 0) → ((cand : CandId) (window turn : ℕ) (choice : Choice) → Q (Answer cand window turn choice)) → ((window : ℕ) → Q (Cut window))
    → ((window : ℕ) (code : List ℕ) (step : StepKind) (seats : ℕ) → Q (Raise window code step seats)) → ((ask : Ask) → is_question ask ≡ true → Q ask) → (ask : Ask) → Q ask
by_kind Q answers cuts raises questions (Answer cand window turn choice) = answers cand window turn choice
by_kind Q answers cuts raises questions (Cut window) = cuts window
by_kind Q answers cuts raises questions (Raise window code step seats) = raises window code step seats
by_kind Q answers cuts raises questions ask = questions ask refl

-- what a question names is there: its candidate, its programme and its round
abbrev pub IsThere : SeasonFacts → State → Question → Type 0
IsThere facts state (TheSeat cand) = is_known facts cand ≡ true
IsThere facts state (TheReason cand prog) = (is_known facts cand ≡ true) × (prog.0 < length facts.matrix.programmes) × (0 < length state.rounds)
IsThere facts state (TheList number prog) = (0 < number) × (number ≤ length state.rounds) × (prog.0 < length facts.matrix.programmes)
IsThere facts state (TheCutoffs number prog) = (0 < number) × (number ≤ length state.rounds) × (prog.0 < length facts.matrix.programmes)
IsThere facts state (TheRegister cand) = is_known facts cand ≡ true
IsThere facts state (TheAnswers cand) = is_known facts cand ≡ true
IsThere facts state _ = Unit {0}

not_zero : (n : ℕ) → (n == 0) ≡ false → 0 < n
not_zero zero e = absurd (cc)
not_zero (suc n) e = omega arith

module _ (P : Decision → Type 0) (refused : (r : Refusal) → P (Refuse r)) where
  refused_or : (b : Bool) (refusal : Refusal) (rest : Decision) → (b ≡ false → P rest) → P (refuse_if b refusal rest)
  refused_or true refusal rest follows = refused refusal
  refused_or false refusal rest follows = follows refl

  refused_unless : (b : Bool) (refusal : Refusal) (rest : Decision) → (b ≡ true → P rest) → P (refuse_if (not b) refusal rest)
  refused_unless true refusal rest follows = follows refl
  refused_unless false refusal rest follows = refused refusal

  refused_as : (refusal : Option Refusal) (rest : Decision) → P rest → P (refuse_as refusal rest)
  refused_as None rest follows = follows
  refused_as (Some refusal) rest follows = refused refusal

  either : (b : Bool) (one rest : Decision) → P one → P rest → P (if b then one else rest)
  either true one rest here there = here
  either false one rest here there = there

  again_or : (kept : Option Choice) (row : AnswerRow) (rest : Decision) → P (NotedAgain row) → P rest → P (once_more kept row rest)
  again_or None row rest again follows = follows
  again_or (Some choice) row rest again follows = either (same_choice choice row.choice) (NotedAgain row) (Refuse (TurnUsed choice)) again (refused (TurnUsed choice))

  pub answer_keeps : (looks : AnswerFacts) (by : By) (row : AnswerRow) → P (NotedAgain row) → P (Note row) → P (judge_answer looks by row)
  answer_keeps looks by row again noted =
      refused_unless looks.known UnknownCandidate _ (λ e.
      refused_unless (is_candidate by row.cand) (Denied 1) _ (λ e.
      again_or looks.kept row (judge_new_answer looks row) again
      (refused_as (not_open looks.window looks.rounds row.window) _
      (refused_unless (row.turn == looks.last + 1) (Gap looks.last) (judge_next_answer looks row) (λ e.
      refused_or (is_gone looks.standing) (Gone looks.standing) _ (λ e.
      refused_or (not looks.seated && not (is_withdraw row.choice)) NoSeat _ (λ e.
      refused_or (not (may_follow looks.left row.choice)) (Widening (choice_of looks.left)) _ (λ e.
      refused_or (nat_lt most_turns row.turn && not (is_withdraw row.choice)) TooManyTurns (Note row) (λ e. noted)))))))))

  pub cut_keeps : (by : By) (now rounds window : ℕ) → P (CutAgain window) → P Finish → P Publish → P (judge_cut by now rounds window)
  cut_keeps by now rounds window again finish publish =
      refused_or (not (is_clerk by)) (Denied 2) _ (λ e.
      either (nat_lt window now) (CutAgain window) _ again
      (refused_or (nat_lt now window || nat_lt rounds window) (Ahead now) _ (λ e. either (window == rounds) Finish Publish finish publish)))

  pub programme_keeps : (prog : Option ProgId) (rest : ProgId → Decision) → ((p : ProgId) → prog ≡ Some p → P (rest p)) → P (with_programme prog rest)
  programme_keeps None rest follows = refused UnknownProgramme
  programme_keeps (Some prog) rest follows = follows prog refl

  pub raise_keeps : (looks : RaiseFacts) (by : By) (row : RaiseRow) → P (RaisedAgain row) → P (Lift row) → P (judge_raise looks by row)
  raise_keeps looks by row again lifted =
      refused_or (not (is_clerk by)) (Denied 4) _ (λ e.
      either looks.again (RaisedAgain row) _ again
      (refused_as (not_open looks.window looks.rounds row.window) _
      (refused_or (row.window == looks.rounds) LastWindow _ (λ e.
      refused_or (is_dereserved row.step) StepFixed _ (λ e.
      refused_or (nat_le row.seats looks.seats) (Falling looks.seats) _ (λ e.
      refused_or (nat_lt most_step_seats row.seats || nat_lt most_matrix_seats (looks.total - looks.seats + row.seats)) (SeatLimit looks.total) (Lift row) (λ e. lifted)))))))

  pub own_keeps : (known : Bool) (by : By) (cand : CandId) (question : Question) → (known ≡ true → P (Tell question)) → P (judge_own known by cand question)
  own_keeps known by cand question tells =
      refused_unless known UnknownCandidate _ (λ e. refused_or (not (may_ask by cand)) (Denied 3) (Tell question) (λ f. tells e))

  pub why_keeps : (known : Bool) (prog : Option ProgId) (chosen : Bool) (published : ℕ) (by : By) (cand : CandId)
      → (known ≡ true → (p : ProgId) → prog ≡ Some p → (published == 0) ≡ false → P (Tell (TheReason cand p))) → P (judge_why known prog chosen published by cand)
  why_keeps known prog chosen published by cand tells =
      refused_unless known UnknownCandidate _ (λ e.
      programme_keeps prog _ (λ p is.
      refused_or (not (may_ask by cand)) (Denied 3) _ (λ f.
      refused_or (not chosen) NotChosen _ (λ f.
      refused_or (published == 0) (NoSuchRound published) (Tell (TheReason cand p)) (tells e p is)))))

  pub list_keeps : (question : ProgId → Question) (prog : Option ProgId) (published number : ℕ)
      → ((p : ProgId) → prog ≡ Some p → (number == 0 || nat_lt published number) ≡ false → P (Tell (question p))) → P (judge_list (option_map question prog) published number)
  list_keeps question None published number tells = refused UnknownProgramme
  list_keeps question (Some p) published number tells = refused_or (number == 0 || nat_lt published number) (NoSuchRound published) (Tell (question p)) (tells p refl)

  pub round_keeps : (cuts published number : ℕ) → ((number == 0 || nat_lt cuts number) ≡ false → P (Tell (TheRound number))) → P (judge_round cuts published number)
  round_keeps cuts published number tells = refused_or (number == 0 || nat_lt cuts number) (NoSuchRound published) (Tell (TheRound number)) tells

  -- a question about a programme in a round, where both are there
  list_there : (facts : SeasonFacts) (state : State) (number : ℕ) (code : List ℕ) (question : ProgId → Question)
      → ((p : ProgId) → (0 < number) × (number ≤ length state.rounds) × (p.0 < length facts.matrix.programmes) → P (Tell (question p)))
      → P (judge_list (option_map question (find_programme facts code)) (length state.rounds) number)
  list_there facts state number code question tells =
      list_keeps question (find_programme facts code) (length state.rounds) number
      (λ p found within. let both = or_parts (number == 0) (nat_lt (length state.rounds) number) within in
      tells p (not_zero number both.0, ltb-false (length state.rounds) number both.1, (was_found facts code p found).below))

  -- what a question comes to; where it is answered, what it names is there
  pub question_there : (facts : SeasonFacts) (state : State) (by : By) (ask : Ask) → is_question ask ≡ true → ((question : Question) → IsThere facts state question → P (Tell question))
      → P (decided_by facts state by ask)
  question_there facts state by (AskSeat cand) is tells = own_keeps (is_known facts cand) by cand (TheSeat cand) (λ known. tells (TheSeat cand) known)
  question_there facts state by (Why cand code) is tells =
      why_keeps (is_known facts cand) (find_programme facts code) (is_chosen_by facts cand (find_programme facts code)) (length state.rounds) by cand
      (λ known p found some. tells (TheReason cand p) (known, (was_found facts code p found).below, not_zero (length state.rounds) some))
  question_there facts state by (AskList number code) is tells = list_there facts state number code (λ p. TheList number p) (λ p there. tells (TheList number p) there)
  question_there facts state by (AskCutoffs number code) is tells = list_there facts state number code (λ p. TheCutoffs number p) (λ p there. tells (TheCutoffs number p) there)
  question_there facts state by (AskRegister cand) is tells = own_keeps (is_known facts cand) by cand (TheRegister cand) (λ known. tells (TheRegister cand) known)
  question_there facts state by (AskAnswers cand) is tells = own_keeps (is_known facts cand) by cand (TheAnswers cand) (λ known. tells (TheAnswers cand) known)
  question_there facts state by (AskRound number) is tells = round_keeps state.now (length state.rounds) number (λ within. tells (TheRound number) tt)
  question_there facts state by (AskChoices cand) is tells = own_keeps (is_known facts cand) by cand (TheChoices cand) (λ known. tells (TheChoices cand) tt)
  question_there facts state by AskState is tells = tells TheState tt
  question_there facts state by _ is tells = absurd (cc)

  pub question_keeps : (facts : SeasonFacts) (state : State) (by : By) (ask : Ask) → is_question ask ≡ true → ((question : Question) → P (Tell question)) → P (decided_by facts state by ask)
  question_keeps facts state by ask is tells = question_there facts state by ask is (λ question there. tells question)

-- no question is newly accepted
pub question_old : (facts : SeasonFacts) (state : State) (now : ℕ) (by : By) (ask : Ask) → is_question ask ≡ true → newly now (decided_by facts state by ask) ≡ None
question_old facts state now by ask is = question_keeps (λ d. newly now d ≡ None) (λ r. refl) facts state by ask is (λ question. refl)

-- what a decision names is there: the programme of a raise, and what a question names
abbrev pub NamesThere : SeasonFacts → State → Decision → Type 0
NamesThere facts state (RaisedAgain row) = row.prog.0 < length facts.matrix.programmes
NamesThere facts state (Lift row) = row.prog.0 < length facts.matrix.programmes
NamesThere facts state (Tell question) = IsThere facts state question
NamesThere facts state _ = Unit {0}

-- What a request comes to names what is there. So what holds of every such decision holds of what a request comes to.
pub decided_there : (facts : SeasonFacts) (state : State) (by : By) (ask : Ask) → NamesThere facts state (decided_by facts state by ask)
decided_there facts state by ask =
    let P : Decision → Type 0 = NamesThere facts state in
    by_kind (λ a. P (decided_by facts state by a))
    (λ cand window turn choice. let row : AnswerRow = record { window = window; cand = cand; turn = turn; choice = choice } in
    answer_keeps P (λ r. tt) (answer_facts facts (view_of state cand.0) row) by row tt tt)
    (λ window. cut_keeps P (λ r. tt) by state.now facts.rounds window tt tt tt)
    (λ window code step seats. programme_keeps P (λ r. tt) (find_programme facts code) _
    (λ p found. let row : RaiseRow = record { window = window; prog = p; step = step; seats = seats } in
    let below = (was_found facts code p found).below in
    raise_keeps P (λ r. tt) (raise_facts facts state row) by row below below))
    (λ a is. question_there P (λ r. tt) facts state by a is (λ question there. there)) ask

-- a question that a request comes to names what is there
pub told_there : (facts : SeasonFacts) (state : State) (request : Request) (question : Question) → decided facts state request ≡ Tell question → IsThere facts state question
told_there facts state request question e = subst (λ d. NamesThere facts state d) e (decided_there facts state request.by request.ask)
