-- What a request comes to, from what it is judged by: each refusal at its place, in the order in which they are tried.
use Rattle.std.specs.Prelude.{◌+◌, ◌-◌, ℕ, Bool, true, false, not, ◌||◌, ◌&&◌, ◌==◌, nat_le, nat_lt, Option, Some, None, if◌then◌else◌}
use Rattle.office_base.specs.Limits.{most_matrix_seats, most_step_seats, most_turns}
use Rattle.office_asks.specs.declared.ask.By.{By}
use Rattle.office_asks.specs.declared.ask.By.TheVariants.{Clerk, Candidate, Nobody}
use Rattle.office_base.specs.declared.choice.Choice.{Choice}
use Rattle.office_base.specs.declared.choice.Choice.TheVariants.{Freeze as ToFreeze, Float as ToFloat, Slide as ToSlide, Withdraw as ToWithdraw}
use Rattle.office_base.specs.declared.person.CandId.{CandId}
use Rattle.office_base.specs.declared.person.ProgId.{ProgId}
use Rattle.seat_matrix.specs.Seats.{is_dereserved}
use Rattle.kept_rows.specs.declared.rows.AnswerRow.{AnswerRow}
use Rattle.kept_rows.specs.declared.rows.RaiseRow.{RaiseRow}
use Rattle.round_options.specs.Options.{may_follow}
use Rattle.round_options.specs.declared.standing.Standing.{Standing}
use Rattle.round_options.specs.declared.standing.Standing.TheVariants.{Waiting, Offered, Freeze, Float, Slide, Withdrawn, NoShow}
use Rattle.office_moves.specs.declared.decide.AnswerFacts.{AnswerFacts}
use Rattle.office_moves.specs.declared.decide.Decision.{Decision}
use Rattle.office_moves.specs.declared.decide.Decision.TheVariants.{Refuse, NotedAgain, RaisedAgain, CutAgain, Note, Lift, Publish, Finish, Tell}
use Rattle.office_moves.specs.declared.decide.Question.{Question}
use Rattle.office_moves.specs.declared.decide.Question.TheVariants.{Why as TheReason, Round as TheRound}
use Rattle.office_moves.specs.declared.decide.RaiseFacts.{RaiseFacts}
use Rattle.office_moves.specs.declared.refusal.Refusal.{Refusal}
use Rattle.office_moves.specs.declared.refusal.Refusal.TheVariants.{UnknownCandidate, UnknownProgramme, Denied, TurnUsed, Late, Ahead, Gap, Gone, NoSeat, Widening, TooManyTurns, NotChosen, NoSuchRound, LastWindow, StepFixed, Falling, SeatLimit}

-- the refusal where the test holds, else what follows
abbrev pub refuse_if : Bool → Refusal → Decision → Decision
refuse_if true refusal rest = Refuse refusal
refuse_if false refusal rest = rest

-- the refusal, where there is one, else what follows
abbrev pub refuse_as : Option Refusal → Decision → Decision
refuse_as None rest = rest
refuse_as (Some refusal) rest = Refuse refusal

-- the refusal of a window that is over, or not open yet, or none of the season
abbrev pub not_open : ℕ → ℕ → ℕ → Option Refusal
not_open now rounds window = if nat_lt window now then Some (Late now) else if nat_lt now window || nat_lt rounds window then Some (Ahead now) else None

-- ---- who asks

abbrev pub is_clerk : By → Bool
is_clerk Clerk = true
is_clerk (Candidate id) = false
is_clerk Nobody = false

abbrev pub is_candidate : By → CandId → Bool
is_candidate Clerk cand = false
is_candidate (Candidate id) cand = id.0 == cand.0
is_candidate Nobody cand = false

-- the candidate and the clerk may ask about the candidate
abbrev pub may_ask : By → CandId → Bool
may_ask by cand = is_clerk by || is_candidate by cand

-- ---- words on answers

abbrev pub is_withdraw : Choice → Bool
is_withdraw ToFreeze = false
is_withdraw ToFloat = false
is_withdraw ToSlide = false
is_withdraw ToWithdraw = true

abbrev pub same_choice : Choice → Choice → Bool
same_choice ToFreeze ToFreeze = true
same_choice ToFloat ToFloat = true
same_choice ToSlide ToSlide = true
same_choice ToWithdraw ToWithdraw = true
same_choice _ _ = false

-- the candidate is out
abbrev pub is_gone : Standing → Bool
is_gone Waiting = false
is_gone Offered = false
is_gone Freeze = false
is_gone Float = false
is_gone Slide = false
is_gone Withdrawn = true
is_gone NoShow = true

-- The answer that led to a standing. A waiting candidate has none.
-- The refusal that names the answer never reaches them, because they have no seat.
abbrev pub choice_of : Standing → Choice
choice_of Waiting = ToFloat
choice_of Offered = ToFloat
choice_of Freeze = ToFreeze
choice_of Float = ToFloat
choice_of Slide = ToSlide
choice_of Withdrawn = ToWithdraw
choice_of NoShow = ToWithdraw

-- ---- an answer

-- what comes of an answer of the open window whose turn is the next one
abbrev pub judge_next_answer : AnswerFacts → AnswerRow → Decision
judge_next_answer looks row =
    refuse_if (is_gone looks.standing) (Gone looks.standing)
    (refuse_if (not looks.seated && not (is_withdraw row.choice)) NoSeat
    (refuse_if (not (may_follow looks.left row.choice)) (Widening (choice_of looks.left))
    (refuse_if (nat_lt most_turns row.turn && not (is_withdraw row.choice)) TooManyTurns
    (Note row))))

-- what comes of an answer whose window and turn were not accepted before
abbrev pub judge_new_answer : AnswerFacts → AnswerRow → Decision
judge_new_answer looks row =
    refuse_as (not_open looks.window looks.rounds row.window)
    (refuse_if (not (row.turn == looks.last + 1)) (Gap looks.last)
    (judge_next_answer looks row))

-- where the window and turn were accepted before, the receipt again, or the choice that is kept
abbrev pub once_more : Option Choice → AnswerRow → Decision → Decision
once_more None row rest = rest
once_more (Some kept) row rest = if same_choice kept row.choice then NotedAgain row else Refuse (TurnUsed kept)

-- what comes of an answer
abbrev pub judge_answer : AnswerFacts → By → AnswerRow → Decision
judge_answer looks by row =
    refuse_if (not looks.known) UnknownCandidate
    (refuse_if (not (is_candidate by row.cand)) (Denied 1)
    (once_more looks.kept row
    (judge_new_answer looks row)))

-- ---- a cut

-- what comes of the cut of a window, by the one that is open and the rounds of the season
abbrev pub judge_cut : By → ℕ → ℕ → ℕ → Decision
judge_cut by now rounds window =
    refuse_if (not (is_clerk by)) (Denied 2)
    (if nat_lt window now then CutAgain window
    else refuse_if (nat_lt now window || nat_lt rounds window) (Ahead now)
    (if window == rounds then Finish else Publish))

-- ---- questions

-- a programme of the matrix, or the refusal that there is none of the code
abbrev pub with_programme : Option ProgId → (ProgId → Decision) → Decision
with_programme None rest = Refuse UnknownProgramme
with_programme (Some prog) rest = rest prog

-- what comes of a question that only the candidate and the clerk may ask
abbrev pub judge_own : Bool → By → CandId → Question → Decision
judge_own known by cand question = refuse_if (not known) UnknownCandidate (refuse_if (not (may_ask by cand)) (Denied 3) (Tell question))

-- by whether the candidate is known, the programme of the code, whether it is on the candidate's choice list, and the number of published rounds
abbrev pub judge_why : Bool → Option ProgId → Bool → ℕ → By → CandId → Decision
judge_why known prog chosen published by cand =
    refuse_if (not known) UnknownCandidate
    (with_programme prog (λ prog.
    refuse_if (not (may_ask by cand)) (Denied 3)
    (refuse_if (not chosen) NotChosen
    (refuse_if (published == 0) (NoSuchRound published)
    (Tell (TheReason cand prog))))))

-- by the question about a programme in a round, if the code is one of the matrix, and the number of published rounds
abbrev pub judge_list : Option Question → ℕ → ℕ → Decision
judge_list None published round = Refuse UnknownProgramme
judge_list (Some question) published round = refuse_if (round == 0 || nat_lt published round) (NoSuchRound published) (Tell question)

-- by the number of cuts, each of which published a text, and the number of published rounds
abbrev pub judge_round : ℕ → ℕ → ℕ → Decision
judge_round cuts published round = refuse_if (round == 0 || nat_lt cuts round) (NoSuchRound published) (Tell (TheRound round))

-- ---- a raise

-- what comes of a raise of the open window, by its seats
abbrev pub judge_new_seats : RaiseFacts → RaiseRow → Decision
judge_new_seats looks row =
    refuse_if (is_dereserved row.step) StepFixed
    (refuse_if (nat_le row.seats looks.seats) (Falling looks.seats)
    (refuse_if (nat_lt most_step_seats row.seats || nat_lt most_matrix_seats (looks.total - looks.seats + row.seats)) (SeatLimit looks.total)
    (Lift row)))

-- what comes of a raise of a programme of the matrix
abbrev pub judge_raise : RaiseFacts → By → RaiseRow → Decision
judge_raise looks by row =
    refuse_if (not (is_clerk by)) (Denied 4)
    (if looks.again then RaisedAgain row
    else refuse_as (not_open looks.window looks.rounds row.window)
    (refuse_if (row.window == looks.rounds) LastWindow
    (judge_new_seats looks row)))
