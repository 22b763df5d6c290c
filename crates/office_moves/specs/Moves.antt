-- A move of the office: a request in a state leads to a reply and the next state.
use Rattle.std.specs.Prelude.{◌≡◌, ◌+◌, ℕ, zero, suc, nat_lt, List, [], ◌∷◌, ◌++◌, Option, Some, None, length, map, option_map, slice_get, if◌then◌else◌}
use Rattle.std.specs.Option.{unwrap_or}
use Rattle.office_asks.specs.declared.ask.Request.{Request}
use Rattle.office_base.specs.declared.seat.Seat.{Seat}
use Rattle.office_base.specs.declared.person.CandId.{CandId}
use Rattle.office_base.specs.declared.person.Person.{Person}
use Rattle.office_base.specs.declared.person.ProgId.{ProgId}
use Rattle.kept_rows.specs.declared.rows.AllotRow.{AllotRow}
use Rattle.kept_rows.specs.declared.rows.AnswerRow.{AnswerRow}
use Rattle.kept_rows.specs.declared.rows.RaiseRow.{RaiseRow}
use Rattle.allocations.specs.Market.{place_of}
use Rattle.rank_lists.specs.Register.{find_person}
use Rattle.choice_lists.specs.Choices.{list_of}
use Rattle.seat_matrix.specs.Matrix.{seats_in}
use Rattle.programme_lists.specs.declared.programme.Programme.{Programme}
use Rattle.list_cutoffs.specs.Cutoffs.{AreCutoffsIn}
use Rattle.list_cutoffs.specs.declared.cutoffs.StepCutoff.{StepCutoff}
use Rattle.seeks.specs.declared.seek.Seek.{Seek}
use Rattle.rounds.specs.Round.{IsRound, seated}
use Rattle.kept_seats.specs.Kept.{Guarantees}
use Rattle.rounds.specs.Rule.{guarantees}
use Rattle.rounds.specs.declared.round.Round.{Round}
use Rattle.round_options.specs.Options.{holds, seek_after}
use Rattle.round_options.specs.declared.standing.Standing.{Standing}
use Rattle.round_options.specs.declared.standing.Standing.TheVariants.{Waiting, Offered, Freeze, Float, Slide, Withdrawn, NoShow}
use Rattle.office_moves.specs.Facts.{SeasonFacts, lists_in_order}
use Rattle.office_moves.specs.State.{State, View, in_window, last_seat, round_at, seat_of, standing_at, view_of, with_finals, with_raise, with_round, with_row}
use Rattle.office_moves.specs.Raised.{matrix_at}
use Rattle.office_moves.specs.Decided.{decided}
use Rattle.office_moves.specs.Why.{why_answer}
use Rattle.office_moves.specs.declared.decide.Decision.{Decision}
use Rattle.office_moves.specs.declared.decide.Decision.TheVariants.{Refuse, NotedAgain, RaisedAgain, CutAgain, Note, Lift, Publish, Finish, Tell}
use Rattle.office_moves.specs.declared.decide.Question.{Question}
use Rattle.office_moves.specs.declared.decide.Question.TheVariants.{Seat as TheSeat, Why as TheReason, List as TheList, Round as TheRound, Choices as TheChoices, Cutoffs as TheCutoffs, Register as TheRegister, Answers as TheAnswers, State as TheState}
use Rattle.office_moves.specs.declared.moves.Reply.{Reply}
use Rattle.office_moves.specs.declared.moves.Reply.TheVariants.{Noted, Raised, Published, Final, SeatIs, WhyIs, ListIs, RoundIs, ChoicesAre, CutoffsAre, RegisterIs, AnswersAre, StateIs, Refused}

-- ---- the next round

-- what a candidate seeks next, by the standing and the place of the seat in the choice list
abbrev pub next_seek : SeasonFacts → State → ℕ → Seek
next_seek facts state id =
    seek_after (standing_at facts (view_of state id) id state.now) (option_map (λ seat. place_of (list_of facts.lists id) seat.prog.0) (last_seat facts state.rounds id))

-- what everybody seeks next, along the people
abbrev pub next_seeks : SeasonFacts → State → List Seek
next_seeks facts state = map (λ person. next_seek facts state person.id.0) facts.people

-- the seat that a candidate keeps at the next cut, and with which the candidate ends at the last one: the last seat, where the standing is freeze, float or slide
abbrev pub final_seat : SeasonFacts → State → ℕ → Option Seat
final_seat facts state id = if holds (standing_at facts (view_of state id) id state.now) then last_seat facts state.rounds id else None

-- the programmes of the seats that are kept, along the people
abbrev pub kept_programmes : SeasonFacts → State → List (Option ProgId)
kept_programmes facts state = map (λ person. option_map (λ seat. seat.prog) (final_seat facts state person.id.0)) facts.people

-- who keeps a seat is guaranteed one of its programme in the next round
abbrev pub guaranteed_next : SeasonFacts → State → Guarantees
guaranteed_next facts state = guarantees facts.people (kept_programmes facts state)

-- The round may follow: it is the one after those published, by the raised matrix, on what everybody seeks next, with a seat guaranteed to whoever keeps one.
abbrev pub IsNextRound : SeasonFacts → State → Round → Type 0
IsNextRound facts state round =
    IsRound facts.version (guaranteed_next facts state) (matrix_at facts state) facts.people (lists_in_order facts) (state.now + 1) (next_seeks facts state) round

-- ---- the final rows

-- the row of a seat before others
abbrev pub row_before : ℕ → CandId → Option Seat → List AllotRow → List AllotRow
row_before number cand None rows = rows
row_before number cand (Some seat) rows = record { round = number; cand = cand; prog = seat.prog; step = seat.step } ∷ rows

-- the rows of a round of this number, one for each of the people who has a seat
abbrev pub rows_along : ℕ → (ℕ → Option Seat) → List Person → List AllotRow
rows_along number seat [] = []
rows_along number seat (person ∷ people) = row_before number person.id (seat person.id.0) (rows_along number seat people)

-- the final rows, whose round is one more than the number of rounds
abbrev pub final_rows : SeasonFacts → State → List AllotRow
final_rows facts state = rows_along (facts.rounds + 1) (final_seat facts state) facts.people

-- the rows of a round that was published
abbrev pub allot_rows : SeasonFacts → Round → List AllotRow
allot_rows facts round = rows_along round.number (seat_of facts (Some round)) facts.people

-- ---- replies

abbrev pub noted : AnswerRow → Reply
noted row = Noted row.cand row.window row.turn row.choice

abbrev pub raised_reply : RaiseRow → Reply
raised_reply row = Raised row.window row.prog row.step row.seats

-- how many have a seat in a round
abbrev pub seated_in : Option Round → ℕ
seated_in None = 0
seated_in (Some round) = seated round.seats

-- the receipt of the cut of a window that is over
abbrev pub receipt : SeasonFacts → State → ℕ → Reply
receipt facts state window =
    if nat_lt window facts.rounds then Published (window + 1) (seated_in (round_at state.rounds (window + 1)))
    else Final (unwrap_or (option_map (λ rows. length rows) state.finals) 0)

-- the seat that a reply gives: the candidate's seat if they are offered it or keep it, otherwise none
abbrev pub told_seat : Standing → Option Seat → Option Seat
told_seat Waiting seat = None
told_seat Offered seat = seat
told_seat Freeze seat = seat
told_seat Float seat = seat
told_seat Slide seat = seat
told_seat Withdrawn seat = None
told_seat NoShow seat = None

-- the standing of a candidate, with the seat of the last published round
abbrev pub seat_reply : SeasonFacts → View → CandId → Reply
seat_reply facts view cand =
    SeatIs cand (length view.rounds) (standing_at facts view cand.0 view.now) (told_seat (standing_at facts view cand.0 view.now) (last_seat facts view.rounds cand.0))

-- why, by the last published round
abbrev pub why_reply : SeasonFacts → View → CandId → ProgId → Reply
why_reply facts view cand prog = WhyIs cand prog (why_answer facts (round_at view.rounds (length view.rounds)) cand prog)

-- the rows of the first windows, so many, one window after another
abbrev pub in_windows : ℕ → List AnswerRow → List AnswerRow
in_windows zero rows = []
in_windows (suc window) rows = in_windows window rows ++ in_window window rows

-- the candidate's answers in all windows of the season; their numbers are from 0 to the number of rounds
abbrev pub answers_reply : SeasonFacts → View → CandId → Reply
answers_reply facts view cand = AnswersAre cand (in_windows (suc facts.rounds) view.rows)

-- how far the office is
abbrev pub state_reply : SeasonFacts → State → Reply
state_reply facts state = StateIs state.now facts.rounds (length state.rounds)

-- the programme of this number in a round
abbrev pub programme_in : Option Round → ℕ → Option Programme
programme_in None prog = None
programme_in (Some round) prog = slice_get round.programmes prog

-- The reply to a question in a state. The number of a round names what its cut published: the round, or the final admissions.
-- Cutoffs are those of the published lists. Of the matrix they look at merit lists and protections alone, which no raise changes.
abbrev pub Tells : SeasonFacts → State → Question → Reply → Type 0
Tells facts state (TheSeat cand) reply = reply ≡ seat_reply facts (view_of state cand.0) cand
Tells facts state (TheReason cand prog) reply = reply ≡ why_reply facts (view_of state cand.0) cand prog
Tells facts state (TheList number prog) reply = (programme : Programme) × (programme_in (round_at state.rounds number) prog.0 ≡ Some programme) × (reply ≡ ListIs number prog programme)
Tells facts state (TheRound number) reply = reply ≡ RoundIs number
Tells facts state (TheChoices cand) reply = reply ≡ ChoicesAre cand (list_of facts.lists cand.0)
Tells facts state (TheCutoffs number prog) reply = (programme : Programme) × (lines : List StepCutoff) × (programme_in (round_at state.rounds number) prog.0 ≡ Some programme)
    × AreCutoffsIn (seats_in facts.matrix prog.0) programme.steps lines × (reply ≡ CutoffsAre number prog lines)
Tells facts state (TheRegister cand) reply = option_map (λ person. RegisterIs person) (find_person cand.0 facts.people) ≡ Some reply
Tells facts state (TheAnswers cand) reply = reply ≡ answers_reply facts (view_of state cand.0) cand
Tells facts state TheState reply = reply ≡ state_reply facts state

-- ---- moves

-- What a decision does to a state. All but an accepted answer, an accepted raise and an accepted cut leave it.
abbrev pub Does : SeasonFacts → State → Decision → Reply → State → Type 0
Does facts old (Refuse refusal) reply new = (reply ≡ Refused refusal) × (new ≡ old)
Does facts old (NotedAgain row) reply new = (reply ≡ noted row) × (new ≡ old)
Does facts old (RaisedAgain row) reply new = (reply ≡ raised_reply row) × (new ≡ old)
Does facts old (CutAgain window) reply new = (reply ≡ receipt facts old window) × (new ≡ old)
Does facts old (Note row) reply new = (reply ≡ noted row) × (new ≡ with_row old row)
Does facts old (Lift row) reply new = (reply ≡ raised_reply row) × (new ≡ with_raise old row)
Does facts old Publish reply new = (round : Round) × IsNextRound facts old round × (reply ≡ Published (old.now + 1) (seated round.seats)) × (new ≡ with_round old round)
Does facts old Finish reply new = (reply ≡ Final (length (final_rows facts old))) × (new ≡ with_finals old (final_rows facts old))
Does facts old (Tell question) reply new = Tells facts old question reply × (new ≡ old)

-- A request in a state leads to this reply and this state.
abbrev pub IsMove : SeasonFacts → State → Request → Reply → State → Type 0
IsMove facts old request reply new = Does facts old (decided facts old request) reply new
