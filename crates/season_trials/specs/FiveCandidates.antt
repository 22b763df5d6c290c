-- A season of five candidates for four programmes of one open seat each, and scripts of it.
use Rattle.std.specs.Prelude.{◌≡◌, ℕ, List, [], ◌∷◌, ◌++◌, Option, Some, None, codes}
use Rattle.office_asks.specs.declared.ask.Ask.TheVariants.{Answer, Cut, Seat as AskSeat, Why, State as AskState, Raise}
use Rattle.office_asks.specs.declared.ask.By.{By}
use Rattle.office_asks.specs.declared.ask.By.TheVariants.{Clerk, Candidate, Nobody}
use Rattle.office_base.specs.declared.choice.Choice.{Choice}
use Rattle.office_base.specs.declared.choice.Choice.TheVariants.{Freeze, Float, Slide, Withdraw}
use Rattle.office_asks.specs.declared.ask.Request.{Request}
use Rattle.office_base.specs.declared.seat.Seat.{Seat}
use Rattle.office_base.specs.declared.seat.SeatKind.TheVariants.{Under}
use Rattle.office_base.specs.declared.person.CandId.{CandId}
use Rattle.office_base.specs.declared.person.Category.TheVariants.{Gen}
use Rattle.office_base.specs.declared.person.Person.{Person}
use Rattle.office_base.specs.declared.person.Place.TheVariants.{Absent, Common}
use Rattle.office_base.specs.declared.person.ProgId.{ProgId}
use Rattle.office_base.specs.declared.step.StepKind.TheVariants.{Open}
use Rattle.kept_rows.specs.declared.rows.AllotRow.{AllotRow}
use Rattle.seat_matrix.specs.Seats.{no_protections, no_seatings, with_seating}
use Rattle.seat_matrix.specs.declared.entry.Home.{Home}
use Rattle.seat_matrix.specs.declared.seats.Seatings.{Seatings}
use Rattle.seeks.specs.declared.seek.Seek.{Seek}
use Rattle.seeks.specs.declared.seek.Seek.TheVariants.{Whole, UpTo, Within, Nothing}
use Rattle.reasons.specs.declared.reason.WhyAnswer.TheVariants.{NotSought}
use Rattle.rounds.specs.declared.round.Round.{Round}
use Rattle.round_options.specs.declared.standing.Standing.TheVariants.{NoShow, Offered, Withdrawn}
use Rattle.office_moves.specs.Facts.{SeasonFacts}
use Rattle.office_moves.specs.Moves.{next_seeks}
use Rattle.office_moves.specs.declared.moves.Reply.{Reply}
use Rattle.office_moves.specs.declared.moves.Reply.TheVariants.{Noted, Raised, Published, Final, SeatIs, WhyIs, StateIs, Refused}
use Rattle.office_moves.specs.declared.refusal.Refusal.{Refusal}
use Rattle.office_moves.specs.declared.refusal.Refusal.TheVariants.{TurnUsed, Late, Ahead, Gap, Gone, NoSeat, Widening, TooManyTurns, Denied, Falling, LastWindow}
use Rattle.season_trials.specs.Run.{run_of}

-- ---- the season

abbrev pub cand : ℕ → CandId
cand id = record { 0 = id }

abbrev pub prog : ℕ → ProgId
prog n = record { 0 = n }

abbrev pub person : ℕ → Person
person id = record { id = cand id; category = Gen; traits = record { 0 = 0 }; places = Common id ∷ Absent ∷ Absent ∷ Absent ∷ [] }

abbrev pub home : List ℕ → Home
home institute = record { institute = institute; list = record { 0 = 1 } }

abbrev pub one_seat : Seatings
one_seat = with_seating no_seatings Open (record { seats = 1; protections = no_protections })

abbrev pub season : SeasonFacts
season = record {
  version = 1;
  rounds = 2;
  clerk = codes "clerk0001";
  people = person 1 ∷ person 2 ∷ person 3 ∷ person 4 ∷ person 5 ∷ [];
  holders = [];
  matrix = record {
    programmes = (codes "A", home (codes "I1")) ∷ (codes "B", home (codes "I2")) ∷ (codes "C", home (codes "I2")) ∷ (codes "E", home (codes "I3")) ∷ [];
    steps = one_seat ∷ one_seat ∷ one_seat ∷ one_seat ∷ [];
  };
  lists = (1, prog 0 ∷ []) ∷ (2, prog 0 ∷ prog 1 ∷ []) ∷ (3, prog 1 ∷ prog 2 ∷ []) ∷ (4, prog 2 ∷ prog 3 ∷ []) ∷ (5, prog 3 ∷ []) ∷ [];
  text = [];
}

-- ---- rounds, requests and replies

abbrev pub seat : ℕ → Option Seat
seat n = Some (record { prog = prog n; step = Under Open })

abbrev pub round : ℕ → List Seek → List (Option Seat) → Round
round number seeks seats = record { number = number; seeks = seeks; seats = seats; programmes = [] }

abbrev pub first : Round
first = round 1 (Whole ∷ Whole ∷ Whole ∷ Whole ∷ Whole ∷ []) (seat 0 ∷ seat 1 ∷ seat 2 ∷ seat 3 ∷ None ∷ [])

abbrev pub cut : ℕ → Request
cut window = record { by = Clerk; ask = Cut window }

abbrev pub answer : ℕ → ℕ → ℕ → Choice → Request
answer id window turn choice = record { by = Candidate (cand id); ask = Answer (cand id) window turn choice }

abbrev pub raise : By → ℕ → ℕ → Request
raise by window seats = record { by = by; ask = Raise window (codes "A") Open seats }

abbrev pub refused : Refusal → Reply
refused refusal = Refused refusal

-- ---- before the first round: nobody has a seat yet, and a withdrawal is final

abbrev pub BeforeTheFirstRound : Type 0
BeforeTheFirstRound =
    (run_of season [] (answer 2 0 1 Float ∷ answer 2 0 1 Withdraw ∷ answer 2 0 1 Withdraw ∷ answer 2 0 2 Withdraw ∷ [])).replies
    ≡ refused (Gone Withdrawn) ∷ Noted (cand 2) 0 1 Withdraw ∷ Noted (cand 2) 0 1 Withdraw ∷ refused NoSeat ∷ []

-- ---- everybody moves up

abbrev pub floats : List Request
floats = cut 0 ∷ answer 1 1 1 Withdraw ∷ answer 2 1 1 Float ∷ answer 3 1 1 Float ∷ answer 4 1 1 Float ∷ []

abbrev pub moved_up : Round
moved_up = round 2 (Nothing ∷ UpTo 1 ∷ UpTo 1 ∷ UpTo 1 ∷ Whole ∷ []) (None ∷ seat 0 ∷ seat 1 ∷ seat 2 ∷ seat 3 ∷ [])

abbrev pub EverybodyMovesUp : Type 0
EverybodyMovesUp =
    (next_seeks season (run_of season (first ∷ []) floats).state ≡ moved_up.seeks)
    × ((run_of season (first ∷ moved_up ∷ []) (floats ++ cut 1 ∷ cut 0 ∷ cut 1 ∷ [])).replies
    ≡ Published 2 4 ∷ Published 1 4 ∷ Published 2 4 ∷ Noted (cand 4) 1 1 Float ∷ Noted (cand 3) 1 1 Float ∷ Noted (cand 2) 1 1 Float ∷ Noted (cand 1) 1 1 Withdraw ∷ Published 1 4 ∷ [])

-- ---- slide stays in the institute

abbrev pub slides : List Request
slides = cut 0 ∷ answer 1 1 1 Withdraw ∷ answer 2 1 1 Slide ∷ answer 3 1 1 Float ∷ answer 4 1 1 Float ∷ []

abbrev pub stayed : Round
stayed = round 2 (Nothing ∷ Within 1 ∷ UpTo 1 ∷ UpTo 1 ∷ Whole ∷ []) (None ∷ seat 1 ∷ seat 2 ∷ seat 3 ∷ None ∷ [])

abbrev pub SlideStays : Type 0
SlideStays =
    (next_seeks season (run_of season (first ∷ []) slides).state ≡ stayed.seeks)
    × ((run_of season (first ∷ stayed ∷ []) (slides ++ cut 1 ∷ record { by = Candidate (cand 2); ask = Why (cand 2) (codes "A") } ∷ answer 2 2 1 Float ∷ [])).replies
    ≡ refused (Widening Slide) ∷ WhyIs (cand 2) (prog 0) NotSought ∷ Published 2 3 ∷ Noted (cand 4) 1 1 Float ∷ Noted (cand 3) 1 1 Float ∷ Noted (cand 2) 1 1 Slide ∷ Noted (cand 1) 1 1 Withdraw
    ∷ Published 1 4 ∷ [])

-- ---- a first seat that is not answered is lost, and a candidate who waits stays in

abbrev pub three_answer : List Request
three_answer = cut 0 ∷ answer 1 1 1 Withdraw ∷ answer 2 1 1 Float ∷ answer 3 1 1 Float ∷ []

abbrev pub without_four : Round
without_four = round 2 (Nothing ∷ UpTo 1 ∷ UpTo 1 ∷ Nothing ∷ Whole ∷ []) (None ∷ seat 0 ∷ seat 1 ∷ None ∷ seat 3 ∷ [])

abbrev pub asked_seat : By → ℕ → Request
asked_seat by id = record { by = by; ask = AskSeat (cand id) }

abbrev pub state_row : Request
state_row = record { by = Nobody; ask = AskState }

abbrev pub final_row : ℕ → ℕ → AllotRow
final_row id n = record { round = 3; cand = cand id; prog = prog n; step = Under Open }

abbrev pub NoShowIsLost : Type 0
NoShowIsLost =
    (next_seeks season (run_of season (first ∷ []) three_answer).state ≡ without_four.seeks)
    × ((run_of season (first ∷ without_four ∷ []) (three_answer ++ cut 1 ∷ asked_seat (Candidate (cand 4)) 4 ∷ asked_seat Clerk 5 ∷ cut 2 ∷ state_row ∷ cut 3 ∷ cut 2 ∷ [])).replies
    ≡ Final 2 ∷ refused (Ahead 3) ∷ StateIs 3 2 2 ∷ Final 2 ∷ SeatIs (cand 5) 2 Offered (seat 3) ∷ SeatIs (cand 4) 2 NoShow None ∷ Published 2 3 ∷ Noted (cand 3) 1 1 Float
    ∷ Noted (cand 2) 1 1 Float ∷ Noted (cand 1) 1 1 Withdraw ∷ Published 1 4 ∷ [])
    × ((run_of season (first ∷ without_four ∷ []) (three_answer ++ cut 1 ∷ cut 2 ∷ [])).state.finals ≡ Some (final_row 2 0 ∷ final_row 3 1 ∷ []))

-- ---- turns

abbrev pub sixteen : List Request
sixteen =
    answer 2 2 1 Float ∷ answer 2 2 2 Float ∷ answer 2 2 3 Float ∷ answer 2 2 5 Float ∷ answer 2 2 4 Float ∷ answer 2 2 5 Float ∷ answer 2 2 6 Float ∷ answer 2 2 7 Float ∷ answer 2 2 8 Float
    ∷ answer 2 2 9 Float ∷ answer 2 2 10 Float ∷ answer 2 2 11 Float ∷ answer 2 2 12 Float ∷ answer 2 2 13 Float ∷ answer 2 2 14 Float ∷ answer 2 2 15 Float ∷ answer 2 2 16 Float
    ∷ answer 2 2 17 Float ∷ answer 2 2 17 Withdraw ∷ []

abbrev pub noted_two : ℕ → Reply
noted_two turn = Noted (cand 2) 2 turn Float

abbrev pub Turns : Type 0
Turns =
    ((run_of season (first ∷ moved_up ∷ []) (floats ++ cut 1 ∷ answer 2 1 1 Float ∷ answer 2 1 1 Freeze ∷ answer 2 1 2 Freeze ∷ answer 2 9 1 Float ∷ [])).replies
    ≡ refused (Ahead 2) ∷ refused (Late 2) ∷ refused (TurnUsed Float) ∷ Noted (cand 2) 1 1 Float ∷ (run_of season (first ∷ moved_up ∷ []) (floats ++ cut 1 ∷ [])).replies)
    × ((run_of season (first ∷ moved_up ∷ []) (floats ++ (cut 1 ∷ sixteen))).replies
    ≡ Noted (cand 2) 2 17 Withdraw ∷ refused TooManyTurns ∷ noted_two 16 ∷ noted_two 15 ∷ noted_two 14 ∷ noted_two 13 ∷ noted_two 12 ∷ noted_two 11 ∷ noted_two 10 ∷ noted_two 9
    ∷ noted_two 8 ∷ noted_two 7 ∷ noted_two 6 ∷ noted_two 5 ∷ noted_two 4 ∷ refused (Gap 3) ∷ noted_two 3 ∷ noted_two 2 ∷ noted_two 1
    ∷ (run_of season (first ∷ moved_up ∷ []) (floats ++ cut 1 ∷ [])).replies)

-- ---- seats rise

abbrev pub all_float : List Request
all_float = cut 0 ∷ answer 1 1 1 Float ∷ answer 2 1 1 Float ∷ answer 3 1 1 Float ∷ answer 4 1 1 Float ∷ []

abbrev pub roomier : Round
roomier = round 2 (UpTo 0 ∷ UpTo 1 ∷ UpTo 1 ∷ UpTo 1 ∷ Whole ∷ []) (seat 0 ∷ seat 0 ∷ seat 1 ∷ seat 2 ∷ seat 3 ∷ [])

abbrev pub SeatsRise : Type 0
SeatsRise =
    (next_seeks season (run_of season (first ∷ []) all_float).state ≡ roomier.seeks)
    × ((run_of season (first ∷ roomier ∷ [])
    (all_float ++ raise (Candidate (cand 2)) 1 2 ∷ raise Clerk 1 1 ∷ raise Clerk 1 2 ∷ raise Clerk 1 2 ∷ cut 1 ∷ raise Clerk 1 3 ∷ raise Clerk 2 3 ∷ [])).replies
    ≡ refused LastWindow ∷ refused (Late 2) ∷ Published 2 5 ∷ Raised 1 (prog 0) Open 2 ∷ Raised 1 (prog 0) Open 2 ∷ refused (Falling 1) ∷ refused (Denied 4)
    ∷ Noted (cand 4) 1 1 Float ∷ Noted (cand 3) 1 1 Float ∷ Noted (cand 2) 1 1 Float ∷ Noted (cand 1) 1 1 Float ∷ Published 1 4 ∷ [])
