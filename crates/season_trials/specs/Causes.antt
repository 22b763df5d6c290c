-- A season of five candidates for a programme of three open seats, two of them protected for women; only the fourth
-- candidate is one. Anyone who asks why gets an answer.
use Rattle.std.specs.Prelude.{◌≡◌, ◌++◌, ℕ, Bool, true, false, List, [], ◌∷◌, Some, None, codes, map}
use Rattle.office_base.specs.CategorySteps.{category_steps}
use Rattle.office_asks.specs.declared.ask.Ask.TheVariants.{Why, List as AskList}
use Rattle.office_asks.specs.declared.ask.By.{By}
use Rattle.office_asks.specs.declared.ask.By.TheVariants.{Clerk, Candidate, Nobody}
use Rattle.office_asks.specs.declared.ask.Request.{Request}
use Rattle.office_base.specs.declared.person.Category.TheVariants.{Gen}
use Rattle.office_base.specs.declared.person.Person.{Person}
use Rattle.office_base.specs.declared.person.Place.TheVariants.{Absent, Common}
use Rattle.office_base.specs.declared.seat.SeatKind.TheVariants.{Under}
use Rattle.office_base.specs.declared.step.StepKind.{StepKind}
use Rattle.office_base.specs.declared.step.StepKind.TheVariants.{Open, Dereserved}
use Rattle.seat_matrix.specs.Seats.{no_seatings, with_seating}
use Rattle.seeks.specs.declared.seek.Seek.TheVariants.{Whole}
use Rattle.programme_lists.specs.declared.programme.Programme.{Programme}
use Rattle.programme_lists.specs.declared.programme.StepList.{StepList}
use Rattle.reasons.specs.declared.reason.Reason.TheVariants.{Admitted, Refused as RefusedAt}
use Rattle.reasons.specs.declared.reason.WhyAnswer.{WhyAnswer}
use Rattle.reasons.specs.declared.reason.WhyAnswer.TheVariants.{Reason as Because}
use Rattle.rounds.specs.declared.round.Round.{Round}
use Rattle.office_moves.specs.Facts.{SeasonFacts}
use Rattle.office_moves.specs.declared.moves.Reply.TheVariants.{Published, WhyIs, ListIs, Refused}
use Rattle.office_moves.specs.declared.refusal.Refusal.TheVariants.{Denied, NoSuchRound, NotChosen, UnknownCandidate, UnknownProgramme}
use Rattle.season_trials.specs.FiveCandidates.{cand, cut, home, one_seat, prog, seat}
use Rattle.season_trials.specs.Run.{run_of}

-- ---- the season and its round

abbrev pub person : ℕ → ℕ → Person
person id traits = record { id = cand id; category = Gen; traits = record { 0 = traits }; places = Common id ∷ Absent ∷ Absent ∷ Absent ∷ [] }

abbrev pub season : SeasonFacts
season = record {
  version = 1;
  rounds = 2;
  clerk = codes "clerk0001";
  people = person 1 0 ∷ person 2 0 ∷ person 3 0 ∷ person 4 1 ∷ person 5 0 ∷ [];
  holders = [];
  matrix = record {
    programmes = (codes "P", home (codes "I1")) ∷ (codes "Q", home (codes "I1")) ∷ [];
    steps = with_seating no_seatings Open (record { seats = 3; protections = record { counts = 2 ∷ 0 ∷ 0 ∷ 0 ∷ 0 ∷ 0 ∷ [] } }) ∷ one_seat ∷ [];
  };
  lists = (1, prog 0 ∷ []) ∷ (2, prog 0 ∷ []) ∷ (3, prog 0 ∷ []) ∷ (4, prog 0 ∷ []) ∷ (5, prog 0 ∷ []) ∷ [];
  text = [];
}

-- the list of a step that admits nobody
abbrev pub nobody : StepKind → ℕ → StepList
nobody kind candidates = record { kind = kind; seats = 0; candidates = candidates; admitted = []; cert = record { pairs = [] } }

-- those of all categories, and of the de-reserved step
abbrev pub others : ℕ → List StepList
others candidates = map (λ row. nobody row.step 0) category_steps ++ nobody Dereserved candidates ∷ []

abbrev pub admitting : Programme
admitting = record {
  steps = record { kind = Open; seats = 3; candidates = 5; admitted = person 1 0 ∷ person 2 0 ∷ person 4 1 ∷ []; cert = record { pairs = record { cand = cand 4; slot = 0 } ∷ [] } }
      ∷ others 2;
}

abbrev pub empty : Programme
empty = record {
  steps = record { kind = Open; seats = 1; candidates = 0; admitted = []; cert = record { pairs = [] } } ∷ others 0;
}

abbrev pub round : Round
round = record { number = 1; seeks = Whole ∷ Whole ∷ Whole ∷ Whole ∷ Whole ∷ []; seats = seat 0 ∷ seat 0 ∷ None ∷ seat 0 ∷ None ∷ []; programmes = admitting ∷ empty ∷ [] }

-- ---- questions

abbrev pub why : By → ℕ → List ℕ → Request
why by id code = record { by = by; ask = Why (cand id) code }

abbrev pub own : ℕ → List ℕ → Request
own id code = why (Candidate (cand id)) id code

abbrev pub list : ℕ → List ℕ → Request
list number code = record { by = Nobody; ask = AskList number code }

-- the answer to a candidate who is refused, by whether somebody worse was admitted to an open seat
abbrev pub refused_at : Bool → WhyAnswer
refused_at worse = Because (RefusedAt (Some (record { kind = Open; seats = 3; worse = worse })) None (Some (record { kind = Dereserved; seats = 0; worse = false })))

abbrev pub CausesAreTold : Type 0
CausesAreTold =
    (run_of season (round ∷ []) (own 3 (codes "P") ∷ cut 0 ∷ own 3 (codes "P") ∷ own 5 (codes "P") ∷ own 4 (codes "P") ∷ own 3 (codes "Q") ∷ own 3 (codes "Z")
    ∷ why (Candidate (cand 5)) 3 (codes "P") ∷ why Clerk 99 (codes "P") ∷ list 2 (codes "P") ∷ list 1 (codes "P") ∷ [])).replies
    ≡ ListIs 1 (prog 0) admitting ∷ Refused (NoSuchRound 1) ∷ Refused UnknownCandidate ∷ Refused (Denied 3) ∷ Refused UnknownProgramme ∷ Refused NotChosen
    ∷ WhyIs (cand 4) (prog 0) (Because (Admitted (Under Open))) ∷ WhyIs (cand 5) (prog 0) (refused_at false) ∷ WhyIs (cand 3) (prog 0) (refused_at true) ∷ Published 1 3 ∷ Refused (NoSuchRound 0) ∷ []
