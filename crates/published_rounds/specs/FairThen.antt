-- What is said of fair seats, of the rounds that a history publishes.
use Rattle.std.specs.Prelude.{◌≡◌, ◌<◌, ◌≤◌, ◌↔◌, ℕ, suc, true, List, Some, None, count_by, length, slice_get, ◌+◌}
use Rattle.office_base.specs.Lists.{IsAmong}
use Rattle.office_base.specs.Person.{IsBetter}
use Rattle.office_base.specs.declared.person.Person.{Person}
use Rattle.office_base.specs.declared.seat.SeatKind.TheVariants.{Under}
use Rattle.office_base.specs.declared.step.StepKind.{StepKind}
use Rattle.allocations.specs.Market.{is_of, place_of, seat_at, wants}
use Rattle.programme_laws.specs.Laws.{HoldsEachTraitOf, MayStandFor}
use Rattle.seat_matrix.specs.Matrix.{list_in, seats_in}
use Rattle.rounds.specs.declared.round.Round.{Round}
use Rattle.office_moves.specs.Facts.{SeasonFacts}
use Rattle.office_moves.specs.State.{State, seat_of}
use Rattle.office_moves.specs.declared.moves.Entry.{Entry}
use Rattle.published_rounds.specs.Published.{IsPublished, IsThatOrEarlier, matrix_then, wanted_then}
use Rattle.published_rounds.specs.Fair.{HasSeatLeft, newly_seated, raised_in}

-- No seat of a published round is wasted. A step of a programme has a seat left, and a candidate sought the programme and may stand for the step.
-- Then the candidate has a seat of that programme, or of one sought more.
abbrev pub NoSeatIsWastedThen : SeasonFacts → Type 0
NoSeatIsWastedThen facts = (entries : List Entry) (state : State) (window : ℕ) (round : Round) (person : Person) (prog : ℕ) (step : StepKind) → IsPublished facts entries state window round
    → HasSeatLeft facts.version (matrix_then facts state window) prog round.seats step → IsAmong person facts.people
    → wants prog (wanted_then facts state window person.id.0) ≡ true → MayStandFor (list_in facts.matrix prog) step person
    → IsThatOrEarlier (wanted_then facts state window person.id.0) prog (seat_of facts (Some round) person.id.0)

-- The programme is open to a person in a round. Somebody has a seat of it, under a step for which the person may stand.
-- They hold no trait that the person lacks, and are not better than the person; or they are the person.
pub record IsOpenThen (facts : SeasonFacts) (round : Round) (prog : ℕ) (person : Person) : Type 0 where
  pub holder : Person
  pub among : IsAmong holder facts.people
  pub step : StepKind
  pub holds : seat_of facts (Some round) holder.id.0 ≡ Some (seat_at prog (Under step))
  pub may : MayStandFor (list_in facts.matrix prog) step person
  pub traits : HoldsEachTraitOf person holder
  pub not_better : IsBetter (list_in facts.matrix prog) holder person → ⊥

-- the candidate sought the programme, it is open to them, and none that they sought more is
pub record IsFirstOpenThen (facts : SeasonFacts) (state : State) (window : ℕ) (round : Round) (person : Person) (prog : ℕ) : Type 0 where
  pub wanted : wants prog (wanted_then facts state window person.id.0) ≡ true
  pub is_open : IsOpenThen facts round prog person
  pub none_before : (other : ℕ) → place_of (wanted_then facts state window person.id.0) other < place_of (wanted_then facts state window person.id.0) prog
      → IsOpenThen facts round other person → ⊥

-- the candidate's seat is of a programme if and only if this is the first open one, and there is none if and only if none that they sought is open
pub record IsDecidedThen (facts : SeasonFacts) (state : State) (window : ℕ) (round : Round) (person : Person) : Type 0 where
  pub seated : (prog : ℕ) → (is_of prog (seat_of facts (Some round) person.id.0) ≡ true) ↔ IsFirstOpenThen facts state window round person prog
  pub unseated : (seat_of facts (Some round) person.id.0 ≡ None)
      ↔ ((prog : ℕ) → wants prog (wanted_then facts state window person.id.0) ≡ true → IsOpenThen facts round prog person → ⊥)

-- Closing places decide a published round: each candidate has a seat of the first programme, of those that they sought, that is open to them, and none exactly
-- where none is.
abbrev pub ClosingPlacesDecideThen : SeasonFacts → Type 0
ClosingPlacesDecideThen facts = (entries : List Entry) (state : State) (window : ℕ) (round : Round) (person : Person) → IsPublished facts entries state window round
    → IsAmong person facts.people → IsDecidedThen facts state window round person

-- No vacancy of a published round fills by itself: where a programme's seats are not raised, the next published round has no more holders of it.
abbrev pub NoVacancyFillsByItselfThen : SeasonFacts → Type 0
NoVacancyFillsByItselfThen facts = (entries : List Entry) (state : State) (window : ℕ) (round next : Round) (prog : ℕ) → IsPublished facts entries state window round
    → slice_get state.rounds (suc window) ≡ Some next → prog < length facts.matrix.programmes → seats_in (matrix_then facts state (suc window)) prog ≡ seats_in (matrix_then facts state window) prog
    → count_by (is_of prog) next.seats ≤ count_by (is_of prog) round.seats

-- And with the raises between the two cuts it has at most as many holders more as seats more.
abbrev pub FewNewHoldersThen : SeasonFacts → Type 0
FewNewHoldersThen facts = (entries : List Entry) (state : State) (window : ℕ) (round next : Round) (prog : ℕ) → IsPublished facts entries state window round
    → slice_get state.rounds (suc window) ≡ Some next → prog < length facts.matrix.programmes
    → count_by (is_of prog) next.seats ≤ count_by (is_of prog) round.seats + raised_in (matrix_then facts state window) (matrix_then facts state (suc window)) prog

-- So from one published round to the next the newly seated of a programme are never more than those who lost a seat of it, and the seats raised.
abbrev pub FewNewlySeatedThen : SeasonFacts → Type 0
FewNewlySeatedThen facts = (entries : List Entry) (state : State) (window : ℕ) (round next : Round) (prog : ℕ) → IsPublished facts entries state window round
    → slice_get state.rounds (suc window) ≡ Some next → prog < length facts.matrix.programmes
    → newly_seated prog round.seats next.seats ≤ newly_seated prog next.seats round.seats + raised_in (matrix_then facts state window) (matrix_then facts state (suc window)) prog
