-- What fair seats are worth to each person, whoever gave them: an office, a special round, or papers that an audit passes.
use Rattle.std.specs.Prelude.{◌≡◌, ◌<◌, ◌↔◌, ℕ, true, List, Option, Some, None, length, map}
use Rattle.office_base.specs.Lists.{IsAmong}
use Rattle.office_base.specs.Person.{IsBetter}
use Rattle.office_base.specs.declared.seat.Seat.{Seat}
use Rattle.office_base.specs.declared.person.Person.{Person}
use Rattle.office_base.specs.declared.person.ProgId.{ProgId}
use Rattle.office_base.specs.declared.seat.SeatKind.TheVariants.{Under}
use Rattle.office_base.specs.declared.step.StepKind.{StepKind}
use Rattle.allocations.specs.Market.{Seeker, is_of, place_of, seat_at, wants}
use Rattle.programme_laws.specs.Laws.{HoldsEachTraitOf, MayStandFor}
use Rattle.seat_matrix.specs.Matrix.{SeatTable, list_in}
use Rattle.rounds.specs.declared.round.Round.{Round}
use Rattle.office_moves.specs.Facts.{SeasonFacts}
use Rattle.office_moves.specs.State.{State, seat_of}
use Rattle.office_moves.specs.declared.moves.Entry.{Entry}
use Rattle.published_rounds.specs.Published.{AreWithin, IsPublished, IsThatOrEarlier, matrix_then, wanted_then}
use Rattle.published_rounds.specs.Fair.{AreFairOver, HasSeatLeft}

-- ---- people, what they want and what they get, each by the id

-- the people as seekers
abbrev pub seekers_by : (ℕ → List ProgId) → List Person → List Seeker
seekers_by wanted people = map (λ person. record { person = person; list = wanted person.id.0 }) people

-- the seats along the people
abbrev pub seats_by : (ℕ → Option Seat) → List Person → List (Option Seat)
seats_by got people = map (λ person. got person.id.0) people

-- the seats that these people get are fair by what they want
abbrev pub AreFairTo : ℕ → SeatTable → List Person → (ℕ → List ProgId) → (ℕ → Option Seat) → Type 0
AreFairTo version table people wanted got = AreFairOver version table (seekers_by wanted people) (seats_by got people)

-- ---- what that is worth

-- The programme is open to the person. Somebody has a seat of it, under a step for which the person may stand.
-- They hold no trait that the person lacks, and are not better than the person; or they are the person.
pub record IsOpenFor (table : SeatTable) (people : List Person) (got : ℕ → Option Seat) (prog : ℕ) (person : Person) : Type 0 where
  pub holder : Person
  pub among : IsAmong holder people
  pub step : StepKind
  pub holds : got holder.id.0 ≡ Some (seat_at prog (Under step))
  pub may : MayStandFor (list_in table prog) step person
  pub traits : HoldsEachTraitOf person holder
  pub not_better : IsBetter (list_in table prog) holder person → ⊥

-- the person wants the programme, it is open to them, and none that they want more is
pub record IsFirstOpenFor (table : SeatTable) (people : List Person) (wanted : List ProgId) (got : ℕ → Option Seat) (prog : ℕ) (person : Person) : Type 0 where
  pub wants_it : wants prog wanted ≡ true
  pub is_open : IsOpenFor table people got prog person
  pub none_before : (other : ℕ) → place_of wanted other < place_of wanted prog → IsOpenFor table people got other person → ⊥

-- the person's seat is of a programme if and only if this is the first open one, and there is none if and only if none that they want is open
pub record IsDecidedFor (table : SeatTable) (people : List Person) (wanted : List ProgId) (got : ℕ → Option Seat) (person : Person) : Type 0 where
  pub seated : (prog : ℕ) → (is_of prog (got person.id.0) ≡ true) ↔ IsFirstOpenFor table people wanted got prog person
  pub unseated : (got person.id.0 ≡ None) ↔ ((prog : ℕ) → wants prog wanted ≡ true → IsOpenFor table people got prog person → ⊥)

-- The seats can be justified to each person, by the merit lists, the seats and what everybody wants.
pub record AreJustified (version : ℕ) (table : SeatTable) (people : List Person) (wanted : ℕ → List ProgId) (got : ℕ → Option Seat) : Type 0 where
  -- Nobody is envied. Somebody has a seat, and a better one wants its programme, may stand for its step and holds each trait that they hold.
  -- Then the better one has a seat of that programme, or of one wanted more.
  pub nobody_is_envied : (better worse : Person) (seat : Seat) (step : StepKind) → IsAmong better people → IsAmong worse people → got worse.id.0 ≡ Some seat → seat.step ≡ Under step
      → wants seat.prog.0 (wanted better.id.0) ≡ true → IsBetter (list_in table seat.prog.0) better worse → MayStandFor (list_in table seat.prog.0) step better
      → HoldsEachTraitOf better worse → IsThatOrEarlier (wanted better.id.0) seat.prog.0 (got better.id.0)
  -- each seat is under a step
  pub nobody_is_kept : (person : Person) (seat : Seat) → IsAmong person people → got person.id.0 ≡ Some seat → (step : StepKind) × (seat.step ≡ Under step)
  -- No seat is wasted. A step of a programme has a seat left, and a person wants the programme and may stand for the step.
  -- Then the person has a seat of that programme, or of one wanted more.
  pub no_seat_is_wasted : (prog : ℕ) (step : StepKind) (person : Person) → IsAmong person people → HasSeatLeft version table prog (seats_by got people) step
      → wants prog (wanted person.id.0) ≡ true → MayStandFor (list_in table prog) step person → IsThatOrEarlier (wanted person.id.0) prog (got person.id.0)
  -- no step of a programme gives more seats than it has
  pub seats_are_within : (prog : ℕ) → prog < length table.programmes → AreWithin version table prog (seats_by got people)
  -- closing places decide: each person has a seat of the first programme that is open to them, and none if and only if none is
  pub closing_places_decide : (person : Person) → IsAmong person people → IsDecidedFor table people (wanted person.id.0) got person

-- ---- the laws

-- fair seats can be justified to each person
abbrev pub FairSeatsAreJustified : Type 0
FairSeatsAreJustified = (version : ℕ) (table : SeatTable) (people : List Person) (wanted : ℕ → List ProgId) (got : ℕ → Option Seat) → AreFairTo version table people wanted got
    → AreJustified version table people wanted got

-- so can the seats of each published round
abbrev pub PublishedRoundsAreJustified : SeasonFacts → Type 0
PublishedRoundsAreJustified facts = (entries : List Entry) (state : State) (window : ℕ) (round : Round) → IsPublished facts entries state window round
    → AreJustified facts.version (matrix_then facts state window) facts.people (wanted_then facts state window) (seat_of facts (Some round))
