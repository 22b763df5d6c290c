-- Fair seats over the matrix of a round, the seats that a step has to fill there, and which programmes are open to whom.
use Rattle.std.specs.Prelude.{◌≡◌, ◌<◌, ◌↔◌, ◌+◌, ◌-◌, ◌&&◌, ℕ, true, not, List, [], ◌∷◌, Option, Some, None, length, slice_get, sum_by, if◌then◌else◌}
use Rattle.office_base.specs.CategorySteps.{own_steps}
use Rattle.office_base.specs.Person.{IsBetter}
use Rattle.office_base.specs.declared.seat.Seat.{Seat}
use Rattle.office_base.specs.declared.person.Person.{Person}
use Rattle.office_base.specs.declared.seat.SeatKind.TheVariants.{Under}
use Rattle.office_base.specs.declared.step.StepKind.{StepKind}
use Rattle.office_base.specs.declared.step.StepKind.TheVariants.{Dereserved}
use Rattle.allocations.specs.Fair.{IsFair, IsMarket}
use Rattle.allocations.specs.Market.{Seeker, is_of, place_of, seat_at, wants}
use Rattle.programme_laws.specs.Laws.{HoldsEachTraitOf, MayStandFor}
use Rattle.seat_matrix.specs.Matrix.{AreSeats, SeatTable, list_in, seating_in}
use Rattle.seat_matrix.specs.Unfilled.{left_unfilled}
use Rattle.rounds.specs.Rule.{MayApplyIn, nobody, rule_of}
use Rattle.published_rounds.specs.Published.{seats_under}

-- The seats are fair for these seekers, over this matrix and in this version: as in a published round, in the special round, and in a round that an audit passes.
pub record AreFairOver (version : ℕ) (table : SeatTable) (seekers : List Seeker) (seats : List (Option Seat)) : Type 0 where
  pub are_seats : AreSeats table
  pub market : IsMarket (MayApplyIn table) (length table.programmes) seekers
  pub fair : IsFair (rule_of version nobody table) (length table.programmes) seekers seats

-- the seats that a step of a programme has to fill; the de-reserved step has those that categories left empty and give away in this version
abbrev pub seats_to_fill : ℕ → SeatTable → ℕ → List (Option Seat) → StepKind → ℕ
seats_to_fill version table prog seats Dereserved = left_unfilled version (λ step. (seating_in table prog step).seats) (λ step. seats_under prog step seats)
seats_to_fill version table prog seats step = (seating_in table prog step).seats

-- the step of the programme has given fewer seats than it has to fill
abbrev pub HasSeatLeft : ℕ → SeatTable → ℕ → List (Option Seat) → StepKind → Type 0
HasSeatLeft version table prog seats step = seats_under prog step seats < seats_to_fill version table prog seats step

-- how many seats more the steps of a programme have in the second matrix, in all
abbrev pub raised_in : SeatTable → SeatTable → ℕ → ℕ
raised_in table more prog = sum_by (λ step. (seating_in more prog step).seats - (seating_in table prog step).seats) own_steps

-- how many have a seat of the programme by the second seats, and had none by the first
abbrev pub newly_seated : ℕ → List (Option Seat) → List (Option Seat) → ℕ
newly_seated prog [] others = 0
newly_seated prog (seat ∷ seats) [] = 0
newly_seated prog (seat ∷ seats) (other ∷ others) = (if is_of prog other && not (is_of prog seat) then 1 else 0) + newly_seated prog seats others

-- The programme is open to the person. Somebody has a seat of it, under a step for which the person may stand.
-- They hold no trait that the person lacks, and are not better than the person; or they are the person.
pub record IsOpenTo (table : SeatTable) (seekers : List Seeker) (seats : List (Option Seat)) (prog : ℕ) (person : Person) : Type 0 where
  pub place : ℕ
  pub holder : Seeker
  pub there : slice_get seekers place ≡ Some holder
  pub step : StepKind
  pub holds : slice_get seats place ≡ Some (Some (seat_at prog (Under step)))
  pub may : MayStandFor (list_in table prog) step person
  pub traits : HoldsEachTraitOf person holder.person
  pub not_better : IsBetter (list_in table prog) holder.person person → ⊥

-- the programme is on the seeker's list, is open to the seeker, and none that the list names earlier is
pub record IsFirstOpen (table : SeatTable) (seekers : List Seeker) (seats : List (Option Seat)) (s : Seeker) (prog : ℕ) : Type 0 where
  pub wanted : wants prog s.list ≡ true
  pub is_open : IsOpenTo table seekers seats prog s.person
  pub none_before : (other : ℕ) → place_of s.list other < place_of s.list prog → IsOpenTo table seekers seats other s.person → ⊥

-- The seat of a seeker is decided by which programmes are open: it is of a programme if and only if this is the first open one, and there is none if and only if
-- none on the list is open.
pub record IsDecided (table : SeatTable) (seekers : List Seeker) (seats : List (Option Seat)) (s : Seeker) (seat : Option Seat) : Type 0 where
  pub seated : (prog : ℕ) → (is_of prog seat ≡ true) ↔ IsFirstOpen table seekers seats s prog
  pub unseated : (seat ≡ None) ↔ ((prog : ℕ) → wants prog s.list ≡ true → IsOpenTo table seekers seats prog s.person → ⊥)
