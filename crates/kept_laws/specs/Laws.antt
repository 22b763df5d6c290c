-- What holds of programmes with guaranteed seats.
use Rattle.std.specs.Prelude.{ℕ}
use Rattle.allocations.specs.Rule.{AdmitsNoFewer, ChoosesWell, Grows}
use Rattle.kept_seats.specs.Kept.{Guarantees, GuaranteesMore, KeptIsExact, NobodyGuaranteedFalls, NothingChangesWithoutNeed, StepRule, StepsChooseAsEver, WithoutOrdersAsEver, with_kept}
use Rattle.kept_seats.specs.Orders.{NobodyNewlyKept, OneSeatAnOrder, OneSeatForEachOrder}
use Rattle.programme_lists.specs.Chosen.{AdmitsUnder, AreApplicants}
use Rattle.seat_matrix.specs.Seats.{AreProgrammeSeats, HaveMoreSeats}
use Rattle.seat_matrix.specs.declared.seats.ProgrammeSeats.{ProgrammeSeats}
use Rattle.office_base.specs.declared.person.Person.{Person}
use Rattle.std.specs.Prelude.{List}

-- the programmes of these seats choose by their steps
abbrev pub by_steps : ℕ → (ℕ → ProgrammeSeats) → StepRule
by_steps version seats p = AdmitsUnder version (seats p)

-- the people may apply to the programme together
abbrev pub MayApplyTo : (ℕ → ProgrammeSeats) → ℕ → List Person → Type 0
MayApplyTo seats p = AreApplicants (seats p).list

-- each programme has sound seats
abbrev pub AreSound : (ℕ → ProgrammeSeats) → Type 0
AreSound seats = (p : ℕ) → AreProgrammeSeats (seats p)

-- each programme has no fewer seats in the second
abbrev pub AreRaised : (ℕ → ProgrammeSeats) → (ℕ → ProgrammeSeats) → Type 0
AreRaised seats more = (p : ℕ) → HaveMoreSeats (seats p) (more p)

-- with guarantees the programmes choose well
abbrev pub KeptChooseWell : Type 0
KeptChooseWell = (version : ℕ) (seats : ℕ → ProgrammeSeats) (guaranteed : Guarantees) → AreSound seats → ChoosesWell (with_kept guaranteed (by_steps version seats)) (MayApplyTo seats)

-- and admit no fewer from more people
abbrev pub KeptAdmitNoFewer : Type 0
KeptAdmitNoFewer = (version : ℕ) (seats : ℕ → ProgrammeSeats) (guaranteed : Guarantees) → AreSound seats → AdmitsNoFewer (with_kept guaranteed (by_steps version seats)) (MayApplyTo seats)

-- and with more seats and no fewer guarantees admit everybody whom they admitted before
abbrev pub KeptGrow : Type 0
KeptGrow = (version : ℕ) (seats more : ℕ → ProgrammeSeats) (guaranteed wider : Guarantees) → AreSound seats → AreSound more → AreRaised seats more → GuaranteesMore guaranteed wider
    → Grows (with_kept guaranteed (by_steps version seats)) (with_kept wider (by_steps version more)) (MayApplyTo seats)

-- nobody who is guaranteed a seat falls, in any fair allocation of a market
abbrev pub GuaranteedNeverFall : Type 0
GuaranteedNeverFall = (version : ℕ) (seats : ℕ → ProgrammeSeats) (guaranteed : Guarantees) → AreSound seats → NobodyGuaranteedFalls guaranteed (by_steps version seats) (MayApplyTo seats)

-- every step chooses as ever
abbrev pub StepsStay : Type 0
StepsStay = (version : ℕ) (seats : ℕ → ProgrammeSeats) (guaranteed : Guarantees) → StepsChooseAsEver guaranteed (by_steps version seats)

-- who is kept is exactly who is guaranteed, applies and is not chosen
abbrev pub ExactlyKept : Type 0
ExactlyKept = (version : ℕ) (seats : ℕ → ProgrammeSeats) (guaranteed : Guarantees) → KeptIsExact guaranteed (by_steps version seats)

-- without need nothing changes
abbrev pub NoNeedNoChange : Type 0
NoNeedNoChange = (version : ℕ) (seats : ℕ → ProgrammeSeats) (guaranteed : Guarantees) → AreSound seats → NothingChangesWithoutNeed guaranteed (by_steps version seats) (MayApplyTo seats)

-- without orders the next best round by the rule alone is the one with guarantees
abbrev pub NoOrdersNoChange : Type 0
NoOrdersNoChange = (version : ℕ) (seats more : ℕ → ProgrammeSeats) → AreSound seats → AreSound more → AreRaised seats more
    → WithoutOrdersAsEver (by_steps version seats) (by_steps version more) (MayApplyTo seats)

-- without an order nobody is newly kept
abbrev pub NoOrderNoneKept : Type 0
NoOrderNoneKept = (version : ℕ) (seats more : ℕ → ProgrammeSeats) → AreSound seats → AreSound more → AreRaised seats more
    → NobodyNewlyKept (by_steps version seats) (by_steps version more) (MayApplyTo seats)

-- an order makes at most one seat more beyond those of the programmes
abbrev pub OneOrderOneSeat : Type 0
OneOrderOneSeat = (version : ℕ) (seats : ℕ → ProgrammeSeats) → AreSound seats → OneSeatAnOrder (by_steps version seats) (MayApplyTo seats)

-- and orders make at most as many
abbrev pub OrdersSeats : Type 0
OrdersSeats = (version : ℕ) (seats : ℕ → ProgrammeSeats) → AreSound seats → OneSeatForEachOrder (by_steps version seats) (MayApplyTo seats)
