-- A round gives no more seats of a programme than there are.
use Rattle.std.proofs.Common.{◌≤◌, ◌-◌, ℕ, Bool, true, false, List, length, arith, ap, subst, ◌==◌, if◌then◌else◌}
use Rattle.std.specs.Prelude.{sum_by}
use Rattle.std.proofs.lemmas.List.Sums.{sum-map}
use Rattle.office_base.specs.CategorySteps.{category_steps, gives_away, gives_up}
use Rattle.office_base.specs.Lists.{IsAmong}
use Rattle.office_base.specs.Merit.{in_merit}
use Rattle.office_base.specs.declared.category_steps.CategoryStep.{CategoryStep}
use Rattle.office_base.specs.declared.category_steps.GivesUp.{GivesUp}
use Rattle.office_base.specs.declared.category_steps.GivesUp.TheVariants.{Never, InVersion, Always}
use Rattle.office_base.specs.declared.person.Person.{Person}
use Rattle.office_base.specs.declared.seat.SeatKind.TheVariants.{Under}
use Rattle.office_base.specs.declared.step.StepKind.{StepKind}
use Rattle.office_base.specs.declared.step.StepKind.TheVariants.{Dereserved}
use Rattle.office_base.proofs.Lists.{there_is, length_take_most}
use Rattle.allocations.specs.Market.{applicants}
use Rattle.allocations.proofs.Claims.{applicants_may}
use Rattle.seat_matrix.specs.Matrix.{SeatTable, list_in, seating_in, seats_in}
use Rattle.seat_matrix.specs.Unfilled.{left_unfilled}
use Rattle.programme_lists.specs.Chosen.{ChoosesFrom}
use Rattle.programme_lists.specs.Programme.{Admissions, admitted_by, people_of, unfilled}
use Rattle.open_then_category.specs.Laws.{OneProgrammeChoice}
use Rattle.programme_lists.proofs.Seats.{own_seats}
use Rattle.rounds.specs.Rule.{MayApplyIn, ProgrammesChooseWell, nobody, rule_of, seekers_of}
use Rattle.rounds.proofs.Entrants.{market}
use Rattle.office_moves.proofs.Sums.{rows_less}
use Rattle.special_round.specs.Laws.{FitInto, RoundsFit}
use Rattle.special_round.specs.Remaining.{ever_given, may_be_taken}
use Rattle.special_round.specs.Rows.{seats_of_step}
use Rattle.special_round.proofs.Holders.{held_within}

-- ---- whom the steps admit

-- a category that gives seats up in a version may give them up
may_give : (row : CategoryStep) (version n : ℕ) → (if gives_up row version then n else 0) ≤ (if may_be_taken row then n else 0)
may_give row version n = by row.gives_up
  where
    most : (b : Bool) → (if b then n else 0) ≤ n
    most true = omega arith
    most false = omega arith

    by : (g : GivesUp) → (if gives_away g version then n else 0) ≤ (if ever_given g then n else 0)
    by Never = omega arith
    by (InVersion only) = most (version == only)
    by Always = omega arith

unfilled_of : (version : ℕ) (seats held : StepKind → ℕ)
    → left_unfilled version seats held ≤ sum_by (λ row. if may_be_taken row then seats row.step - held row.step else 0) category_steps
unfilled_of version seats held =
    let left : CategoryStep → ℕ = λ row. if gives_up row version then seats row.step - held row.step else 0 in
    let whole = sum-map left category_steps in
    let less = rows_less left (λ row. if may_be_taken row then seats row.step - held row.step else 0) category_steps (λ row there. may_give row version (seats row.step - held row.step)) in
    omega (arith, whole, less)

-- the de-reserved step admits no more than the categories left whose seats may be taken
dereserved_seats : (version : ℕ) (table : SeatTable) (prog : ℕ) (people : List Person) (admissions : Admissions) → ChoosesFrom version (seats_in table prog) people admissions
    → length (admitted_by admissions Dereserved)
    ≤ sum_by (λ row. if may_be_taken row then (seating_in table prog row.step).seats - length (admitted_by admissions row.step) else 0) category_steps
dereserved_seats version table prog people admissions choice =
    let list = list_in table prog in
    let empty = unfilled version (seats_in table prog) admissions in
    let first = ap (λ (l : List Person). length l) choice.dereserved in
    let second = length_take_most empty (people_of list (in_merit list people) admissions Dereserved) in
    let third = unfilled_of version (λ step. (seating_in table prog step).seats) (λ step. length (admissions step)) in
    omega (arith, first, second, third)

-- ---- whom a round seats

-- fewer held of each step fit where more do
pub fewer_fit : (table : SeatTable) (prog : ℕ) (held more : StepKind → ℕ) → ((step : StepKind) → held step ≤ more step) → FitInto table prog more → FitInto table prog held
fewer_fit table prog held more less fit = record {
  own = λ step own. let a = less step in let b = fit.own step own in omega (arith, a, b);
  dereserved =
      let a = less Dereserved in let b = fit.dereserved in
      let more_left = rows_less (λ row. if may_be_taken row then (seating_in table prog row.step).seats - more row.step else 0) (λ row. if may_be_taken row then (seating_in table prog row.step).seats - held row.step else 0)
      category_steps (λ row there. by (may_be_taken row) (seating_in table prog row.step).seats (held row.step) (more row.step) (less row.step)) in
      omega (arith, a, b, more_left);
}
  where
    by : (b : Bool) (s m n : ℕ) → m ≤ n → (if b then s - n else 0) ≤ (if b then s - m else 0)
    by true s m n less = omega (arith, less)
    by false s m n less = omega arith

admitted_fit : (version : ℕ) (table : SeatTable) (prog : ℕ) (people : List Person) (admissions : Admissions) → ChoosesFrom version (seats_in table prog) people admissions
    → FitInto table prog (λ step. length (admitted_by admissions step))
admitted_fit version table prog people admissions choice = record {
  own = λ step own. own_seats version table prog people admissions step choice own;
  dereserved = dereserved_seats version table prog people admissions choice;
}

pub rounds_fit : ProgrammesChooseWell → OneProgrammeChoice → RoundsFit
rounds_fit well one version number table people lists seeks round prog seats entrants is below =
    let seekers = seekers_of table people lists seeks in
    let fair = is.best.fair in
    let enter = market table people lists seeks seats entrants in
    let all : List Person = applicants prog seekers round.seats in
    let may = applicants_may (rule_of version nobody table) (MayApplyIn table) (length table.programmes) prog seekers round.seats enter (well version nobody table seats) below fair.allocation.full in
    let programme = there_is round.programmes prog (omega (arith, below, is.count)) in
    let shown = is.shown prog programme.0 programme.1 in
    let admissions : Admissions = shown.0 in
    let choice : ChoosesFrom version (seats_in table prog) all admissions = shown.1 in
    fewer_fit table prog (seats_of_step round.seats prog) (λ step. length (admitted_by admissions step))
    (λ step. held_within prog step seekers round.seats (admitted_by admissions step) fair.allocation.full enter.ids
    (λ i s there has.
    let admits = (fair.agrees prog i s (Under step) below there).1 has in
    let same = one version (seats_in table prog) all admits.0 admissions (seats.sound prog below) may admits.1 choice in
    subst (λ (a : Admissions). IsAmong s.person (admitted_by a step)) same admits.2))
    (admitted_fit version table prog all admissions choice)
