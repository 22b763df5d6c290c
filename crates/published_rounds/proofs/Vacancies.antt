-- From one fair round to the next a programme with the same seats has no more holders.
use Rattle.std.proofs.Common.{◌≡◌, ◌↔◌, ℕ, List, Option, length, arith, sym, ◌∙◌, subst, count_by}
use Rattle.std.proofs.lemmas.List.Sums.{length-filter}
use Rattle.office_base.specs.Lists.{IsAmong, IsSublist}
use Rattle.office_base.specs.declared.seat.Seat.{Seat}
use Rattle.office_base.specs.declared.seat.SeatKind.TheVariants.{Under}
use Rattle.office_base.specs.declared.person.Person.{Person}
use Rattle.allocations.specs.Fair.{IsNextMarket}
use Rattle.allocations.specs.Market.{Seeker, applicants, applies, holders, is_of}
use Rattle.allocations.specs.Rule.{Admits, AreAdmitted}
use Rattle.allocations.proofs.Claims.{applicants_may}
use Rattle.allocations.proofs.Places.{applies_means}
use Rattle.allocations.proofs.Seated.{holders_admitted}
use Rattle.allocations.proofs.Those.{those_sublist}
use Rattle.programme_lists.specs.Chosen.{AdmitsUnder}
use Rattle.seat_matrix.specs.Matrix.{SeatTable, seats_in}
use Rattle.seat_matrix.specs.declared.seats.ProgrammeSeats.{ProgrammeSeats}
use Rattle.rounds.specs.Rule.{MayApplyIn, ProgrammesAdmitNoFewer, ProgrammesChooseWell, nobody, rule_of, steps_of}
use Rattle.rounds.proofs.Nobody.{is_under}
use Rattle.rounds.proofs.Entrants.{market}
use Rattle.published_rounds.proofs.Within.{as_many}
use Rattle.published_rounds.specs.FairLaws.{NoVacancyFillsByItself, RoundsAreFair}

-- who applies next applied before
pub applied_before : (p : ℕ) (seekers next : List Seeker) (seats others : List (Option Seat)) → IsNextMarket seekers seats next → length seats ≡ length seekers → length others ≡ length next
    → IsSublist (applicants p next others) (applicants p seekers seats)
applied_before p seekers next seats others narrows full full' =
    those_sublist (λ s seat. applies p s.list seat) (λ s seat. applies p s.list seat) next seekers others seats (record {
      seekers = sym narrows.same;
      values = full ∙ (sym narrows.same ∙ sym full');
      persons = λ i s t there there'. sym (narrows.persons i t s there' there);
      passes = λ i s t x y there there' at at' h. narrows.narrowed p i t s y there' there at' (applies_means p s.list x h).wants;
    })

-- whom a programme admits where nobody is guaranteed a seat is whom its steps choose
each_by : (version : ℕ) (table : SeatTable) (p : ℕ) (people admitted : List Person) (x : Person) → IsAmong x admitted ↔ Admits (rule_of version nobody table) p people x
    → IsAmong x admitted ↔ Admits (steps_of version table) p people x
each_by version table p people admitted x each = (
  λ inside. let kind = each.0 inside in let under = is_under version table p people x kind.0 kind.1 in (under.step, under.chosen),
  λ admits. each.1 (Under admits.0, admits.1),
)

by_each : (version : ℕ) (table : SeatTable) (p : ℕ) (people admitted : List Person) (x : Person) → IsAmong x admitted ↔ Admits (steps_of version table) p people x
    → IsAmong x admitted ↔ Admits (rule_of version nobody table) p people x
by_each version table p people admitted x each = (
  λ inside. let step = each.0 inside in (Under step.0, step.1),
  λ admits. let under = is_under version table p people x admits.0 admits.1 in each.1 (under.step, under.chosen),
)

-- whom a programme with the same seats admits
by_same_seats : (version : ℕ) (table more : SeatTable) (p : ℕ) (people admitted : List Person) → seats_in more p ≡ seats_in table p → AreAdmitted (rule_of version nobody more) p people admitted
    → AreAdmitted (rule_of version nobody table) p people admitted
by_same_seats version table more p people admitted same are =
    let by_steps : AreAdmitted (λ q. AdmitsUnder version (seats_in more p)) p people admitted = record { part = are.part; each = λ x among. each_by version more p people admitted x (are.each x among) } in
    let moved = subst (λ (z : ProgrammeSeats). AreAdmitted (λ q. AdmitsUnder version z) p people admitted) same by_steps in
    record { part = moved.part; each = λ x among. by_each version table p people admitted x (moved.each x among) }

holders_count : (p : ℕ) (seekers : List Seeker) (seats : List (Option Seat)) → length seats ≡ length seekers → length (holders p seekers seats) ≡ count_by (is_of p) seats
holders_count p seekers seats full = let a = as_many (is_of p) seekers seats full in let b = length-filter (is_of p) seats in omega (arith, a, b)

pub no_vacancy_fills_by_itself : ProgrammesChooseWell → ProgrammesAdmitNoFewer → NoVacancyFillsByItself
no_vacancy_fills_by_itself well no_fewer version table more seekers next seats others p over over' narrows below below' same =
    let full = over.fair.allocation.full in
    let full' = over'.fair.allocation.full in
    let may = applicants_may (rule_of version nobody table) (MayApplyIn table) (length table.programmes) p seekers seats over.market (well version nobody table over.are_seats) below full in
    let before = holders_admitted (rule_of version nobody table) (length table.programmes) p seekers seats below over.fair in
    let after = by_same_seats version table more p (applicants p next others) (holders p next others) same
    (holders_admitted (rule_of version nobody more) (length more.programmes) p next others below' over'.fair) in
    let few = no_fewer version nobody table over.are_seats p (applicants p next others) (applicants p seekers seats) (holders p next others) (holders p seekers seats) may
    (applied_before p seekers next seats others narrows full full') after before in
    let a = holders_count p seekers seats full in
    let b = holders_count p next others full' in
    omega (arith, few, a, b)

-- every round over a matrix has fair seats
pub rounds_are_fair : RoundsAreFair
rounds_are_fair version table people lists n seeks round ok enter is = record { are_seats = ok; market = market table people lists seeks ok enter; fair = is.best.fair }
