-- From one fair round to the next, where seats are raised, a programme has at most as many holders more as seats.
use Rattle.std.proofs.Common.{length, arith, sym, subst}
use Rattle.office_base.specs.Merit.{in_merit}
use Rattle.office_base.specs.declared.person.ListId.{ListId}
use Rattle.placements.proofs.Ranks.{among_sublist}
use Rattle.merit_choice.specs.InMerit.{InMeritRanks}
use Rattle.merit_choice.specs.Laws.{ChoiceExists, ChoiceSize, MoreSeats, RefusedStaysRefused}
use Rattle.allocations.specs.Market.{applicants}
use Rattle.allocations.proofs.Claims.{applicants_may}
use Rattle.open_then_category.specs.Laws.{NoFewerAdmitted, OneProgrammeChoice, ProgrammeChoiceExists}
use Rattle.programme_lists.specs.Chosen.{AreApplicants}
use Rattle.programme_lists.specs.Programme.{IsProgrammeChoice}
use Rattle.seat_matrix.specs.Matrix.{list_in, seats_in, steps_in}
use Rattle.seat_matrix.specs.Seats.{AreProgrammeSeats, HaveMoreSeats}
use Rattle.rounds.specs.Rule.{MayApplyIn, ProgrammesChooseWell, nobody, rule_of}
use Rattle.published_rounds.specs.FairLaws.{FewNewHolders}
use Rattle.published_rounds.proofs.Market.{in_all}
use Rattle.published_rounds.proofs.MoreSeats.{at_most_raised}
use Rattle.published_rounds.proofs.Vacancies.{applied_before}

pub few_new_holders : ProgrammesChooseWell → ProgrammeChoiceExists → OneProgrammeChoice → NoFewerAdmitted → InMeritRanks → MoreSeats → RefusedStaysRefused → ChoiceExists → ChoiceSize → FewNewHolders
few_new_holders well exists one no_fewer ranks more_seats refused step_exists sized version table more seekers next seats others p over over' narrows below below' have =
    let people = applicants p seekers seats in
    let later = applicants p next others in
    let may = applicants_may (rule_of version nobody table) (MayApplyIn table) (length table.programmes) p seekers seats over.market (well version nobody table over.are_seats) below over.fair.allocation.full in
    let later_may = applicants_may (rule_of version nobody more) (MayApplyIn more) (length more.programmes) p next others over'.market (well version nobody more over'.are_seats) below' over'.fair.allocation.full in
    let wide : AreApplicants (list_in more p) people = subst (λ (l : ListId). AreApplicants l people) (sym have.list) may in
    let ok = over.are_seats.sound p below in
    let ok' = over'.are_seats.sound p below' in
    let first = in_all well exists one version table seekers seats over p below in
    let last = in_all well exists one version more next others over' p below' in
    let middle = exists version (seats_in more p) people ok' wide in
    let few = no_fewer version (seats_in more p) later people last.0 middle.0 (record {
      are_seats = ok';
      distinct = later_may.distinct;
      may = wide;
      part = among_sublist later people (applied_before p seekers next seats others narrows over.fair.allocation.full over'.fair.allocation.full);
      choice = last.1;
      more_choice = middle.1;
    }) in
    let raised = at_most_raised more_seats refused step_exists sized version (seats_in table p) (steps_in more p) (in_merit (list_in table p) people) first.0 middle.0 ok
    (subst (λ (l : ListId). AreProgrammeSeats (record { list = l; steps = steps_in more p })) have.list ok')
    (subst (λ (l : ListId). HaveMoreSeats (seats_in table p) (record { list = l; steps = steps_in more p })) have.list have) (ranks (list_in table p) people may).0 first.1
    (subst (λ (l : ListId). IsProgrammeChoice version (record { list = l; steps = steps_in more p }) (in_merit l people) middle.0) have.list middle.1) in
    let a = first.2 in
    let b = last.2 in
    omega (arith, few, raised, a, b)
