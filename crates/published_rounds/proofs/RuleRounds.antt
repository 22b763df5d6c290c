-- Of rules of rounds over a matrix, and of published rounds.
use Rattle.std.proofs.Common.{suc, length}
use Rattle.allocations.proofs.Best.{best_there}
use Rattle.allocations.proofs.Claims.{one_best}
use Rattle.allocations.proofs.Truthful.{truth_is_best}
use Rattle.rounds.specs.Rule.{MayApplyIn, ProgrammesAdmitNoFewer, ProgrammesChooseWell, nobody, rule_of}
use Rattle.rounds.proofs.Entrants.{market}
use Rattle.office_moves.specs.Facts.{SeasonFacts, lists_in_order}
use Rattle.office_moves.specs.Promise.{all_sought_then}
use Rattle.published_rounds.specs.Published.{market_then, matrix_then}
use Rattle.published_rounds.proofs.Places.{AreOrderly, order_of, made_then, may_enter}
use Rattle.published_rounds.specs.RuleLaws.{FairAndSafeIsBest, OnlyTheRoundIsSafe}
use Rattle.published_rounds.proofs.Safe.{is_best}

pub fair_and_safe_is_best : ProgrammesChooseWell → ProgrammesAdmitNoFewer → FairAndSafeIsBest
fair_and_safe_is_best well no_fewer version table gives ok =
    let count = length table.programmes in
    let wells = well version nobody table ok in
    let fewer = no_fewer version nobody table ok in (
      λ h seekers here.
          let best = best_there (rule_of version nobody table) (MayApplyIn table) count seekers here wells in
          is_best (rule_of version nobody table) (MayApplyIn table) wells fewer count gives h.0 h.1 seekers best.0 here best.1,
      λ always. (
        λ seekers here. (always seekers here).fair,
        λ i seekers told s seat other here here' tells there has has'.
            truth_is_best (rule_of version nobody table) (MayApplyIn table) wells fewer count i seekers told (gives seekers) (gives told) s seat other here here' tells
            (always seekers here) (always told here').fair there has has',
      ),
    )

pub only_the_round_is_safe : AreOrderly → ProgrammesChooseWell → FairAndSafeIsBest → (facts : SeasonFacts) → OnlyTheRoundIsSafe facts
only_the_round_is_safe orderly well only facts entries state window round gives published fair safe =
    let order = order_of orderly facts entries state window round published in
    let table = matrix_then facts state window in
    let seekers = market_then facts state window in
    let ok = order.course.seats (suc window) in
    let here = market table facts.people (lists_in_order facts) (all_sought_then facts state window) ok (may_enter facts state window published.sound order) in
    let made = made_then facts state window round order published.there in
    one_best (rule_of facts.version nobody table) (MayApplyIn table) (length table.programmes) seekers (gives seekers) round.seats here (well facts.version nobody table ok)
    ((only facts.version table gives ok).0 (fair, safe) seekers here) made.best
