-- What guarantees are worth in each published round.
use Rattle.std.proofs.Common.{◌≡◌, ℕ, suc, Some, length, arith, subst}
use Rattle.std.specs.Prelude.{slice_get}
use Rattle.allocations.specs.Fair.{IsMarket}
use Rattle.allocations.proofs.Claims.{fair_justified}
use Rattle.history_laws.specs.Course.{guaranteed_then}
use Rattle.history_laws.specs.Orderly.{IsOrderly}
use Rattle.kept_seats.proofs.Worth.{kept_is_exact, nobody_guaranteed_falls, steps_choose_as_ever}
use Rattle.office_moves.specs.Facts.{IsSound, SeasonFacts, lists_in_order}
use Rattle.office_moves.specs.Promise.{all_sought_then}
use Rattle.office_moves.specs.State.{State}
use Rattle.rounds.specs.Round.{IsRound}
use Rattle.rounds.specs.Rule.{MayApplyIn, ProgrammesChooseWell, StepsChooseWell, rule_of, steps_of}
use Rattle.rounds.specs.declared.round.Round.{Round}
use Rattle.rounds.proofs.Entrants.{market}
use Rattle.published_rounds.specs.Guaranteed.{GuaranteedSeatsAreHad, JustWithGuarantees, KeptExactly, StepsChooseFromAll}
use Rattle.published_rounds.specs.Published.{market_then, matrix_then}
use Rattle.published_rounds.proofs.Places.{AreOrderly, may_enter, order_of}

made_with : (facts : SeasonFacts) (state : State) (window : ℕ) (round : Round) → IsOrderly facts state → slice_get state.rounds window ≡ Some round
    → IsRound facts.version (guaranteed_then facts state window) (matrix_then facts state window) facts.people (lists_in_order facts) (suc window) (all_sought_then facts state window) round
made_with facts state window round order is =
    subst (λ n. IsRound facts.version (guaranteed_then facts state window) (matrix_then facts state window) facts.people (lists_in_order facts) n (all_sought_then facts state window) round) (omega arith)
    (order.course.made window round is)

are_market : (facts : SeasonFacts) (state : State) (window : ℕ) → IsSound facts → IsOrderly facts state
    → IsMarket (MayApplyIn (matrix_then facts state window)) (length (matrix_then facts state window).programmes) (market_then facts state window)
are_market facts state window sound order =
    market (matrix_then facts state window) facts.people (lists_in_order facts) (all_sought_then facts state window) (order.course.seats (suc window)) (may_enter facts state window sound order)

pub guaranteed_seats_are_had : AreOrderly → StepsChooseWell → (facts : SeasonFacts) → GuaranteedSeatsAreHad facts
guaranteed_seats_are_had orderly steps facts entries state window p i round s seat published there has sure listed =
    let order = order_of orderly facts entries state window round published in
    let table = matrix_then facts state window in
    nobody_guaranteed_falls (guaranteed_then facts state window) (steps_of facts.version table) (MayApplyIn table) (steps facts.version table (order.course.seats (suc window)))
    (length table.programmes) p i (market_then facts state window) round.seats s seat (are_market facts state window published.sound order)
    (made_with facts state window round order published.there).best.fair there has sure listed

pub steps_choose_from_all : AreOrderly → (facts : SeasonFacts) → StepsChooseFromAll facts
steps_choose_from_all orderly facts entries state window p i round s step published below there =
    let order = order_of orderly facts entries state window round published in
    let table = matrix_then facts state window in
    steps_choose_as_ever (guaranteed_then facts state window) (steps_of facts.version table) (length table.programmes) p i (market_then facts state window) round.seats s step
    (made_with facts state window round order published.there).best.fair below there

pub kept_exactly : AreOrderly → (facts : SeasonFacts) → KeptExactly facts
kept_exactly orderly facts entries state window p i round s published below there =
    let order = order_of orderly facts entries state window round published in
    let table = matrix_then facts state window in
    kept_is_exact (guaranteed_then facts state window) (steps_of facts.version table) (length table.programmes) p i (market_then facts state window) round.seats s
    (made_with facts state window round order published.there).best.fair below there

pub just_with_guarantees : AreOrderly → ProgrammesChooseWell → (facts : SeasonFacts) → JustWithGuarantees facts
just_with_guarantees orderly well facts entries state window round published =
    let order = order_of orderly facts entries state window round published in
    let table = matrix_then facts state window in
    let guaranteed = guaranteed_then facts state window in
    let best = (made_with facts state window round order published.there).best in
    let justified = fair_justified (rule_of facts.version guaranteed table) (MayApplyIn table) (length table.programmes) (market_then facts state window) round.seats
    (are_market facts state window published.sound order) (well facts.version guaranteed table (order.course.seats (suc window))) best.fair in
    record { no_claim = justified.no_claim; best = best }
