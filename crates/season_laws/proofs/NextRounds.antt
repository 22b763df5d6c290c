-- A state in which all is in order has a next round.
use Rattle.std.proofs.Common.{◌≡◌, ◌<◌, ◌+◌, ℕ, zero, suc, List, [], ◌∷◌, Some, length, arith, refl, ap, subst}
use Rattle.std.specs.Prelude.{slice_get}
use Rattle.allocations.specs.Market.{applicants}
use Rattle.allocations.proofs.Claims.{applicants_may}
use Rattle.seat_matrix.specs.Matrix.{seats_in}
use Rattle.programme_lists.specs.Chosen.{ShowsFrom}
use Rattle.programme_lists.specs.declared.programme.Programme.{Programme}
use Rattle.open_then_category.specs.Laws.{AdmittedOnce, ProgrammeChoiceExists}
use Rattle.rounds.specs.Rule.{MayApplyIn, ProgrammesChooseWell, rule_of, seekers_of}
use Rattle.rounds.proofs.Entrants.{market}
use Rattle.office_moves.specs.Facts.{SeasonFacts, lists_in_order}
use Rattle.office_moves.specs.Raised.{matrix_at}
use Rattle.office_moves.specs.Moves.{guaranteed_next, next_seeks}
use Rattle.history_laws.proofs.Entering.{entrants}
use Rattle.season_laws.specs.NextRounds.{NextRoundExists}
use Rattle.allocations.proofs.Best.{best_there}
use Rattle.season_laws.proofs.Shown.{shown}

-- the laws of the choice of a programme on which this rests
pub record AreLaws : Type 0 where
  pub well : ProgrammesChooseWell
  pub exists : ProgrammeChoiceExists
  pub once : AdmittedOnce

-- the lists of so many programmes from one on, where there are such lists of each
record AreAll (Shows : ℕ → Programme → Type 0) (from count : ℕ) : Type 0 where
  pub programmes : List Programme
  pub full : length programmes ≡ count
  pub each : (j : ℕ) (programme : Programme) → slice_get programmes j ≡ Some programme → Shows (from + j) programme

all_there : (Shows : ℕ → Programme → Type 0) (from count : ℕ) → ((p : ℕ) → p < from + count → (programme : Programme) × Shows p programme) → AreAll Shows from count
all_there Shows from zero one = record { programmes = []; full = refl; each = λ j programme at. absurd (cc) }
all_there Shows from (suc count) one =
    let here = one from (omega arith) in
    let rest = all_there Shows (from + 1) count (λ p less. one p (omega (arith, less))) in
    record { programmes = here.0 ∷ rest.programmes; full = ap suc rest.full; each = each_of here.0 here.1 rest }
  where
    each_of : (first : Programme) → Shows from first → (rest : AreAll Shows (from + 1) count) → (j : ℕ) (programme : Programme) → slice_get (first ∷ rest.programmes) j ≡ Some programme
        → Shows (from + j) programme
    each_of first mine rest zero programme at =
        let same : first ≡ programme = cc in
        let number : from ≡ from + 0 = omega arith in
        subst (λ n. Shows n programme) number (subst (λ z. Shows from z) same mine)
    each_of first mine rest (suc j) programme at =
        let number : from + 1 + j ≡ from + suc j = omega arith in
        subst (λ n. Shows n programme) number (rest.each j programme at)

pub next_round : AreLaws → (facts : SeasonFacts) → NextRoundExists facts
next_round laws facts state sound orderly =
    let table = matrix_at facts state in
    let count = length table.programmes in
    let seeks = next_seeks facts state in
    let seekers = seekers_of table facts.people (lists_in_order facts) seeks in
    let are = market table facts.people (lists_in_order facts) seeks orderly.seats (entrants facts table sound orderly.programmes) in
    let well = laws.well facts.version (guaranteed_next facts state) table orderly.seats in
    let best = best_there (rule_of facts.version (guaranteed_next facts state) table) (MayApplyIn table) count seekers are well in
    let all = all_there (λ p programme. ShowsFrom facts.version (seats_in table p) (applicants p seekers best.0) programme) 0 count
    (λ p less.
    let below : p < count = omega (arith, less) in
    shown laws.exists laws.once facts.version (seats_in table p) (applicants p seekers best.0) (orderly.seats.sound p below)
    (applicants_may (rule_of facts.version (guaranteed_next facts state) table) (MayApplyIn table) count p seekers best.0 are well below best.1.fair.allocation.full)) in (
      record { number = state.now + 1; seeks = seeks; seats = best.0; programmes = all.programmes },
      record {
        number = refl;
        sought = refl;
        best = best.1;
        count = all.full;
        shown = λ p programme at.
            let same : 0 + p ≡ p = omega arith in
            subst (λ n. ShowsFrom facts.version (seats_in table n) (applicants n seekers best.0) programme) same (all.each p programme at);
      },
    )
