use Rattle.std.proofs.Common.{sym, subst}
use Rattle.office_base.specs.Merit.{CanBeRanked}
use Rattle.programme_lists.specs.Chosen.{everybody}
use Rattle.programme_lists.specs.Programme.{Admissions}
use Rattle.choice_trials.proofs.large_programmes.holds_choice_after.Goals as goal

pub offer_all-requires-clause-may : goal.offer_all-requires-clause-may
offer_all-requires-clause-may g c =
    subst (λ (a : Admissions). CanBeRanked c.programme.result.list (everybody a)) (sym c.requires.nobody) (record { traits = tt; placed = tt; numbers = tt; distinct = tt })
