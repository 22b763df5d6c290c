use Rattle.std.proofs.Common.{◌≡◌}
use Rattle.programme_lists.specs.Chosen.{AreApplicants, everybody}
use Rattle.choice_trials.proofs.large_programmes.offer_all.Given as goal
use Rattle.open_then_category.specs.State.{admissions_of}

abbrev pub invariant-loop-person : goal.invariant-loop-person
invariant-loop-person g l = (l.state.seats ≡ l.fn.state.seats) × AreApplicants l.list (everybody (admissions_of l.state))
