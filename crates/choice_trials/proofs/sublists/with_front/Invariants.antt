use Rattle.std.proofs.Common.{◌≡◌, ◌∷◌, take}
use Rattle.choice_trials.proofs.sublists.with_front.Given as goal

abbrev pub invariant-loop-person : goal.invariant-loop-person
invariant-loop-person l = l.people ≡ l.fn.first ∷ take l.person-index l.rest
