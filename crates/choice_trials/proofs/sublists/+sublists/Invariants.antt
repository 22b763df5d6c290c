use Rattle.std.proofs.Common.{◌≡◌, ◌∷◌, ◌++◌, take, map, length}
use Rattle.choice_trials.proofs.sublists.+sublists.Given as goal

abbrev pub decreases-sublists : goal.decreases-sublists
decreases-sublists l = length l.people.now

abbrev pub invariant-loop-k : goal.invariant-loop-k
invariant-loop-k l = l.sets.items ≡ l.initial.sets.items ++ map (λ set. l.person ∷ set) (take l.k l.initial.sets.items)
