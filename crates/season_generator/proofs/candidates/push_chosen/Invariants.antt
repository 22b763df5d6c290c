use Rattle.std.proofs.Common.{◌≡◌, ◌++◌, ◌+◌, ◌*◌, ◌%◌, codes}
use Rattle.season_generator.specs.Bundle.{programme_code, lines}
use Rattle.season_generator.proofs.candidates.push_chosen.Given as goal

abbrev pub invariant-loop-place : goal.invariant-loop-place
invariant-loop-place l = l.out ≡ l.initial.out ++ lines l.place (λ place. codes "," ++ programme_code ((l.profile.first + place * l.profile.stride) % 100))
