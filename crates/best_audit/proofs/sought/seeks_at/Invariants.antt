use Rattle.std.proofs.Common.{◌≡◌, map, take}
use Rattle.office_base.specs.declared.person.Person.{Person}
use Rattle.office_moves.specs.Moves.{next_seek}
use Rattle.season_facts.specs.Season.{facts_of}
use Rattle.best_audit.proofs.sought.seeks_at.Given as goal

abbrev pub invariant-loop-k : goal.invariant-loop-k
invariant-loop-k g l = l.seeks ≡ map (λ (person : Person). next_seek (facts_of l.season) g.state person.id.0) (take l.k (facts_of l.season).people)
