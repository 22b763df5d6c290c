use Rattle.std.proofs.Common.{◌≡◌, ◌<◌, ℕ, Some}
use Rattle.std.specs.Prelude.{slice_get}
use Rattle.office_base.specs.declared.person.Person.{Person}
use Rattle.season_facts.specs.Season.{facts_of}
use Rattle.audit_rules.specs.Cut.{IsSought}
use Rattle.audit_rules.proofs.sought.first_unsought.Given as goal

abbrev pub invariant-loop-k : goal.invariant-loop-k
invariant-loop-k g l = (j : ℕ) (other : Person) → j < l.k → slice_get (facts_of l.season).people j ≡ Some other → IsSought (facts_of l.season) g.at.papers g.at.state other
