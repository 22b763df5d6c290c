use Rattle.std.proofs.Common.{ℕ, ◌<◌}
use Rattle.season_facts.specs.Season.{facts_of}
use Rattle.audit_rules.specs.Cut.{IsSoundList}
use Rattle.audit_rules.proofs.cut.unsound_in.Given as goal

abbrev pub invariant-loop-p : goal.invariant-loop-p
invariant-loop-p g l = (q : ℕ) → q < l.p → IsSoundList (facts_of l.season) g.at.papers g.at.state q
