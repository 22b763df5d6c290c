use Rattle.std.proofs.Common.{length}
use Rattle.season_facts.specs.Season.{facts_of}
use Rattle.audit_rules.specs.Cut.{seekers_at}
use Rattle.audit_rules.proofs.Grouping.{Grouping}
use Rattle.audit_rules.proofs.groups.applicants.Given as goal

abbrev pub invariant-loop-k : goal.invariant-loop-k
invariant-loop-k g l = Grouping (length (facts_of l.season).matrix.programmes) l.k (seekers_at (facts_of l.season) g.at.state) l.seats l.groups.items
