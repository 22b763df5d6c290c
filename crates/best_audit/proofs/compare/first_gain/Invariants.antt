use Rattle.season_facts.specs.Season.{facts_of}
use Rattle.best_audit.proofs.Gaining.{NobodyBefore}
use Rattle.best_audit.proofs.compare.first_gain.Given as goal

abbrev pub invariant-loop-k : goal.invariant-loop-k
invariant-loop-k g l = NobodyBefore (facts_of l.season) g.at.state l.best l.seats l.k
