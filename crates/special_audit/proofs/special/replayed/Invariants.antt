use Rattle.season_facts.specs.Season.{facts_of}
use Rattle.audit_rules.specs.Replay.{before}
use Rattle.season_audit.specs.Audit.{IsUpTo, papers_in}
use Rattle.special_audit.proofs.special.replayed.Given as goal

abbrev pub invariant-loop-at : goal.invariant-loop-at
invariant-loop-at l = IsUpTo (facts_of l.dossier.season) (before (facts_of l.dossier.season) l.dossier.script (papers_in l.dossier) l.at) l.auditor
