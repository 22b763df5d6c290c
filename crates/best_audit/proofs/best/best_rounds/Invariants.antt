use Rattle.season_facts.specs.Season.{facts_of}
use Rattle.audit_rules.specs.Replay.{before}
use Rattle.season_audit.specs.Audit.{papers_in}
use Rattle.best_audit.proofs.Replaying.{Gone}
use Rattle.best_audit.proofs.best.best_rounds.Given as goal

abbrev pub ghost-gain_at : goal.ghost-gain_at
ghost-gain_at a = record { papers = papers_in a.dossier.now; state = before (facts_of a.dossier.now.season) a.dossier.now.script (papers_in a.dossier.now) a.at }

abbrev pub invariant-loop-at : goal.invariant-loop-at
invariant-loop-at l = Gone (facts_of l.dossier.season) l.dossier.script (papers_in l.dossier) l.at l.auditor
