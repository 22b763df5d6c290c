use Rattle.season_facts.specs.Season.{facts_of}
use Rattle.audit_rules.specs.Replay.{before}
use Rattle.season_audit.specs.Audit.{papers_in}
use Rattle.best_audit.proofs.best.take_next.Given as goal

abbrev pub ghost-take : goal.ghost-take
ghost-take a = before (facts_of a.dossier.now.season) a.dossier.now.script (papers_in a.dossier.now) a.at
