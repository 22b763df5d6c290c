use Rattle.season_audit.specs.Audit.{papers_in}
use Rattle.season_audit.proofs.auditor.Auditor.cut.Given as goal

abbrev pub ghost-finish : goal.ghost-finish
ghost-finish g a = g.state

abbrev pub ghost-publish : goal.ghost-publish
ghost-publish g a = record { papers = papers_in a.dossier.now; state = g.state }
