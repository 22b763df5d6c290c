use Rattle.season_audit.proofs.auditor.Auditor.answer.Given as goal

abbrev pub ghost-note : goal.ghost-note
ghost-note g a = g.state
