use Rattle.season_audit.proofs.auditor.Auditor.finish.Given as goal

abbrev pub ghost-is_right : goal.ghost-is_right
ghost-is_right g a = g.state
