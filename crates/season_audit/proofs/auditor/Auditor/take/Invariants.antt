use Rattle.season_audit.proofs.auditor.Auditor.take.Given as goal

abbrev pub ghost-answer : goal.ghost-answer
ghost-answer g a = g.state

abbrev pub ghost-cut : goal.ghost-cut
ghost-cut g a = g.state

abbrev pub ghost-raise : goal.ghost-raise
ghost-raise g a = g.state
