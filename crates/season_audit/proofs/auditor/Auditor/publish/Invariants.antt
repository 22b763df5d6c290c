use Rattle.season_audit.proofs.auditor.Auditor.publish.Given as goal

abbrev pub ghost-cut_fault : goal.ghost-cut_fault
ghost-cut_fault g a = g.at

abbrev pub ghost-stands_after : goal.ghost-stands_after
ghost-stands_after g a = g.at
