use Rattle.audit_rules.proofs.cut.cut_fault.Given as goal

abbrev pub ghost-first_unsought : goal.ghost-first_unsought
ghost-first_unsought g a = g.at

abbrev pub ghost-first_fallen : goal.ghost-first_fallen
ghost-first_fallen g a = g.at

abbrev pub ghost-list_faults : goal.ghost-list_faults
ghost-list_faults g a = g.at
