use Rattle.audit_rules.proofs.cut.list_faults.Given as goal

abbrev pub ghost-first_unlisted : goal.ghost-first_unlisted
ghost-first_unlisted g a = g.at

abbrev pub ghost-applicants : goal.ghost-applicants
ghost-applicants g a = g.at

abbrev pub ghost-unsound_in : goal.ghost-unsound_in
ghost-unsound_in g a = g.at
