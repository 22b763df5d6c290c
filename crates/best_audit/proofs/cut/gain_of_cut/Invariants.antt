use Rattle.best_audit.proofs.cut.gain_of_cut.Given as goal

abbrev pub ghost-seeks_at : goal.ghost-seeks_at
ghost-seeks_at g a = g.cut.state

abbrev pub ghost-first_gain : goal.ghost-first_gain
ghost-first_gain g a = g.cut
