use Rattle.best_audit.proofs.cut.gain_at.Given as goal

abbrev pub ghost-gain_of_cut : goal.ghost-gain_of_cut
ghost-gain_of_cut g a = g.cut
