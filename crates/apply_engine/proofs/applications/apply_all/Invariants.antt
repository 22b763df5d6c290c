use Rattle.apply_engine.proofs.applications.apply_all.Given as goal

abbrev pub ghost-apply_in_order : goal.ghost-apply_in_order
ghost-apply_in_order g a = g.over
