use Rattle.apply_engine.proofs.one_round.round_on.Given as goal

abbrev pub ghost-apply_all : goal.ghost-apply_all
ghost-apply_all g a = g.over

abbrev pub ghost-finish : goal.ghost-finish
ghost-finish g a = g.over
