use Rattle.apply_engine.proofs.one_round.finish.Given as goal

abbrev pub ghost-list_programmes : goal.ghost-list_programmes
ghost-list_programmes g a = g.over
