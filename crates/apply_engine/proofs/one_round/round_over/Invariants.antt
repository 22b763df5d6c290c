use Rattle.apply_engine.proofs.one_round.round_over.Given as goal

abbrev pub ghost-round_on : goal.ghost-round_on
ghost-round_on g a = record { version = a.version; table = a.matrix.now; people = a.register.now.people; lists = a.lists.now; guaranteed = a.guaranteed.now }
