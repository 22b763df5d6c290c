use Rattle.history_laws.proofs.laws.one_history.Goals as goal

pub returns : goal.returns
returns c facts entries state other sound first second = c.one_state.ensures facts (c.next_rounds_are_one.ensures facts sound) entries state other first second
