use Rattle.history_laws.proofs.laws.one_answer.Goals as goal

pub returns : goal.returns
returns c facts entries state after other request reply again sound history first second =
    c.one_reply.ensures facts (c.next_rounds_are_one.ensures facts sound) (c.cutoffs_are_one.ensures facts sound) entries state after other request reply again history first second
