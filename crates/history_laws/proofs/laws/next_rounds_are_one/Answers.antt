use Rattle.history_laws.proofs.laws.next_rounds_are_one.Goals as goal

pub returns : goal.returns
returns c facts sound entries state reached = c.one_next_round.ensures facts state sound (c.orderly.ensures facts entries state sound reached)
