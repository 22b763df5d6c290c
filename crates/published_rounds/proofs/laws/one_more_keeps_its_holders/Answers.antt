use Rattle.published_rounds.proofs.OneMore as more
use Rattle.published_rounds.proofs.laws.one_more_keeps_its_holders.Goals as goal

pub returns : goal.returns
returns c = more.one_more_keeps_its_holders c.one_choice.ensures c.marks_by_hand.ensures c.by_hand.ensures
