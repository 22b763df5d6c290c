use Rattle.published_rounds.proofs.ReplyLaws as Reply
use Rattle.published_rounds.proofs.laws.replies_decide.Goals as goal

pub returns : goal.returns
returns c = Reply.replies_decide c.orderly.ensures c.cutoffs_exist.ensures c.one_list.ensures c.lists_hold_choices.ensures c.within_cutoffs_is_seated.ensures
