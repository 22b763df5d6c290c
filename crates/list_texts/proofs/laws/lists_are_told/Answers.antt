use Rattle.list_texts.proofs.WrittenLists.{lists-told}
use Rattle.list_texts.proofs.laws.lists_are_told.Goals as goal

pub returns : goal.returns
returns c = lists-told
