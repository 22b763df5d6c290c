use Rattle.list_texts.proofs.ListOnes.{list-text-one}
use Rattle.list_texts.proofs.laws.lists_are_one.Goals as goal

pub returns : goal.returns
returns c = λ table people text a b known is its. list-text-one table people known text a b is its
