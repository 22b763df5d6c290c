use Rattle.command_words.proofs.Spelling.{one_spelled}
use Rattle.command_words.proofs.laws.one_spelling.Goals as goal

pub returns : goal.returns
returns c = one_spelled c.numbers_are_inverse.ensures
