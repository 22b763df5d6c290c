use Rattle.office_text.proofs.NumberLemmas.{are_inverse}
use Rattle.office_text.proofs.laws.numbers_are_inverse.Goals as goal

pub returns : goal.returns
returns c = are_inverse
