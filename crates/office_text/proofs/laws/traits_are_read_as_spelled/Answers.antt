use Rattle.office_text.proofs.TraitsLemmas.{read_as_spelled}
use Rattle.office_text.proofs.laws.traits_are_read_as_spelled.Goals as goal

pub returns : goal.returns
returns c = read_as_spelled
