use Rattle.office_text.proofs.FirstFaultLemmas.{one_answer}
use Rattle.office_text.proofs.laws.one_first_fault.Goals as goal

pub returns : goal.returns
returns c = λ judge rows. one_answer judge rows
