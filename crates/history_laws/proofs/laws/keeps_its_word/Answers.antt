use Rattle.history_laws.proofs.Word.{keeps_its_word}
use Rattle.history_laws.proofs.laws.keeps_its_word.Goals as goal

pub returns : goal.returns
returns c = λ facts state sound course. keeps_its_word facts state sound c.choose_well.ensures c.grow.ensures c.steps_choose_well.ensures course
