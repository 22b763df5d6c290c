use Rattle.section_rows.specs.Rows.{rows_of}
use Rattle.office_moves.specs.Facts.{register_of}
use Rattle.special_round.proofs.Answer
use Rattle.special_round.proofs.laws.one_remaining.Goals as goal

pub returns : goal.returns
returns c = λ facts state body. Answer.one_answer facts state body (c.one_reading.ensures (register_of facts) facts.matrix (rows_of body))
