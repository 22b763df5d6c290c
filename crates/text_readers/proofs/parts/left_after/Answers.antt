use Rattle.text_readers.proofs.PartsLemmas.{is_left-after, is_left-inside, is_prefix-apart}
use Rattle.text_readers.proofs.parts.left_after.Goals as goal

pub returns-in-Some-clause-some : goal.returns-in-Some-clause-some
returns-in-Some-clause-some c = is_left-after c.args.piece.now c.args.part.now c.in-Some.rest.now c.in-Some.ensures.some

pub returns-in-Some-after-clause-some : goal.returns-in-Some-after-clause-some
returns-in-Some-after-clause-some c = is_left-inside c.args.piece.now c.args.part.now c.in-Some-after.field-0.now c.in-Some-after.ensures.some

pub returns-in-None-after-clause-none : goal.returns-in-None-after-clause-none
returns-in-None-after-clause-none c = is_prefix-apart c.args.piece.now c.args.part.now c.in-None.ensures.none c.in-None-after.ensures.none
