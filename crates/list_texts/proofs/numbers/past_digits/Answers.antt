use Rattle.std.proofs.Common.{sym, ◌∙◌}
use Rattle.std.proofs.lemmas.Bool.{false≢true}
use Rattle.list_texts.proofs.NumberLines.{past-apart, past-whole}
use Rattle.list_texts.proofs.numbers.past_digits.Goals as goal

pub returns-in-Some-whole_number : goal.returns-in-Some-whole_number
returns-in-Some-whole_number c =
    past-whole c.args.high c.ranges.high.fits c.args.piece.now c.in-Some.number.now c.in-Some.rest.now c.in-Some.ensures.some c.in-Some.ensures.first
    c.in-Some-whole_number.field-0 c.in-Some-whole_number.ensures.small c.in-Some-whole_number.ensures.some

pub returns-in-None-whole_number : goal.returns-in-None-whole_number
returns-in-None-whole_number c =
    past-apart c.args.high c.ranges.high.fits c.args.piece.now c.in-Some.number.now c.in-Some.rest.now c.in-Some.ensures.some c.in-Some.ensures.first c.in-None-whole_number.ensures.none

pub returns-then-begins_number : goal.returns-then-begins_number
returns-then-begins_number c = λ tail.
    let b = (c.begins_number.ensures 32 tail c.in-None.ensures.none).0 c.if-begins_number.true in
    record { number = b.number; within = b.within; begins = b.begins }

pub returns-else-begins_number : goal.returns-else-begins_number
returns-else-begins_number c = λ tail b.
    false≢true (sym c.if-begins_number.false ∙ (c.begins_number.ensures 32 tail c.in-None.ensures.none).1 (record { number = b.number; within = b.within; begins = b.begins }))
