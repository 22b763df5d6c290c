use Rattle.list_texts.proofs.NumberLines.{whole-none, whole-small, whole-some}
use Rattle.list_texts.proofs.numbers.whole_number.Goals as goal

pub returns-clause-small : goal.returns-clause-small
returns-clause-small c = whole-small c.numbers_are_inverse.ensures c.args.high c.ranges.high.fits c.args.text.now c.read_number.result c.read_number.ensures

pub returns-clause-some : goal.returns-clause-some
returns-clause-some c = whole-some c.numbers_are_inverse.ensures c.args.high c.ranges.high.fits c.args.text.now c.read_number.result c.read_number.ensures

pub returns-clause-none : goal.returns-clause-none
returns-clause-none c = whole-none c.numbers_are_inverse.ensures c.args.high c.ranges.high.fits c.args.text.now c.read_number.result c.read_number.ensures
