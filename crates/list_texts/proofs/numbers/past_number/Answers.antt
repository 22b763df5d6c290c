use Rattle.list_texts.proofs.NumberLines.{past-word, word-apart}
use Rattle.list_texts.proofs.numbers.past_number.Goals as goal

pub returns-in-Some : goal.returns-in-Some
returns-in-Some c = past-word c.args.word.now c.args.high c.args.piece.now c.in-Some.rest.now c.in-Some.ensures.some c.past_digits.result c.past_digits.ensures

pub returns-in-None : goal.returns-in-None
returns-in-None c = word-apart c.args.word.now c.args.high c.args.piece.now c.in-None.ensures.none
