use Rattle.std.proofs.Common.{sym, ap, ◌∙◌, is_some, rules}
use Rattle.text_readers.proofs.NumberLemmas.{begins-number, number-begins}
use Rattle.text_readers.proofs.parts.begins_number.Goals as goal

pub returns-else-is_empty : goal.returns-else-is_empty
returns-else-is_empty c = λ byte tail none. (
  λ read. number-begins c.numbers_are_inverse.ensures c.args.high c.ranges.high.fits c.args.piece.now (sym (c.is_some.ensures ∙ ap is_some c.read_number.ensures) ∙ read) byte tail,
  λ b. c.is_some.ensures ∙ ap is_some c.read_number.ensures
      ∙ begins-number c.numbers_are_inverse.ensures c.args.high c.ranges.high.fits c.args.piece.now (search rules) byte tail none b,
)
