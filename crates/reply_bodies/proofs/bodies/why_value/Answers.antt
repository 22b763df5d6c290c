use Rattle.std.proofs.Common.{subst, sym, ◌∙◌}
use Rattle.std.specs.Str.{IsAscii}
use Rattle.reply_bodies.proofs.Ascii.{ascii_reason}
use Rattle.reply_bodies.proofs.bodies.why_value.Goals as goal

pub text_value-requires : goal.text_value-requires
text_value-requires c =
    subst IsAscii (sym (c.as_slice.ensures ∙ c.in_ok-words.ensures)) (ascii_reason c.args.matrix.now c.args.cand.0 c.args.prog.0 c.args.answer.now c.codes_are_ascii.ensures c.answers_are_ascii.ensures)
