use Rattle.std.proofs.Common.{subst, sym, ◌∙◌}
use Rattle.std.specs.Str.{IsAscii}
use Rattle.reply_bodies.proofs.Ascii.{ascii_cutoffs}
use Rattle.reply_bodies.proofs.cutoffs.cutoffs_value.Goals as goal

pub text_value-requires : goal.text_value-requires
text_value-requires c =
    subst IsAscii (sym (c.as_slice.ensures ∙ c.in_ok-words.ensures)) (ascii_cutoffs c.args.matrix.now c.args.round c.args.prog.0 c.args.lines.now c.codes_are_ascii.ensures)
