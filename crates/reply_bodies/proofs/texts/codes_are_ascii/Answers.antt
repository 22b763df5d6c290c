use Rattle.reply_bodies.proofs.Ascii.{ascii_in}
use Rattle.reply_bodies.proofs.texts.codes_are_ascii.Goals as goal

pub returns : goal.returns
returns c = ascii_in c.args.matrix.now c.args.prog.0 c.code-code.result c.code-code.ensures c.bytes.ensures.spelled
