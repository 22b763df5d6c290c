use Rattle.std.proofs.Common.{◌≡◌, ◌≤◌, length, true, arith}
use Rattle.office_base.proofs.short_text.ShortText.read.Goals as goal

pub overflow_cast-result : goal.overflow_cast-result
overflow_cast-result g c =
    let spelled : g.K.Spelling.spells c.args.bytes.now ≡ true = cc in
    let within : length c.args.bytes.now ≤ g.row.N = g.K.Spelling.fits c.args.bytes.now spelled in
    omega (arith, within, g.K.Spelling.small)
