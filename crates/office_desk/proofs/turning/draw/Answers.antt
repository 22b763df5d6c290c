use Rattle.std.proofs.Common.{rules}
use Rattle.office_desk.proofs.Drawing.{draws}
use Rattle.office_desk.proofs.turning.draw.Goals as goal

pub fetch_add-requires : goal.fetch_add-requires
fetch_add-requires g c = (
  c.requires.table,
  search rules,
  draws g.V.Booked.basis g.V.Booked.entries g.V.Booked.number g.V.Booked.count g.V.Keeps.kept c.args.desk.now.table.shared.key _ _ _ c.requires.idle c.requires.turns,
)
