use Rattle.std.proofs.Common.{rules, ap, ◌∙◌}
use Rattle.office_desk.proofs.Looking.{looks}
use Rattle.office_desk.proofs.turning.await_turn.Goals as goal

pub load-serving-requires : goal.load-serving-requires
load-serving-requires g c = (
  search rules,
  search rules,
  looks g.V.Booked.basis g.V.Booked.entries g.V.Booked.number g.V.Booked.count g.V.Keeps.kept c.args.desk.now.table.shared.key _ _ _ c.args.number (ap (λ m. m.0.stage) c.loop.invariant.3 ∙ c.requires.waits.0),
)
