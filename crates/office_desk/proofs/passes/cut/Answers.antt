use Rattle.std.proofs.Common.{rules, subst, ◌≤◌}
use Rattle.office_desk.proofs.Parting.{parts}
use Rattle.office_desk.proofs.passes.cut.Goals as goal

pub split_seat-requires : goal.split_seat-requires
split_seat-requires g c = (
  c.requires.table,
  search rules,
  parts g.V.Booked.basis g.V.Booked.entries g.V.Booked.number g.V.Booked.count g.V.Keeps.kept c.args.desk.now.table.shared.key _ _ _ c.requires.idle c.requires.shares
      (subst (λ k. k ≤ c.args.seat.now.me.0.left) c.requires.picked c.requires.left),
)
