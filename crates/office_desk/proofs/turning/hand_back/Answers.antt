use Rattle.std.proofs.Common.{rules, ap, ◌∙◌, refl}
use Rattle.atomic_table.specs.Table.{rest}
use Rattle.office_desk.specs.Told.{advanced}
use Rattle.office_desk.proofs.Advancing.{advances}
use Rattle.office_desk.proofs.turning.hand_back.Goals as goal

pub store-requires : goal.store-requires
store-requires g c =
    let held = c.requires.held in
    let r = held.2 in (
      search rules,
      search rules,
      advances g.V.Booked.basis g.V.Booked.entries g.V.Booked.number g.V.Booked.count g.V.Keeps.kept c.args.desk.now.table.shared.key _ _ _ held.0 c.args.number r.counted r.kept_then _ r.taken held.1 r.holds
          r.about r.appends r.counts r.keeps refl,
    )

pub returns-clause-view : goal.returns-clause-view
returns-clause-view g c =
    let held = c.requires.held in
    (held.0, held.1, c.store.ensures.2 ∙ ap (λ l. (advanced g.V.Booked.entries g.V.Booked.count g.V.Keeps.kept c.args.seat.now.me.0 l, rest l)) held.1)
