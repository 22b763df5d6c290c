use Rattle.std.proofs.Common.{rules, ap, ◌∙◌, subst}
use Rattle.office_desk.proofs.Joining.{joins}
use Rattle.office_desk.proofs.Looking.{settles}
use Rattle.office_desk.specs.declared.view.Stage.TheVariants.{Idle}
use Rattle.office_desk.specs.Told.{IsSettled}
use Rattle.office_desk.proofs.passes.unite.Goals as goal

pub join_seat-requires : goal.join_seat-requires
join_seat-requires g c = (
  c.requires.table.0,
  c.requires.table.1,
  c.requires.idle.2,
  search rules,
  joins g.V.Booked.basis g.V.Booked.entries g.V.Booked.number g.V.Booked.count g.V.Keeps.kept c.args.desk.now.table.shared.key _ _ _ _ c.requires.idle.0 c.requires.idle.1 c.requires.shares,
)

pub load-requires : goal.load-requires
load-requires g c = (
  search rules,
  search rules,
  settles g.V.Booked.basis g.V.Booked.entries g.V.Booked.number g.V.Booked.count g.V.Keeps.kept c.args.desk.now.table.shared.key _ _ _ _ _ _ _ (ap (λ m. m.0.stage) c.join_seat.ensures.2),
)

pub returns-clause-view : goal.returns-clause-view
returns-clause-view g c =
    let me = c.join_seat.ensures.2 in
    let told = c.load.ensures.2 _ _ _ _ (ap (λ m. m.0.stage) me) in
    (λ i. (told.0 i, told.1 i)) ∙ ap (λ m. (record m.0 { stage = Idle }, m.1)) me

pub returns-clause-settled : goal.returns-clause-settled
returns-clause-settled g c =
    let me = c.join_seat.ensures.2 in
    let told = c.load.ensures.2 _ _ _ _ (ap (λ m. m.0.stage) me) in
    let v = c.args.seat.now.me.0 in
    let w = c.args.other.me.0 in
    subst (λ u. IsSettled g.V.Booked.number u v.seen w.seen v.tickets w.tickets) (ap (λ m. m.0) me) told.2
