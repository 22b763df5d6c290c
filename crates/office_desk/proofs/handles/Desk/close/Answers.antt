use Rattle.std.proofs.Common.{refl, ap, sym, subst, ◌∙◌, ◌≤◌, ◌++◌}
use Rattle.std.specs.Option.{IsSome}
use Rattle.std.proofs.lemmas.Option.{same_Some}
use Rattle.office_desk.specs.Own.{among}
use Rattle.office_desk.proofs.Closing.{found_left}
use Rattle.office_desk.proofs.handles.Desk.close.Goals as goal

pub unwrap-value-requires : goal.unwrap-value-requires
unwrap-value-requires g c =
    let seat = c.into_seat.ensures in
    let left = found_left g.V.Booked.basis g.V.Booked.entries g.V.Booked.number g.V.Booked.count g.V.Keeps.kept c.args.self.table.shared.key _ _ _ _ c.take.result c.close_with-closed.ensures.values.2
    (ap (λ s. s.me.0.shares) seat ∙ c.requires.whole) (ap (λ s. s.me.0.stage) seat ∙ c.args.pass.idle) c.take.ensures.value in
    subst IsSome (sym left.1) refl

pub returns-clause-basis : goal.returns-clause-basis
returns-clause-basis g c =
    let seat = c.into_seat.ensures in
    let left = found_left g.V.Booked.basis g.V.Booked.entries g.V.Booked.number g.V.Booked.count g.V.Keeps.kept c.args.self.table.shared.key _ _ _ _ c.take.result c.close_with-closed.ensures.values.2
    (ap (λ s. s.me.0.shares) seat ∙ c.requires.whole) (ap (λ s. s.me.0.stage) seat ∙ c.args.pass.idle) c.take.ensures.value in
    let same = same_Some _ _ (sym left.1 ∙ c.unwrap-value.ensures) in
    ap g.V.Booked.basis (sym same) ∙ left.2.basis_is

pub returns-clause-seen : goal.returns-clause-seen
returns-clause-seen g c =
    let seat = c.into_seat.ensures in
    let left = found_left g.V.Booked.basis g.V.Booked.entries g.V.Booked.number g.V.Booked.count g.V.Keeps.kept c.args.self.table.shared.key _ _ _ _ c.take.result c.close_with-closed.ensures.values.2
    (ap (λ s. s.me.0.shares) seat ∙ c.requires.whole) (ap (λ s. s.me.0.stage) seat ∙ c.args.pass.idle) c.take.ensures.value in
    let same = same_Some _ _ (sym left.1 ∙ c.unwrap-value.ensures) in
    ap g.V.Booked.entries (sym same) ∙ left.2.seen ∙ ap (λ s. s.me.0.seen) seat

pub returns-clause-own : goal.returns-clause-own
returns-clause-own g c =
    let seat = c.into_seat.ensures in
    let left = found_left g.V.Booked.basis g.V.Booked.entries g.V.Booked.number g.V.Booked.count g.V.Keeps.kept c.args.self.table.shared.key _ _ _ _ c.take.result c.close_with-closed.ensures.values.2
    (ap (λ s. s.me.0.shares) seat ∙ c.requires.whole) (ap (λ s. s.me.0.stage) seat ∙ c.args.pass.idle) c.take.ensures.value in
    let same = same_Some _ _ (sym left.1 ∙ c.unwrap-value.ensures) in
    ap g.V.Booked.entries (sym same) ∙ left.2.own ∙ ap (λ s. g.V.Booked.entries c.args.self.table.shared.key.value ++ among g.V.Booked.number s.me.0.tickets s.me.0.seen) seat

pub returns-clause-count : goal.returns-clause-count
returns-clause-count g c =
    let seat = c.into_seat.ensures in
    let left = found_left g.V.Booked.basis g.V.Booked.entries g.V.Booked.number g.V.Booked.count g.V.Keeps.kept c.args.self.table.shared.key _ _ _ _ c.take.result c.close_with-closed.ensures.values.2
    (ap (λ s. s.me.0.shares) seat ∙ c.requires.whole) (ap (λ s. s.me.0.stage) seat ∙ c.args.pass.idle) c.take.ensures.value in
    let same = same_Some _ _ (sym left.1 ∙ c.unwrap-value.ensures) in
    subst (λ s. s.me.0.count ≤ g.V.Booked.count c.unwrap-value.result) seat (subst (λ x. c.into_seat.result.me.0.count ≤ g.V.Booked.count x) same left.2.counts)

pub returns-clause-kept : goal.returns-clause-kept
returns-clause-kept g c =
    let seat = c.into_seat.ensures in
    let left = found_left g.V.Booked.basis g.V.Booked.entries g.V.Booked.number g.V.Booked.count g.V.Keeps.kept c.args.self.table.shared.key _ _ _ _ c.take.result c.close_with-closed.ensures.values.2
    (ap (λ s. s.me.0.shares) seat ∙ c.requires.whole) (ap (λ s. s.me.0.stage) seat ∙ c.args.pass.idle) c.take.ensures.value in
    let same = same_Some _ _ (sym left.1 ∙ c.unwrap-value.ensures) in
    subst (λ s. s.me.0.kept ≤ g.V.Keeps.kept c.unwrap-value.result) seat (subst (λ x. c.into_seat.result.me.0.kept ≤ g.V.Keeps.kept x) same left.2.keeps)
