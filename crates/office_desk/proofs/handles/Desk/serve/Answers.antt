use Rattle.std.proofs.Common.{rules, ap, sym, subst, refl, ◌∙◌, ◌<◌, ◌∷◌, map, arith, ⊎_elim, inl, inr, Some}
use Rattle.atomic_table.specs.Table.{rest}
use Rattle.office_desk.specs.Own.{among}
use Rattle.office_desk.specs.Told.{IsTaken, holding, after_turn}
use Rattle.office_desk.specs.declared.view.View.{View}
use Rattle.office_desk.specs.declared.view.Stage.TheVariants.{Waits}
use Rattle.office_desk.proofs.EntryLemmas.{own_after, all_from_map}
use Rattle.office_desk.proofs.TicketLemmas.{all_below}
use Rattle.office_desk.proofs.Slots.{there_still, taken_out}
use Rattle.office_desk.proofs.handles.Desk.serve.Goals as goal

pub slot_mut-slot-requires : goal.slot_mut-slot-requires
slot_mut-slot-requires g c =
    let held = c.await_turn.ensures.held in
    (search rules, (Some held.0, there_still held.0 _ _ (ap (λ m. m.1) held.1)))

pub hand_back-requires-clause-held : goal.hand_back-requires-clause-held
hand_back-requires-clause-held g c =
    let held = c.await_turn.ensures.held in
    let x = held.0 in
    let taken = held.2 in
    let y = c.job-answer.new.arg2 in
    let drawn = c.draw-number.ensures.drawn in
    let same = taken_out x _ _ _ _ (ap (λ m. m.1) held.1) c.slot_mut-slot.ensures.value c.in-Some.is in
    let on = taken.about _ (ap (λ m. m.0.about) drawn ∙ c.requires.desk.1) in
    let left = (c.requires.job x c.draw-number.result taken.small on taken.last _ (sym same)).1 _ _ c.job-answer.ensures in (
      y,
      ap (λ m. (0, Some y) ∷ rest m.1) held.1,
      record {
        taken = g.V.Booked.entries x;
        counted = g.V.Booked.count x;
        kept_then = g.V.Keeps.kept x;
        holds = ap (λ m. m.0.stage) held.1;
        about = λ key e. left.0 ∙ taken.about key (ap (λ m. m.0.about) (sym held.1) ∙ e);
        appends = left.1;
        counts = left.2;
        keeps = left.3;
      },
    )

pub returns-clause-turned : goal.returns-clause-turned
returns-clause-turned g c =
    let n = c.draw-number.result in
    let held = c.await_turn.ensures.held in
    let x = held.0 in
    let y = c.job-answer.new.arg2 in
    let v = c.args.pass.now.seat.me.0 in
    let out = c.await_turn.new.seat.me.0 in
    let drawn = c.draw-number.ensures.drawn in
    let same = taken_out x _ _ _ _ (ap (λ m. m.1) held.1) c.slot_mut-slot.ensures.value c.in-Some.is in
    let back = c.hand_back.ensures.view in
    let same' = taken_out y back.0 (Some back.0) _ _ refl (there_still back.0 _ _ back.1) refl in
    let waits : View _ _ = record v { stage = Waits n } in
    let taken = subst (λ u. IsTaken g.V.Booked.basis g.V.Booked.entries g.V.Booked.number g.V.Booked.count g.V.Keeps.kept n u x) (ap (λ m. m.0) drawn) held.2 in
    let on = taken.about _ c.requires.desk.1 in
    let left = (c.requires.job x n taken.small on taken.last _ (sym same)).1 _ _ c.job-answer.ensures in
    let view = ap (λ m. m.0) back.2
    ∙ ap (λ z. after_turn g.V.Booked.entries g.V.Booked.count g.V.Keeps.kept out z out.stage) (sym same')
    ∙ ap (λ u. after_turn g.V.Booked.entries g.V.Booked.count g.V.Keeps.kept u y u.stage) (ap (λ m. m.0) held.1 ∙ ap (λ m. holding g.V.Booked.entries g.V.Booked.count g.V.Keeps.kept m.0 n x) drawn) in
    let above = all_from_map (λ k. k < n) g.V.Booked.number (g.V.Booked.entries x) (all_below 0 n (map g.V.Booked.number (g.V.Booked.entries x)) taken.rising taken.last) in
    let own = own_after g.V.Booked.number v.tickets v.seen (g.V.Booked.entries x) (g.V.Booked.entries y) n taken.begins above left.1 in
    let after = ap (λ u. among g.V.Booked.number u.tickets u.seen) view in
    record {
      number = n;
      held = x;
      left = y;
      did = record { shown = _; shows = sym same; left = _; met = c.job-answer.ensures; leaves = refl };
      later = taken.past;
      above = above;
      small = taken.small;
      basis = on;
      begins = (taken.begins.0, taken.begins.1);
      counts = taken.counts;
      keeps = taken.keeps;
      tickets = ap (λ u. u.tickets) view;
      turns = (let one = c.requires.left in let fewer = ap (λ u. u.left) view in omega (arith, one, fewer));
      shares = ap (λ u. u.shares) view;
      seen = ap (λ u. u.seen) view;
      grown = ⊎_elim (λ same. inl (same.0, after ∙ same.1)) (λ more. inr (more.0, more.1, more.2, after ∙ more.3)) own;
      found = ap (λ u. u.found) view;
      count = ap (λ u. u.count) view;
      keeps_on = left.3;
      kept = ap (λ u. u.kept) view;
    }
