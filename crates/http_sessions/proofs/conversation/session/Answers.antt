use Rattle.std.proofs.Common.{◌≡◌, ◌≤◌, ◌+◌, arith, refl, sym, ap, subst, ◌∙◌}
use Rattle.office_base.specs.Outside.{Rose}
use Rattle.http_sessions.specs.Steps.{end_of}
use Rattle.http_sessions.proofs.Ending.{Ends, begins, goes_on, stops, full, faulty, neither, sound}
use Rattle.http_sessions.proofs.conversation.session.Goals as goal

pub messages-init : goal.messages-init
messages-init g c = (begins g.C.Counter.answers _ _ _ _ c.clear.ensures, omega arith, refl, refl)

pub messages-preserved : goal.messages-preserved
messages-preserved g c =
    let i = c.messages.invariant in
    let m = c.in-Next.ensures.met in
    let more = c.in-Next.ensures.left in
    let asks = i.1 in
    (goes_on g.C.Counter.answers _ _ _ _ _ _ _ _ _ _ _ _ _ _ i.0 m.1 refl m.2, omega (arith, asks, more), c.in-Next.ensures.same ∙ i.2, c.in-Next.ensures.blamed.steady (neither _ _ (λ e. cc) (λ e. cc)) ∙ i.3)

pub returns-clause-met : goal.returns-clause-met
returns-clause-met g c =
    let end = c.messages.auto.done-end in
    let over = c.messages-test.false in
    full g.C.Counter.answers _ _ _ _ _ _ _ _ c.messages.invariant.0 (omega (arith, end, over))

pub returns-in_default : goal.returns-in_default
returns-in_default g c =
    let L = g.L.Link in
    let i = c.messages.invariant in
    let x = c.exchange_one.ensures in
    let few = c.messages-test.true in
    let asks = i.1 in
    let more = x.left in
    let same = i.3 in
    let grows = x.blamed.count in
    record {
      met = subst (λ e. Ends g.C.Counter.answers c.args.counter.now c.exchange_one.new.counter (L.left c.args.link.now) (L.left c.exchange_one.new.link) (L.written c.args.link.now) (L.written c.exchange_one.new.link) e) (sym c.end_of.ensures) (stops g.C.Counter.answers _ _ _ _ _ _ _ _ _ _ _ _ _ _ _ i.0 x.met.1 refl few c.in_default.not-Next x.met.2);
      left = omega (arith, asks, more, few);
      same = x.same ∙ i.2;
      blamed = record {
        cause = λ e. subst (λ n. Rose n (L.faults c.exchange_one.new.link)) i.3 (x.blamed.cause (faulty _ _ (sym c.end_of.ensures ∙ e)));
        count = omega (arith, same, grows);
        steady = λ e. x.blamed.steady (sound _ _ (λ f. e (c.end_of.ensures ∙ f))) ∙ i.3;
      };
    }
