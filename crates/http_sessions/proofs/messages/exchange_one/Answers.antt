use Rattle.std.proofs.Common.{◌≡◌, ◌++◌, List, ℕ, sym, ap, subst, refl, ◌∙◌, append_assoc}
use Rattle.http_wire.specs.Messages.{IsUnfinished}
use Rattle.office_base.specs.Outside.{IsAtEnd, Took}
use Rattle.http_sessions.specs.Exchange.{IsItem}
use Rattle.http_sessions.proofs.Talking.{took_on}
use Rattle.http_sessions.proofs.Stepping.{sent_step, from_begin, at_end_step}
use Rattle.http_sessions.proofs.messages.exchange_one.Goals as goal

pub returns-in-Some-clause-met : goal.returns-in-Some-clause-met
returns-in-Some-clause-met g c =
    let i = c.reads.invariant in
    let a = c.in-Some.ensures.some in
    let is : (more : List ℕ) → IsItem (c.reads.inbox ++ more) a.0 c.in-Some.ready.len = subst (λ (h : List ℕ). (more : List ℕ) → IsItem (h ++ more) a.0 c.in-Some.ready.len) c.held.ensures a.2 in
    let L = g.L.Link in
    let R = g.C.Counter.answers in (
      i.0,
      subst (λ l. Took i.0 (L.left c.args.link.now) l) (sym c.finish.ensures.apart) i.1,
      from_begin R c.args.counter.now c.reads.counter c.answer_held.new.counter c.args.at.message c.args.inbox.now i.0 c.reads.inbox c.finish.new.inbox (IsAtEnd (L.left c.finish.new.link))
          (L.written c.args.link.now) (L.written c.reads.link) (L.written c.finish.new.link) c.finish.result i.2 i.3 i.4
          (sent_step R c.reads.counter c.answer_held.new.counter c.args.at.message c.reads.inbox c.finish.new.inbox (IsAtEnd (L.left c.finish.new.link)) (L.written c.reads.link) (L.written c.finish.new.link)
          c.finish.result _ _ _ a.0 a.1 is a.3 a.4 a.5 c.finish.ensures.sent),
    )

pub returns-in-Ok-eq0-clause-met : goal.returns-in-Ok-eq0-clause-met
returns-in-Ok-eq0-clause-met g c =
    let L = g.L.Link in
    let R = g.C.Counter.answers in
    let i = c.reads.invariant in
    let f = c.in-Ok-eq0.ensures in
    let n = f.got in
    let a = c.in-None.ensures.none in (
      i.0 ++ n.0,
      took_on i.0 n.0 _ _ _ i.1 n.3,
      from_begin R c.args.counter.now c.reads.counter c.answer_held.new.counter c.args.at.message c.args.inbox.now (i.0 ++ n.0) c.fill.new.self c.fill.new.self (IsAtEnd (L.left c.fill.new.link))
          (L.written c.args.link.now) (L.written c.reads.link) (L.written c.fill.new.link) c.at_end.result (n.2 ∙ (ap (λ x. x ++ n.0) i.2 ∙ append_assoc c.args.inbox.now i.0 n.0)) i.3 i.4
          (at_end_step R c.reads.counter c.answer_held.new.counter c.args.at.message c.reads.inbox n.0 c.fill.new.self c.fill.new.self (IsAtEnd (L.left c.fill.new.link)) (L.written c.reads.link)
          (L.written c.fill.new.link) c.at_end.result (subst IsUnfinished c.held.ensures a.0) (n.1 ∙ c.in-Ok-eq0.field-0-test) n.2 c.at_end.ensures (f.ended c.in-Ok-eq0.field-0-test)
          (record { counter = a.1; written = c.fill.ensures.apart })),
    )

pub returns-in-Err-clause-met : goal.returns-in-Err-clause-met
returns-in-Err-clause-met g c =
    let i = c.reads.invariant in
    let kept = c.in-Err.ensures.kept in
    let a = c.in-None.ensures.none in (
      i.0,
      subst (λ l. Took i.0 (g.L.Link.left c.args.link.now) l) (sym kept.1) i.1,
      (subst IsUnfinished (c.held.ensures ∙ i.2) a.0, record { counter = a.1 ∙ i.3; written = c.fill.ensures.apart ∙ i.4 }),
    )
