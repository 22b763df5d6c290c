use Rattle.std.proofs.Common.{◌≡◌, Err, ap, arith, subst, sym, ◌∙◌}
use Rattle.office_base.specs.Outside.{Rose}
use Rattle.round_cut.specs.declared.fault.OfficeFault.TheVariants.{KeeperFault}
use Rattle.season_commands.proofs.Running.{IsLeft, next_at}
use Rattle.season_commands.specs.Tally.{IsCounted, is_receipt, is_refused_answer}
use Rattle.season_commands.proofs.Tallying.{at_most_one, counts, counts_all, starts, stops}
use Rattle.season_commands.proofs.tally.count_all.Goals as goal

pub requests-init : goal.requests-init
requests-init g c = (
  (
    starts c.args.office.now.season c.args.office.now.state c.args.script.now c.args.office.now.entries (g.P.Keeper.seen c.args.office.now.keeper).tables (g.P.Keeper.seen c.args.office.now.keeper).faults
        c.requires.history c.check_order.ensures.word c.requires.stands,
    omega arith,
    omega arith,
  ),
  λ told. told,
)

pub next_reply-requires-clause-history : goal.next_reply-requires-clause-history
next_reply-requires-clause-history g c = c.requests.invariant.0.0.history

pub next_reply-requires-clause-stands : goal.next_reply-requires-clause-stands
next_reply-requires-clause-stands g c = c.requests.invariant.0.0.stands

pub requests-preserved : goal.requests-preserved
requests-preserved g c =
    let next = next_at c.args.script.now c.requests.request-index c.request-item.result c.requests-test.true c.request-item.is in
    let left : IsLeft c.requests.office.season c.next_reply.new.office.season c.next_reply.new.office.entries c.next_reply.new.office.state (g.P.Keeper.seen c.next_reply.new.office.keeper).tables = record {
      same = c.in-Ok.ensures.kept.season;
      history = c.in-Ok.ensures.history;
      word = c.in-Ok.ensures.orderly.word;
      stands = c.in-Ok.ensures.stands;
    } in
    let counted : IsCounted c.requests.office.season c.requests.office.state c.request-item.result c.next_reply.new.office.state c.requests.tally c.with-tally.result =
    record { reply = c.in-Ok.reply; moves = c.in-Ok.ensures.moves; noted = c.with-tally.ensures.noted; refused = c.with-tally.ensures.refused } in (
      (
        counts _ _ _ _ _ _ _ _ _ _ _ _ _ _ _ _ _ _ c.requests.invariant.0.0 next counted left (c.in-Ok.ensures.kept.blamed.steady (λ e. cc)),
        at_most_one (is_receipt counted.reply) _ _ _ counted.noted c.requests.invariant.0.1,
        at_most_one (is_refused_answer c.request-item.result counted.reply) _ _ _ counted.refused c.requests.invariant.0.2,
      ),
      λ told. c.requests.invariant.1 (c.in-Ok.ensures.kept.told_before told),
    )

pub returns-clause-counted : goal.returns-clause-counted
returns-clause-counted g c =
    let end = c.requests.auto.request-index-end in
    let over = c.requests-test.false in
    counts_all _ _ _ _ _ _ _ _ _ _ _ c.requests.invariant.0.0 (omega (arith, end, over))

pub returns-clause-continues : goal.returns-clause-continues
returns-clause-continues g c =
    let i = c.requests.invariant in record {
      season = i.0.0.same;
      history = i.0.0.history;
      stands = i.0.0.stands;
      told_before = i.1;
    }

pub returns-clause-blamed : goal.returns-clause-blamed
returns-clause-blamed g c =
    let same = c.requests.invariant.0.0.keeper in record {
      cause = λ e. cc;
      count = omega (arith, same);
      steady = λ _. same;
    }

pub returns-in-Err-clause-stopped : goal.returns-in-Err-clause-stopped
returns-in-Err-clause-stopped g c =
    let left : IsLeft c.requests.office.season c.next_reply.new.office.season c.next_reply.new.office.entries c.next_reply.new.office.state (g.P.Keeper.seen c.next_reply.new.office.keeper).tables = record {
      same = c.in-Err.ensures.kept.season;
      history = c.in-Err.ensures.history;
      word = c.in-Err.ensures.orderly.word;
      stands = c.in-Err.ensures.stands;
    } in
    stops _ _ _ _ _ _ _ _ _ _ _ _ _ _ _ c.requests.invariant.0.0 c.requests-test.true c.in-Err.ensures.kept.err.1 left

pub returns-in-Err-clause-continues : goal.returns-in-Err-clause-continues
returns-in-Err-clause-continues g c =
    let i = c.requests.invariant in
    let one = c.next_reply.ensures in record {
      season = one.kept.season ∙ i.0.0.same;
      history = one.history;
      stands = one.stands;
      told_before = λ told. i.1 (one.kept.told_before told);
    }

pub returns-in-Err-clause-blamed : goal.returns-in-Err-clause-blamed
returns-in-Err-clause-blamed g c =
    let same = c.requests.invariant.0.0.keeper in
    let one = c.next_reply.ensures.kept.blamed in
    let more = one.count in record {
      cause = λ e. let failed : c.in-Err.fault ≡ KeeperFault = cc e in subst (λ n. Rose n (g.P.Keeper.seen c.next_reply.new.office.keeper).faults) same (one.cause (c.in-Err.is ∙ ap Err failed));
      count = omega (arith, same, more);
      steady = λ no. one.steady (λ e. let failed : c.in-Err.fault ≡ KeeperFault = cc (sym c.in-Err.is ∙ e) in no (ap Err failed)) ∙ same;
    }
