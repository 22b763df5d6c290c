use Rattle.keeper_sqlite.proofs.ActLemmas.{broken}
use Rattle.keeper_sqlite.proofs.LossLemmas.{change_lost}
use Rattle.std.proofs.Common.{◌≡◌, rules, refl, arith, inl}
use Rattle.keeper_sqlite.proofs.CommitLemmas.{once_same, once_made, shown_by, made_same, made_once, kept_made, on_err}
use Rattle.keeper_sqlite.proofs.KeeperLemmas.{put_back}
use Rattle.keeper_sqlite.proofs.transactions.commit.Goals as goal

pub returns-in_err-expect_free-clause-once : goal.returns-in_err-expect_free-clause-once
returns-in_err-expect_free-clause-once g c = once_same _

pub returns-clause-once : goal.returns-clause-once
returns-clause-once g c =
    let last = c.settle-ended.new.tx.0 in
    let same : last ≡ c.connection-1.given.0 = search rules in
    rw (← same)
    (once_made g.S.Store _ _ c.write-done.new.tx.conn.now last c.transaction-begun.ensures.begun c.write-done.ensures.inside.1 (shown_by g.S.Store c.write-done.result c.write-done.new.tx.conn.now last c.settle-ended.ensures.shown))

pub returns-in_err-expect_free-clause-made : goal.returns-in_err-expect_free-clause-made
returns-in_err-expect_free-clause-made g c = made_same g.S.Store c.args.change c.args.connection.now

pub returns-clause-made : goal.returns-clause-made
returns-clause-made g c =
    let last = c.settle-ended.new.tx.0 in
    let same : last ≡ c.connection-1.given.0 = search rules in
    rw (← same)
    (made_once g.S.Store c.args.change c.args.connection.now _ c.write-done.new.tx.conn.now last c.write-done.result c.transaction-begun.ensures.begun c.write-done.ensures.inside.1 (λ clean _. c.write-done.ensures.acts.done clean) c.settle-ended.ensures.shown)

pub returns-clause-kept : goal.returns-clause-kept
returns-clause-kept g c =
    let last = c.settle-ended.new.tx.0 in
    let same : last ≡ c.connection-1.given.0 = search rules in
    rw (← same)
    (kept_made g.S.Store c.args.change _ _ c.write-done.new.tx.conn.now last c.write-done.result c.settle-ended.result c.transaction-begun.ensures.begun (λ clean _. c.write-done.ensures.acts.done clean) c.settle-ended.ensures.shown c.settle-ended.ensures.ended.1 c.settle-ended.ensures.now c.settle-ended.ensures.committed
    c.settle-ended.ensures.shows)

pub returns-in_err-expect_free-clause-stays_err : goal.returns-in_err-expect_free-clause-stays_err
returns-in_err-expect_free-clause-stays_err g c = λ clean is_so. on_err _ c.from_residual.result refl

pub returns-clause-stays_err : goal.returns-clause-stays_err
returns-clause-stays_err g c =
    let last = c.settle-ended.new.tx.0 in
    let mid = c.write-done.new.tx.conn.now in
    let same : last ≡ c.connection-1.given.0 = search rules in
    let live = rw (← same) at c.at_rest-2.ensures.live in
    let after = rw (← same) at c.at_rest-2.ensures.settled in
    rw (← same)
    (put_back g.S.Store c.args.connection.now c.transaction-begun.result.conn.now mid last c.settle-ended.result c.transaction-begun.ensures.begun (g.met.S.Store.settled c.args.connection.now.store) (g.met.S.Store.stays mid.store)
    c.at_rest.ensures.live live c.write-done.ensures.inside.1 (c.at_rest.ensures.settled (search rules)) (after c.settle-ended.ensures.ended.0) (λ sound. omega (arith, sound, c.settle-ended.ensures.shown.clean)) c.settle-ended.ensures.back)

pub returns-in_err-expect_free-clause-lost : goal.returns-in_err-expect_free-clause-lost
returns-in_err-expect_free-clause-lost g c = λ clean. broken _ c.from_residual.result _ c.from_residual.ensures.1 (inl c.in_err-expect_free.ensures.err)

pub returns-clause-lost : goal.returns-clause-lost
returns-clause-lost g c =
    let last = c.settle-ended.new.tx.0 in
    let same : last ≡ c.connection-1.given.0 = search rules in
    rw (← same)
    (change_lost g.S.Store c.args.change c.args.connection.now _ c.write-done.new.tx.conn.now last c.write-done.result c.settle-ended.result c.transaction-begun.ensures.begun c.settle-ended.ensures.shown (λ clean _. c.write-done.ensures.acts.done clean) c.write-done.ensures.acts.lost c.settle-ended.ensures.why)
