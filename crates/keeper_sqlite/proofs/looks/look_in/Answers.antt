use Rattle.keeper_sqlite.proofs.ActLemmas.{broken}
use Rattle.keeper_sqlite.proofs.LossLemmas.{look_lost}
use Rattle.std.proofs.Common.{◌≡◌, rules, refl, arith, inl}
use Rattle.keeper_sqlite.proofs.CommitLemmas.{looked}
use Rattle.keeper_sqlite.proofs.KeeperLemmas.{back_told}
use Rattle.keeper_sqlite.proofs.looks.look_in.Goals as goal

pub returns-clause-found : goal.returns-clause-found
returns-clause-found g c =
    let last = c.rollback.new.self.0 in
    let same : last ≡ c.connection-1.given.0 = search rules in
    rw (← same)
    (looked g.S.Store g.L.Look.tells c.args.connection.now c.transaction-tx.result.conn.now c.read-found.new.tx.conn.now last c.read-found.result
    c.transaction-tx.ensures.begun c.rollback.ensures.survives c.read-found.ensures.acts.done c.rollback.ensures.undone)

pub returns-clause-stays : goal.returns-clause-stays
returns-clause-stays g c =
    let last = c.rollback.new.self.0 in
    let mid = c.read-found.new.tx.conn.now in
    let same : last ≡ c.connection-1.given.0 = search rules in
    let live = rw (← same) at c.at_rest-2.ensures.live in
    let after = rw (← same) at c.at_rest-2.ensures.settled in
    rw (← same)
    (λ clean is_so.
    let back = c.rollback.ensures.undone clean in
    back_told g.S.Store c.args.connection.now c.transaction-tx.result.conn.now mid last c.transaction-tx.ensures.begun (g.met.S.Store.settled c.args.connection.now.store) (g.met.S.Store.stays mid.store)
    c.at_rest.ensures.live live c.read-found.ensures.inside.1 (c.at_rest.ensures.settled (search rules)) (after c.rollback.ensures.ended) (omega (arith, clean, c.rollback.ensures.survives.clean)) (back.was_open is_so) (back.undone is_so).1 is_so)

pub returns-in_err-expect_free-clause-stays : goal.returns-in_err-expect_free-clause-stays
returns-in_err-expect_free-clause-stays g c = λ clean is_so. refl

pub returns-in_err-expect_free-clause-lost : goal.returns-in_err-expect_free-clause-lost
returns-in_err-expect_free-clause-lost g c = λ clean. broken _ c.from_residual.result _ c.from_residual.ensures.1 (inl c.in_err-expect_free.ensures.err)

pub returns-clause-lost : goal.returns-clause-lost
returns-clause-lost g c =
    let last = c.rollback.new.self.0 in
    let same : last ≡ c.connection-1.given.0 = search rules in
    rw (← same)
    (look_lost g.S.Store g.L.Look.loses c.args.connection.now c.transaction-tx.result.conn.now c.read-found.new.tx.conn.now last c.read-found.result
    c.transaction-tx.ensures.begun c.rollback.ensures.survives c.read-found.ensures.acts.lost c.rollback.ensures.undone)
