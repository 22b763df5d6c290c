use Rattle.keeper_sqlite.proofs.LossLemmas.{fails_by}
use Rattle.keeper_sqlite.specs.Stops.{IsBusy}
use Rattle.std.proofs.Common.{◌⊎◌, IsTrue, ◌≡◌}
use Rattle.sqlite.specs.State.{HasCleanDisk}
use Rattle.sqlite.specs.Held.{state}
use Rattle.keeper_sqlite.specs.Kept.{Looks}
use Rattle.keeper_sqlite.proofs.CommitLemmas.{value_told}
use Rattle.stored_tables.specs.Told.{told}
use Rattle.keeper_sqlite.proofs.CommitLemmas.{same_after}
use Rattle.keeper_sqlite.proofs.KeeperLemmas.{open_told}
use Rattle.keeper_sqlite.proofs.keeper.SqliteKeeper.look.Goals as goal

pub returns-clause-found : goal.returns-clause-found
returns-clause-found g c =
    let new = c.report.new.self in
    rw (← c.self.view_is) (value_told {S = g.row.S.Denot} g.S.Store (λ found. Looks g.S.Store (g.L.Look.tells found) c.self.inside.connection) c.look_in-done.result c.report.result _ _ c.report.ensures.ok c.report.ensures.steady c.look_in-done.ensures.found)

pub returns-clause-stays : goal.returns-clause-stays
returns-clause-stays g c =
    rw (← c.self.view_is) (same_after {S = g.row.S.Denot} g.S.Store (λ last. HasCleanDisk (state g.S.Store last) → IsTrue (state g.S.Store last).is_open → told (state g.S.Store last) ≡ told (state g.S.Store c.self.inside.connection)) c.report.result _ _ c.report.ensures.steady c.report.ensures.counted c.look_in-done.ensures.stays)

pub returns-clause-told : goal.returns-clause-told
returns-clause-told g c =
    let new = c.report.new.self in
    let stays = same_after {S = g.row.S.Denot} g.S.Store (λ last. HasCleanDisk (state g.S.Store last) → IsTrue (state g.S.Store last).is_open → told (state g.S.Store last) ≡ told (state g.S.Store c.self.inside.connection)) c.report.result _ _ c.report.ensures.steady c.report.ensures.counted c.look_in-done.ensures.stays in
    rw (← c.self.view_is)
    (open_told g.S.Store new.connection (g.met.S.Store.shut_if_dirty new.connection.store) (told (state g.S.Store c.self.inside.connection)) stays)

pub returns-clause-lost : goal.returns-clause-lost
returns-clause-lost g c =
    rw (← c.self.view_is) (fails_by {S = g.row.S.Denot} g.S.Store (λ halt last. IsBusy halt c.self.inside.connection ⊎ Looks g.S.Store (g.L.Look.loses halt) c.self.inside.connection last) c.look_in-done.result c.report.result _ _ c.report.ensures.err c.report.ensures.steady c.report.ensures.counted c.look_in-done.ensures.lost)
