use Rattle.keeper_sqlite.proofs.LossLemmas.{fails_by}
use Rattle.keeper_sqlite.specs.Stops.{Breaks, Loses}
use Rattle.std.proofs.Common.{◌≡◌, OnErr, IsTrue}
use Rattle.sqlite.specs.State.{HasCleanDisk, Survives}
use Rattle.sqlite.specs.Held.{state}
use Rattle.keeper_sqlite.specs.Kept.{Keeps, Makes, MadeBy}
use Rattle.stored_tables.specs.Told.{told}
use Rattle.keeper_sqlite.proofs.CommitLemmas.{value_told, same_after, err_after}
use Rattle.keeper_sqlite.proofs.keeper.SqliteKeeper.commit.Goals as goal

pub returns-clause-kept : goal.returns-clause-kept
returns-clause-kept g c =
    rw (← c.self.view_is) (value_told {S = g.row.S.Denot} g.S.Store (λ _. Keeps g.S.Store (Makes g.S.Store c.args.change) c.self.inside.connection) c.commit-done.result c.report.result _ _ c.report.ensures.ok c.report.ensures.steady c.commit-done.ensures.kept)

pub returns-clause-made : goal.returns-clause-made
returns-clause-made g c =
    rw (← c.self.view_is) (same_after {S = g.row.S.Denot} g.S.Store (λ last. Survives (state g.S.Store c.self.inside.connection) (state g.S.Store last) (MadeBy g.S.Store c.args.change c.self.inside.connection)) c.report.result _ _ c.report.ensures.steady c.report.ensures.counted c.commit-done.ensures.made)

pub returns-clause-stays_err : goal.returns-clause-stays_err
returns-clause-stays_err g c =
    rw (← c.self.view_is) (same_after {S = g.row.S.Denot} g.S.Store (λ last. HasCleanDisk (state g.S.Store last) → IsTrue (state g.S.Store last).is_open → OnErr c.report.result (told (state g.S.Store last) ≡ told (state g.S.Store c.self.inside.connection))) c.report.result _ _
    c.report.ensures.steady c.report.ensures.counted (λ clean is_so. err_after _ c.commit-done.result c.report.result c.report.ensures.err (c.commit-done.ensures.stays_err clean is_so)))

pub returns-clause-lost : goal.returns-clause-lost
returns-clause-lost g c =
    rw (← c.self.view_is) (fails_by {S = g.row.S.Denot} g.S.Store (λ halt last. Loses g.S.Store (Breaks g.S.Store c.args.change) (Makes g.S.Store c.args.change) halt c.self.inside.connection last) c.commit-done.result c.report.result _ _ c.report.ensures.err c.report.ensures.steady c.report.ensures.counted c.commit-done.ensures.lost)
