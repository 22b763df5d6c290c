use Rattle.std.proofs.Common.{subst, sym}
use Rattle.keeper_sqlite.specs.Inside.{Acts}
use Rattle.keeper_sqlite.specs.Kept.{Makes}
use Rattle.keeper_sqlite.specs.Stops.{Breaks}
use Rattle.keeper_sqlite.specs.declared.transactions.Change.{Change}
use Rattle.keeper_sqlite.proofs.transactions.write.Goals as goal

pub returns-in-Season-clause-acts : goal.returns-in-Season-clause-acts
returns-in-Season-clause-acts g c =
    subst (λ (change : Change). Acts g.S.Store (λ _. Makes g.S.Store change) (Breaks g.S.Store change) c.args.tx.now.conn c.write_season.new.tx.conn c.write_season.result)
    (sym c.in-Season.is) c.write_season.ensures.acts

pub returns-in-Rows-clause-acts : goal.returns-in-Rows-clause-acts
returns-in-Rows-clause-acts g c =
    subst (λ (change : Change). Acts g.S.Store (λ _. Makes g.S.Store change) (Breaks g.S.Store change) c.args.tx.now.conn c.write_rows.new.tx.conn c.write_rows.result)
    (sym c.in-Rows.is) c.write_rows.ensures.acts
