use Rattle.keeper_sqlite.proofs.KeeperLemmas.{fresh_told, older_told, whole_told, tables_left}
use Rattle.keeper_sqlite.proofs.keeper.SqliteKeeper.make_tables.Goals as goal

pub returns-clause-fresh : goal.returns-clause-fresh
returns-clause-fresh g c = fresh_told g.S.Store c.args.self.now.connection c.commit.new.self.connection c.commit.result c.commit.ensures.kept

pub returns-clause-older : goal.returns-clause-older
returns-clause-older g c = λ strict. older_told g.S.Store c.args.self.now.connection c.commit.new.self.connection strict c.commit.result c.commit.ensures.kept

pub returns-clause-whole : goal.returns-clause-whole
returns-clause-whole g c = λ strict. whole_told g.S.Store c.args.self.now.connection c.commit.new.self.connection strict c.commit.result c.commit.ensures.kept

pub returns-clause-rows : goal.returns-clause-rows
returns-clause-rows g c = tables_left g.S.Store c.args.self.now.connection c.commit.new.self.connection c.commit.result c.commit.ensures.kept
