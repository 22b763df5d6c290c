use Rattle.std.proofs.Common.{refl, ◌≡◌, ◌∙◌, Some}
use Rattle.sqlite_wal.specs.Files.{image_at}
use Rattle.system_edge.proofs.Opened.{has_tables, held, holds_files}
use Rattle.system_edge.proofs.files.open_keeper.Goals as goal

pub returns-in-Ok-clause-holds : goal.returns-in-Ok-clause-holds
returns-in-Ok-clause-holds g c =
    let opened = c.in_ok-connection.ensures in
    let zero : c.new-keeper.result.faults ≡ 0 = rw c.new-keeper.ensures refl in
    let none : c.make_tables.new.self.faults ≡ 0 = c.in-Ok.ensures.blamed.steady (λ failed. let e = failed in cc) ∙ zero in
    holds_files (image_at g.S.Start) c.in_ok-connection.connection c.new-keeper.result opened.fresh opened.opened c.new-keeper.ensures (Some c.make_tables.new.self)
    (has_tables c.new-keeper.result.connection c.make_tables.new.self c.in-Ok.ensures.kept none c.in-Ok.ensures.once c.in-Ok.ensures.fresh c.in-Ok.ensures.older c.in-Ok.ensures.whole)

pub returns-in-Ok-clause-records : goal.returns-in-Ok-clause-records
returns-in-Ok-clause-records g c told = held (image_at g.S.Start) c.make_tables.new.self (returns-in-Ok-clause-holds g c) (c.is_clean_if_visible.ensures told)
