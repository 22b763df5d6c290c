use Rattle.system_edge.proofs.Found.{db_is_clean, found_before, log_is_clean}
use Rattle.system_edge.proofs.stores.open_store.Goals as goal

pub returns-in-Ok-clause-opened : goal.returns-in-Ok-clause-opened
returns-in-Ok-clause-opened g c clean =
    (c.in-Ok.ensures.opened clean, found_before g.D.Disk c.args.files c.may_open.new.files c.in-Ok-true.ensures.same c.in-Ok.connection (c.in-Ok.ensures.found clean))

pub returns-in-Ok-clause-sound : goal.returns-in-Ok-clause-sound
returns-in-Ok-clause-sound g c clean =
    let found = c.in-Ok.ensures.found clean in
    let log = log_is_clean g.D.Disk c.args.files c.may_open.new.files c.in-Ok-true.ensures.same c.in-Ok.connection found in
    let db = db_is_clean g.D.Disk c.args.files c.may_open.new.files c.in-Ok-true.ensures.same c.in-Ok.connection found in
    (c.in-Ok-true.ensures.sound log db).0 c.in-Ok-true.field-0-test

pub returns-in-Err-clause-refused : goal.returns-in-Err-clause-refused
returns-in-Err-clause-refused g c =
    (c.may_open.new.files, c.in-Ok-true.ensures.same, λ log db. (c.in-Ok-true.ensures.sound log db).0 c.in-Ok-true.field-0-test)
