use Rattle.section_rows.specs.Rows.{rows_of}
use Rattle.request_rows.specs.Requests.{script_of}
use Rattle.request_rows.proofs.ScriptLemmas.{read-all, read-fault, read-more, read-none}
use Rattle.request_rows.proofs.script.read_script.Goals as goal

pub rows-init : goal.rows-init
rows-init c = read-none c.new-script.result c.new-rows.result (rows_of c.args.body.now) c.new-script.ensures c.new-rows.ensures

pub rows-preserved : goal.rows-preserved
rows-preserved c =
    let split = rw c.if-branch.true at c.in_ok-advance.ensures.more in
    let put = rw c.if-not-branch.false at c.in_ok-put.ensures in
    read-more (script_of (rows_of c.args.body.now)) c.rows.script c.put.new.script c.rows.number c.in-Some.next c.rows.rows.left c.advance.new.self.row c.advance.new.self.left
    c.rows.invariant split put c.in-Some.ensures.1

pub returns-clause-value : goal.returns-clause-value
returns-clause-value c =
    let none = rw c.if-branch.false at c.in_ok-advance.ensures.more in
    read-all (script_of (rows_of c.args.body.now)) c.rows.script c.rows.number c.rows.rows.left c.rows.invariant none

pub returns-then-not-branch-clause-fault : goal.returns-then-not-branch-clause-fault
returns-then-not-branch-clause-fault c =
    let split = rw c.if-branch.true at c.in_ok-advance.ensures.more in
    let none = rw c.if-not-branch.true at c.in_ok-put.ensures in
    read-fault (script_of (rows_of c.args.body.now)) c.rows.script c.rows.number c.rows.rows.left c.advance.new.self.row c.advance.new.self.left c.rows.invariant split none
