use Rattle.list_audit.proofs.Parts.{category_end, category_found, category_next}
use Rattle.list_audit.proofs.audit.category_fault.Goals as goal

pub returns-in-Some : goal.returns-in-Some
returns-in-Some c applicants e =
    category_found c.args.version c.args.seats.now applicants c.args.programme.now _ c.loop-row.row-index c.loop-row.invariant.rows (c.loop-row.invariant.before applicants e) _ c.loop-row-test.true
    c.args.rest.now _ (c.in_ok-fault.ensures applicants) e _ c.in-Some.is

pub loop-row-preserved : goal.loop-row-preserved
loop-row-preserved c = record {
  rows = c.loop-row.invariant.rows;
  before = λ applicants e.
      category_next c.args.version c.args.seats.now applicants c.args.programme.now _ c.loop-row.row-index c.loop-row.invariant.rows (c.loop-row.invariant.before applicants e) _ c.loop-row-test.true
      c.args.rest.now _ (c.in_ok-fault.ensures applicants) e c.in_default.is;
}

pub returns : goal.returns
returns c applicants e =
    category_end c.args.version c.args.seats.now applicants c.args.programme.now _ c.loop-row.row-index c.loop-row.invariant.rows (c.loop-row.invariant.before applicants e) c.loop-row-test.false
