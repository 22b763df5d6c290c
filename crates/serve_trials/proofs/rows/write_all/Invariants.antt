use Rattle.std.proofs.Common.{◌≤◌, ◌+◌}
use Rattle.office_desk.specs.Words.{belongs, left_of}
use Rattle.serve_trials.proofs.rows.write_all.Given as goal

abbrev pub invariant-loop-nth : goal.invariant-loop-nth
invariant-loop-nth g l = belongs l.fn.desk l.pass × (l.fn.count ≤ left_of l.pass + l.nth)
