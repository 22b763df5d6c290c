use Rattle.std.proofs.Common.{◌≡◌, ◌≤◌, ◌+◌, drop}
use Rattle.special_round.specs.Rows.{rows_of_step}
use Rattle.special_round.proofs.rows.count_of_step.Given as goal

abbrev pub invariant-loop-row : goal.invariant-loop-row
invariant-loop-row l = record {
  whole : l.count + rows_of_step (drop l.row-index l.rows) l.prog.0 l.step ≡ rows_of_step l.rows l.prog.0 l.step;
  few : l.count ≤ l.row-index;
}
