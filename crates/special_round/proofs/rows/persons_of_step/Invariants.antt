use Rattle.std.proofs.Common.{◌≡◌, ◌++◌, drop}
use Rattle.special_round.specs.Rows.{finals_of}
use Rattle.special_round.proofs.rows.persons_of_step.Given as goal

abbrev pub invariant-loop-row : goal.invariant-loop-row
invariant-loop-row l = l.persons.items ++ finals_of l.register.people (drop l.row-index l.rows) l.prog.0 l.step ≡ finals_of l.register.people l.rows l.prog.0 l.step
