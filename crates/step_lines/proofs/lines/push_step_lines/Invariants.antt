use Rattle.std.proofs.Common.{◌≡◌, ◌++◌, take}
use Rattle.std.specs.List.{flat_map}
use Rattle.step_lines.specs.Lines.{admitted_line}
use Rattle.step_lines.proofs.lines.push_step_lines.Given as goal

abbrev pub invariant-loop-person : goal.invariant-loop-person
invariant-loop-person l = l.out ≡ l.initial.out ++ flat_map (admitted_line l.pairs) (take l.person-index l.admitted)
