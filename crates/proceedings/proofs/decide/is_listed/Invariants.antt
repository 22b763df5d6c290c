use Rattle.std.proofs.Common.{◌≡◌, drop}
use Rattle.seeks.specs.Seek.{is_listed}
use Rattle.proceedings.proofs.decide.is_listed.Given as goal

abbrev pub invariant-loop-other : goal.invariant-loop-other
invariant-loop-other l = is_listed l.prog.0 (drop l.other-index l.list) ≡ is_listed l.prog.0 l.list
