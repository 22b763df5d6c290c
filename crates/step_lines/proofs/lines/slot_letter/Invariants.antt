use Rattle.std.proofs.Common.{◌≡◌, ◌<◌, drop}
use Rattle.std.specs.List.{AllByRecursion}
use Rattle.office_base.specs.Certificate.{slot_of}
use Rattle.step_lines.proofs.lines.slot_letter.Given as goal

abbrev pub invariant-loop-pair : goal.invariant-loop-pair
invariant-loop-pair l = record {
  slots : AllByRecursion (λ pair. pair.slot < 6) (drop l.pair-index l.pairs);
  same : slot_of (drop l.pair-index l.pairs) l.cand ≡ slot_of l.pairs l.cand;
}
