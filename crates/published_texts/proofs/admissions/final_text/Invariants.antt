use Rattle.std.proofs.Common.{◌≡◌, ◌++◌, ◌<◌, drop, length, take}
use Rattle.std.specs.List.{AllByRecursion, flat_map}
use Rattle.published_texts.specs.Texts.{admit_line}
use Rattle.published_texts.proofs.admissions.final_text.Given as goal

abbrev pub invariant-loop-row : goal.invariant-loop-row
invariant-loop-row l = record {
  written : l.out ≡ l.initial.out ++ flat_map (admit_line l.matrix) (take l.row-index l.rows);
  programmes : AllByRecursion (λ row. row.prog.0 < length l.matrix.programmes) (drop l.row-index l.rows);
}
