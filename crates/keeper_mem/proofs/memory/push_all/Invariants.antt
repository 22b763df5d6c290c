use Rattle.std.proofs.Common.{◌≡◌, ◌≤◌, ◌+◌, ℕ, List, Some, drop, length}
use Rattle.std.specs.Prelude.{vec_len, vec_capacity}
use Rattle.kept_rows.specs.declared.rows.AllotRow.{AllotRow}
use Rattle.keeper_mem.specs.Batch.{with_all}
use Rattle.keeper_mem.specs.Memory.{tables_of}
use Rattle.keeper_mem.proofs.memory.push_all.Given as goal

abbrev pub invariant-loop-row : goal.invariant-loop-row
invariant-loop-row l = record {
  tables : (text : List ℕ) (allots : List AllotRow) (cuts : ℕ)
      → with_all (drop l.row-index l.rows) (tables_of (Some text) l.answers.items l.raises.items allots cuts) ≡ with_all l.rows (tables_of (Some text) l.fn.answers.items l.fn.raises.items allots cuts);
  room : vec_len l.answers + length l.rows ≤ vec_capacity l.answers + l.row-index;
  raise_room : vec_len l.raises + length l.rows ≤ vec_capacity l.raises + l.row-index;
  more : vec_len l.answers ≤ vec_len l.fn.answers + l.row-index;
  capacity : vec_capacity l.fn.answers ≤ vec_capacity l.answers;
}
