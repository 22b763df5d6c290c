-- What a register in the making knows of the entries so far.
use Rattle.std.specs.Prelude.{◌≡◌, ℕ, List, length}
use Rattle.std.specs.BTreeMap as tree
use Rattle.std.specs.BTreeSet as sorted
use Rattle.std.specs.Cmp.Lexicographic.{slice_cmp}
use Rattle.std.specs.List.{AllByRecursion}
use Rattle.std.specs.Ordering.{nat_cmp}
use Rattle.rank_lists.specs.Register.{AreEntries, holder_at, is_taken, person_at}
use Rattle.rank_lists.specs.declared.entry.Entry.{Entry}
use Rattle.rank_lists.specs.declared.builder.RegisterBuilder.{RegisterBuilder}

-- The maps know what the entries say.
pub record Keeps (entries : List Entry) (builder : RegisterBuilder) : Type 0 where
  pub sound : AreEntries entries
  pub people : (id : ℕ) → tree.get nat_cmp builder.people id ≡ person_at id entries
  pub keyed : AllByRecursion (λ held. held.0 ≡ held.1.id.0) builder.people.entries
  pub holders : (token : List ℕ) → tree.get (slice_cmp nat_cmp) builder.holders token ≡ holder_at token entries
  pub first : (n : ℕ) → sorted.contains nat_cmp builder.first n ≡ is_taken 0 n entries
  pub second : (n : ℕ) → sorted.contains nat_cmp builder.second n ≡ is_taken 1 n entries
  pub third : (n : ℕ) → sorted.contains nat_cmp builder.third n ≡ is_taken 2 n entries
  pub fourth : (n : ℕ) → sorted.contains nat_cmp builder.fourth n ≡ is_taken 3 n entries
  pub count : tree.btree_map_len builder.people ≡ length entries
