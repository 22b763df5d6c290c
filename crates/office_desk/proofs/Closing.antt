-- The value that a whole pass leaves.
use Rattle.std.proofs.Common.{◌≡◌, ◌^◌, ℕ, List, Option, Some, ap, sym, ◌∙◌}
use mathlib.Core.Option.{some, some-injective}
use lib.ListN.{get_elem?}
use Rattle.atomic_table.specs.Table.{Final, Seen}
use Rattle.std.specs.declared.snapshot.Snapshot.{Snapshot}
use Rattle.office_desk.specs.declared.view.View.{View}
use Rattle.office_desk.specs.declared.view.Stage.TheVariants.{Idle}
use Rattle.office_desk.specs.Turning.{InTurn}
use Rattle.office_desk.proofs.Ending.{ends, IsLeft}

module _ {V I B : Type 0} (basis : V → B) (entries : V → List I) (number : I → ℕ) (count kept : V → ℕ) (key : Snapshot V) where
  -- what was found in the slot is a value, and it is the one that is left
  pub found_left : (id : ℕ) (v : View V I) (words : List ℕ) (slots : List (Option V)) (found : Option V) → Final (Seen (InTurn basis entries number count kept key) id v) words slots
      → v.shares ≡ 2 ^ 30 → v.stage ≡ Idle → get_elem? slots 0 ≡ some found → (x : V) × (found ≡ Some x) × IsLeft basis entries number count kept key v x
  found_left id v words slots found final whole idle there =
      let left = ends basis entries number count kept key final.0 final.1.0 id v final.1.1 whole idle in
      (left.0, some-injective found (Some left.0) (sym there ∙ final.4 0 (Some left.0) (ap (λ homes. get_elem? homes 0) left.1)), left.2)
