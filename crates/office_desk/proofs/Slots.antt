-- The value in the slot that a seat has.
use Rattle.std.proofs.Common.{◌≡◌, ℕ, List, [], ◌∷◌, Option, Some, None, ap, sym, ◌∙◌}
use Rattle.std.proofs.lemmas.Option.{same_Some}
use Rattle.atomic_table.specs.Table.{rest}

module _ {V : Type 0} where
  abbrev on_top : List (ℕ × Option V) → Option V
  on_top [] = None
  on_top (p ∷ _) = p.1

  -- what was taken out is what was there
  pub taken_out : (x y : V) (found : Option V) (slots before : List (ℕ × Option V)) → slots ≡ (0, Some x) ∷ before → slots ≡ (0, found) ∷ rest slots → found ≡ Some y → x ≡ y
  taken_out x y found slots before there out is = same_Some x y (ap on_top (sym there ∙ out) ∙ is)

  pub there_still : (x : V) (slots before : List (ℕ × Option V)) → slots ≡ (0, Some x) ∷ before → slots ≡ (0, Some x) ∷ rest slots
  there_still x slots before there = there ∙ ap (λ l. (0, Some x) ∷ l) (sym (ap rest there))
