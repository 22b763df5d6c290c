-- Without protections nobody is on a protected position.
use Rattle.std.proofs.Common.{◌≡◌, ◌≤◌, ℕ, zero, suc, Bool, List, [], ◌∷◌, length, refl, sym, ap, ◌∙◌, inl, inr, arith}
use Rattle.std.specs.Prelude.{◌==◌, if◌then◌else◌}
use Rattle.std.proofs.lemmas.Bool.{cases_Bool, eqb-false}
use Rattle.office_base.specs.Placement.{IsHonoured, IsPlacement, placed_on, protected}
use Rattle.office_base.specs.declared.person.Person.{Person}
use Rattle.office_base.specs.declared.step.Pair.{Pair}
use Rattle.seat_matrix.specs.Seats.{no_protections}

pub no_position : (t : ℕ) → protected no_protections t ≡ 0
no_position zero = refl
no_position (suc zero) = refl
no_position (suc (suc zero)) = refl
no_position (suc (suc (suc zero))) = refl
no_position (suc (suc (suc (suc zero)))) = refl
no_position (suc (suc (suc (suc (suc zero))))) = refl
no_position (suc (suc (suc (suc (suc (suc t)))))) = refl

abbrev one_where : Bool → ℕ
one_where test = if test then 1 else 0

-- A pair is one of those on its position.
placed_once : (pair : Pair) (pairs : List Pair) → 1 ≤ placed_on pair.slot (pair ∷ pairs)
placed_once pair pairs = elim (cases_Bool (pair.slot == pair.slot)) [
  | inl same ↦ (let e = ap one_where same in omega (arith, e))
  | inr other ↦ absurd (eqb-false pair.slot pair.slot other refl)
]

pub nobody_placed : (people : List Person) (pairs : List Pair) → IsPlacement no_protections people pairs → length pairs ≡ 0
nobody_placed people [] placed = refl
nobody_placed people (pair ∷ pairs) placed =
    absurd (let few = placed.within pair.slot in let none = no_position pair.slot in let one = placed_once pair pairs in omega (arith, few, none, one))

pub none_honoured : (people : List Person) (n : ℕ) → IsHonoured no_protections people n → n ≡ 0
none_honoured people n h = sym h.reached.2 ∙ nobody_placed people h.reached.0 h.reached.1
