-- The last of a list.
use Rattle.std.proofs.Common.{◌≡◌, ◌-◌, ℕ, suc, List, [], ◌∷◌, Some, length, map, arith, ap, subst}
use Rattle.std.specs.Prelude.{slice_get}
use Rattle.office_base.specs.Numbered.{last_from}
use Rattle.office_moves.specs.declared.moves.Entry.{Entry}

-- the last of a longer list is the last of its rest
pub last_of_rest : {X : Type 0} (x y : X) (xs : List X) (z : X) → slice_get (x ∷ y ∷ xs) (length (x ∷ y ∷ xs) - 1) ≡ Some z → slice_get (y ∷ xs) (length (y ∷ xs) - 1) ≡ Some z
last_of_rest {X} x y xs z e =
    let P : ℕ → Type 0 = λ i. slice_get (x ∷ y ∷ xs) i ≡ Some z in
    let Q : ℕ → Type 0 = λ i. slice_get (y ∷ xs) i ≡ Some z in
    let there : slice_get (y ∷ xs) (length xs) ≡ Some z = subst P (let same : length (x ∷ y ∷ xs) - 1 ≡ suc (length xs) = omega arith in same) e in
    subst Q (let same : length xs ≡ length (y ∷ xs) - 1 = omega arith in same) there

pub last_number_is : (n : ℕ) (entries : List Entry) (entry : Entry) → slice_get entries (length entries - 1) ≡ Some entry → last_from n (map (λ (e : Entry). e.number) entries) ≡ entry.number
last_number_is n [] entry at = absurd (cc)
last_number_is n (x ∷ []) entry at = let same : x ≡ entry = cc in ap (λ (e : Entry). e.number) same
last_number_is n (x ∷ y ∷ entries) entry at = last_number_is x.number (y ∷ entries) entry (last_of_rest x y entries entry at)
