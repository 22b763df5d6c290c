-- The first element of a list, taken out.
use Rattle.std.proofs.Common.{◌≡◌, ◌<◌, List, [], ◌∷◌, length, sym, ap, ◌∙◌, arith}
use Rattle.std.specs.Prelude.{slice_index_or, remove}

-- what is taken out comes before what stays
pub first_is : {A : Type 0} (xs ys : List A) (x : A) → 0 < length xs → x ≡ slice_index_or xs 0 x → ys ≡ remove xs 0 → xs ≡ x ∷ ys
first_is [] ys x some e r = absurd (omega arith)
first_is (y ∷ zs) ys x some e r = ap (λ (v : _). v ∷ zs) (sym e) ∙ ap (λ (w : List _). x ∷ w) (sym r)
