-- Two lists that go along with each other, place by place.
use Rattle.std.proofs.Common.{◌≡◌, ℕ, zero, suc, List, [], ◌∷◌, Some, length, refl, ap, subst}
use Rattle.std.specs.Prelude.{slice_get}
use Rattle.std.specs.List.{AllZip}

-- what is at a place of the first list has its mate in the second
pub zip_at : {A B : Type 0} (R : A → B → Type 0) (xs : List A) (ys : List B) (j : ℕ) (x : A) → AllZip R xs ys → slice_get xs j ≡ Some x → (y : B) × (slice_get ys j ≡ Some y) × R x y
zip_at R [] ys j x all at = absurd (cc)
zip_at R (z ∷ xs) [] j x all at = absurd all
zip_at R (z ∷ xs) (y ∷ ys) zero x all at = let same : z ≡ x = cc in (y, refl, subst (λ w. R w y) same all.0)
zip_at R (z ∷ xs) (y ∷ ys) (suc j) x all at = zip_at R xs ys j x all.1 at

-- and so the other way round
pub zip_back : {A B : Type 0} (R : A → B → Type 0) (xs : List A) (ys : List B) (j : ℕ) (y : B) → AllZip R xs ys → slice_get ys j ≡ Some y → (x : A) × (slice_get xs j ≡ Some x) × R x y
zip_back R [] [] j y all at = absurd (cc)
zip_back R [] (z ∷ ys) j y all at = absurd all
zip_back R (x ∷ xs) [] j y all at = absurd all
zip_back R (x ∷ xs) (z ∷ ys) zero y all at = let same : z ≡ y = cc in (x, refl, subst (λ w. R x w) same all.0)
zip_back R (x ∷ xs) (z ∷ ys) (suc j) y all at = zip_back R xs ys j y all.1 at

-- they are of one length
pub zip_length : {A B : Type 0} (R : A → B → Type 0) (xs : List A) (ys : List B) → AllZip R xs ys → length ys ≡ length xs
zip_length R [] [] all = refl
zip_length R [] (y ∷ ys) all = absurd all
zip_length R (x ∷ xs) [] all = absurd all
zip_length R (x ∷ xs) (y ∷ ys) all = ap suc (zip_length R xs ys all.1)

-- what is at one place of both is related
pub zipped : {A B : Type 0} (R : A → B → Type 0) (xs : List A) (ys : List B) (n : ℕ) (x : A) (y : B) → AllZip R xs ys → slice_get xs n ≡ Some x → slice_get ys n ≡ Some y → R x y
zipped R xs ys n x y all first second =
    let found = zip_at R xs ys n x all first in
    let same : found.0 ≡ y = (let at = found.1 in cc) in
    subst (λ z. R x z) same found.2
