-- The elements of lists: what holds of each, which are at a place, and who is among them.
use Rattle.std.proofs.Common.{◌≡◌, ◌≢◌, ◌<◌, ◌≤◌, ℕ, zero, suc, inl, inr, List, [], ◌∷◌, ◌++◌, Some, length, take, drop, refl, sym, ap, subst, arith}
use Rattle.std.specs.Prelude.{slice_get, slice_set}
use Rattle.std.specs.List.{AllByRecursion}
use Rattle.std.proofs.lemmas.List.{length-take, take_at}
use Rattle.office_base.specs.Lists.{IsAmong}

-- ---- what holds of each element

-- A weaker fact of each element.
pub all_weaker : {X : Type 0} (P Q : X → Type 0) → ((x : X) → P x → Q x) → (xs : List X) → AllByRecursion P xs → AllByRecursion Q xs
all_weaker P Q f [] all = tt
all_weaker P Q f (x ∷ xs) all = (f x all.0, all_weaker P Q f xs all.1)

-- What holds of each element of two lists holds in both joined, and the other way round.
pub all_joined : {X : Type 0} (P : X → Type 0) (xs ys : List X) → AllByRecursion P xs → AllByRecursion P ys → AllByRecursion P (xs ++ ys)
all_joined P [] ys front back = back
all_joined P (x ∷ xs) ys front back = (front.0, all_joined P xs ys front.1 back)

pub all_left : {X : Type 0} (P : X → Type 0) (xs ys : List X) → AllByRecursion P (xs ++ ys) → AllByRecursion P xs
all_left P [] ys all = tt
all_left P (x ∷ xs) ys all = (all.0, all_left P xs ys all.1)

pub all_right : {X : Type 0} (P : X → Type 0) (xs ys : List X) → AllByRecursion P (xs ++ ys) → AllByRecursion P ys
all_right P [] ys all = all
all_right P (x ∷ xs) ys all = all_right P xs ys all.1

pub all_middle : {X : Type 0} (P : X → Type 0) (front : List X) (x : X) (back : List X) → AllByRecursion P (front ++ x ∷ back) → P x
all_middle P [] x back all = all.0
all_middle P (y ∷ front) x back all = all_middle P front x back all.1

-- What holds of each element and of one more at the end holds of each.
pub all_push : {X : Type 0} (P : X → Type 0) (xs : List X) (y : X) → AllByRecursion P xs → P y → AllByRecursion P (xs ++ y ∷ [])
all_push P [] y all here = (here, tt)
all_push P (x ∷ xs) y all here = (all.0, all_push P xs y all.1 here)

-- What holds of the element at each place holds of each element.
pub all_from : {X : Type 0} (P : X → Type 0) (xs : List X) → ((i : ℕ) (x : X) → slice_get xs i ≡ Some x → P x) → AllByRecursion P xs
all_from P [] h = tt
all_from P (x ∷ xs) h = (h 0 x refl, all_from P xs (λ i. h (suc i)))

-- ---- the elements at places

-- What holds of each element holds of the one at a place.
pub all-get : {X : Type 0} (P : X → Type 0) (xs : List X) (at : ℕ) (x : X) → AllByRecursion P xs → slice_get xs at ≡ Some x → P x
all-get P [] zero x all found = absurd cc
all-get P [] (suc at) x all found = absurd cc
all-get P (y ∷ xs) zero x all found = let same : y ≡ x = cc in subst P same all.0
all-get P (y ∷ xs) (suc at) x all found = all-get P xs at x all.1 found

-- Adding elements after a list changes nothing at its places.
pub get-before : {X : Type 0} (xs more : List X) (at : ℕ) → at < length xs → slice_get (xs ++ more) at ≡ slice_get xs at
get-before [] more at less = absurd (omega (arith, less))
get-before (x ∷ xs) more zero less = refl
get-before (x ∷ xs) more (suc at) less = get-before xs more at (omega (arith, less))

-- The element after a list is at the place that is the list's length.
pub get-after : {X : Type 0} (xs : List X) (x : X) (more : List X) → slice_get (xs ++ x ∷ more) (length xs) ≡ Some x
get-after [] x more = refl
get-after (y ∷ xs) x more = get-after xs x more

-- There is an element at each place below the length.
pub there_is : {X : Type 0} (xs : List X) (i : ℕ) → i < length xs → (x : X) × (slice_get xs i ≡ Some x)
there_is [] i less = absurd (omega (arith, less))
there_is (x ∷ xs) zero less = (x, refl)
there_is (x ∷ xs) (suc i) less = there_is xs i (omega (arith, less))

-- An element that is set is at its place, and all others are as before.
pub get_set_here : {X : Type 0} (xs : List X) (at : ℕ) (x : X) → at < length xs → slice_get (slice_set xs at x) at ≡ Some x
get_set_here [] at x less = absurd (omega (arith, less))
get_set_here (y ∷ xs) zero x less = refl
get_set_here (y ∷ xs) (suc at) x less = get_set_here xs at x (omega (arith, less))

pub get_set_other : {X : Type 0} (xs : List X) (i j : ℕ) (x : X) → j ≢ i → slice_get (slice_set xs i x) j ≡ slice_get xs j
get_set_other [] i j x other = refl
get_set_other (y ∷ xs) zero zero x other = absurd (other refl)
get_set_other (y ∷ xs) zero (suc j) x other = refl
get_set_other (y ∷ xs) (suc i) zero x other = refl
get_set_other (y ∷ xs) (suc i) (suc j) x other = get_set_other xs i j x (λ e. other (ap suc e))

-- ---- who is among the elements

pub among_left : {X : Type 0} (x : X) (xs ys : List X) → IsAmong x xs → IsAmong x (xs ++ ys)
among_left x [] ys here = absurd here
among_left x (y ∷ xs) ys here = elim here [ inl same ↦ inl same | inr later ↦ inr (among_left x xs ys later) ]

pub among_right : {X : Type 0} (x : X) (xs ys : List X) → IsAmong x ys → IsAmong x (xs ++ ys)
among_right x [] ys here = here
among_right x (y ∷ xs) ys here = inr (among_right x xs ys here)

-- The element at a place is among them.
pub at_among : {X : Type 0} (xs : List X) (n : ℕ) (x : X) → slice_get xs n ≡ Some x → IsAmong x xs
at_among [] n x at = absurd (cc)
at_among (y ∷ xs) zero x at = inl (let same : y ≡ x = cc in sym same)
at_among (y ∷ xs) (suc n) x at = inr (at_among xs n x at)

-- What holds of each element holds of one among them.
pub all_among : {X : Type 0} (P : X → Type 0) (xs : List X) (x : X) → AllByRecursion P xs → IsAmong x xs → P x
all_among P [] x all here = absurd here
all_among P (y ∷ xs) x all here = elim here [ inl same ↦ subst P (sym same) all.0 | inr later ↦ all_among P xs x all.1 later ]

-- ---- lengths and fronts

pub length_take_most : {X : Type 0} (n : ℕ) (xs : List X) → length (take n xs) ≤ n
length_take_most n xs = let size = length-take n xs in omega (arith, size)

-- The front of a list that was written whole is what was written.
pub whole_again : {X : Type 0} (new items : List X) (len : ℕ) → length new ≡ length items → len ≡ length items → take len (new ++ drop (length new) items) ≡ new
whole_again new items len full same = take_at new (drop (length new) items) len (omega (arith, full, same))

-- what holds of all of a list holds of what is at each place
pub all_at : {X : Type 0} (P : X → Type 0) (xs : List X) (k : ℕ) (x : X) → AllByRecursion P xs → slice_get xs k ≡ Some x → P x
all_at P [] k x all at = absurd (cc)
all_at P (y ∷ xs) zero x all at = let same : y ≡ x = cc in subst P same all.0
all_at P (y ∷ xs) (suc k) x all at = all_at P xs k x all.1 at
