-- What one more entry changes of what is found, and what a row that is read has passed.
use Rattle.std.proofs.Common.{◌≡◌, ◌⊎◌, inl, inr, ℕ, Bool, true, false, cond, List, [], ◌∷◌, ◌++◌, Option, Some, None, Result, Ok, Err, refl, sym, ◌∙◌, arith}
use Rattle.std.specs.Prelude.{◌==◌, ◌&&◌, ◌||◌, ◌<◌, ◌≤◌, nat_le, nat_lt}
use Rattle.std.specs.Bool.{Decides, one_answer}
use Rattle.std.specs.Ordering.{is_eq, nat_cmp, ordering_then}
use Rattle.std.specs.declared.cmp.Ordering.{Ordering}
use Rattle.std.specs.declared.cmp.Ordering.TheVariants.{Less, Equal, Greater}
use Rattle.std.proofs.lemmas.Bool.{and_parts, eqb-true, eq-eqb, leb-true, ltb-true}
use Rattle.std.proofs.lemmas.Option.{cond_some}
use Rattle.office_text.specs.Number.{number_within, value_of, is_number as is_number_text}
use Rattle.section_rows.specs.Steps.{after, first_of, needs, or_else, unless}

-- what is found with one more element at the end
pub first_of-push : {X V : Type 0} (test : X → Bool) (value : X → V) (xs : List X) (x : X) → first_of test value (xs ++ x ∷ []) ≡ or_else (first_of test value xs) (cond (test x) (Some (value x)) None)
first_of-push test value [] x = refl
first_of-push {X} {V} test value (y ∷ xs) x = by (test y) (first_of-push test value xs x)
  where
    by : (b : Bool) → first_of test value (xs ++ x ∷ []) ≡ or_else (first_of test value xs) (cond (test x) (Some (value x)) None)
        → cond b (Some (value y)) (first_of test value (xs ++ x ∷ [])) ≡ or_else (cond b (Some (value y)) (first_of test value xs)) (cond (test x) (Some (value x)) None)
    by true e = refl
    by false e = e

-- a new element is found by its own test, and by no other one
pub or_else-none : {X : Type 0} (o : Option X) → or_else o None ≡ o
or_else-none None = refl
or_else-none (Some x) = refl

pub first_of-same : {X V : Type 0} (test : X → Bool) (value : X → V) (xs : List X) (x : X) → first_of test value xs ≡ None → test x ≡ true → first_of test value (xs ++ x ∷ []) ≡ Some (value x)
first_of-same test value xs x none same = first_of-push test value xs x ∙ (rw (none, same) refl)

pub first_of-other : {X V : Type 0} (test : X → Bool) (value : X → V) (xs : List X) (x : X) → test x ≡ false → first_of test value (xs ++ x ∷ []) ≡ first_of test value xs
first_of-other test value xs x other = first_of-push test value xs x ∙ (rw other (or_else-none (first_of test value xs)))

-- what a map with one more key finds is what one more element makes
pub step : {X V : Type 0} (test : X → Bool) (value : X → V) (xs : List X) (x : X) (b : Bool) → b ≡ test x → (b ≡ true → first_of test value xs ≡ None)
    → cond b (Some (value x)) (first_of test value xs) ≡ first_of test value (xs ++ x ∷ [])
step test value xs x true e none = sym (first_of-same test value xs x (none refl) (sym e))
step test value xs x false e none = sym (first_of-other test value xs x (sym e))

pub flip : {X : Type 0} {x y : X} (b : Bool) → Decides b (x ≡ y) → Decides b (y ≡ x)
flip b h = (λ e. sym (h.0 e), λ e. h.1 (sym e))

-- the comparison of numbers finds equal ones
pub nat_at : (k q : ℕ) → Decides (is_eq (nat_cmp k q)) (k ≡ q)
nat_at k q = by (nat_lt k q) refl (k == q) refl
  where
    by : (lt : Bool) → nat_lt k q ≡ lt → (same : Bool) → (k == q) ≡ same → Decides (is_eq (cond lt Less (cond same Equal Greater))) (k ≡ q)
    by true e same f = (λ h. cc h, λ h. absurd (let less : k < q = ltb-true k q e in omega arith))
    by false e true f = (λ h. eqb-true k q f, λ h. refl)
    by false e false f = (λ h. cc h, λ h. cc (f, eq-eqb k q h))

pub number_decides : (k q : ℕ) → Decides (k == q) (k ≡ q)
number_decides k q = (eqb-true k q, eq-eqb k q)

pub number_found : (k q : ℕ) → is_eq (nat_cmp k q) ≡ (q == k)
number_found k q = one_answer _ _ (nat_at k q) (flip _ (number_decides q k))

-- numbers in lists compare by both
pub then_found : (r s : Ordering) → is_eq (ordering_then r s) ≡ (is_eq r && is_eq s)
then_found Less s = refl
then_found Equal s = refl
then_found Greater s = refl

-- a key put in, or those before it
pub cond-or : (b c : Bool) → cond b true c ≡ (b || c)
cond-or true c = refl
cond-or false c = refl

-- what a value that was needed gives
pub needs_ok : {A X Kind : Type 0} (o : Option A) (kind : Kind) (rest : A → Result X Kind) (x : X) → needs o kind rest ≡ Ok x → (a : A) × (o ≡ Some a) × (rest a ≡ Ok x)
needs_ok None kind rest x e = cc e
needs_ok (Some a) kind rest x e = (a, refl, e)

pub unless_ok : {X Kind : Type 0} (wrong : Bool) (kind : Kind) (rest : Result X Kind) (x : X) → unless wrong kind rest ≡ Ok x → (wrong ≡ false) × (rest ≡ Ok x)
unless_ok true kind rest x e = cc e
unless_ok false kind rest x e = (refl, e)

pub after_ok : {A X Kind : Type 0} (r : Result A Kind) (rest : A → Result X Kind) (x : X) → after r rest ≡ Ok x → (a : A) × (r ≡ Ok a) × (rest a ≡ Ok x)
after_ok (Ok a) rest x e = (a, refl, e)
after_ok (Err kind) rest x e = cc e

-- what is found with one more element was found before, or is that element's
pub found_cases : {X V : Type 0} (test : X → Bool) (value : X → V) (xs : List X) (x : X) (v : V) → first_of test value (xs ++ x ∷ []) ≡ Some v
    → (first_of test value xs ≡ Some v) ⊎ ((test x ≡ true) × (value x ≡ v))
found_cases {X} {V} test value xs x v e = by (first_of test value xs) refl (test x) refl (sym (first_of-push test value xs x) ∙ e)
  where
    by : (o : Option V) → first_of test value xs ≡ o → (b : Bool) → test x ≡ b → or_else o (cond b (Some (value x)) None) ≡ Some v → (o ≡ Some v) ⊎ ((b ≡ true) × (value x ≡ v))
    by None f true g h = inr (refl, cc h)
    by None f false g h = cc h
    by (Some w) f b g h = inl h

-- the numbers of a spelled number's range
pub within_range : (low high n : ℕ) (text : List ℕ) → number_within low high text ≡ Some n → (low ≤ n) × (n ≤ high)
within_range low high n text e =
    let (test, same) = cond_some (is_number_text text && nat_le low (value_of text) && nat_le (value_of text) high) (value_of text) n e in
    let (first, below) = and_parts (is_number_text text && nat_le low (value_of text)) (nat_le (value_of text) high) test in
    let (spelled, above) = and_parts (is_number_text text) (nat_le low (value_of text)) first in
    let l : low ≤ value_of text = leb-true low (value_of text) above in
    let h : value_of text ≤ high = leb-true (value_of text) high below in
    (omega (arith, same), omega (arith, same))
