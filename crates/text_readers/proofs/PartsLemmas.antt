-- What may follow the beginning of a line, and where a line is cut.
use Rattle.std.proofs.Common.{◌≡◌, ◌<◌, ◌+◌, ℕ, zero, suc, Bool, true, false, not, cond, eqb, ltb, List, [], ◌∷◌, ◌++◌, Option, Some, None, IfNone, is_some, length, drop, get_or, refl, sym, ap, subst, ◌∙◌, arith, append_assoc, eq-eqb}
use Rattle.std.proofs.lemmas.Bool.{and_parts, cond-true, cond_both, eqb-true, false≢true}
use Rattle.std.proofs.lemmas.Bool.Decides.{nat_tests}
use Rattle.std.specs.List.{list_all, position, position_or_len}
use Rattle.text_readers.specs.Parts.{IsApart, IsLeft, is_prefix}
use Rattle.text_readers.specs.Reading.{HasNo}

-- whatever the option, what holds where there is no value
pub if-none : {X : Type 0} (found : Option X) (P : Type 0) → P → IfNone found P
if-none None P p = p
if-none (Some x) P p = tt

-- ---- pieces

pub is_prefix-append : (part rest tail : List ℕ) → is_prefix (part ++ rest) (part ++ tail) ≡ is_prefix rest tail
is_prefix-append [] rest tail = refl
is_prefix-append (b ∷ part) rest tail = cond-true (eqb b b) _ false (eq-eqb b b refl) ∙ is_prefix-append part rest tail

pub is_prefix-inside : (piece tail : List ℕ) → is_prefix piece (piece ++ tail) ≡ true
is_prefix-inside [] tail = refl
is_prefix-inside (b ∷ piece) tail = cond-true (eqb b b) _ false (eq-eqb b b refl) ∙ is_prefix-inside piece tail

-- a test that holds leads to a test that fails, and so does one that fails
either-false : (test : Bool) (inner : Bool) → (test ≡ true → inner ≡ false) → cond test inner false ≡ false
either-false true inner fails = fails refl
either-false false inner fails = refl

pub is_prefix-apart : (piece part : List ℕ) → ((rest : List ℕ) → piece ≡ part ++ rest → ⊥) → ((rest : List ℕ) → part ≡ piece ++ rest → ⊥) → IsApart piece part
is_prefix-apart [] part first second tail = absurd (second part refl)
is_prefix-apart (b ∷ piece) [] first second tail = absurd (first (b ∷ piece) refl)
is_prefix-apart (b ∷ piece) (c ∷ part) first second tail =
    either-false (eqb b c) (is_prefix piece (part ++ tail)) (λ same.
    let e : b ≡ c = eqb-true b c same in
    is_prefix-apart piece part
    (λ rest is. first rest (ap (λ z. z ∷ piece) e ∙ ap (λ z. c ∷ z) is))
    (λ rest is. second rest (ap (λ z. z ∷ part) (sym e) ∙ ap (λ z. b ∷ z) is)) tail)

-- what follows a part has none of the bytes that the whole has none of
has-no-rest : (byte : ℕ) (a b : List ℕ) → HasNo byte (a ++ b) → HasNo byte b
has-no-rest byte [] b none = none
has-no-rest byte (c ∷ a) b none = has-no-rest byte a b none.1

pub is_left-after : (piece part rest : List ℕ) → piece ≡ part ++ rest → IsLeft piece part rest
is_left-after piece part rest e = record {
  same = λ tail. ap (λ z. is_prefix z (part ++ tail)) e ∙ is_prefix-append part rest tail;
  clear = λ byte none. has-no-rest byte part rest (subst (HasNo byte) e none);
}

pub is_left-inside : (piece part more : List ℕ) → part ≡ piece ++ more → IsLeft piece part []
is_left-inside piece part more e = record {
  same = λ tail. ap (λ z. is_prefix piece (z ++ tail)) e ∙ ap (is_prefix piece) (append_assoc piece more tail) ∙ is_prefix-inside piece (more ++ tail);
  clear = λ byte none. tt;
}

-- ---- cuts

-- equal lists have equal heads and tails
pub heads : (a b : ℕ) (xs ys : List ℕ) → a ∷ xs ≡ b ∷ ys → a ≡ b
heads a b xs ys e = ap (λ (z : List ℕ). get_or z 0 0) e

pub tails : (a b : ℕ) (xs ys : List ℕ) → a ∷ xs ≡ b ∷ ys → xs ≡ ys
tails a b xs ys e = ap (λ (z : List ℕ). drop 1 z) e

-- there is one way to cut at the first of a byte
pub cut-one : (byte : ℕ) (a b x y : List ℕ) → HasNo byte a → HasNo byte b → a ++ byte ∷ x ≡ b ++ byte ∷ y → (a ≡ b) × (x ≡ y)
cut-one byte [] [] x y left right e = (refl, tails byte byte x y e)
cut-one byte [] (d ∷ b) x y left right e = absurd (right.0 (sym (heads byte d x (b ++ byte ∷ y) e)))
cut-one byte (c ∷ a) [] x y left right e = absurd (left.0 (heads c byte (a ++ byte ∷ x) y e))
cut-one byte (c ∷ a) (d ∷ b) x y left right e =
    let (same, rest) = cut-one byte a b x y left.1 right.1 (tails c d (a ++ byte ∷ x) (b ++ byte ∷ y) e) in
    (ap (λ z. z ∷ a) (heads c d (a ++ byte ∷ x) (b ++ byte ∷ y) e) ∙ ap (λ z. d ∷ z) same, rest)

-- what has a byte has it
pub has-one : (byte : ℕ) (a x : List ℕ) → HasNo byte (a ++ byte ∷ x) → ⊥
has-one byte [] x none = none.0 refl
has-one byte (b ∷ a) x none = has-one byte a x none.1

pub has-no-append : (byte : ℕ) (a b : List ℕ) → HasNo byte a → HasNo byte b → HasNo byte (a ++ b)
has-no-append byte [] b left right = right
has-no-append byte (c ∷ a) b left right = (left.0, has-no-append byte a b left.1 right)

-- a byte that fails a test is not among those that pass it
pub has-no-tested : (test : ℕ → Bool) (byte : ℕ) (bytes : List ℕ) → test byte ≡ false → list_all test bytes ≡ true → HasNo byte bytes
has-no-tested test byte [] fails all = tt
has-no-tested test byte (b ∷ bytes) fails all =
    let (here, later) = and_parts (test b) (list_all test bytes) all in
    (λ same. false≢true (sym fails ∙ ap test (sym same) ∙ here), has-no-tested test byte bytes fails later)

-- ---- places

-- where an element passes, there is a first that does
position_or_len-below : {X : Type 0} (test : X → Bool) (xs : List X) (k : ℕ) (d : X) → k < length xs → test (get_or xs k d) ≡ true → position_or_len test xs < length xs
position_or_len-below test [] k d within passes = absurd (omega (arith, within))
position_or_len-below test (x ∷ xs) zero d within passes = rw passes (omega arith)
position_or_len-below test (x ∷ xs) (suc k) d within passes =
    let later = position_or_len-below test xs k d (omega (arith, within)) passes in
    cond_both (not (test x)) (1 + position_or_len test xs) 0 (λ n. n < length (x ∷ xs)) (λ _. omega (arith, later)) (λ _. omega arith)

pub position-none : {X : Type 0} (test : X → Bool) (xs : List X) (k : ℕ) (d : X) → None ≡ position test xs → k < length xs → test (get_or xs k d) ≡ true → ⊥
position-none test xs k d none within passes =
    let below : ltb (position_or_len test xs) (length xs) ≡ true = let b = position_or_len-below test xs k d within passes in grind (arith, nat_tests, b) in
    let some : None ≡ Some (position_or_len test xs) = none ∙ cond-true (ltb (position_or_len test xs) (length xs)) (Some (position_or_len test xs)) None below in
    false≢true (ap is_some some)

pub has-no-after : (byte : ℕ) (a : List ℕ) (other : ℕ) (b : List ℕ) → HasNo byte (a ++ other ∷ b) → HasNo byte b
has-no-after byte [] other b none = none.1
has-no-after byte (c ∷ a) other b none = has-no-after byte a other b none.1
