-- Numbers in a line, and in a piece of one.
use Rattle.std.proofs.Common.{◌≡◌, ◌<◌, ◌≤◌, ◌+◌, ◌*◌, ◌-◌, ◌^◌, ℕ, Bool, true, false, ◌&&◌, leb, eqb, List, [], ◌∷◌, ◌++◌, Option, Some, None, is_some, length, refl, sym, inl, inr, ap, ◌∙◌, arith, eq-eqb}
use Rattle.std.proofs.lemmas.Bool.{and_from, and_parts, cases_eq, cond-false, cond-true, false≢true, le-leb, leb-true, ne_eqb}
use Rattle.std.proofs.lemmas.Fmt.{digits_decimal}
use Rattle.std.proofs.lemmas.Option.{cond_some}
use Rattle.std.specs.Char.{is_ascii_digit}
use Rattle.std.specs.Fmt.{decimal}
use Rattle.std.specs.List.{list_all}
use Rattle.office_text.specs.Number.{AreInverse, are_digits, is_number, number_of, number_within, value_after, value_of}
use Rattle.office_text.proofs.NumberLemmas.{own, value_after-ge}
use Rattle.text_readers.specs.Parts.{BeginsNumber, is_prefix}
use Rattle.text_readers.specs.Reading.{HasNo}
use Rattle.text_readers.proofs.PartsLemmas.{has-no-tested, is_prefix-inside}

-- ---- whole numbers

pub digits-clear : (byte n : ℕ) → n < 2 ^ 64 → is_ascii_digit byte ≡ false → HasNo byte (decimal n)
digits-clear byte n small other = has-no-tested is_ascii_digit byte (decimal n) other (digits_decimal own n small)

-- the digits of a number are read as it
pub number-read : AreInverse → (high n : ℕ) → n < 2 ^ 64 → n ≤ high → number_within 0 high (decimal n) ≡ Some n
number-read inverse high n small within =
    let (number, value) = cond_some (is_number (decimal n)) (value_of (decimal n)) n (inverse.read_back n small) in
    let low : leb 0 (value_of (decimal n)) ≡ true = le-leb 0 (value_of (decimal n)) (omega arith) in
    let top : leb (value_of (decimal n)) high ≡ true = le-leb (value_of (decimal n)) high (omega (arith, value, within)) in
    cond-true _ (Some (value_of (decimal n))) None (and_from _ _ (and_from _ _ number low) top) ∙ ap (λ m. Some m) value

-- what is read as a number is its digits, and lies within the bounds
pub number-written : AreInverse → (low high n : ℕ) (text : List ℕ) → high < 2 ^ 64 → Some n ≡ number_within low high text → (text ≡ decimal n) × (n ≤ high)
number-written inverse low high n text small e =
    let (all, value) = cond_some (is_number text && leb low (value_of text) && leb (value_of text) high) (value_of text) n (sym e) in
    let (first, top) = and_parts (is_number text && leb low (value_of text)) (leb (value_of text) high) all in
    let (number, low') = and_parts (is_number text) (leb low (value_of text)) first in
    let read : number_of text ≡ Some n = cond-true (is_number text) (Some (value_of text)) None number ∙ ap (λ m. Some m) value in
    (inverse.written_back text n (omega (arith, small, value, leb-true (value_of text) high top)) read, omega (arith, value, leb-true (value_of text) high top))

-- ---- numbers that begin others

all-before : (test : ℕ → Bool) (a b : List ℕ) → list_all test (a ++ b) ≡ true → list_all test a ≡ true
all-before test [] b e = refl
all-before test (x ∷ a) b e =
    let (here, later) = and_parts (test x) (list_all test (a ++ b)) e in
    and_from (test x) (list_all test a) here (all-before test a b later)

number-before : (a b : List ℕ) → 0 < length a → is_number (a ++ b) ≡ true → is_number a ≡ true
number-before [] b some e = absurd (omega (arith, some))
number-before (x ∷ []) [] some e = e
number-before (x ∷ []) (y ∷ b) some e =
    let (range, digits) = and_parts (leb 49 x && leb x 57) (are_digits (y ∷ b)) e in
    let (low, high) = and_parts (leb 49 x) (leb x 57) range in
    and_from (leb 48 x) (leb x 57) (le-leb 48 x (omega (arith, leb-true 49 x low))) high
number-before (x ∷ y ∷ a) b some e =
    let (range, digits) = and_parts (leb 49 x && leb x 57) (are_digits (y ∷ (a ++ b))) e in
    and_from (leb 49 x && leb x 57) (are_digits (y ∷ a)) range (all-before is_ascii_digit (y ∷ a) b digits)

value-before : (n : ℕ) (a b : List ℕ) → value_after n a ≤ value_after n (a ++ b)
value-before n [] b = value_after-ge n b
value-before n (x ∷ a) b = value-before (n * 10 + (x - 48)) a b

-- a piece without the byte comes before it
prefix-within : (byte : ℕ) (piece digits tail : List ℕ) → HasNo byte piece → is_prefix piece (digits ++ byte ∷ tail) ≡ true → (more : List ℕ) × (digits ≡ piece ++ more)
prefix-within byte [] digits tail none e = (digits, refl)
prefix-within byte (b ∷ piece) [] tail none e = absurd (false≢true (sym (cond-false (eqb b byte) (is_prefix piece tail) false (ne_eqb b byte none.0)) ∙ e))
prefix-within byte (b ∷ piece) (c ∷ digits) tail none e = elim (cases_eq b c) [
  | inl same ↦
      let (more, is) = prefix-within byte piece digits tail none.1 (sym (cond-true (eqb b c) (is_prefix piece (digits ++ byte ∷ tail)) false (eq-eqb b c same)) ∙ e) in
      (more, ap (λ z. z ∷ digits) (sym same) ∙ ap (λ z. b ∷ z) is)
  | inr other ↦ absurd (false≢true (sym (cond-false (eqb b c) (is_prefix piece (digits ++ byte ∷ tail)) false (ne_eqb b c other)) ∙ e))
]

pub some-is : (found : Option ℕ) → is_some found ≡ true → (n : ℕ) × (found ≡ Some n)
some-is None e = absurd (false≢true e)
some-is (Some n) e = (n, refl)

module _ (inverse : AreInverse) (high : ℕ) (small : high < 2 ^ 32) (piece : List ℕ) where
  pub number-begins : is_some (number_within 0 high piece) ≡ true → (byte : ℕ) (tail : List ℕ) → BeginsNumber high (byte ∷ tail) piece
  number-begins e byte tail =
      let (n, found) = some-is (number_within 0 high piece) e in
      let (same, within) = number-written inverse 0 high n piece (omega (arith, small)) (sym found) in
      record { number = n; within = within; begins = ap (λ z. is_prefix z (decimal n ++ byte ∷ tail)) same ∙ is_prefix-inside (decimal n) (byte ∷ tail) }

  pub begins-number : 0 < length piece → (byte : ℕ) (tail : List ℕ) → HasNo byte piece → BeginsNumber high (byte ∷ tail) piece → is_some (number_within 0 high piece) ≡ true
  begins-number some byte tail none b =
      let (more, is) = prefix-within byte piece (decimal b.number) tail none b.begins in
      let (number, value) = cond_some (is_number (decimal b.number)) (value_of (decimal b.number)) b.number (inverse.read_back b.number (omega (arith, small, b.within))) in
      let spelled : is_number piece ≡ true = number-before piece more some (ap is_number (sym is) ∙ number) in
      let least : value_of piece ≤ b.number = omega (arith, value-before 0 piece more, ap value_of is, value) in
      let low : leb 0 (value_of piece) ≡ true = le-leb 0 (value_of piece) (omega arith) in
      let top : leb (value_of piece) high ≡ true = le-leb (value_of piece) high (omega (arith, least, b.within)) in
      ap is_some (cond-true (is_number piece && leb 0 (value_of piece) && leb (value_of piece) high) (Some (value_of piece)) None (and_from _ _ (and_from _ _ spelled low) top))
