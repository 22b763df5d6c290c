-- How numbers are spelled and read back, alone and in eight digits.
use Rattle.std.proofs.Common.{◌≡◌, ◌≤◌, ◌<◌, ◌+◌, ◌-◌, ◌*◌, ◌%◌, ◌^◌, ◌==◌, ℕ, zero, suc, Bool, true, false, not, ◌&&◌, nat_le, leb, List, [], ◌∷◌, ◌++◌, Some, None, length, get_or, take, drop, refl, sym, ap, ◌∙◌, arith, length-append, length-drop}
use Rattle.std.specs.Prelude.{codes, slice_index}
use Rattle.std.specs.Char.{is_ascii_alphanumeric}
use Rattle.std.specs.Fmt.{decimal}
use Rattle.std.specs.List.{list_all}
use Rattle.std.proofs.lemmas.Bool.{and_from, and_parts, cond-true, eq-eqb, eqb-true, le-leb, ne_eqb, not_from_false, or_left}
use Rattle.std.proofs.lemmas.Fmt.{decimal_by_steps, length-decimal-le}
use Rattle.std.proofs.lemmas.List.{get_or_push}
use Rattle.std.proofs.lemmas.List.Folds.{list_all-append}
use Rattle.std.proofs.lemmas.Nat.{mod_below}
use Rattle.std.proofs.lemmas.Option.{cond_some}
use Rattle.std.proofs.Math.Seq.{take-append_seam}
use Rattle.office_base.specs.Codes.{is_token}
use Rattle.office_base.specs.Limits.{last_place}
use Rattle.office_base.specs.declared.person.Place.TheVariants.{Common, Relaxed}
use Rattle.office_text.specs.Number.{AreInverse, is_number, number_within, value_after, value_of}
use Rattle.rank_lists.specs.Fields.{place_number, place_of}
use Rattle.season_generator.specs.Bundle.{eight_digits}
use Rattle.season_generator.proofs.Plain.{are_word_bytes, is_word, is_word_byte, word-bytes}

-- ---- a number alone

-- a digit is a byte of a word
pub digit-byte : (d : ℕ) → d < 10 → is_word_byte (48 + d) ≡ true
digit-byte d small =
    and_from (nat_le 45 (48 + d)) (nat_le (48 + d) 122 && not (48 + d == 91)) (le-leb 45 (48 + d) (omega arith))
    (and_from (nat_le (48 + d) 122) (not (48 + d == 91)) (le-leb (48 + d) 122 (omega (arith, small))) (not_from_false (48 + d == 91) (ne_eqb (48 + d) 91 (λ e. omega (arith, small, e)))))

-- and a letter or digit
pub digit-plain : (d : ℕ) → d < 10 → is_ascii_alphanumeric (48 + d) ≡ true
digit-plain d small = or_left _ _ (or_left _ _ (and_from (leb 48 (48 + d)) (leb (48 + d) 57) (le-leb 48 (48 + d) (omega arith)) (le-leb (48 + d) 57 (omega (arith, small)))))

-- bytes after others
pub all-append : (p : ℕ → Bool) (xs ys : List ℕ) → list_all p xs ≡ true → list_all p ys ≡ true → list_all p (xs ++ ys) ≡ true
all-append p xs ys x y = list_all-append p xs ys ∙ and_from (list_all p xs) (list_all p ys) x y

pub all-drop : (p : ℕ → Bool) (k : ℕ) (xs : List ℕ) → list_all p xs ≡ true → list_all p (drop k xs) ≡ true
all-drop p zero xs e = e
all-drop p (suc k) [] e = e
all-drop p (suc k) (x ∷ xs) e = all-drop p k xs (and_parts (p x) (list_all p xs) e).1

-- A word with more bytes.
pub word-append : (word more : List ℕ) → is_word word ≡ true → are_word_bytes more ≡ true → is_word (word ++ more) ≡ true
word-append [] more e f = absurd cc
word-append (byte ∷ word) more e f = all-append is_word_byte (byte ∷ word) more e f

-- What the digits of a number are.
pub record AreDigits (text : List ℕ) : Type 0 where
  pub word : is_word text ≡ true
  pub plain : list_all is_ascii_alphanumeric text ≡ true
  pub last : get_or text (length text - 1) 0 ≤ 57

one-digit : (n : ℕ) → n < 10 → AreDigits ((48 + n) ∷ [])
one-digit n small = record {
  word = and_from (is_word_byte (48 + n)) true (digit-byte n small) refl;
  plain = and_from (is_ascii_alphanumeric (48 + n)) true (digit-plain n small) refl;
  last = omega (arith, small);
}

more-digits : (n : ℕ) (text : List ℕ) → 10 ≤ n → AreDigits text → AreDigits (text ++ ((48 + n % 10) ∷ []))
more-digits n text some are =
    let small : n % 10 < 10 = mod_below n 10 (omega arith) in
    let end : List ℕ = (48 + n % 10) ∷ [] in
    let one = one-digit (n % 10) small in
    let place : length (text ++ end) - 1 ≡ length text = omega (arith, length-append text end) in
    let is : get_or (text ++ end) (length (text ++ end) - 1) 0 ≡ 48 + n % 10 = ap (λ (k : ℕ). get_or (text ++ end) k 0) place ∙ get_or_push text (48 + n % 10) 0 (length text) refl in
    record {
      word = word-append text end are.word one.word;
      plain = all-append is_ascii_alphanumeric text end are.plain one.plain;
      last = omega (arith, is, small);
    }

pub are-digits : (n : ℕ) → n < 2 ^ 64 → AreDigits (decimal n)
are-digits = decimal_by_steps (λ n text. AreDigits text) one-digit more-digits

-- The value of a number's digits, and that they are a number.
pub record Spells (n : ℕ) (text : List ℕ) : Type 0 where
  pub number : is_number text ≡ true
  pub value : value_of text ≡ n

pub spells : AreInverse → (n : ℕ) → n < 2 ^ 64 → Spells n (decimal n)
spells inverse n small =
    let both = cond_some (is_number (decimal n)) (value_of (decimal n)) n (inverse.read_back n small) in
    record { number = both.0; value = both.1 }

-- A number within its range is read back.
pub read-within : AreInverse → (low high n : ℕ) → n < 2 ^ 64 → low ≤ n → n ≤ high → number_within low high (decimal n) ≡ Some n
read-within inverse low high n small from to =
    let s = spells inverse n small in
    let value = s.value in
    let low-in : nat_le low (value_of (decimal n)) ≡ true = le-leb low (value_of (decimal n)) (omega (arith, value, from)) in
    let high-in : nat_le (value_of (decimal n)) high ≡ true = le-leb (value_of (decimal n)) high (omega (arith, value, to)) in
    let test : (is_number (decimal n) && nat_le low (value_of (decimal n)) && nat_le (value_of (decimal n)) high) ≡ true =
    and_from _ _ (and_from _ _ s.number low-in) high-in in
    cond-true _ (Some (value_of (decimal n))) None test ∙ ap (λ (m : ℕ). Some m) value

-- ---- eight digits

-- zeros before digits change no value
value-zeros : (zs text : List ℕ) → list_all (λ b. b == 48) zs ≡ true → value_of (zs ++ text) ≡ value_of text
value-zeros [] text e = refl
value-zeros (z ∷ zs) text e =
    let parts = and_parts (z == 48) (list_all (λ b. b == 48) zs) e in
    let is : z ≡ 48 = eqb-true z 48 parts.0 in
    let none : 0 * 10 + (z - 48) ≡ 0 = omega (arith, is) in
    ap (λ (k : ℕ). value_after k (zs ++ text)) none ∙ value-zeros zs text parts.1

-- the value of the eight digits
pub eight-value : AreInverse → (n : ℕ) → n < 2 ^ 64 → value_of (eight_digits n) ≡ n
eight-value inverse n small = value-zeros (drop (length (decimal n)) (codes "00000000")) (decimal n) (all-drop (λ b. b == 48) (length (decimal n)) (codes "00000000") refl) ∙ (spells inverse n small).value

-- So two numbers have the same eight digits only where they are one.
pub eight-apart : AreInverse → (m n : ℕ) → m < 2 ^ 64 → n < 2 ^ 64 → eight_digits m ≡ eight_digits n → m ≡ n
eight-apart inverse m n m-small n-small same = sym (eight-value inverse m m-small) ∙ ap value_of same ∙ eight-value inverse n n-small

-- A token is a letter and eight digits.
pub record IsOwnToken (token : List ℕ) : Type 0 where
  pub word : is_word token ≡ true
  pub spelled : is_token token ≡ true
  pub long : length token ≡ 9

pub own-token : (n : ℕ) → n < 100000000 → IsOwnToken (codes "g" ++ eight_digits n)
own-token n small =
    let fits : n < 2 ^ 64 = omega (arith, small) in
    let short : length (decimal n) ≤ 8 = length-decimal-le 8 n (omega arith) (omega (arith, small)) fits in
    let digits = are-digits n fits in
    let front : List ℕ = drop (length (decimal n)) (codes "00000000") in
    let front-long : length front ≡ 8 - length (decimal n) = length-drop (length (decimal n)) (codes "00000000") in
    let long : length (front ++ decimal n) ≡ 8 = omega (arith, length-append front (decimal n), front-long, short) in
    let all : list_all is_ascii_alphanumeric (front ++ decimal n) ≡ true =
    all-append is_ascii_alphanumeric front (decimal n) (all-drop is_ascii_alphanumeric (length (decimal n)) (codes "00000000") refl) digits.plain in
    let words : are_word_bytes (front ++ decimal n) ≡ true =
    all-append is_word_byte front (decimal n) (all-drop is_word_byte (length (decimal n)) (codes "00000000") refl) (word-bytes (decimal n) digits.word) in
    let low : nat_le 8 (length (103 ∷ (front ++ decimal n))) ≡ true = le-leb 8 _ (omega (arith, long)) in
    let high : nat_le (length (103 ∷ (front ++ decimal n))) 32 ≡ true = le-leb _ 32 (omega (arith, long)) in
    record {
      word = words;
      spelled = and_from _ _ (and_from _ _ low high) all;
      long = omega (arith, long);
    }

-- ---- places

-- a text that is none is no place; one that has a last byte other than R is a common place
pub not-empty : (text : List ℕ) → is_word text ≡ true → (length text == 0) ≡ false
not-empty [] e = absurd cc
not-empty (byte ∷ text) e = ne_eqb (length (byte ∷ text)) 0 (λ z. omega (arith, z))

read-place : AreInverse → (n : ℕ) → 1 ≤ n → n ≤ last_place → place_number (decimal n) ≡ Some n
read-place inverse n low high = read-within inverse 1 last_place n (omega (arith, high)) low high

-- A common place is read back.
pub common-place : AreInverse → (n : ℕ) → 1 ≤ n → n ≤ last_place → place_of (decimal n) ≡ Some (Common n)
common-place inverse n low high =
    let digits = are-digits n (omega (arith, high)) in
    let last : (slice_index (decimal n) (length (decimal n) - 1) == 82) ≡ false = ne_eqb _ 82 (λ e. omega (arith, digits.last, e)) in
    rw (not-empty (decimal n) digits.word, last, read-place inverse n low high) refl

-- A relaxed place is read back.
pub relaxed-place : AreInverse → (n : ℕ) → 1 ≤ n → n ≤ last_place → place_of (decimal n ++ codes "R") ≡ Some (Relaxed n)
relaxed-place inverse n low high =
    let digits = are-digits n (omega (arith, high)) in
    let text : List ℕ = decimal n ++ 82 ∷ [] in
    let word : is_word text ≡ true = word-append (decimal n) (82 ∷ []) digits.word refl in
    let place : length text - 1 ≡ length (decimal n) = omega (arith, length-append (decimal n) (82 ∷ [])) in
    let end : slice_index text (length text - 1) ≡ 82 = ap (slice_index text) place ∙ get_or_push (decimal n) 82 0 (length (decimal n)) refl in
    let last : (slice_index text (length text - 1) == 82) ≡ true = eq-eqb _ 82 end in
    let front : take (length text - 1) text ≡ decimal n = ap (λ (k : ℕ). take k text) place ∙ take-append_seam (decimal n) (82 ∷ []) in
    rw (not-empty text word, last, front, read-place inverse n low high) refl
