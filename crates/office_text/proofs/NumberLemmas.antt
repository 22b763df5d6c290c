-- Numbers and their digits.
use Rattle.std.proofs.Common.{◌≡◌, ◌<◌, ◌≤◌, ◌+◌, ◌*◌, ◌-◌, ◌^◌, ℕ, zero, suc, true, cond, ◌&&◌, leb, ltb, List, [], ◌∷◌, Some, None, length, get_or, refl, ap, sym, ◌∙◌, arith, rules}
use Rattle.std.proofs.lemmas.Str.Parse.{IsNumeralModel, numerals_by_fold}
use Rattle.std.specs.Fmt.{decimal}
use Rattle.std.proofs.lemmas.Fmt.{digits_decimal, digits_value-decimal, decimal-digits_value, decimal_digit, first_decimal}
use Rattle.std.proofs.lemmas.Bool.{and_parts, and_from, le-leb, leb-true, false≢true, cond-true}
use Rattle.std.proofs.lemmas.Bool.Decides.{nat_tests}
use Rattle.std.proofs.lemmas.Option.{cond_some}
use Rattle.std.specs.Char.{is_ascii_digit}
use Rattle.office_text.specs.Number.{are_digits, is_number, value_after, value_of, number_of, AreInverse}

-- Digits after digits never make the value less.
pub value_after-ge : (n : ℕ) (bytes : List ℕ) → n ≤ value_after n bytes
value_after-ge n [] = omega arith
value_after-ge n (b ∷ bytes) = omega (arith, value_after-ge (n * 10 + (b - 48)) bytes)

-- `are_digits` and `value_of` are the digits and the value of std's numerals.
pub own : IsNumeralModel (λ ds. are_digits ds ≡ true) value_of
own = numerals_by_fold _ (search rules) value_after (search rules)

-- the two outcomes of `value_of` in 32 bits
pub value_above : (n : ℕ) → 2 ^ 32 ≤ n → None ≡ cond (ltb n (2 ^ 32)) (Some n) None
value_above n h = grind (arith, nat_tests)

-- Digits that do not begin with 0 are a number.
is_number-from : (bs : List ℕ) → are_digits bs ≡ true → 48 < get_or bs 0 0 → is_number bs ≡ true
is_number-from [] digits first = absurd (omega arith)
is_number-from (b ∷ []) digits first = (and_parts (is_ascii_digit b) true digits).0
is_number-from (b ∷ next ∷ bs) digits first =
    let parts = and_parts (is_ascii_digit b) (are_digits (next ∷ bs)) digits in
    and_from (leb 49 b && leb b 57) (are_digits (next ∷ bs)) (and_from (leb 49 b) (leb b 57) (le-leb 49 b (omega arith)) (and_parts (leb 48 b) (leb b 57) parts.0).1) parts.1

-- A number is digits, and begins with 0 only where it is 0.
is_number-parts : (bs : List ℕ) → is_number bs ≡ true → (are_digits bs ≡ true) × (0 < length bs) × (get_or bs 0 0 ≡ 48 → length bs ≡ 1)
is_number-parts [] e = absurd (false≢true e)
is_number-parts (b ∷ []) e = (and_from (is_ascii_digit b) true e refl, omega arith, λ _. refl)
is_number-parts (b ∷ next ∷ bs) e =
    let parts = and_parts (leb 49 b && leb b 57) (are_digits (next ∷ bs)) e in
    let range = and_parts (leb 49 b) (leb b 57) parts.0 in
    let low : 49 ≤ b = leb-true 49 b range.0 in
    (and_from (is_ascii_digit b) (are_digits (next ∷ bs)) (and_from (leb 48 b) (leb b 57) (le-leb 48 b (omega arith)) range.1) parts.1, omega arith, λ is. absurd (omega arith))

-- A number of several digits is read back.
read_back_positive : (n : ℕ) → 0 < n → n < 2 ^ 64 → number_of (decimal n) ≡ Some n
read_back_positive n some small =
    let spelled : is_number (decimal n) ≡ true = is_number-from (decimal n) (digits_decimal own n small) (first_decimal n some small) in
    let value : value_of (decimal n) ≡ n = digits_value-decimal own n small in
    cond-true (is_number (decimal n)) _ None spelled ∙ ap (λ (m : ℕ). Some m) value

-- Every number is read back.
pub read_back : (n : ℕ) → n < 2 ^ 64 → number_of (decimal n) ≡ Some n
read_back zero small = rw (decimal_digit 0 (omega arith)) refl
read_back (suc n) small = read_back_positive (suc n) (omega arith) small

-- A text that is read as a number is its digits.
pub written_back : (text : List ℕ) (n : ℕ) → n < 2 ^ 64 → number_of text ≡ Some n → text ≡ decimal n
written_back text n small e =
    let parts = cond_some (is_number text) (value_of text) n e in
    let spelled = is_number-parts text parts.0 in
    let fits : value_of text < 2 ^ 64 = omega (arith, parts.1) in
    sym (decimal-digits_value own text spelled.0 spelled.1 spelled.2 fits) ∙ ap decimal parts.1

-- Reading and writing a number undo each other.
pub are_inverse : AreInverse
are_inverse = record { read_back = read_back; written_back = written_back }
