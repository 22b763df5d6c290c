-- How a number is spelled: decimal digits without a sign, and without a leading zero except for 0 itself.
use Rattle.std.specs.Prelude.{◌≡◌, ◌<◌, ◌+◌, ◌*◌, ◌-◌, ◌^◌, ℕ, Bool, false, ◌&&◌, nat_le, List, [], ◌∷◌, Option, Some, None, if◌then◌else◌}
use Rattle.std.specs.Char.{is_ascii_digit}
use Rattle.std.specs.Fmt.{decimal}
use Rattle.std.specs.List.{list_all}

-- digits alone, or nothing
abbrev pub are_digits : List ℕ → Bool
are_digits text = list_all is_ascii_digit text

-- one digit, or several that do not begin with 0
abbrev pub is_number : List ℕ → Bool
is_number [] = false
is_number (byte ∷ []) = is_ascii_digit byte
is_number (byte ∷ next ∷ bytes) = nat_le 49 byte && nat_le byte 57 && are_digits (next ∷ bytes)

-- the value of the digits, the highest first, after digits of the value n
abbrev pub value_after : ℕ → List ℕ → ℕ
value_after n [] = n
value_after n (byte ∷ bytes) = value_after (n * 10 + (byte - 48)) bytes

-- the value of digits, the highest first
abbrev pub value_of : List ℕ → ℕ
value_of bytes = value_after 0 bytes

-- the number that the text spells
abbrev pub number_of : List ℕ → Option ℕ
number_of text = if is_number text then Some (value_of text) else None

-- the number that the text spells, where it lies from low to high
abbrev pub number_within : ℕ → ℕ → List ℕ → Option ℕ
number_within low high text = if is_number text && nat_le low (value_of text) && nat_le (value_of text) high then Some (value_of text) else None

-- A number is read back from its digits, and a text that is read as a number is its digits.
pub record AreInverse : Type 0 where
  pub read_back : (n : ℕ) → n < 2 ^ 64 → number_of (decimal n) ≡ Some n
  pub written_back : (text : List ℕ) (n : ℕ) → n < 2 ^ 64 → number_of text ≡ Some n → text ≡ decimal n
