-- Reading and writing one choice of those that bytes hold, four to a byte.
use Rattle.std.proofs.Common.{◌≡◌, ◌<◌, ◌+◌, ◌*◌, ◌/◌, ◌%◌, ℕ, zero, suc, List, [], ◌∷◌, ◌++◌, length, take, get_or, slice_set, arith, refl, ap}
use Rattle.std.specs.Prelude.{slice_get, flat_map}
use Rattle.answer_table.specs.Turns.{four_of, digit_of, of_digit}
use Rattle.office_base.specs.declared.choice.Choice.{Choice}
use Rattle.office_base.specs.declared.choice.Choice.TheVariants.{Freeze, Float, Slide, Withdraw}

-- the choice at a place of the bytes is the one at a place of its byte
pub get_four : (bytes : List ℕ) (at : ℕ) → at / 4 < length bytes → slice_get (flat_map four_of bytes) at ≡ slice_get (four_of (get_or bytes (at / 4) 0)) (at % 4)
get_four [] at within = absurd (omega arith)
get_four (first ∷ rest) zero within = refl
get_four (first ∷ rest) (suc zero) within = refl
get_four (first ∷ rest) (suc (suc zero)) within = refl
get_four (first ∷ rest) (suc (suc (suc zero))) within = refl
get_four (first ∷ rest) (suc (suc (suc (suc at)))) within =
    let byte : suc (suc (suc (suc at))) / 4 ≡ suc (at / 4) = omega arith in
    let place : suc (suc (suc (suc at))) % 4 ≡ at % 4 = omega arith in
    rw (byte, place) (get_four rest at (omega arith))

-- a choice that follows the first ones of a byte follows the same ones of the bytes
pub put_four : (bytes : List ℕ) (at byte : ℕ) (choice : Choice) → at / 4 < length bytes → take (at % 4 + 1) (four_of byte) ≡ take (at % 4) (four_of (get_or bytes (at / 4) 0)) ++ choice ∷ []
    → take (at + 1) (flat_map four_of (slice_set bytes (at / 4) byte)) ≡ take at (flat_map four_of bytes) ++ choice ∷ []
put_four [] at byte choice within same = absurd (omega arith)
put_four (first ∷ rest) zero byte choice within same = same
put_four (first ∷ rest) (suc zero) byte choice within same = same
put_four (first ∷ rest) (suc (suc zero)) byte choice within same = same
put_four (first ∷ rest) (suc (suc (suc zero))) byte choice within same = same
put_four (first ∷ rest) (suc (suc (suc (suc at)))) byte choice within same =
    let at_byte : suc (suc (suc (suc at))) / 4 ≡ suc (at / 4) = omega arith in
    let place : suc (suc (suc (suc at))) % 4 ≡ at % 4 = omega arith in
    let next : suc (suc (suc (suc at))) + 1 ≡ suc (suc (suc (suc (at + 1)))) = omega arith in
    let below = put_four rest at byte choice (omega arith) (rw (at_byte, place) at same) in
    rw (at_byte, next) (ap (λ choices. four_of first ++ choices) below)

-- how many choices bytes hold
pub length_four : (bytes : List ℕ) → length (flat_map four_of bytes) ≡ length bytes * 4
length_four [] = refl
length_four (first ∷ rest) = omega (arith, length_four rest)

-- a digit is below 4
few_digits : (choice : Choice) → digit_of choice < 4
few_digits Freeze = omega arith
few_digits Float = omega arith
few_digits Slide = omega arith
few_digits Withdraw = omega arith

-- a choice is read from its digit
same_choice : (choice : Choice) → of_digit (digit_of choice) ≡ choice
same_choice Freeze = refl
same_choice Float = refl
same_choice Slide = refl
same_choice Withdraw = refl

-- a byte that is put together of its two lowest digits and a third
pub third_digit : (byte : ℕ) (choice : Choice) → take 3 (four_of (byte % 16 + digit_of choice * 16)) ≡ take 2 (four_of byte) ++ choice ∷ []
third_digit byte choice =
    let few = few_digits choice in
    let first : (byte % 16 + digit_of choice * 16) % 4 ≡ byte % 4 = omega arith in
    let second : (byte % 16 + digit_of choice * 16) / 4 % 4 ≡ byte / 4 % 4 = omega arith in
    let third : (byte % 16 + digit_of choice * 16) / 16 % 4 ≡ digit_of choice = omega arith in
    rw (first, second, third, same_choice choice) refl

-- a byte that is put together of its three lowest digits and a fourth
pub fourth_digit : (byte : ℕ) (choice : Choice) → four_of (byte % 64 + digit_of choice * 64) ≡ take 3 (four_of byte) ++ choice ∷ []
fourth_digit byte choice =
    let few = few_digits choice in
    let first : (byte % 64 + digit_of choice * 64) % 4 ≡ byte % 4 = omega arith in
    let second : (byte % 64 + digit_of choice * 64) / 4 % 4 ≡ byte / 4 % 4 = omega arith in
    let third : (byte % 64 + digit_of choice * 64) / 16 % 4 ≡ byte / 16 % 4 = omega arith in
    let fourth : (byte % 64 + digit_of choice * 64) / 64 % 4 ≡ digit_of choice = omega arith in
    rw (first, second, third, fourth, same_choice choice) refl

-- the elements at the front are those of all
pub get_front : {X : Type 0} (xs : List X) (front at : ℕ) → at < front → slice_get (take front xs) at ≡ slice_get xs at
get_front xs zero at before = absurd (omega arith)
get_front [] (suc front) at before = refl
get_front (x ∷ xs) (suc front) zero before = refl
get_front (x ∷ xs) (suc front) (suc at) before = get_front xs front at (omega arith)
