-- How a set of traits is spelled: a letter for each, in the order of their numbers.
use Rattle.std.specs.Prelude.{◌≡◌, ◌<◌, ◌⊎◌, ◌+◌, ◌^◌, ℕ, Bool, false, ◌==◌, List, [], ◌∷◌, Option, Some, None, map, sum_by, slice_index, position, if◌then◌else◌}
use Rattle.std.specs.List.{AllByRecursion}
use Rattle.std.specs.Option.{option_map}
use Rattle.office_base.specs.Lists.{Pairwise}

-- the letters W, D, X, S, F and L of the traits 0 to 5
abbrev pub letters : List ℕ
letters = 87 ∷ 68 ∷ 88 ∷ 83 ∷ 70 ∷ 76 ∷ []

-- the letter of a trait
abbrev pub letter : ℕ → ℕ
letter t = slice_index letters t

-- the trait of a letter
abbrev pub trait_of : ℕ → Option ℕ
trait_of byte = position (λ other. other == byte) letters

-- each letter with the bit that it sets
abbrev pub weighted_letters : List (ℕ × ℕ)
weighted_letters = (87, 1) ∷ (68, 2) ∷ (88, 4) ∷ (83, 8) ∷ (70, 16) ∷ (76, 32) ∷ []

-- the set of the letters of a text, which are among those allowed and in their order
abbrev pub read_from : List (ℕ × ℕ) → List ℕ → Option ℕ
read_from [] [] = Some 0
read_from [] (byte ∷ text) = None
read_from (pair ∷ allowed) [] = Some 0
read_from (pair ∷ allowed) (byte ∷ text) = if pair.0 == byte then option_map (λ n. pair.1 + n) (read_from allowed text) else read_from allowed (byte ∷ text)

-- a dash alone
abbrev pub is_dash : List ℕ → Bool
is_dash [] = false
is_dash (byte ∷ []) = byte == 45
is_dash (byte ∷ next ∷ bytes) = false

-- the set of traits that a text spells: a dash or nothing for none, or else letters in the order of the traits
abbrev pub traits_of : List ℕ → Option ℕ
traits_of text = if is_dash text then Some 0 else read_from weighted_letters text

-- The text is the letters of these traits, each once and in the order of their numbers, and their set is this one.
pub record AreLettersOf (numbers text : List ℕ) (bits : ℕ) : Type 0 where
  pub letters : text ≡ map letter numbers
  pub traits : AllByRecursion (λ t. t < 6) numbers
  pub rising : Pairwise (λ t u. t < u) numbers
  pub set : bits ≡ sum_by (λ t. 2 ^ t) numbers

-- the text spells this set: a dash alone spells the empty one, and else its letters are distinct and in order
abbrev pub IsSpelled : List ℕ → ℕ → Type 0
IsSpelled text bits = ((text ≡ 45 ∷ []) × (bits ≡ 0)) ⊎ ((numbers : List ℕ) × AreLettersOf numbers text bits)

-- A text is read as a set of traits exactly where it spells this set.
pub record AreReadAsSpelled : Type 0 where
  pub spelled : (text : List ℕ) (bits : ℕ) → traits_of text ≡ Some bits → IsSpelled text bits
  pub read : (text : List ℕ) (bits : ℕ) → IsSpelled text bits → traits_of text ≡ Some bits
