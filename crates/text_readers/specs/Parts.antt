-- The parts of a line, and what may follow its beginning.
use Rattle.std.specs.Prelude.{◌≡◌, ◌<◌, ◌≤◌, ◌^◌, ◌==◌, ℕ, Bool, true, false, List, [], ◌∷◌, ◌++◌, length, if◌then◌else◌}
use Rattle.std.specs.Fmt.{decimal}
use Rattle.std.specs.List.{AllByRecursion}
use Rattle.office_base.specs.Codes.{is_code}
use Rattle.office_base.specs.declared.person.Person.{Person}
use Rattle.published_texts.specs.Texts.{code_in}
use Rattle.seat_matrix.specs.Matrix.{SeatTable}
use Rattle.text_readers.specs.Reading.{HasNo}

-- the first bytes begin the others
abbrev pub is_prefix : List ℕ → List ℕ → Bool
is_prefix [] bytes = true
is_prefix (byte ∷ prefix) [] = false
is_prefix (byte ∷ prefix) (other ∷ bytes) = if byte == other then is_prefix prefix bytes else false

-- What is left of a piece after a part, where one of the two begins the other: nothing where the piece ends inside the part.
-- So the piece begins the part with a tail exactly where what is left begins the tail.
pub record IsLeft (piece part rest : List ℕ) : Type 0 where
  pub same : (tail : List ℕ) → is_prefix piece (part ++ tail) ≡ is_prefix rest tail
  pub clear : (byte : ℕ) → HasNo byte piece → HasNo byte rest

-- the piece begins the part with no tail
abbrev pub IsApart : List ℕ → List ℕ → Type 0
IsApart piece part = (tail : List ℕ) → is_prefix piece (part ++ tail) ≡ false

-- a number up to this one, and what follows it
pub record BeginsNumber (high : ℕ) (tail : List ℕ) (piece : List ℕ) : Type 0 where
  pub number : ℕ
  pub within : number ≤ high
  pub begins : is_prefix piece (decimal number ++ tail) ≡ true

-- each programme has a code
abbrev pub AreSpelled : SeatTable → Type 0
AreSpelled table = (prog : ℕ) → prog < length table.programmes → is_code (code_in table prog) ≡ true

-- the ids fit 32 bits
abbrev pub AreSmall : List Person → Type 0
AreSmall people = AllByRecursion (λ person. person.id.0 < 2 ^ 32) people
