-- What a piece of a line of a list may begin.
use Rattle.std.specs.Prelude.{◌≡◌, ◌<◌, ◌≤◌, ◌-◌, ◌^◌, ℕ, true, List, [], ◌∷◌, ◌++◌, Option, IfSome, length, codes}
use Rattle.std.specs.Fmt.{decimal}
use Rattle.office_text.specs.Traits.{letter}
use Rattle.published_texts.specs.Texts.{code_in}
use Rattle.seat_matrix.specs.Matrix.{SeatTable}
use Rattle.step_lines.specs.Lines.{slot_letter}
use Rattle.text_readers.specs.Parts.{is_prefix}
use Rattle.text_readers.specs.Reading.{HasNo}
use Rattle.list_texts.specs.ListLines.{slots_in}
use Rattle.list_texts.specs.declared.numbers.NumberLeft.{NumberLeft}
use Rattle.list_texts.specs.declared.numbers.NumberLeft.TheVariants.{Inside, Past, Apart}

-- The piece begins the word, some number up to this one, a space and this tail.
pub record BeginsNumbered (word : List ℕ) (high : ℕ) (tail piece : List ℕ) : Type 0 where
  pub number : ℕ
  pub within : number ≤ high
  pub begins : is_prefix piece (word ++ (decimal number ++ 32 ∷ tail)) ≡ true

-- The piece has the word, a number up to this one and a space: what it begins then is what the rest begins.
pub record IsPast (word : List ℕ) (high : ℕ) (piece rest : List ℕ) : Type 0 where
  pub on : (tail : List ℕ) → is_prefix rest tail ≡ true → BeginsNumbered word high tail piece
  pub back : (tail : List ℕ) → BeginsNumbered word high tail piece → is_prefix rest tail ≡ true
  pub clear : HasNo 10 piece → HasNo 10 rest

-- what is left after a word, a number and a space
abbrev pub IsNumberLeft : List ℕ → ℕ → List ℕ → NumberLeft → Type 0
IsNumberLeft word high piece Inside = (tail : List ℕ) → BeginsNumbered word high tail piece
IsNumberLeft word high piece (Past rest) = IsPast word high piece rest.now
IsNumberLeft word high piece Apart = (tail : List ℕ) → BeginsNumbered word high tail piece → ⊥

-- The piece begins the word, a number up to this one, and the end of the line.
pub record BeginsCount (word : List ℕ) (most : ℕ) (piece : List ℕ) : Type 0 where
  pub count : ℕ
  pub within : count ≤ most
  pub begins : is_prefix piece (word ++ (decimal count ++ 10 ∷ [])) ≡ true

-- The piece begins the numbers of a step after that of the seats.
pub record BeginsCandidates (most : ℕ) (piece : List ℕ) : Type 0 where
  pub candidates : ℕ
  pub count : ℕ
  pub many : candidates < 2 ^ 32
  pub within : count ≤ most
  pub begins : is_prefix piece (codes "candidates " ++ (decimal candidates ++ 32 ∷ (codes "admitted " ++ (decimal count ++ 10 ∷ [])))) ≡ true

-- The piece begins the numbers of a step.
pub record BeginsSeats (most : ℕ) (piece : List ℕ) : Type 0 where
  pub seats : ℕ
  pub candidates : ℕ
  pub count : ℕ
  pub enough : seats < 2 ^ 32
  pub many : candidates < 2 ^ 32
  pub within : count ≤ most
  pub begins : is_prefix piece (codes " seats " ++ (decimal seats ++ 32 ∷ (codes "candidates " ++ (decimal candidates ++ 32 ∷ (codes "admitted " ++ (decimal count ++ 10 ∷ [])))))) ≡ true

-- The piece begins the code of a programme and the end of the line.
pub record BeginsListCode (table : SeatTable) (piece : List ℕ) : Type 0 where
  pub prog : ℕ
  pub within : prog < length table.programmes
  pub begins : is_prefix piece (code_in table prog ++ 10 ∷ []) ≡ true

-- The piece begins the letter of a trait and the end of the line.
pub record BeginsLetter (piece : List ℕ) : Type 0 where
  pub slot : ℕ
  pub within : slot < 6
  pub begins : is_prefix piece (letter slot ∷ 10 ∷ []) ≡ true

-- The piece begins a slot that is possible when that many rows are left after it, and with it that many slots.
pub record BeginsSlot (left slots : ℕ) (piece : List ℕ) : Type 0 where
  pub slot : Option ℕ
  pub known : IfSome slot (λ t. t < 6)
  pub some : slots_in slot ≤ slots
  pub enough : slots - slots_in slot ≤ left
  pub begins : is_prefix piece (slot_letter slot ∷ 10 ∷ []) ≡ true

-- The piece begins the row of this candidate, with such a slot.
pub record BeginsEntry (id left slots : ℕ) (piece : List ℕ) : Type 0 where
  pub slot : Option ℕ
  pub known : IfSome slot (λ t. t < 6)
  pub some : slots_in slot ≤ slots
  pub enough : slots - slots_in slot ≤ left
  pub begins : is_prefix piece (decimal id ++ 32 ∷ slot_letter slot ∷ 10 ∷ []) ≡ true
