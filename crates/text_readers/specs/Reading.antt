-- Which line of bytes is the first up to which they begin no text of a grammar.
use Rattle.std.specs.Prelude.{◌≡◌, ◌≢◌, ◌≤◌, ◌⊎◌, ◌+◌, ◌-◌, ◌==◌, ℕ, Bool, true, false, List, [], ◌∷◌, ◌++◌, if◌then◌else◌}
use Rattle.std.specs.List.{AllByRecursion}
use Rattle.text_readers.specs.declared.fault.TextFault.{TextFault}
use Rattle.text_readers.specs.declared.fault.TextFault.TheVariants.{Line, OutOfMemory}

-- none of the bytes is this one
abbrev pub HasNo : ℕ → List ℕ → Type 0
HasNo byte bytes = AllByRecursion (λ other. other ≢ byte) bytes

-- the bytes of the first n lines: each LF ends one
abbrev pub first_lines : ℕ → List ℕ → List ℕ
first_lines n [] = []
first_lines n (byte ∷ bytes) = if n == 0 then [] else byte ∷ first_lines (if byte == 10 then n - 1 else n) bytes

-- how many lines end in bytes, if a line may have begun before them; what follows the last LF is a line too
abbrev pub lines_after : Bool → List ℕ → ℕ
lines_after begun [] = if begun then 1 else 0
lines_after begun (byte ∷ bytes) = if byte == 10 then 1 + lines_after false bytes else lines_after true bytes

-- how many lines bytes have
abbrev pub lines_in : List ℕ → ℕ
lines_in bytes = lines_after false bytes

-- What is a text of a grammar, and of which value.
abbrev pub Grammar : Type 0 → Type 1
Grammar Value = List ℕ → Value → Type 0

-- some text of the grammar begins with these bytes
abbrev pub Begins : {Value : Type 0} → Grammar Value → List ℕ → Type 0
Begins {Value} grammar bytes = (more : List ℕ) × (value : Value) × grammar (bytes ++ more) value

-- The bytes are no text. They begin one up to this line, counted from 1, and with it they begin none; or the line is one past
-- their end, and they begin one.
pub record IsFaultLine {Value : Type 0} (grammar : Grammar Value) (bytes : List ℕ) (n : ℕ) : Type 0 where
  pub none : (value : Value) → grammar bytes value → ⊥
  pub some : 1 ≤ n
  pub before : Begins grammar (first_lines (n - 1) bytes)
  pub here : ((n ≤ lines_in bytes) × (Begins grammar (first_lines n bytes) → ⊥)) ⊎ ((n ≡ lines_in bytes + 1) × Begins grammar bytes)

-- A whole line leads from what completes a text before it to what completes one after it.
pub record Leads {Value : Type 0} (before after : Grammar Value) (line : List ℕ) : Type 0 where
  pub back : (rest : List ℕ) (value : Value) → after rest value → before (line ++ 10 ∷ rest) value
  pub on : (rest : List ℕ) (value : Value) → before (line ++ 10 ∷ rest) value → (other : Value) × after rest other
  pub some : Begins after []

-- nothing that completes a text begins with the whole line
abbrev pub IsRefused : {Value : Type 0} → Grammar Value → List ℕ → Type 0
IsRefused {Value} before line = (rest : List ℕ) (value : Value) → before (line ++ 10 ∷ rest) value → ⊥

-- A whole line is taken, or refused.
abbrev pub IsAnswered : {Value : Type 0} → Grammar Value → Grammar Value → List ℕ → Bool → Type 0
IsAnswered before after line true = Leads before after line
IsAnswered before after line false = IsRefused before line

-- nothing that completes a text ends inside a line
abbrev pub EndsWithLines : {Value : Type 0} → Grammar Value → List ℕ → Type 0
EndsWithLines {Value} grammar piece = (value : Value) → grammar piece value → ⊥

-- the text is complete, as the one of this value, or it is not
abbrev pub IsWhole : {Value : Type 0} → Grammar Value → Value → Bool → Type 0
IsWhole {Value} grammar value true = grammar [] value
IsWhole {Value} grammar value false = (other : Value) → grammar [] other → ⊥

-- the line of a fault is that of the bytes; `OutOfMemory` says nothing of them
abbrev pub IsTextFault : {Value : Type 0} → Grammar Value → List ℕ → TextFault → Type 0
IsTextFault grammar bytes (Line n) = IsFaultLine grammar bytes n
IsTextFault grammar bytes OutOfMemory = Unit {0}
