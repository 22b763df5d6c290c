-- What a proof sees of the objects of the outside, and what a call does to them.
use Rattle.std.specs.Prelude.{◌≡◌, ◌<◌, ◌≤◌, ◌+◌, ◌-◌, ◌^◌, ℕ, min, List, [], ◌++◌, Option, Some, None, take, drop, length}

-- A count of faults rose. It ends at 2^64 - 1 and stays there.
abbrev pub Rose : ℕ → ℕ → Type 0
Rose before now = min (before + 1) (2 ^ 64 - 1) ≤ now

-- An object reports that it failed, and only if it failed in this call:
-- then its count of faults rose, and otherwise the count is unchanged.
pub record Fails (failed : Type 0) (old new : ℕ) : Type 0 where
  pub cause : failed → Rose old new
  pub count : old ≤ new
  pub steady : ¬ failed → new ≡ old

-- the first n of the bytes left are taken and begin the buffer; hidden bytes stay hidden
abbrev pub TakesPrefix : ℕ → Option (List ℕ) → Option (List ℕ) → List ℕ → Type 0
TakesPrefix n None after buffer = after ≡ None
TakesPrefix n (Some bytes) after buffer = (n ≤ length bytes) × (take n buffer ≡ take n bytes) × (after ≡ Some (drop n bytes))

-- a read of 0 bytes into room comes only if none is left
abbrev pub ComesAtTheEnd : ℕ → ℕ → Option (List ℕ) → Type 0
ComesAtTheEnd n room None = Unit {0}
ComesAtTheEnd n room (Some bytes) = n ≡ 0 → 0 < room → bytes ≡ []

-- the first n bytes of the piece follow what was written; hidden bytes stay hidden
abbrev pub AppendsPrefix : ℕ → List ℕ → Option (List ℕ) → Option (List ℕ) → Type 0
AppendsPrefix n piece None after = after ≡ None
AppendsPrefix n piece (Some bytes) after = after ≡ Some (bytes ++ take n piece)

-- these bytes began what was left, and were taken from it
abbrev pub Took : List ℕ → Option (List ℕ) → Option (List ℕ) → Type 0
Took bytes None after = after ≡ None
Took bytes (Some left) after = (rest : List ℕ) × (after ≡ Some rest) × (left ≡ bytes ++ rest)

-- nothing is left, if the bytes are visible
abbrev pub IsAtEnd : Option (List ℕ) → Type 0
IsAtEnd None = Unit {0}
IsAtEnd (Some left) = left ≡ []

-- more bytes than the limit were taken
abbrev pub TookMore : ℕ → Option (List ℕ) → Option (List ℕ) → Type 0
TookMore limit before after = (bytes : List ℕ) × (limit < length bytes) × Took bytes before after

-- these bytes were written after what was there
abbrev pub Appends : List ℕ → Option (List ℕ) → Option (List ℕ) → Type 0
Appends bytes None after = after ≡ None
Appends bytes (Some before) after = after ≡ Some (before ++ bytes)

-- these are the bytes left, if they are visible
abbrev pub AreLeft : List ℕ → Option (List ℕ) → Type 0
AreLeft bytes None = Unit {0}
AreLeft bytes (Some left) = bytes ≡ left
