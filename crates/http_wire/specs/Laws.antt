-- What holds of heads and messages, for any reader of them.
use Rattle.std.specs.Prelude.{◌≡◌, ◌<◌, ◌≤◌, ◌≢◌, ◌↔◌, ◌⊎◌, ℕ, true, false, List, [], ◌∷◌, ◌++◌, length, take, flat_map, Some}
use Rattle.std.specs.List.{AllByRecursion, list_all, list_any}
use Rattle.http_wire.specs.HeadEnds.{head_len, is_empty_line}
use Rattle.http_wire.specs.Messages.{Answer, unfinished, ComesTo, IsTorn, IsUnfinished}

-- the line has no LF
abbrev pub HasNoLf : List ℕ → Type 0
HasNoLf line = AllByRecursion (λ byte. byte ≢ 10) line

-- lines, each ended by an LF
abbrev pub printed : List (List ℕ) → List ℕ
printed lines = flat_map (λ line. line ++ 10 ∷ []) lines

-- The bytes are a head: some empty lines, then one or more lines none of which is empty, then an empty line.
pub record IsHead (bytes : List ℕ) : Type 0 where
  pub blank : List (List ℕ)
  pub lines : List (List ℕ)
  pub last : List ℕ
  pub printed : bytes ≡ printed (blank ++ (lines ++ last ∷ []))
  pub closed : AllByRecursion HasNoLf (blank ++ (lines ++ last ∷ []))
  pub before : list_all is_empty_line blank ≡ true
  pub some : 0 < length lines
  pub filled : list_any is_empty_line lines ≡ false
  pub ended : is_empty_line last ≡ true

-- The length of a head is that of the bytes that are one, whatever follows them, and no fewer bytes are one.
pub record AreHeads : Type 0 where
  pub found : (bytes : List ℕ) (len : ℕ) → head_len bytes ≡ Some len → (len ≤ length bytes) × IsHead (take len bytes)
  pub whole : (head more : List ℕ) → IsHead head → head_len (head ++ more) ≡ Some (length head)
  pub first : (bytes : List ℕ) (len k : ℕ) → head_len bytes ≡ Some len → k < len → IsHead (take k bytes) → ⊥

-- Bytes come to one answer.
abbrev pub HasOneAnswer : List ℕ → Type 0
HasOneAnswer bytes = (answer other : Answer) → ComesTo bytes answer → ComesTo bytes other → answer ≡ other

-- What the bytes so far come to, unless more is wanted, is what they come to with those that follow.
abbrev pub IsSettled : List ℕ → List ℕ → Type 0
IsSettled bytes more = (answer other : Answer) → ComesTo bytes answer → answer ≢ unfinished → ComesTo (bytes ++ more) other → answer ≡ other

-- More is wanted exactly where no byte has come, or a message has begun and is not whole.
abbrev pub IsNoneOrTorn : List ℕ → Type 0
IsNoneOrTorn bytes = IsUnfinished bytes ↔ ((bytes ≡ []) ⊎ IsTorn bytes)
