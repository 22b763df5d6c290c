-- That a bundle is cut at the lines that begin with `[`, and that title lines with the bodies between them give its bytes back.
use Rattle.std.specs.Prelude.{◌≡◌, ◌≤◌, ◌⊎◌, ◌+◌, ℕ, Bool, false, ◌==◌, List, [], ◌∷◌, ◌++◌, length, codes}
use Rattle.std.specs.List.{AllByRecursion}
use Rattle.office_text.specs.Lines.{split_at_each}
use Rattle.season_file.specs.Bundle.{Parts, line_len, title}

-- the line begins with `[`
abbrev pub begins_title : List ℕ → Bool
begins_title [] = false
begins_title (byte ∷ line) = byte == 91

-- no line of these bytes begins with `[`
abbrev pub HasNoTitle : List ℕ → Type 0
HasNoTitle bytes = AllByRecursion (λ line. begins_title line ≡ false) (split_at_each 10 bytes)

-- A text is a line of this title, then this body, of which no line begins with `[`, and then a rest, which is nothing or begins with `[`.
-- The line has an LF at its end alone.
pub record IsTitled (name text body rest : List ℕ) : Type 0 where
  pub line : List ℕ
  pub whole : text ≡ line ++ (body ++ rest)
  pub titled : title line ≡ name
  pub one_line : length line ≤ line_len line + 1
  pub inside : HasNoTitle body
  pub next : (rest ≡ []) ⊎ ((more : List ℕ) × (rest ≡ 91 ∷ more))

-- The bytes are a head, which ends before the first section line, and then the sections, one after another. The
-- section of the requests is the last or is missing.
pub record IsCutAtTitles (bytes : List ℕ) (parts : Parts) : Type 0 where
  pub head : List ℕ
  pub first : List ℕ
  pub second : List ℕ
  pub third : List ℕ
  pub fourth : List ℕ
  pub whole : bytes ≡ head ++ first
  pub season : IsTitled (codes "[season]") first parts.season second
  pub register : IsTitled (codes "[register]") second parts.register third
  pub matrix : IsTitled (codes "[matrix]") third parts.matrix fourth
  pub choices : IsTitled (codes "[choices]") fourth parts.choices parts.requests
  pub requests : (parts.requests ≡ []) ⊎ ((body : List ℕ) × IsTitled (codes "[requests]") parts.requests body [])
