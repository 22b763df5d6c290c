-- Where a dossier is cut into its bundle, its requests and what was published.
use Rattle.std.specs.Prelude.{◌≡◌, ◌≢◌, ◌<◌, ◌⊎◌, ◌+◌, ◌-◌, ℕ, List, length, take, drop, codes, slice_index}
use Rattle.office_text.specs.Lines.{skip_mark}
use Rattle.season_file.specs.Bundle.{after_line, title}

-- a line begins here: with the bytes, or after an LF
abbrev pub BeginsLine : List ℕ → ℕ → Type 0
BeginsLine text at = (at ≡ 0) ⊎ (slice_index text (at - 1) ≡ 10)

-- The first line of this name begins here, its line end and the commas before it apart.
pub record IsTitledAt (name text : List ℕ) (at : ℕ) : Type 0 where
  pub within : at < length text
  pub begins : BeginsLine text at
  pub titled : title (drop at text) ≡ name
  pub first : (k : ℕ) → k < at → BeginsLine text k → title (drop k text) ≢ name

-- The bytes are a bundle, the line `[requests]`, the body of the requests, the line `[published]`, and the published texts. They
-- are cut at the first of these lines, and at the first of the others after it. A byte order mark at the beginning belongs to the
-- bundle, and the first line begins after it.
pub record IsSplit (bytes bundle requests published : List ℕ) : Type 0 where
  pub first : ℕ
  pub second : ℕ
  pub requests_line : IsTitledAt (codes "[requests]") (skip_mark bytes) first
  pub published_line : IsTitledAt (codes "[published]") (after_line (drop first (skip_mark bytes))) second
  pub is_bundle : bundle ≡ take (length bytes - length (skip_mark bytes) + first) bytes
  pub is_requests : requests ≡ take second (after_line (drop first (skip_mark bytes)))
  pub is_published : published ≡ after_line (drop second (after_line (drop first (skip_mark bytes))))

-- one of the two lines is missing
abbrev pub HasNoSection : List ℕ → Type 0
HasNoSection bytes = (bundle requests published : List ℕ) → IsSplit bytes bundle requests published → ⊥
