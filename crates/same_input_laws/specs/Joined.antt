-- The bytes of a bundle, requests and texts, put together.
use Rattle.std.specs.Prelude.{◌≡◌, ◌≢◌, ◌≤◌, ◌<◌, ◌⊎◌, ℕ, List, [], ◌∷◌, ◌++◌, codes, drop, length}
use Rattle.office_text.specs.Lines.{skip_mark}
use Rattle.season_file.specs.Bundle.{title}
use Rattle.dossier_file.specs.Split.{BeginsLine, IsSplit}

-- a bundle, the requests and the published texts, each behind its line
abbrev pub joined_bytes : List ℕ → List ℕ → List ℕ → List ℕ
joined_bytes bundle requests texts = bundle ++ (codes "[requests]\n" ++ (requests ++ (codes "[published]\n" ++ texts)))

-- the bytes are whole lines
abbrev pub AreWholeLines : List ℕ → Type 0
AreWholeLines bytes = (bytes ≡ []) ⊎ ((front : List ℕ) × (bytes ≡ front ++ 10 ∷ []))

-- no line of the bytes has this name
abbrev pub HaveNoLine : List ℕ → List ℕ → Type 0
HaveNoLine name bytes = (at : ℕ) → at < length bytes → BeginsLine bytes at → title (drop at bytes) ≢ name

-- The bundle and the requests are whole lines, and no line of theirs looks like the one that is put behind them.
pub record CanBeJoined (bundle requests : List ℕ) : Type 0 where
  pub some : 3 ≤ length bundle
  pub front : List ℕ
  pub bundle_lines : bundle ≡ front ++ 10 ∷ []
  pub request_lines : AreWholeLines requests
  pub no_requests : HaveNoLine (codes "[requests]") (skip_mark bundle)
  pub no_published : HaveNoLine (codes "[published]") requests

abbrev pub JoinedAreCut : Type 0
JoinedAreCut = (bundle requests texts : List ℕ) → CanBeJoined bundle requests → IsSplit (joined_bytes bundle requests texts) bundle requests texts
