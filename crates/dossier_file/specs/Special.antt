-- Where a dossier with a special round is cut: into the dossier of its season, the lists that were handed in, and the texts of the round.
use Rattle.std.specs.Prelude.{◌≡◌, ◌+◌, ◌-◌, ℕ, List, length, take, drop, codes}
use Rattle.season_file.specs.Bundle.{after_line}
use Rattle.dossier_file.specs.Split.{IsSplit, IsTitledAt}

-- Behind the line `[published]` are texts, the line `[lists]`, lists, the line `[special]`, and more texts. They are cut at the first line `[lists]`, and at the
-- first line `[special]` after it. All bytes before the line `[lists]` are the front.
pub record IsSpecialCut (bytes front lists published : List ℕ) : Type 0 where
  pub bundle : List ℕ
  pub requests : List ℕ
  pub texts : List ℕ
  pub cut : IsSplit bytes bundle requests texts
  pub first : ℕ
  pub second : ℕ
  pub lists_line : IsTitledAt (codes "[lists]") texts first
  pub special_line : IsTitledAt (codes "[special]") (after_line (drop first texts)) second
  pub is_front : front ≡ take (length bytes - length texts + first) bytes
  pub is_lists : lists ≡ take second (after_line (drop first texts))
  pub is_published : published ≡ after_line (drop second (after_line (drop first texts)))

-- one of the two lines is missing
abbrev pub HasNoSpecial : List ℕ → Type 0
HasNoSpecial bytes = (front lists published : List ℕ) → IsSpecialCut bytes front lists published → ⊥
