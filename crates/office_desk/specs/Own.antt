-- Entries and tickets.
use Rattle.std.specs.Prelude.{◌≡◌, ◌⊎◌, ℕ, List, [], ◌∷◌, ◌++◌, ◌==◌, length, nat_lt, if◌then◌else◌}
use Rattle.std.specs.List.{filter, list_any}

-- the first list is a prefix of the second
abbrev pub Begins : {I : Type 0} → List I → List I → Type 0
Begins {I} xs ys = (rest : List I) × (ys ≡ xs ++ rest)

-- the longer of two lists, and the first where they are equally long
abbrev pub longer : {I : Type 0} → List I → List I → List I
longer xs ys = if nat_lt (length xs) (length ys) then ys else xs

-- The third list has the elements of the first and those of the second, each once, and those of either in their order.
abbrev pub AreMerged : {I : Type 0} → List I → List I → List I → Type 0
AreMerged xs ys [] = (xs ≡ []) × (ys ≡ [])
AreMerged {I} xs ys (z ∷ zs) = ((rest : List I) × (xs ≡ z ∷ rest) × AreMerged rest ys zs) ⊎ ((rest : List I) × (ys ≡ z ∷ rest) × AreMerged xs rest zs)

-- The list after is the list before, or it has one entry more at its end, which has this number.
abbrev pub AppendsAtMost : {I : Type 0} → (I → ℕ) → ℕ → List I → List I → Type 0
AppendsAtMost {I} number n before after = (after ≡ before) ⊎ ((e : I) × (number e ≡ n) × (after ≡ before ++ e ∷ []))

module _ {I : Type 0} (number : I → ℕ) where
  -- those entries whose number is one of the tickets, in their order
  abbrev pub among : List ℕ → List I → List I
  among tickets entries = filter (λ e. list_any (λ t. number e == t) tickets) entries

  -- the history begins with what was seen, and no entry after it has one of the tickets
  abbrev pub HasSeen : List ℕ → List I → List I → Type 0
  HasSeen tickets seen history = (rest : List I) × (history ≡ seen ++ rest) × (among tickets rest ≡ [])
