-- The entries of an office that goes on from its records, and their numbers.
use Rattle.std.specs.Prelude.{◌≡◌, ◌+◌, ℕ, List, [], ◌∷◌, ◌++◌}
use Rattle.office_moves.specs.declared.moves.Act.{Act}
use Rattle.office_moves.specs.declared.moves.Entry.{Entry}

-- the numbers count up by one after this one
abbrev pub AreCountedAfter : ℕ → List Entry → Type 0
AreCountedAfter number [] = Unit {0}
AreCountedAfter number (entry ∷ entries) = (entry.number ≡ number + 1) × AreCountedAfter (number + 1) entries

-- the numbers are 1, 2, 3 and so on
abbrev pub AreCounted : List Entry → Type 0
AreCounted entries = AreCountedAfter 0 entries

-- the entries of these acts, whose numbers count up by one after this one
abbrev pub counted_after : ℕ → List Act → List Entry
counted_after number [] = []
counted_after number (act ∷ acts) = record { number = number + 1; act = act } ∷ counted_after (number + 1) acts

-- the entries of these acts, with the numbers 1, 2, 3 and so on
abbrev pub counted : List Act → List Entry
counted acts = counted_after 0 acts

-- these acts follow: after entries of some acts there are those of the same and of these
abbrev pub Follow : List Act → List Entry → List Entry → Type 0
Follow acts old new = (before : List Act) → old ≡ counted before → new ≡ counted (before ++ acts)
