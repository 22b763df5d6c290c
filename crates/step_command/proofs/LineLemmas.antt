-- The fields of a line.
use Rattle.std.proofs.Common.{◌≡◌, ℕ, List, ◌∷◌, None, refl}
use Rattle.office_text.specs.Lines.{fields_of}
use Rattle.office_text.proofs.LinesLemmas.{split_at_each-filled}
use Rattle.step_command.specs.Sheet.{seats_in, protect_in, traits_in}

-- A third field makes a line no line of seats.
pub seats_in-more : (word number line : List ℕ) → seats_in (word ∷ number ∷ fields_of line) ≡ None
seats_in-more word number line = let filled = split_at_each-filled 44 line in rw filled.2 refl

-- A fourth field makes a line one that protects nothing.
pub protect_in-more : (word letter number line : List ℕ) → protect_in (word ∷ letter ∷ number ∷ fields_of line) ≡ None
protect_in-more word letter number line = let filled = split_at_each-filled 44 line in rw filled.2 refl

-- A second field after a candidate's number makes a line no candidate line.
pub traits_in-more : (traits line : List ℕ) → traits_in (traits ∷ fields_of line) ≡ None
traits_in-more traits line = let filled = split_at_each-filled 44 line in rw filled.2 refl
