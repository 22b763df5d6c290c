-- The connections still to come, as far as a proof can see them.
use Rattle.std.specs.Prelude.{◌≡◌, ◌⊎◌, List, ◌∷◌, Option, Some, None}

-- the stream is the first of those to come, and the others are still to come; hidden streams stay hidden
abbrev pub IsNext : {S : Type 0} → Option (List S) → S → Option (List S) → Type 0
IsNext None stream after = after ≡ None
IsNext (Some streams) stream None = ⊥
IsNext (Some streams) stream (Some rest) = streams ≡ stream ∷ rest

-- all are still to come, or all but the first, which was closed early
abbrev pub LosesOne : {S : Type 0} → Option (List S) → Option (List S) → Type 0
LosesOne {S} before after = (after ≡ before) ⊎ ((stream : S) × IsNext before stream after)
