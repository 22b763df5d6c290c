-- How a row is read, step by step, and what is found among the entries.
use Rattle.std.specs.Prelude.{Bool, List, [], ◌∷◌, Option, Some, None, Result, Ok, Err, if◌then◌else◌}

-- a fault where something is wrong, and else what follows
abbrev pub unless : {X Kind : Type 0} → Bool → Kind → Result X Kind → Result X Kind
unless wrong kind rest = if wrong then Err kind else rest

-- a fault where nothing is spelled, and else what follows for the value
abbrev pub needs : {A X Kind : Type 0} → Option A → Kind → (A → Result X Kind) → Result X Kind
needs None kind rest = Err kind
needs (Some value) kind rest = rest value

-- a fault that came before, or else what follows for the value
abbrev pub after : {A X Kind : Type 0} → Result A Kind → (A → Result X Kind) → Result X Kind
after (Ok value) rest = rest value
after (Err kind) rest = Err kind

-- the value of the first element that passes the test
abbrev pub first_of : {X V : Type 0} → (X → Bool) → (X → V) → List X → Option V
first_of test value [] = None
first_of test value (x ∷ xs) = if test x then Some (value x) else first_of test value xs

-- the first, or else the second
abbrev pub or_else : {X : Type 0} → Option X → Option X → Option X
or_else None o = o
or_else (Some x) o = Some x
