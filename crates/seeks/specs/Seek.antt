-- The effective part of a choice list (JoSAA's freeze, float and slide: the seat alone, the list up to it, and of that its institute).
use Rattle.std.specs.Prelude.{◌≡◌, ◌<◌, ◌+◌, ℕ, Bool, true, false, ◌&&◌, nat_le, ◌==◌, List, [], ◌∷◌, length, slice_get, Option, Some, None, bytes_eq, if◌then◌else◌}
use Rattle.office_base.specs.declared.person.ProgId.{ProgId}
use Rattle.seat_matrix.specs.Matrix.{SeatTable}
use Rattle.seat_matrix.specs.declared.entry.Home.{Home}
use Rattle.seeks.specs.declared.seek.Seek.{Seek}
use Rattle.seeks.specs.declared.seek.Seek.TheVariants.{Whole, UpTo, Within, Only, Nothing}

-- the two are at one institute
abbrev pub are_together : Option (List ℕ × Home) → Option (List ℕ × Home) → Bool
are_together None other = false
are_together (Some held) None = false
are_together (Some held) (Some other) = bytes_eq held.1.institute other.1.institute

-- the two programmes of the matrix are at one institute
abbrev pub same_institute : SeatTable → ℕ → ℕ → Bool
same_institute table p q = are_together (slice_get table.programmes p) (slice_get table.programmes q)

-- the programme at a place of the list, if there is one, is at the institute of this one
abbrev pub is_beside : SeatTable → Option ProgId → ProgId → Bool
is_beside table None prog = false
is_beside table (Some other) prog = same_institute table other.0 prog.0

-- Whether a seek leaves the programme at a place of a list. Seeks in their order leave: all places; the places up to k;
-- of those, the ones at the institute of place k; place k alone; nothing.
abbrev pub is_left : SeatTable → Seek → List ProgId → ℕ → ProgId → Bool
is_left table Whole progs place prog = true
is_left table (UpTo k) progs place prog = nat_le place k
is_left table (Within k) progs place prog = nat_le place k && is_beside table (slice_get progs k) prog
is_left table (Only k) progs place prog = place == k
is_left table Nothing progs place prog = false

-- what is left of some programmes, which are in the list from this place on
abbrev pub left_from : SeatTable → Seek → List ProgId → ℕ → List ProgId → List ProgId
left_from table seek progs place [] = []
left_from table seek progs place (prog ∷ rest) =
    if is_left table seek progs place prog then prog ∷ left_from table seek progs (place + 1) rest else left_from table seek progs (place + 1) rest

-- what a seek leaves of a list, in its order
abbrev pub seek_leaves : SeatTable → Seek → List ProgId → List ProgId
seek_leaves table seek progs = left_from table seek progs 0 progs

-- the place of the seek is in the list
abbrev pub IsWithinList : List ProgId → Seek → Type 0
IsWithinList progs Whole = Unit {0}
IsWithinList progs (UpTo k) = k < length progs
IsWithinList progs (Within k) = k < length progs
IsWithinList progs (Only k) = k < length progs
IsWithinList progs Nothing = Unit {0}

-- each programme of the list is one of the matrix
abbrev pub AreBelow : ℕ → List ProgId → Type 0
AreBelow count progs = (k : ℕ) (prog : ProgId) → slice_get progs k ≡ Some prog → prog.0 < count

-- the programme of this number is one of these
abbrev pub is_listed : ℕ → List ProgId → Bool
is_listed p [] = false
is_listed p (prog ∷ progs) = if prog.0 == p then true else is_listed p progs
