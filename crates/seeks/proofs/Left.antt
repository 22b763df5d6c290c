-- What a seek leaves, by the kind of seek; and that it is the same by matrices of the same programmes.
use Rattle.std.proofs.Common.{◌≡◌, ◌<◌, ◌+◌, ℕ, zero, suc, Bool, true, false, cond, Option, Some, None, List, [], ◌∷◌, take, slice_get, refl, ap, ◌∙◌, arith}
use Rattle.std.specs.Prelude.{nat_le, nat_eq, ◌&&◌}
use Rattle.std.proofs.lemmas.Bool.{lt-leb, le-leb, eq-eqb, ne_eqb}
use Rattle.office_base.specs.declared.person.ProgId.{ProgId}
use Rattle.seat_matrix.specs.Matrix.{SeatTable}
use Rattle.seat_matrix.specs.declared.entry.Home.{Home}
use Rattle.seeks.specs.Seek.{are_together, is_beside, is_left, left_from, seek_leaves}
use Rattle.seeks.specs.declared.seek.Seek.{Seek}
use Rattle.seeks.specs.declared.seek.Seek.TheVariants.{Whole, UpTo, Within, Only, Nothing}

-- the whole list leaves all
pub left_whole : (table : SeatTable) (progs : List ProgId) (place : ℕ) (rest : List ProgId) → left_from table Whole progs place rest ≡ rest
left_whole table progs place [] = refl
left_whole table progs place (prog ∷ rest) = ap (λ (more : List ProgId). prog ∷ more) (left_whole table progs (place + 1) rest)

-- nothing leaves none
pub left_nothing : (table : SeatTable) (progs : List ProgId) (place : ℕ) (rest : List ProgId) → left_from table Nothing progs place rest ≡ []
left_nothing table progs place [] = refl
left_nothing table progs place (prog ∷ rest) = left_nothing table progs (place + 1) rest

-- what is chosen by a test
pick : {X : Type 0} (b : Bool) (x y : X) → b ≡ true → (cond b x y) ≡ x
pick b x y told = ap (λ t. cond t x y) told

pass : {X : Type 0} (b : Bool) (x y : X) → b ≡ false → (cond b x y) ≡ y
pass b x y told = ap (λ t. cond t x y) told

-- past the place the list up to it leaves none
up_to_past : (table : SeatTable) (progs : List ProgId) (k place : ℕ) (rest : List ProgId) → k < place → left_from table (UpTo k) progs place rest ≡ []
up_to_past table progs k place [] past = refl
up_to_past table progs k place (prog ∷ rest) past =
    pass (nat_le place k) (prog ∷ left_from table (UpTo k) progs (place + 1) rest) (left_from table (UpTo k) progs (place + 1) rest) (lt-leb place k past)
    ∙ up_to_past table progs k (place + 1) rest (omega arith)

-- the list up to a place leaves as many more
pub left_up_to : (table : SeatTable) (progs : List ProgId) (k place more : ℕ) (rest : List ProgId) → place + more ≡ suc k → left_from table (UpTo k) progs place rest ≡ take more rest
left_up_to table progs k place zero rest last = up_to_past table progs k place rest (omega arith)
left_up_to table progs k place (suc more) [] last = refl
left_up_to table progs k place (suc more) (prog ∷ rest) last =
    pick (nat_le place k) (prog ∷ left_from table (UpTo k) progs (place + 1) rest) (left_from table (UpTo k) progs (place + 1) rest) (le-leb place k (omega arith))
    ∙ ap (λ (those : List ProgId). prog ∷ those) (left_up_to table progs k (place + 1) more rest (omega arith))

-- past the place the seat alone leaves none
only_past : (table : SeatTable) (progs : List ProgId) (k place : ℕ) (rest : List ProgId) → k < place → left_from table (Only k) progs place rest ≡ []
only_past table progs k place [] past = refl
only_past table progs k place (prog ∷ rest) past =
    pass (nat_eq place k) (prog ∷ left_from table (Only k) progs (place + 1) rest) (left_from table (Only k) progs (place + 1) rest) (ne_eqb place k (λ same. omega arith))
    ∙ only_past table progs k (place + 1) rest (omega arith)

-- the seat alone leaves the programme there
pub left_only : (table : SeatTable) (progs : List ProgId) (k place more : ℕ) (rest : List ProgId) (prog : ProgId) → place + more ≡ k → slice_get rest more ≡ Some prog
    → left_from table (Only k) progs place rest ≡ prog ∷ []
left_only table progs k place more [] prog here there = absurd cc
left_only table progs k place zero (first ∷ rest) prog here there =
    let same : first ≡ prog = cc in
    pick (nat_eq place k) (first ∷ left_from table (Only k) progs (place + 1) rest) (left_from table (Only k) progs (place + 1) rest) (eq-eqb place k (omega arith))
    ∙ ap (λ (those : List ProgId). first ∷ those) (only_past table progs k (place + 1) rest (omega arith))
    ∙ ap (λ (p : ProgId). p ∷ []) same
left_only table progs k place (suc more) (first ∷ rest) prog here there =
    pass (nat_eq place k) (first ∷ left_from table (Only k) progs (place + 1) rest) (left_from table (Only k) progs (place + 1) rest) (ne_eqb place k (λ same. omega arith))
    ∙ left_only table progs k (place + 1) more rest prog (omega arith) there

-- ---- matrices with the same programmes

beside_same : (table other : SeatTable) (first : Option ProgId) (prog : ProgId) → other.programmes ≡ table.programmes → is_beside other first prog ≡ is_beside table first prog
beside_same table other None prog same = refl
beside_same table other (Some held) prog same = ap (λ (ps : List (List ℕ × Home)). are_together (slice_get ps held.0) (slice_get ps prog.0)) same

left_same : (table other : SeatTable) (seek : Seek) (progs : List ProgId) (place : ℕ) (prog : ProgId) → other.programmes ≡ table.programmes
    → is_left other seek progs place prog ≡ is_left table seek progs place prog
left_same table other Whole progs place prog same = refl
left_same table other (UpTo k) progs place prog same = refl
left_same table other (Within k) progs place prog same = ap (λ b. nat_le place k && b) (beside_same table other (slice_get progs k) prog same)
left_same table other (Only k) progs place prog same = refl
left_same table other Nothing progs place prog same = refl

from_same : (table other : SeatTable) (seek : Seek) (progs : List ProgId) (place : ℕ) (rest : List ProgId) → other.programmes ≡ table.programmes
    → left_from other seek progs place rest ≡ left_from table seek progs place rest
from_same table other seek progs place [] same = refl
from_same table other seek progs place (prog ∷ rest) same =
    cc (left_same table other seek progs place prog same, from_same table other seek progs (place + 1) rest same)

-- a seek leaves the same by both
pub leaves_same : (table other : SeatTable) (seek : Seek) (progs : List ProgId) → other.programmes ≡ table.programmes → seek_leaves other seek progs ≡ seek_leaves table seek progs
leaves_same table other seek progs same = from_same table other seek progs 0 progs same
