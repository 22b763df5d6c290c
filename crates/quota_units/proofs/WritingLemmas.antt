-- What is left to be written of a row and of rows, while a fault may still come.
use Rattle.std.proofs.Common.{◌≡◌, ◌==◌, ℕ, zero, suc, Bool, List, [], ◌∷◌, ◌++◌, Option, Some, None, Result, Ok, Err, map, drop, sym, ap, subst, ◌∙◌, append_assoc}
use Rattle.std.specs.Io.KnownBytes.{Appends}
use Rattle.section_rows.specs.Rows.{Row, field}
use Rattle.section_rows.specs.Steps.{after}
use Rattle.quota_units.specs.Homes.{Homes}
use Rattle.quota_units.specs.Mapping.{mapped_fields, mapped_from, mapped_row, mapped_rows}
use Rattle.quota_units.specs.Quoted.{fields_text, row_text, rows_text, spaced_row}
use Rattle.quota_units.specs.Writing.{WritesHeader, WritesRows}
use Rattle.quota_units.specs.Expansion.{IsFaultOf}
use Rattle.quota_units.specs.declared.fault.UnitFault.{UnitFault}
use Rattle.quota_units.specs.declared.fault.UnitFault.TheVariants.{ReadFault, TooLong, BadFirstLine, Section, BadUnit, BadState, DirectUnit, NoState, OutOfMemory}
use Rattle.quota_units.proofs.WriterLemmas.{Leaves}

-- ---- a row

-- what becomes of the fields of a row from one on
abbrev pub rest_mapped : Homes → Homes → ℕ → Row → ℕ → Result Row UnitFault
rest_mapped units states number row zero = mapped_row units states number row
rest_mapped units states number row (suc at) = mapped_fields units states (field row 0) number (drop (suc at) row)

-- With what is written by now, the rest leads to the whole: its text, or the same fault.
abbrev pub Still : Option (List ℕ) → Option (List ℕ) → Bool → Result Row UnitFault → Result Row UnitFault → Type 0
Still old now first (Ok more) (Ok whole) = Leaves old now (fields_text first (spaced_row more)) (row_text (spaced_row whole))
Still old now first (Err fault) (Err other) = fault ≡ other
Still old now first (Ok more) (Err other) = ⊥
Still old now first (Err fault) (Ok whole) = ⊥

abbrev pub IsStill : Homes → Homes → ℕ → Row → Option (List ℕ) → Option (List ℕ) → ℕ → Type 0
IsStill units states number row old now at = Still old now (at == 0) (rest_mapped units states number row at) (mapped_row units states number row)

-- ---- rows

abbrev pub StillRows : Option (List ℕ) → Option (List ℕ) → Result (List Row) UnitFault → Result (List Row) UnitFault → Type 0
StillRows old now (Ok more) (Ok whole) = Leaves old now (rows_text (map spaced_row more)) (rows_text (map spaced_row whole))
StillRows old now (Err fault) (Err other) = fault ≡ other
StillRows old now (Ok more) (Err other) = ⊥
StillRows old now (Err fault) (Ok whole) = ⊥

-- a fault's result has the fault
from-fault : {X Y : Type 0} (r : Result X UnitFault) (s : Result Y UnitFault) (fault : UnitFault) → ((f : UnitFault) → r ≡ Err f → s ≡ Err f) → IsFaultOf r fault → IsFaultOf s fault
from-fault r s ReadFault to h = to ReadFault h
from-fault r s TooLong to h = to TooLong h
from-fault r s BadFirstLine to h = to BadFirstLine h
from-fault r s (Section line) to h = to (Section line) h
from-fault r s (BadUnit row) to h = to (BadUnit row) h
from-fault r s (BadState row) to h = to (BadState row) h
from-fault r s (DirectUnit row) to h = to (DirectUnit row) h
from-fault r s (NoState row) to h = to (NoState row) h
from-fault r s OutOfMemory to h = tt

-- ---- the header row and the others

-- The header row is written, and then the others.
pub header-written : (units states : Homes) (old mid new : Option (List ℕ)) (all left : List Row) → WritesHeader old mid all left → WritesRows mid new (mapped_from units states 2 left) → WritesRows old new (mapped_rows units states all)
header-written units states old mid new [] left (none, same) h = subst (λ (o : Option (List ℕ)). WritesRows o new (Ok [])) same (subst (λ (l : List Row). WritesRows mid new (mapped_from units states 2 l)) none h)
header-written units states old mid new (header ∷ rows) left (same, wrote) h = by (mapped_from units states 2 rows) (subst (λ (l : List Row). WritesRows mid new (mapped_from units states 2 l)) same h)
  where
    joined : (old mid new : Option (List ℕ)) (more : List Row) → Appends old mid (row_text (spaced_row header)) → Appends mid new (rows_text (map spaced_row more))
        → Appends old new (row_text (spaced_row header) ++ rows_text (map spaced_row more))
    joined None mid new more a b = tt
    joined (Some xs) None new more a b = absurd a
    joined (Some xs) (Some ys) None more a b = absurd b
    joined (Some xs) (Some ys) (Some zs) more a b = b ∙ ap (λ (l : List ℕ). l ++ rows_text (map spaced_row more)) a ∙ append_assoc xs (row_text (spaced_row header)) (rows_text (map spaced_row more))

    by : (r : Result (List Row) UnitFault) → WritesRows mid new r → WritesRows old new (after r (λ more. Ok (header ∷ more)))
    by (Err fault) h = h
    by (Ok more) h = joined old mid new more wrote h

pub header-fault : (units states : Homes) (old mid : Option (List ℕ)) (all left : List Row) (fault : UnitFault) → WritesHeader old mid all left → IsFaultOf (mapped_from units states 2 left) fault
    → IsFaultOf (mapped_rows units states all) fault
header-fault units states old mid [] left fault (none, same) h = subst (λ (l : List Row). IsFaultOf (mapped_from units states 2 l) fault) none h
header-fault units states old mid (header ∷ rows) left fault (same, wrote) h =
    from-fault (mapped_from units states 2 left) (mapped_rows units states (header ∷ rows)) fault
    (λ f e. ap (λ (r : Result (List Row) UnitFault). after r (λ more. Ok (header ∷ more))) (ap (mapped_from units states 2) (sym same) ∙ e)) h
