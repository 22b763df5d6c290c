-- What is written of the rows of choices, row by row and field by field.
use Rattle.std.specs.Prelude.{◌≡◌, ℕ, ◌==◌, List, [], ◌∷◌, Option, Result, Ok, Err, map, bytes_eq, if◌then◌else◌}
use Rattle.std.specs.Io.KnownBytes.{Appends}
use Rattle.section_rows.specs.Rows.{Row, field}
use Rattle.quota_units.specs.Homes.{Homes}
use Rattle.quota_units.specs.Mapping.{home_end, mapped_field, other_end}
use Rattle.quota_units.specs.Quoted.{row_text, rows_text, spaced_row}
use Rattle.quota_units.specs.declared.ending.Ending.{Ending}
use Rattle.quota_units.specs.declared.ending.Ending.TheVariants.{Nothing, Home, Other}
use Rattle.quota_units.specs.declared.fault.UnitFault.{UnitFault}

-- the bytes of an end
abbrev pub bytes_of : Ending → List ℕ
bytes_of Nothing = []
bytes_of Home = home_end
bytes_of Other = other_end

-- the end of the unit for those of this state, where this is the home state
abbrev pub ending_of : List ℕ → List ℕ → Ending
ending_of state home = if bytes_eq state home then Home else Other

-- what becomes of the field of this number: the first one is the candidate, and stays
abbrev pub mapped_at : Homes → Homes → ℕ → Row → ℕ → Result (List ℕ) UnitFault
mapped_at units states number row at = if at == 0 then Ok (field row 0) else mapped_field units states (field row 0) number (field row at)

-- a row without a fault is written
abbrev pub WritesRow : Option (List ℕ) → Option (List ℕ) → Result Row UnitFault → Type 0
WritesRow old new (Ok row) = Appends old new (row_text (spaced_row row))
WritesRow old new (Err fault) = ⊥

-- rows without a fault are written
abbrev pub WritesRows : Option (List ℕ) → Option (List ℕ) → Result (List Row) UnitFault → Type 0
WritesRows old new (Ok rows) = Appends old new (rows_text (map spaced_row rows))
WritesRows old new (Err fault) = ⊥

-- the first row is written, where there is one, and these are left behind it
abbrev pub WritesHeader : Option (List ℕ) → Option (List ℕ) → List Row → List Row → Type 0
WritesHeader old new [] left = (left ≡ []) × (new ≡ old)
WritesHeader old new (header ∷ rows) left = (left ≡ rows) × Appends old new (row_text (spaced_row header))
