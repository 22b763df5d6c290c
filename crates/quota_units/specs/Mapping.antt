-- The rows of the choices with units in the place of divided programmes.
use Rattle.std.specs.Prelude.{◌+◌, ◌-◌, ℕ, Bool, ◌||◌, List, [], ◌∷◌, ◌++◌, is_some, Option, Some, None, Result, Ok, length, take, drop, bytes_eq, codes, if◌then◌else◌}
use Rattle.std.specs.Option.{option_and_then}
use Rattle.section_rows.specs.Rows.{Row}
use Rattle.section_rows.specs.Steps.{after, needs, unless}
use Rattle.quota_units.specs.Homes.{Homes, home_at}
use Rattle.quota_units.specs.declared.fault.UnitFault.{UnitFault}
use Rattle.quota_units.specs.declared.fault.UnitFault.TheVariants.{DirectUnit, NoState}

abbrev pub home_end : List ℕ
home_end = codes "-HS"

abbrev pub other_end : List ℕ
other_end = codes "-OS"

-- the unit of a divided programme for a candidate of this state: the home unit for those of the home state, and the other one for all others
abbrev pub unit_of : List ℕ → List ℕ → List ℕ → List ℕ
unit_of code home state = code ++ (if bytes_eq state home then home_end else other_end)

-- what comes before the end of a unit's code
abbrev pub base_of : List ℕ → Option (List ℕ)
base_of text =
    if bytes_eq (drop (length text - 3) text) home_end || bytes_eq (drop (length text - 3) text) other_end then Some (take (length text - 3) text) else None

-- the text is the code of a unit of a divided programme
abbrev pub is_unit : Homes → List ℕ → Bool
is_unit units text = is_some (option_and_then (λ base. home_at base units) (base_of text))

-- a field that is divided with this home state, or not divided, in the row of this number and this candidate
abbrev pub by_home : Homes → List ℕ → ℕ → List ℕ → Option (List ℕ) → Result (List ℕ) UnitFault
by_home states candidate number field None = Ok field
by_home states candidate number field (Some home) = needs (home_at candidate states) (NoState number) (λ state. Ok (unit_of field home state))

abbrev pub mapped_field : Homes → Homes → List ℕ → ℕ → List ℕ → Result (List ℕ) UnitFault
mapped_field units states candidate number field = unless (is_unit units field) (DirectUnit number) (by_home states candidate number field (home_at field units))

abbrev pub mapped_fields : Homes → Homes → List ℕ → ℕ → Row → Result Row UnitFault
mapped_fields units states candidate number [] = Ok []
mapped_fields units states candidate number (field ∷ fields) =
    after (mapped_field units states candidate number field) (λ mapped. after (mapped_fields units states candidate number fields) (λ more. Ok (mapped ∷ more)))

-- a row of choices: the first field is the candidate, and the others are mapped
abbrev pub mapped_row : Homes → Homes → ℕ → Row → Result Row UnitFault
mapped_row units states number [] = Ok []
mapped_row units states number (candidate ∷ fields) = after (mapped_fields units states candidate number fields) (λ more. Ok (candidate ∷ more))

abbrev pub mapped_from : Homes → Homes → ℕ → List Row → Result (List Row) UnitFault
mapped_from units states number [] = Ok []
mapped_from units states number (row ∷ rows) = after (mapped_row units states number row) (λ mapped. after (mapped_from units states (number + 1) rows) (λ more. Ok (mapped ∷ more)))

-- the rows of the choices: the header stays
abbrev pub mapped_rows : Homes → Homes → List Row → Result (List Row) UnitFault
mapped_rows units states [] = Ok []
mapped_rows units states (header ∷ rows) = after (mapped_from units states 2 rows) (λ more. Ok (header ∷ more))
