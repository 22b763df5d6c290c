-- Who lives where: the rows of the units and of the states, a key and a state each.
use Rattle.std.specs.Prelude.{◌≡◌, ◌+◌, ℕ, Bool, false, not, ◌==◌, ◌&&◌, nat_le, nat_lt, List, [], ◌∷◌, ◌++◌, is_some, Option, Some, None, Result, Ok, length, bytes_eq, if◌then◌else◌, true, IsSome}
use Rattle.office_base.specs.Codes.{is_code}
use Rattle.office_base.specs.Limits.{last_id, most_candidates, most_programmes}
use Rattle.office_text.specs.Number.{number_within}
use Rattle.section_rows.specs.Rows.{Row, field}
use Rattle.section_rows.specs.Steps.{first_of, needs}
use Rattle.quota_units.specs.declared.keys.Keys.{Keys}
use Rattle.quota_units.specs.declared.keys.Keys.TheVariants.{Units, States}

-- keys with the state of each, in the order of their rows
abbrev pub Homes : Type 0
Homes = List (List ℕ × List ℕ)

-- the state of a key
abbrev pub home_at : List ℕ → Homes → Option (List ℕ)
home_at key homes = first_of (λ home. bytes_eq key home.0) (λ home. home.1) homes

-- two letters from A to Z
abbrev pub is_letter : ℕ → Bool
is_letter byte = nat_le 65 byte && nat_le byte 90

abbrev pub is_state : List ℕ → Bool
is_state [] = false
is_state (a ∷ []) = false
is_state (a ∷ b ∷ []) = is_letter a && is_letter b
is_state (a ∷ b ∷ c ∷ text) = false

-- the code of a programme that is divided; with an end of three bytes it is a code too
abbrev pub is_divided : List ℕ → Bool
is_divided text = is_code text && nat_le (length text) 13

abbrev pub is_candidate : List ℕ → Bool
is_candidate text = is_some (number_within 1 last_id text)

-- a row gives a key that no earlier row has, and its state; it has nothing else, and there are not too many rows
abbrev pub new_home : (List ℕ → Bool) → ℕ → Homes → Row → Option (List ℕ × List ℕ)
new_home is_key most homes row =
    if (length row == 2) && (nat_lt (length homes) most && (is_key (field row 0) && (is_state (field row 1) && not (is_some (home_at (field row 0) homes)))))
    then Some (field row 0, field row 1) else None

-- what the rows give after these, of which the first has this number; or the number of the first that gives none
abbrev pub homes_from : (List ℕ → Bool) → ℕ → Homes → ℕ → List Row → Result Homes ℕ
homes_from is_key most homes number [] = Ok homes
homes_from is_key most homes number (row ∷ rows) = needs (new_home is_key most homes row) number (λ home. homes_from is_key most (homes ++ home ∷ []) (number + 1) rows)

-- what the keys are, and how many there may be
abbrev pub is_key : Keys → List ℕ → Bool
is_key Units text = is_divided text
is_key States text = is_candidate text

abbrev pub most_homes : Keys → ℕ
most_homes Units = most_programmes
most_homes States = most_candidates

abbrev pub homes_of : Keys → List Row → Result Homes ℕ
homes_of keys rows = homes_from (is_key keys) (most_homes keys) [] 1 rows

-- the divided programmes with their home states, and the candidates with their states
abbrev pub units_of : List Row → Result Homes ℕ
units_of rows = homes_of Units rows

abbrev pub states_of : List Row → Result Homes ℕ
states_of rows = homes_of States rows

-- the keys are codes
abbrev pub AreCoded : Homes → Type 0
AreCoded homes = (key : List ℕ) → IsSome (home_at key homes) → is_code key ≡ true

-- the two give every key the same state, and are as many
pub record AreAlike (homes other : Homes) : Type 0 where
  pub found : (key : List ℕ) → home_at key other ≡ home_at key homes
  pub count : length other ≡ length homes
