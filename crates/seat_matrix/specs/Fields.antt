-- How the fields of a row are spelled.
use Rattle.std.specs.Prelude.{ℕ, ◌==◌, nat_le, List, [], ◌∷◌, Option, Some, None, length, if◌then◌else◌}
use Rattle.std.specs.Option.{option_and_then}
use Rattle.office_base.specs.Limits.{most_step_seats}
use Rattle.office_text.specs.Number.{number_within}
use Rattle.section_rows.specs.Rows.{Row, field}
use Rattle.seat_matrix.specs.declared.seats.Seating.{Seating}

-- how many seats a text spells
abbrev pub count_of : List ℕ → Option ℕ
count_of text = number_within 0 most_step_seats text

-- how many protections a text spells; nothing is 0
abbrev pub protection_of : List ℕ → Option ℕ
protection_of text = if length text == 0 then Some 0 else count_of text

-- the protections of a row
abbrev pub protections_of : Row → Option (List ℕ)
protections_of row =
    option_and_then (λ w. option_and_then (λ d. option_and_then (λ x. option_and_then (λ s. option_and_then (λ f. option_and_then
    (λ l. if nat_le 12 (length row) then None else Some (w ∷ d ∷ x ∷ s ∷ f ∷ l ∷ []))
    (protection_of (field row 10))) (protection_of (field row 9))) (protection_of (field row 8))) (protection_of (field row 7))) (protection_of (field row 6))) (protection_of (field row 5))

-- the seats of a row with their protections; no field follows
abbrev pub seating_of : Row → Option Seating
seating_of row = option_and_then (λ seats. option_and_then (λ counts. Some (record { seats = seats; protections = record { counts = counts } })) (protections_of row)) (count_of (field row 4))
