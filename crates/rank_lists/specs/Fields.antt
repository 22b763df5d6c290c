-- How the fields of a row are spelled.
use Rattle.std.specs.Prelude.{◌-◌, ℕ, ◌==◌, List, Option, Some, length, take, find, slice_index, bytes_eq, codes, if◌then◌else◌}
use Rattle.office_base.specs.CategorySteps.{category_steps}
use Rattle.office_base.specs.Limits.{last_place}
use Rattle.office_base.specs.declared.person.Category.{Category}
use Rattle.office_base.specs.declared.person.Category.TheVariants.{Gen}
use Rattle.office_base.specs.declared.person.Place.{Place}
use Rattle.office_base.specs.declared.person.Place.TheVariants.{Absent, Common, Relaxed}
use Rattle.office_text.specs.Names.{is_named}
use Rattle.office_text.specs.Number.{number_within}
use Rattle.std.specs.Option.{option_map}

-- the category that a text spells: the general one has its own name, and any other is named as its step is
abbrev pub category_of : List ℕ → Option Category
category_of text =
    if bytes_eq text (codes "GEN") then Some Gen
    else option_map (λ row. row.category) (find (λ row. is_named text row.step) category_steps)

-- the number of a place
abbrev pub place_number : List ℕ → Option ℕ
place_number text = number_within 1 last_place text

-- the place that a text spells: nothing for none, a number for a common place, a number with R for a relaxed one
abbrev pub place_of : List ℕ → Option Place
place_of text =
    if length text == 0 then Some Absent
    else if slice_index text (length text - 1) == 82 then option_map (λ n. Relaxed n) (place_number (take (length text - 1) text))
    else option_map (λ n. Common n) (place_number text)
