-- Tables that give every key the same state map alike.
use Rattle.std.proofs.Common.{◌≡◌, ◌+◌, ◌-◌, ℕ, Bool, true, List, [], ◌∷◌, ◌++◌, length, map, take, Option, Some, None, Result, Ok, Err, refl, ap, ◌∙◌}
use Rattle.std.specs.Prelude.{is_some, if◌then◌else◌}
use Rattle.std.specs.Option.{option_and_then}
use Rattle.std.specs.Str.{is_utf8}
use Rattle.section_rows.specs.Rows.{Row, rows_of}
use Rattle.section_rows.specs.Steps.{after, needs, unless}
use Rattle.season_file.specs.Bundle.{Parts, bundle_of}
use Rattle.season_file.specs.declared.fault.SeasonFault.{SeasonFault}
use Rattle.quota_units.specs.Homes.{AreAlike, Homes, home_at}
use Rattle.quota_units.specs.Input.{expanded, with_units}
use Rattle.quota_units.specs.Mapping.{base_of, by_home, is_unit, mapped_field, mapped_fields, mapped_from, mapped_row, mapped_rows, unit_of}
use Rattle.quota_units.specs.Quoted.{rows_text, spaced_row}
use Rattle.quota_units.specs.declared.fault.UnitFault.{UnitFault}
use Rattle.quota_units.specs.declared.fault.UnitFault.TheVariants.{DirectUnit, NoState}

module _ (units states u s : Homes) (first : AreAlike units u) (second : AreAlike states s) where
  unit-alike : (text : List ℕ) → is_unit u text ≡ is_unit units text
  unit-alike text = by (base_of text)
    where
      by : (o : Option (List ℕ)) → is_some (option_and_then (λ base. home_at base u) o) ≡ is_some (option_and_then (λ base. home_at base units) o)
      by None = refl
      by (Some base) = ap is_some (first.found base)

  home-alike : (candidate : List ℕ) (number : ℕ) (field : List ℕ) (home : Option (List ℕ)) → by_home s candidate number field home ≡ by_home states candidate number field home
  home-alike candidate number field None = refl
  home-alike candidate number field (Some home) = ap (λ (o : Option (List ℕ)). needs o (NoState number) (λ state. Ok (unit_of field home state))) (second.found candidate)

  field-alike : (candidate : List ℕ) (number : ℕ) (field : List ℕ) → mapped_field u s candidate number field ≡ mapped_field units states candidate number field
  field-alike candidate number field =
      ap (λ (b : Bool). unless b (DirectUnit number) (by_home s candidate number field (home_at field u))) (unit-alike field)
      ∙ ap (λ (o : Option (List ℕ)). unless (is_unit units field) (DirectUnit number) (by_home s candidate number field o)) (first.found field)
      ∙ ap (λ (r : Result (List ℕ) UnitFault). unless (is_unit units field) (DirectUnit number) r) (home-alike candidate number field (home_at field units))

  fields-alike : (candidate : List ℕ) (number : ℕ) (fields : Row) → mapped_fields u s candidate number fields ≡ mapped_fields units states candidate number fields
  fields-alike candidate number [] = refl
  fields-alike candidate number (field ∷ fields) =
      ap (λ (r : Result (List ℕ) UnitFault). after r (λ mapped. after (mapped_fields u s candidate number fields) (λ more. Ok (mapped ∷ more)))) (field-alike candidate number field)
      ∙ ap (λ (r : Result Row UnitFault). after (mapped_field units states candidate number field) (λ mapped. after r (λ more. Ok (mapped ∷ more)))) (fields-alike candidate number fields)

  row-alike : (number : ℕ) (row : Row) → mapped_row u s number row ≡ mapped_row units states number row
  row-alike number [] = refl
  row-alike number (candidate ∷ fields) = ap (λ (r : Result Row UnitFault). after r (λ more. Ok (candidate ∷ more))) (fields-alike candidate number fields)

  from-alike : (number : ℕ) (rows : List Row) → mapped_from u s number rows ≡ mapped_from units states number rows
  from-alike number [] = refl
  from-alike number (row ∷ rows) =
      ap (λ (r : Result Row UnitFault). after r (λ mapped. after (mapped_from u s (number + 1) rows) (λ more. Ok (mapped ∷ more)))) (row-alike number row)
      ∙ ap (λ (r : Result (List Row) UnitFault). after (mapped_row units states number row) (λ mapped. after r (λ more. Ok (mapped ∷ more)))) (from-alike (number + 1) rows)

  rows-alike : (rows : List Row) → mapped_rows u s rows ≡ mapped_rows units states rows
  rows-alike [] = refl
  rows-alike (header ∷ rows) = ap (λ (r : Result (List Row) UnitFault). after r (λ more. Ok (header ∷ more))) (from-alike 2 rows)

  with-alike : (bundle : List ℕ) (r : Result Parts SeasonFault) → with_units u s bundle r ≡ with_units units states bundle r
  with-alike bundle (Err fault) = refl
  with-alike bundle (Ok parts) = ap (λ (r : Result (List Row) UnitFault). after r (λ rows. Ok (take (length bundle - length parts.requests - length parts.choices) bundle ++ (rows_text (map spaced_row rows) ++ parts.requests)))) (rows-alike (rows_of parts.choices))

  -- A bundle comes to the same.
  pub expanded-alike : (bundle : List ℕ) → expanded u s bundle ≡ expanded units states bundle
  expanded-alike bundle = ap (λ (r : Result (List ℕ) UnitFault). if is_utf8 bundle then r else Ok bundle) (with-alike bundle (bundle_of true bundle))
