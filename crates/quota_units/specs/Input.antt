-- The input with units and states before a bundle, and the plain bundle that it comes to.
use Rattle.std.specs.Prelude.{◌-◌, ℕ, suc, Bool, true, ◌==◌, ◌&&◌, nat_lt, List, [], ◌∷◌, ◌++◌, Result, Ok, Err, length, map, take, drop, bytes_eq, codes, if◌then◌else◌}
use Rattle.std.specs.Str.{is_utf8}
use Rattle.office_base.specs.Limits.{most_bundle_bytes}
use Rattle.office_text.specs.Lines.{skip_mark}
use Rattle.section_rows.specs.Rows.{rows_of}
use Rattle.section_rows.specs.Steps.{after}
use Rattle.season_file.specs.Bundle.{Parts, after_line, bundle_of, fault_line, section, skip_empty, title}
use Rattle.season_file.specs.declared.fault.SeasonFault.{SeasonFault}
use Rattle.quota_units.specs.Quoted.{rows_text, spaced_row}
use Rattle.quota_units.specs.Homes.{Homes, states_of, units_of}
use Rattle.quota_units.specs.Mapping.{mapped_rows}
use Rattle.quota_units.specs.declared.fault.UnitFault.{UnitFault}
use Rattle.quota_units.specs.declared.head.Sections.{Sections}
use Rattle.quota_units.specs.declared.fault.UnitFault.TheVariants.{TooLong, BadFirstLine, Section, BadUnit, BadState}

-- what an input is cut into: the bodies of two sections, and the bundle
pub record Input : Type 0 where
  pub units : List ℕ
  pub states : List ℕ
  pub bundle : List ℕ

-- the input that these sections are
abbrev pub input_in : Sections → Input
input_in cut = record { units = cut.units.now; states = cut.states.now; bundle = cut.bundle.now }

-- how many bytes come before the first line that begins a bundle, where the first byte begins a line or does not
abbrev pub before_bundle : Bool → List ℕ → ℕ
before_bundle begins [] = 0
before_bundle begins (byte ∷ bytes) = if begins && bytes_eq (take 13 (byte ∷ bytes)) (codes "office bundle") then 0 else suc (before_bundle (byte == 10) bytes)

-- what is left of a text before a bundle, with the bundle
abbrev pub behind : List ℕ → Result (List ℕ × List ℕ) (List ℕ) → Result (List ℕ × List ℕ) (List ℕ)
behind bundle (Ok cut) = Ok cut
behind bundle (Err rest) = Err (rest ++ bundle)

-- nothing may be left before the bundle, and there has to be one
abbrev pub closed_by : List ℕ → List ℕ → Input → Result Input (List ℕ)
closed_by [] [] input = Err []
closed_by [] (byte ∷ bundle) input = Ok input
closed_by (byte ∷ rest) bundle input = Err ((byte ∷ rest) ++ bundle)

-- the two sections in their order and the bundle, or what there is from the first wrong line on: nothing, if the
-- bundle is missing
abbrev pub split_head : List ℕ → List ℕ → Result Input (List ℕ)
split_head bundle text =
    after (behind bundle (section (codes "[units]") text)) (λ units. after (behind bundle (section (codes "[states]") units.1)) (λ states.
    closed_by states.1 bundle (record { units = units.0; states = states.0; bundle = bundle })))

-- a wrong line is reported by its number
abbrev pub with_line : List ℕ → Result Input (List ℕ) → Result Input UnitFault
with_line text (Ok input) = Ok input
with_line text (Err rest) = Err (Section (fault_line text rest))

abbrev pub input_of : List ℕ → Result Input UnitFault
input_of text =
    if bytes_eq (title text) (codes "office units 1")
    then with_line text (split_head (drop (before_bundle true (after_line text)) (after_line text)) (skip_empty (take (before_bundle true (after_line text)) (after_line text))))
    else Err BadFirstLine

-- a wrong row is reported by its number
abbrev pub with_row : {X : Type 0} → (ℕ → UnitFault) → Result X ℕ → Result X UnitFault
with_row fault (Ok value) = Ok value
with_row fault (Err row) = Err (fault row)

-- a bundle that is cut so, with units in its choices: all else of its bytes stays
abbrev pub with_units : Homes → Homes → List ℕ → Result Parts SeasonFault → Result (List ℕ) UnitFault
with_units units states bundle (Err fault) = Ok bundle
with_units units states bundle (Ok parts) =
    after (mapped_rows units states (rows_of parts.choices)) (λ rows.
    Ok (take (length bundle - length parts.requests - length parts.choices) bundle ++ (rows_text (map spaced_row rows) ++ parts.requests)))

-- a bundle that is none stays as it is
abbrev pub expanded : Homes → Homes → List ℕ → Result (List ℕ) UnitFault
expanded units states bundle = if is_utf8 bundle then with_units units states bundle (bundle_of true bundle) else Ok bundle

-- The plain bundle that bytes come to, or their first fault.
abbrev pub expansion : List ℕ → Result (List ℕ) UnitFault
expansion bytes =
    if nat_lt most_bundle_bytes (length bytes) then Err TooLong
    else after (input_of (skip_mark bytes)) (λ input. after (with_row BadUnit (units_of (rows_of input.units))) (λ units.
    after (with_row BadState (states_of (rows_of input.states))) (λ states. expanded units states input.bundle)))
