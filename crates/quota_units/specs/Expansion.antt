-- What a plain bundle is that came from bytes with units, and why none came of them.
use Rattle.std.specs.Prelude.{◌≡◌, ℕ, true, List, Option, Result, Ok, Err}
use Rattle.office_base.specs.Limits.{most_bundle_bytes}
use Rattle.office_base.specs.Outside.{IsAtEnd, Took, TookMore}
use Rattle.office_asks.specs.declared.ask.Request.{Request}
use Rattle.office_text.specs.Lines.{skip_mark}
use Rattle.section_rows.specs.Rows.{rows_of}
use Rattle.season_file.specs.Season.{BundleGives}
use Rattle.season_file.specs.declared.content.Content.{Content}
use Rattle.quota_units.specs.Homes.{Homes, states_of, units_of}
use Rattle.quota_units.specs.Input.{Input, expansion, input_of}
use Rattle.quota_units.specs.Reads.{AllLiveRight, ReadsMapped}
use Rattle.quota_units.specs.declared.fault.UnitFault.{UnitFault}
use Rattle.quota_units.specs.declared.fault.UnitFault.TheVariants.{ReadFault, TooLong, OutOfMemory}

-- The text is the plain bundle that the bytes expand to. It reads as their bundle with every row of its choices
-- mapped. A candidate who has a unit on the list lives in a state that the unit is for.
pub record IsExpansion (bytes text : List ℕ) : Type 0 where
  pub made : expansion bytes ≡ Ok text
  pub input : Input
  pub cut : input_of (skip_mark bytes) ≡ Ok input
  pub units : Homes
  pub divided : units_of (rows_of input.units) ≡ Ok units
  pub states : Homes
  pub lived : states_of (rows_of input.states) ≡ Ok states
  pub reads : ReadsMapped units states input.bundle text
  pub living : (content : Content) (script : List Request) → BundleGives true text content script → AllLiveRight units states content

-- the fault of a result, or `OutOfMemory`, which says nothing of it
abbrev pub IsFaultOf : {X : Type 0} → Result X UnitFault → UnitFault → Type 0
IsFaultOf result OutOfMemory = Unit {0}
IsFaultOf result fault = result ≡ Err fault

-- the bytes that a source gave up to its end have this fault
abbrev pub GaveUnitFault : Option (List ℕ) → Option (List ℕ) → UnitFault → Type 0
GaveUnitFault before after fault = (bytes : List ℕ) × Took bytes before after × IsAtEnd after × (expansion bytes ≡ Err fault)

-- Why a source gives no plain bundle: the fault of its bytes, if it gave all of them; or there are too many.
-- `ReadFault` and `OutOfMemory` say nothing of them.
abbrev pub IsUnitFault : Option (List ℕ) → Option (List ℕ) → UnitFault → Type 0
IsUnitFault before after ReadFault = Unit {0}
IsUnitFault before after TooLong = TookMore most_bundle_bytes before after
IsUnitFault before after OutOfMemory = Unit {0}
IsUnitFault before after fault = GaveUnitFault before after fault

-- the bytes that a source gave up to its end come to this text
abbrev pub GaveText : Option (List ℕ) → Option (List ℕ) → List ℕ → Type 0
GaveText before after text = (bytes : List ℕ) × Took bytes before after × IsAtEnd after × IsExpansion bytes text

-- a source was not read to its end: it failed, or gave too many bytes, or there was no memory; there is no other fault
abbrev pub IsUnread : Option (List ℕ) → Option (List ℕ) → UnitFault → Type 0
IsUnread before after ReadFault = Unit {0}
IsUnread before after TooLong = TookMore most_bundle_bytes before after
IsUnread before after OutOfMemory = Unit {0}
IsUnread before after fault = ⊥
