-- Which requests a body alone spells, and which fault is its first.
use Rattle.std.specs.Prelude.{◌≡◌, ◌≤◌, ℕ, List, Option, Ok, Err, length}
use Rattle.std.specs.Str.{IsUtf8}
use Rattle.office_base.specs.Limits.{most_bundle_bytes}
use Rattle.office_base.specs.Outside.{IsAtEnd, Took, TookMore}
use Rattle.office_text.specs.Lines.{skip_mark}
use Rattle.office_asks.specs.declared.ask.Request.{Request}
use Rattle.section_rows.specs.Rows.{rows_of}
use Rattle.request_rows.specs.Requests.{script_of}
use Rattle.season_file.specs.Season.{IsText}
use Rattle.season_file.specs.declared.fault.SeasonFault.{SeasonFault}
use Rattle.season_file.specs.declared.fault.SeasonFault.TheVariants.{ReadFault, TooLong, NotUtf8, BadRequest, OutOfMemory}

-- The bytes that a source gave up to its end spell these requests, after a byte order mark of their own: the rows may begin with one more.
abbrev pub GaveScript : Option (List ℕ) → Option (List ℕ) → List Request → Type 0
GaveScript before after script = (bytes : List ℕ) × Took bytes before after × IsAtEnd after × IsText bytes × (script_of (rows_of (skip_mark bytes)) ≡ Ok script)

-- The fault of a body alone: its bytes are too many or no UTF-8, or a row is no request, in this order; there is no
-- other one. `ReadFault` and `OutOfMemory` say nothing of the bytes.
abbrev pub IsScriptFault : Option (List ℕ) → Option (List ℕ) → SeasonFault → Type 0
IsScriptFault before after ReadFault = Unit {0}
IsScriptFault before after TooLong = TookMore most_bundle_bytes before after
IsScriptFault before after NotUtf8 = (bytes : List ℕ) × Took bytes before after × IsAtEnd after × (length bytes ≤ most_bundle_bytes) × (IsUtf8 bytes → ⊥)
IsScriptFault before after (BadRequest row) = (bytes : List ℕ) × Took bytes before after × IsAtEnd after × IsText bytes × (script_of (rows_of (skip_mark bytes)) ≡ Err row)
IsScriptFault before after OutOfMemory = Unit {0}
IsScriptFault before after fault = ⊥
