-- What a reader of records has left.
use Rattle.std.specs.Prelude.{◌≡◌, ◌+◌, ◌⊎◌, ℕ, true, false, List, [], Option, Some, None, length}
use Rattle.csv.specs.Reading.{Ready, default_config, has_failed, is_flexible, reader_config, reader_state, reader_trim, records_from, source_of}
use Rattle.csv.specs.declared.parser.State.{State}
use Rattle.csv.specs.declared.reader.Reader.{Reader}
use Rattle.csv.specs.declared.reader.Trim.TheVariants as trim
use Rattle.section_rows.specs.Rows.{Row}
use denote.Ref.{Bor}

-- the records from a state of the reader and bytes on
abbrev pub records_at : State → List ℕ → List Row
records_at state bytes = records_from default_config (length bytes + 1) state bytes

-- the records of bytes that are known
abbrev pub records_of : State → Option (List ℕ) → List Row
records_of state None = []
records_of state (Some bytes) = records_at state bytes

-- the records that a reader has left; none where it has failed
abbrev pub records_left : Reader (Bor (List ℕ)) → List Row
records_left reader = records_of (reader_state reader) (source_of (λ s. Some s.now) reader)

-- a reader of unchanged records, of any lengths, without a header of its own
pub record IsPlain (reader : Reader (Bor (List ℕ))) : Type 0 where
  pub config : reader_config reader ≡ default_config
  pub trim : reader_trim reader ≡ trim.None
  pub flexible : is_flexible reader ≡ true
  pub ready : Ready reader
  pub fresh : has_failed reader ≡ false

-- such a reader, or one that has failed
abbrev pub IsReading : Reader (Bor (List ℕ)) → Type 0
IsReading reader = (has_failed reader ≡ true) ⊎ IsPlain reader
