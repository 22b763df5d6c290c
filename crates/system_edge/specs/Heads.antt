-- The head of a log, next to its database file.
use Rattle.std.specs.Prelude.{◌≡◌, ◌⊎◌, ℕ, ◌/◌, ◌≤◌, ◌<◌, List, length, slice_index}
use Rattle.sqlite_wal.specs.Format.{IsSigned}
use Rattle.sqlite_wal.specs.Recovery.{header}

-- the first byte of a log
abbrev pub begins : List ℕ → ℕ
begins log = slice_index log 0

-- the second to the fourth byte are those of the magic number
pub record HasMagicEnd (head : List ℕ) : Type 0 where
  pub second : slice_index head 1 ≡ 0x7f
  pub third : slice_index head 2 ≡ 0x06
  pub fourth : slice_index head 3 / 2 ≡ 0x82 / 2

-- A checkpoint first sets the first byte of the log to 0: by then all that the log holds is in the database file.
-- A log of more than the 41 bytes of an empty one keeps the rest of the magic number.
pub record IsMarkedEmpty (head : List ℕ) (len : ℕ) : Type 0 where
  pub first : slice_index head 0 ≡ 0
  pub rest : 41 < len → HasMagicEnd head

-- Nothing is lost if a database opens this log: it is empty, too short to hold a head and marked as empty,
-- or its head begins with the magic number and ends with its own checksum, or is marked as empty.
abbrev pub HasSoundHead : List ℕ → Type 0
HasSoundHead log =
    (length log ≡ 0)
    ⊎ (((length log < 32) × (begins log ≡ 0))
    ⊎ ((32 ≤ length log) × (IsSigned (header log) ⊎ IsMarkedEmpty (header log) (length log))))
