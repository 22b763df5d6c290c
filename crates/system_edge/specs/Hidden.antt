-- Commits that a log still holds behind the place where a database would end it.
use Rattle.std.specs.Prelude.{◌≡◌, ◌≢◌, ◌⊎◌, ℕ, suc, ◌+◌, ◌≤◌, List, length}
use Rattle.sqlite_wal.specs.Format.{part, be32, count_page, page_number, IsSigned}
use Rattle.sqlite_wal.specs.Recovery.{Passes, Replays, frame, frame_at, header}
use Rattle.system_edge.specs.Heads.{HasSoundHead}

-- The frame behind frame i passes its test, and counts a commit.
-- The database writes such a frame only when frame i and all frames before it are commits that the disk has.
pub record EndsCommit (page_size : ℕ) (log : List ℕ) (i : ℕ) : Type 0 where
  pub passes : Passes page_size log (suc i)
  pub counts : page_number (frame page_size log (suc i)) ≡ count_page

-- Frame k has the salts of the head, and begins a commit that is not counted.
-- The database writes the first byte of these salts last, when the disk has all other bytes of the commit.
pub record IsRevealed (page_size : ℕ) (log : List ℕ) (k : ℕ) : Type 0 where
  pub within : frame_at page_size k + (24 + page_size) ≤ length log
  pub salt : part (frame page_size log k) 8 8 ≡ part (header log) 16 8
  pub some : page_number (frame page_size log k) ≢ 0
  pub plain : page_number (frame page_size log k) ≢ count_page

-- The disk had more commits than the first k frames.
abbrev pub HidesCommit : ℕ → List ℕ → ℕ → Type 0
HidesCommit page_size log k = IsRevealed page_size log k ⊎ ((i : ℕ) × (k ≤ i) × EndsCommit page_size log i)

-- The log does not show that the disk had more commits than a database would take.
abbrev pub HidesNothing : List ℕ → Type 0
HidesNothing log =
    32 ≤ length log → IsSigned (header log) → (k : ℕ) → Replays (be32 log 8) log k → ¬ HidesCommit (be32 log 8) log k

-- The files hold nothing: the database file is empty, and the log is too short for a frame, as where a power cut came before anything was kept.
pub record HoldNothing (log db : List ℕ) : Type 0 where
  pub short : length log ≤ 41
  pub empty : length db ≡ 0

-- A database may open these files: the head of the log is sound and the log hides no commit, or they hold nothing.
abbrev pub MayOpen : List ℕ → List ℕ → Type 0
MayOpen log db = (HasSoundHead log × HidesNothing log) ⊎ HoldNothing log db
