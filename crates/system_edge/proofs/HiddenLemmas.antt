-- The frames behind those that a database takes, as they are read.
use Rattle.std.proofs.Common.{not, subst, Result, Ok, Err, IfOk, ◌≡◌, ◌≢◌, ◌↔◌, ℕ, suc, ◌+◌, ◌*◌, ◌≤◌, ◌<◌, Bool, true, false, IsTrue, List, length, sym, ap, ap₂, ◌∙◌, refl, inl, inr, arith}
use Rattle.std.proofs.lemmas.Bool.{false≢true}
use Rattle.sqlite_disk.specs.Disk.{Holds}
use Rattle.sqlite_wal.specs.Format.{part, be32, stored_sum, page_number, count_page, IsFrame, IsSigned}
use Rattle.sqlite_wal.specs.Recovery.{Replays, frame, frame_at, frames_len, header}
use Rattle.sqlite_wal.proofs.RecoveryLemmas.{replays_once}
use Rattle.sqlite_wal.proofs.FormatLemmas.{pair, be32-part}
use Rattle.sqlite_wal.proofs.PartLemmas.{held_is_part, frames_len-suc, frames_len-le}
use Rattle.system_edge.specs.Hidden.{EndsCommit, HidesCommit, HidesNothing, IsRevealed}

-- a frame begins where the one before it ends
pub next_at : (page_size i : ℕ) → frame_at page_size (suc i) ≡ frame_at page_size i + (24 + page_size)
next_at page_size i =
    let more = frames_len-suc page_size i in
    omega (arith, more)

-- what is read at the place of a frame is the frame
pub is_read : (page_size i at : ℕ) (log bytes : List ℕ) → at ≡ frame_at page_size i → Holds log at bytes → length bytes ≡ 24 + page_size → frame page_size log i ≡ bytes
is_read page_size i at log bytes place holds len =
    ap (λ (place : ℕ). part log place (24 + page_size)) (sym place) ∙ held_is_part log bytes at (24 + page_size) holds len

-- a checksum that is read in a frame is the frame's
pub stored_in : (page_size i at : ℕ) (log : List ℕ) → at ≡ frame_at page_size i → stored_sum log (at + 16) ≡ stored_sum (frame page_size log i) 16
stored_in page_size i at log place =
    let second : at + 16 + 4 ≡ frame_at page_size i + 20 = omega (arith, place) in
    let one = be32-part log (frame_at page_size i) (24 + page_size) 16 (omega arith) in
    let two = be32-part log (frame_at page_size i) (24 + page_size) 20 (omega arith) in
    ap₂ pair (ap (λ (x : ℕ). be32 log (x + 16)) place ∙ sym one) (ap (be32 log) second ∙ sym two)

module _ (page_size i : ℕ) (log head bytes : List ℕ) (is : frame page_size log (suc i) ≡ bytes) where
  -- a frame of another page counts nothing
  pub counts_nothing : page_number bytes ≢ count_page → ¬ EndsCommit page_size log i
  counts_nothing other ends = other (ap page_number (sym is) ∙ ends.counts)

  -- a frame that counts ends a commit if and only if it checks
  pub ends_if_checks : (before : ℕ × ℕ) (found : Bool) → header log ≡ head → frame_at page_size i + 2 * (24 + page_size) ≤ length log → before ≡ stored_sum (frame page_size log i) 16 → page_number bytes ≡ count_page
      → (IsTrue found ↔ IsFrame head before bytes) → (IsTrue found ↔ EndsCommit page_size log i)
  ends_if_checks before found same within sum counts checks =
      let at = next_at page_size i in (
        λ yes. record {
          passes = record { within = omega (arith, at, within); passes = rw (is, same, ← sum) (checks.0 yes) };
          counts = ap page_number is ∙ counts;
        },
        λ ends. checks.1 (rw (← is, ← same, sum) ends.passes.passes),
      )

-- no frame ends a commit where the log ends
pub ends_within : (page_size i j : ℕ) (log : List ℕ) → i ≤ j → length log < frame_at page_size i + 2 * (24 + page_size) → ¬ EndsCommit page_size log j
ends_within page_size i j log later short ends =
    let next = next_at page_size j in
    let more = frames_len-le page_size i j later in
    let within = ends.passes.within in
    omega (arith, next, more, within, short)

-- a frame begins behind as many bytes as there are frames before it
pub frames_reach : (page_size i : ℕ) → i ≤ frame_at page_size i
unfolding frames_len
frames_reach page_size i = omega arith

-- a frame for a page of the database is revealed if and only if it has the salts of the head
pub revealed_if_salts : (page_size k : ℕ) (log head bytes : List ℕ) (salts : Bool) → frame page_size log k ≡ bytes → header log ≡ head → frame_at page_size k + (24 + page_size) ≤ length log
    → page_number bytes ≢ 0 → page_number bytes ≢ count_page → (IsTrue salts ↔ (part bytes 8 8 ≡ part head 16 8)) → (IsTrue salts ↔ IsRevealed page_size log k)
revealed_if_salts page_size k log head bytes salts is same within some plain agree = (
  λ yes. record { within = within; salt = rw (is, same) (agree.0 yes); some = rw is some; plain = rw is plain },
  λ revealed. agree.1 (rw (← is, ← same) revealed.salt),
)

-- where the first frame is not revealed, a log hides a commit if and only if a later one ends a commit
pub hides_later : {E : Type 0} (Clean : Type 0) (page_size k : ℕ) (log : List ℕ) (result : Result Bool E) → (Clean → ¬ IsRevealed page_size log k)
    → IfOk result (λ found. Clean → (IsTrue found ↔ ((i : ℕ) × (k ≤ i) × EndsCommit page_size log i))) → IfOk result (λ found. Clean → (IsTrue found ↔ HidesCommit page_size log k))
hides_later Clean page_size k log (Err e) plain later = later
hides_later Clean page_size k log (Ok found) plain later = λ clean. (
  λ yes. inr ((later clean).0 yes),
  λ hides. elim hides [ inl revealed ↦ absurd (plain clean revealed) | inr more ↦ (later clean).1 more ],
)

-- a log hides nothing if and only if it hides no commit behind the frames that are taken
pub nothing_if : (page_size k : ℕ) (log : List ℕ) (hides : Bool) → page_size ≡ be32 log 8 → 32 ≤ length log → IsSigned (header log) → Replays page_size log k
    → (IsTrue hides ↔ HidesCommit page_size log k) → (IsTrue (not hides) ↔ HidesNothing log)
nothing_if page_size k log true size long signed taken commits = (
  λ no. absurd (false≢true no),
  λ nothing. absurd (nothing long signed k (rw (← size) taken) (rw (← size) (commits.0 refl))),
)
nothing_if page_size k log false size long signed taken commits = (
  λ yes _ _ j replays commit. false≢true (commits.1 (subst (HidesCommit page_size log) (replays_once page_size log j k (rw size replays) taken) (rw size commit))),
  λ _. refl,
)

-- the second of two tests decides both where the first one holds
pub both_hold : {E : Type 0} (Clean First Second : Type 0) (result : Result Bool E) → (Clean → First)
    → IfOk result (λ found. Clean → (IsTrue found ↔ Second)) → IfOk result (λ found. Clean → (IsTrue found ↔ First × Second))
both_hold Clean First Second (Err e) first second = second
both_hold Clean First Second (Ok found) first second = λ clean. (λ yes. (first clean, (second clean).0 yes), λ both. (second clean).1 both.1)
