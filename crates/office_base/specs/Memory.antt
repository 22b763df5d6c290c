-- The objects of the outside that are kept in memory, as contracts see them.
use Rattle.std.specs.Prelude.{◌≡◌, ◌<◌, ◌≤◌, ◌+◌, ◌-◌, ◌^◌, ◌↔◌, ◌⊎◌, ℕ, min, List, length, Result, IfOk, OnErr, IsErr, IsOk, Contains}

-- a source in memory: the bytes left, the most that one read gives, the calls so far, those that fail, and the faults
pub record SourceMemory : Type 0 where
  pub left : List ℕ
  pub piece : ℕ
  pub calls : ℕ
  pub fail_at : List ℕ
  pub faults : ℕ

-- a source of these bytes before its first call
abbrev pub fresh_source : List ℕ → ℕ → List ℕ → SourceMemory
fresh_source bytes piece fail_at = record { left = bytes; piece = piece; calls = 0; fail_at = fail_at; faults = 0 }

-- a sink in memory: the bytes written, the most that it takes in all, the calls so far, those that fail, and the faults
pub record SinkMemory : Type 0 where
  pub written : List ℕ
  pub room : ℕ
  pub calls : ℕ
  pub fail_at : List ℕ
  pub faults : ℕ

-- one more, up to 2^64 - 1
abbrev pub counted : ℕ → ℕ
counted n = min (n + 1) (2 ^ 64 - 1)

-- The count of faults rises by one if the object failed, and is unchanged otherwise.
pub record FailsByOne (failed : Type 0) (old new : ℕ) : Type 0 where
  pub count : old ≤ new
  pub steady : ¬ failed → new ≡ old
  pub counted : failed → new ≡ counted old

-- A read in memory returns as many bytes as the piece and the room allow.
-- It fails if and only if its number is in the list.
-- Each failure adds one fault.
pub record IsMemoryRead {X : Type 0} (room : ℕ) (old new : SourceMemory) (result : Result ℕ X) : Type 0 where
  pub piece : IfOk result (λ n. n ≡ min old.piece (min room (length old.left)))
  pub fails : IsErr result ↔ Contains old.fail_at (counted old.calls)
  pub raised : OnErr result (new.faults ≡ counted old.faults)
  pub rest : new ≡ record { left = new.left; piece = old.piece; calls = counted old.calls; fail_at = old.fail_at; faults = new.faults }

-- A write in memory takes as many bytes as there is room for.
-- It fails if and only if its number is in the list or there is no room.
-- Each failure adds one fault.
pub record IsMemoryWrite {X : Type 0} (piece : List ℕ) (old new : SinkMemory) (result : Result ℕ X) : Type 0 where
  pub room : IfOk result (λ n. n ≡ min (length piece) (old.room - length old.written))
  pub fails : IsErr result
      ↔ (Contains old.fail_at (counted old.calls) ⊎ ((0 < length piece) × (old.room ≤ length old.written)))
  pub raised : OnErr result (new.faults ≡ counted old.faults)
  pub rest : new ≡ record { written = new.written; room = old.room; calls = counted old.calls; fail_at = old.fail_at; faults = new.faults }

-- A read that never fails, of the bytes left and the most that one read gives.
pub record IsSureRead {X : Type 0} (room : ℕ) (old new : List ℕ × ℕ) (result : Result ℕ X) : Type 0 where
  pub piece : IfOk result (λ n. n ≡ min old.1 (min room (length old.0)))
  pub sure : IsOk result
  pub same : new.1 ≡ old.1
