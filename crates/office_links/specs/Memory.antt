-- Links and doors in memory, as contracts see them.
use Rattle.std.specs.Prelude.{◌≡◌, ◌<◌, ◌≤◌, ◌-◌, ◌↔◌, ◌⊎◌, ℕ, min, List, [], length, Result, IfOk, OnErr, IsErr, Contains}
use Rattle.office_base.specs.Memory.{counted}
use Rattle.office_links.specs.Visits.{Visits}

-- a link in memory: the bytes left, the most that one read gives, the bytes written, the most that it takes in all, the
-- calls so far, those that fail, and the faults
pub record LinkMemory : Type 0 where
  pub left : List ℕ
  pub piece : ℕ
  pub written : List ℕ
  pub room : ℕ
  pub calls : ℕ
  pub fail_at : List ℕ
  pub faults : ℕ

-- a door in memory: the links still to come, those given back, the number of those that are out, the accepts so far,
-- those that fail, and the faults
pub record DoorMemory : Type 0 where
  pub coming : List LinkMemory
  pub returned : List LinkMemory
  pub out : ℕ
  pub calls : ℕ
  pub fail_at : List ℕ
  pub faults : ℕ

-- a link with these bytes to give, at most so many a read, and room for so many, before its first call
abbrev pub fresh_link : List ℕ → ℕ → ℕ → List ℕ → LinkMemory
fresh_link bytes piece room fail_at = record { left = bytes; piece = piece; written = []; room = room; calls = 0; fail_at = fail_at; faults = 0 }

-- a door with these links to give, before its first call
abbrev pub fresh_door : List LinkMemory → List ℕ → DoorMemory
fresh_door links fail_at = record { coming = links; returned = []; out = 0; calls = 0; fail_at = fail_at; faults = 0 }

-- what is visible of a door in memory
abbrev pub visits : DoorMemory → Visits LinkMemory
visits door = record { coming = door.coming; returned = door.returned }

-- A read of a link in memory returns as many bytes as the piece and the room allow.
-- It fails if and only if its number is in the list.
-- Each failure adds one fault.
pub record IsLinkRead {X : Type 0} (room : ℕ) (old new : LinkMemory) (result : Result ℕ X) : Type 0 where
  pub piece : IfOk result (λ n. n ≡ min old.piece (min room (length old.left)))
  pub fails : IsErr result ↔ Contains old.fail_at (counted old.calls)
  pub raised : OnErr result (new.faults ≡ counted old.faults)
  pub rest : new ≡ record { left = new.left; piece = old.piece; written = old.written; room = old.room; calls = counted old.calls; fail_at = old.fail_at; faults = new.faults }

-- A write to a link in memory takes as many bytes as there is room for.
-- It fails if and only if its number is in the list or there is no room.
-- Each failure adds one fault.
pub record IsLinkWrite {X : Type 0} (piece : List ℕ) (old new : LinkMemory) (result : Result ℕ X) : Type 0 where
  pub room : IfOk result (λ n. n ≡ min (length piece) (old.room - length old.written))
  pub fails : IsErr result
      ↔ (Contains old.fail_at (counted old.calls) ⊎ ((0 < length piece) × (old.room ≤ length old.written)))
  pub raised : OnErr result (new.faults ≡ counted old.faults)
  pub rest : new ≡ record { left = old.left; piece = old.piece; written = new.written; room = old.room; calls = counted old.calls; fail_at = old.fail_at; faults = new.faults }

-- An accept of a door in memory fails if and only if its number is in the list. Each failure adds one fault.
pub record IsDoorAccept {X Y : Type 0} (old new : DoorMemory) (result : Result X Y) : Type 0 where
  pub fails : IsErr result ↔ Contains old.fail_at (counted old.calls)
  pub raised : OnErr result (new.faults ≡ counted old.faults)
  pub rest : new ≡ record { coming = new.coming; returned = old.returned; out = new.out; calls = counted old.calls; fail_at = old.fail_at; faults = new.faults }
