-- Doors at which an office is served, in words of the command.
use Rattle.std.specs.Prelude.{◌≡◌, ◌⊎◌, ℕ, Bool, true, false, List, length, take}
use Rattle.door_crews.specs.Ending.{AllEnded, SomeRose}
use Rattle.door_crews.specs.Served.{DoorLooks, telling}
use Rattle.kept_rows.specs.Tables.{Tables}
use Rattle.keeper_mem.specs.Keeper.{KeeperView}
use Rattle.office_links.specs.declared.outside.Door.{Ghosts as DoorGhosts}
use Rattle.office_links.specs.declared.outside.Link.{Ghosts as LinkGhosts}
use Rattle.office_http.specs.Keeping.{MayWait, StandAfter}
use Rattle.office_http.specs.Serving.{DoorsServed}
use Rattle.office_moves.specs.Facts.{SeasonFacts}
use Rattle.office_moves.specs.declared.moves.Entry.{Entry}

-- What holds of doors: that they are unchanged; that the office of a season was served at them, from one history to
-- another, and that one of them failed or none; and that it was served so, but what waited at the end could not be kept.
pub record Doors : Type 1 where
  pub spared : Type 0
  pub served : SeasonFacts → List Entry → List Entry → Bool → Type 0
  pub lost : SeasonFacts → List Entry → List Entry → Bool → Type 0

module _ {D L : Type 0} (of : DoorLooks D L) where
  -- one of the doors failed, or none did and no connection is still to come
  abbrev pub HaveEnded : Bool → List D → List D → Type 0
  HaveEnded true doors doors' = SomeRose of.faults doors doors'
  HaveEnded false doors doors' = AllEnded of.faults of.to_come doors doors'

  -- The doors before and after. The keeper holds room in advance or does not, and may let rows wait or does not.
  -- Its count of faults went from `before` to `after`, and a crash leaves these tables.
  -- If the office was served well, all that was answered is within the history, and these tables represent the state after it.
  -- If what waited could not be kept, so many of the first entries are, and all that was answered is among them.
  -- The tables represent the state after these, unless none is known to be kept.
  abbrev pub doors_of : Bool → Type 0 → ℕ → ℕ → Tables → List D → List D → Doors
  doors_of room waits before after tables doors doors' = record {
    spared = doors' ≡ doors;
    served = λ facts held history failed. DoorsServed facts room waits (length history) of held before doors doors' history after × HaveEnded failed doors doors'
        × StandAfter facts history tables;
    lost = λ facts held history failed. (kept : ℕ) × DoorsServed facts room waits kept of held before doors doors' history after × HaveEnded failed doors doors'
        × waits × (StandAfter facts (take kept history) tables ⊎ (kept ≡ 0));
  }

-- the same, by the ghost members of a door and of its links, and by the keeper before and after
abbrev pub doors_seen : {D L K : Type 0} → DoorGhosts D L → LinkGhosts L → (K → KeeperView) → K → K → List D → List D → Doors
doors_seen d l seen keeper keeper' doors doors' = doors_of (telling d l) (seen keeper).holds_room (MayWait seen) (seen keeper).faults (seen keeper').faults (seen keeper').kept doors doors'
