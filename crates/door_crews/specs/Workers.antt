-- Workers of one crew: what each knows, and whether a door of its own, or of one that it took in, failed.
use Rattle.std.specs.Prelude.{◌≡◌, ◌+◌, ◌≤◌, ◌⊎◌, ◌||◌, ℕ, Bool, true, false, List, [], ◌++◌, Option}
use Rattle.office_base.specs.Outside.{Rose}
use Rattle.office_asks.specs.declared.ask.Ask.{Ask}
use Rattle.office_desk.specs.Own.{Begins, AreMerged}
use Rattle.http_sessions.specs.declared.counter.Answered.{Answered}
use Rattle.http_wire.specs.declared.faults.Fault.{Fault}
use Rattle.door_crews.specs.Counts.{RoseBy}
use Rattle.door_crews.specs.Desk.{Known}
use Rattle.door_crews.specs.Ending.{SomeRose, AllEnded}
use Rattle.door_crews.specs.Served.{DoorLooks, AreAllMerged, DoorServed, EachDoor}

pub record Worker (I : Type 0) : Type 0 where
  pub knows : Known I
  pub failed : Bool

module _ {I : Type 0} where
  -- A share went to the worker w, who has seen as much, has no entries of its own and no door yet;
  -- the rest of the crew p stays in q.
  pub record IsHired (p q w : Worker I) : Type 0 where
    pub shares : p.knows.shares ≡ q.knows.shares + 1
    pub seen : q.knows.seen ≡ p.knows.seen
    pub own : q.knows.own ≡ p.knows.own
    pub count : q.knows.count ≡ p.knows.count
    pub kept : q.knows.kept ≡ p.knows.kept
    pub failed : q.failed ≡ p.failed
    pub new_shares : w.knows.shares ≡ 1
    pub new_seen : w.knows.seen ≡ p.knows.seen
    pub new_own : w.knows.own ≡ []
    pub new_count : w.knows.count ≡ p.knows.count
    pub new_kept : w.knows.kept ≡ p.knows.kept
    pub new_failed : w.failed ≡ false

  -- The worker w is taken into the crew m, which is then p.
  pub record IsTakenIn (m w p : Worker I) : Type 0 where
    pub shares : p.knows.shares ≡ m.knows.shares + w.knows.shares
    pub seen : (Begins m.knows.seen w.knows.seen × (p.knows.seen ≡ w.knows.seen)) ⊎ (Begins w.knows.seen m.knows.seen × (p.knows.seen ≡ m.knows.seen))
    pub own : AreMerged m.knows.own w.knows.own p.knows.own
    pub more : m.knows.count ≤ p.knows.count
    pub most : w.knows.count ≤ p.knows.count
    pub more_kept : m.knows.kept ≤ p.knows.kept
    pub most_kept : w.knows.kept ≤ p.knows.kept
    pub failed : p.failed ≡ m.failed || w.failed

module _ {I : Type 0} (Answers : List I → Option (List ℕ) → Ask → Answered → List I → Type 0) (Unanswers : List I → Option (List ℕ) → Ask → Fault → List I → Type 0) {D L : Type 0} (of : DoorLooks D L) where
  -- The worker of this number served a door: from what it had seen to what it has seen then.
  -- With it come the entries by which its own grew, and the failures of the keeper by which the count rose.
  -- It reports whether the door failed.
  pub record HasWorked (number : ℕ) (door door' : D) (w w' : Worker I) : Type 0 where
    pub entries : List I
    pub failures : ℕ
    pub served : DoorServed Answers Unanswers w'.knows.kept of door door' w.knows.seen entries failures w'.knows.seen
    pub own : w'.knows.own ≡ w.knows.own ++ entries
    pub rose : RoseBy failures w.knows.count w'.knows.count
    pub keeps : w.knows.kept ≤ w'.knows.kept
    pub begins : Begins w.knows.seen w'.knows.seen
    pub shares : w'.knows.shares ≡ w.knows.shares
    pub fails : w'.failed ≡ true → Rose (of.faults door) (of.faults door')
    pub ends : w'.failed ≡ false → (of.to_come door' ≡ 0) × (of.faults door' ≡ of.faults door)

  -- What a crew that had no entries of its own knows of a row of doors after it has served them.
  pub record IsRow (p : Worker I) (doors doors' : List D) (p' : Worker I) : Type 0 where
    pub entries : List (List I)
    pub failures : List ℕ
    pub each : EachDoor Answers Unanswers p'.knows.kept of p.knows.seen p.knows.count doors doors' entries failures p'.knows.seen p'.knows.count
    pub own : AreAllMerged entries p'.knows.own
    pub begins : Begins p.knows.seen p'.knows.seen
    pub counts : p.knows.count ≤ p'.knows.count
    pub keeps : p.knows.kept ≤ p'.knows.kept
    pub shares : p'.knows.shares ≡ p.knows.shares
    pub fails : p'.failed ≡ true → SomeRose of.faults doors doors'
    pub ends : p'.failed ≡ false → AllEnded of.faults of.to_come doors doors'
