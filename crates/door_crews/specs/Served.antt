-- Links and doors that are served from one history to another.
use Rattle.std.specs.Prelude.{◌≡◌, ◌≢◌, ◌+◌, ◌≤◌, ◌⊎◌, ℕ, true, List, [], ◌∷◌, ◌++◌, length, Option, Ok, Err}
use Rattle.office_base.specs.Outside.{AreLeft, Rose}
use Rattle.office_asks.specs.declared.ask.Ask.{Ask}
use Rattle.http_sessions.specs.Limits.{most_messages}
use Rattle.office_links.specs.Visits.{Visits}
use Rattle.office_links.specs.declared.outside.Door.{Ghosts as DoorGhosts}
use Rattle.office_links.specs.declared.outside.Link.{Ghosts as LinkGhosts}
use Rattle.office_desk.specs.Own.{Begins, AreMerged}
use Rattle.http_sessions.specs.Exchange.{Item, Outcome, wired, unread, heard, Cuts, IsRefusal, IsAsked, open_before}
use Rattle.http_sessions.specs.Sessions.{IsTold}
use Rattle.http_sessions.specs.Doors.{HasPassed}
use Rattle.http_sessions.specs.declared.conversation.SessionEnd.{SessionEnd}
use Rattle.http_sessions.specs.declared.conversation.SessionEnd.TheVariants.{LinkFault}
use Rattle.http_sessions.specs.declared.counter.Answered.{Answered}
use Rattle.http_wire.specs.declared.faults.Fault.{Fault}
use Rattle.http_wire.specs.declared.faults.Fault.TheVariants.{Keeper, Memory}
use Rattle.door_crews.specs.Counts.{RoseBy}

-- what is read of a door and of its links
pub record DoorLooks (D L : Type 0) : Type 0 where
  pub to_come : D → ℕ
  pub out : D → ℕ
  pub told : D → Option (Visits L)
  pub faults : D → ℕ
  pub left : L → Option (List ℕ)
  pub written : L → Option (List ℕ)
  pub failures : L → ℕ

-- the same, by the ghost members of a door and of its links
abbrev pub telling : {D L : Type 0} → DoorGhosts D L → LinkGhosts L → DoorLooks D L
telling d l = record { to_come = d.to_come; out = d.out; told = d.told; faults = d.faults; left = l.left; written = l.written; failures = l.faults }

-- how many failures of the keeper a fault is
abbrev pub failures_of : Fault → ℕ
failures_of Keeper = 1
failures_of Memory = 0

-- The list has the elements of all these lists, each once, and those of each in their order.
abbrev pub AreAllMerged : {I : Type 0} → List (List I) → List I → Type 0
AreAllMerged [] zs = zs ≡ []
AreAllMerged {I} (xs ∷ xss) zs = (rest : List I) × AreMerged xs rest zs × AreAllMerged xss rest

-- `Answers place token ask answered added`: after the entries of the place the ask is answered so, and adds these.
-- `Unanswers place token ask fault added`:
-- there it may stay unanswered with this fault, though it added these.
-- When all has ended, so many entries of the history are kept, from the oldest on.
module _ {I : Type 0} (Answers : List I → Option (List ℕ) → Ask → Answered → List I → Type 0) (Unanswers : List I → Option (List ℕ) → Ask → Fault → List I → Type 0) (kept : ℕ) where
  -- One message after the history A:
  -- what came of it, the entries that it added, how many failures of the keeper it reported, and the history that it
  -- left. An ask is put at a place that begins with A, and leaves that place and what it added.
  -- What is answered is kept, and so is all that the answer could have seen.
  abbrev pub IsPlaced : List I → Item → Outcome → List I → ℕ → List I → Type 0
  IsPlaced A item wired added n behind = IsRefusal item.verdict × (added ≡ []) × (n ≡ 0) × (behind ≡ A)
  IsPlaced A item unread added n behind = (item.reads_body ≡ true) × (added ≡ []) × (n ≡ 0) × (behind ≡ A)
  IsPlaced A item (heard (Ok answered)) added n behind = (n ≡ 0) × (length behind ≤ kept)
      × IsAsked item.verdict (λ token ask. (place : List I) × Begins A place × Answers place token ask answered added × (behind ≡ place ++ added))
  IsPlaced A item (heard (Err fault)) added n behind = (n ≡ failures_of fault)
      × IsAsked item.verdict (λ token ask. (place : List I) × Begins A place × Unanswers place token ask fault added × (behind ≡ place ++ added))

  -- The messages are answered one after another, from the history A to the history B,
  -- with these entries and f failures of the keeper.
  abbrev pub IsServing : List I → List Item → List Outcome → List I → ℕ → List I → Type 0
  IsServing A [] [] E f B = (E ≡ []) × (f ≡ 0) × Begins A B
  IsServing A [] (outcome ∷ outcomes) E f B = ⊥
  IsServing A (item ∷ items) [] E f B = ⊥
  IsServing A (item ∷ items) (outcome ∷ outcomes) E f B = (added : List I) × (n : ℕ) × (behind : List I) × (more : List I) × (k : ℕ)
      × IsPlaced A item outcome added n behind × IsServing behind items outcomes more k B × (E ≡ added ++ more) × (f ≡ n + k)

  module _ {D L : Type 0} (of : DoorLooks D L) where
    -- A link, as its session found it and left it, is served from the history A to the history B, with the entries E
    -- and f reported failures of the keeper.
    -- Its session ends with a fault if and only if the link failed.
    pub record IsServed (A : List I) (link link' : L) (E : List I) (f : ℕ) (B : List I) : Type 0 where
      pub bytes : List ℕ
      pub end : SessionEnd
      pub items : List Item
      pub outcomes : List Outcome
      pub rest : List ℕ
      pub are : AreLeft bytes (of.left link)
      pub cuts : Cuts bytes items rest
      pub few : length items ≤ most_messages
      pub unclosed : open_before items ≡ true
      pub serving : IsServing A items outcomes E f B
      pub told : IsTold end bytes (record { left_before = of.left link; left_after = of.left link'; written_before = of.written link; written_after = of.written link' }) items outcomes rest
      pub cause : end ≡ LinkFault → Rose (of.failures link) (of.failures link')
      pub steady : end ≢ LinkFault → of.failures link' ≡ of.failures link

    -- Links are served one after another, each from the history to which the one before it was served.
    abbrev pub AreServed : List I → List (L × L) → List I → ℕ → List I → Type 0
    AreServed A [] E f B = (E ≡ []) × (f ≡ 0) × (B ≡ A)
    AreServed A (pair ∷ pairs) E f B = (first : List I) × (n : ℕ) × (mid : List I) × (more : List I) × (k : ℕ)
        × IsServed A pair.0 pair.1 first n mid × AreServed mid pairs more k B × (E ≡ first ++ more) × (f ≡ n + k)

    -- A door, before and after: the connections that it gave came back to it in their order, each served, the first
    -- from the history A and the last one to the history B.
    -- None stays out, and none is still to come unless the door failed.
    pub record DoorServed (door door' : D) (A : List I) (E : List I) (f : ℕ) (B : List I) : Type 0 where
      pub links : List (L × L)
      pub passed : HasPassed (of.told door) links (of.told door')
      pub served : AreServed A links E f B
      pub back : of.out door' ≡ of.out door
      pub ended : (of.to_come door' ≡ 0) ⊎ Rose (of.faults door) (of.faults door')

    -- Each door is served from the history A to a history with which H begins. The keeper's count rose, from c to k, by
    -- at least as many failures as were reported at each door.
    abbrev pub EachDoor : List I → ℕ → List D → List D → List (List I) → List ℕ → List I → ℕ → Type 0
    EachDoor A c [] doors' Es fs H k = (doors' ≡ []) × (Es ≡ []) × (fs ≡ [])
    EachDoor A c (door ∷ doors) doors' Es fs H k = (door' : D) × (others : List D) × (E : List I) × (Fs : List (List I)) × (f : ℕ) × (gs : List ℕ) × (B : List I)
        × (doors' ≡ door' ∷ others) × (Es ≡ E ∷ Fs) × (fs ≡ f ∷ gs) × DoorServed door door' A E f B × Begins B H × RoseBy f c k × EachDoor A c doors others Fs gs H k

    -- All doors are served, from the history A to the history H.
    -- H continues A with the entries of all doors together, each once, and those of each door in their order.
    -- The keeper's count went from c to k.
    pub record AllDoorsServed (A : List I) (c : ℕ) (doors doors' : List D) (H : List I) (k : ℕ) : Type 0 where
      pub entries : List (List I)
      pub failures : List ℕ
      pub each : EachDoor A c doors doors' entries failures H k
      pub added : List I
      pub goes_on : H ≡ A ++ added
      pub merged : AreAllMerged entries added
      pub counts : c ≤ k
