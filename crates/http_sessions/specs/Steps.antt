-- One message of a session.
use Rattle.std.specs.Prelude.{◌≡◌, ◌<◌, ◌==◌, ℕ, Bool, true, false, List, [], ◌∷◌, ◌++◌, Option, Result, length, take, drop, if◌then◌else◌}
use Rattle.office_base.specs.Outside.{Appends}
use Rattle.office_asks.specs.declared.ask.Ask.{Ask}
use Rattle.http_wire.specs.Messages.{IsTorn, IsUnfinished}
use Rattle.http_sessions.specs.Exchange.{Item, Outcome, IsItem, Goes, reply_to}
use Rattle.http_sessions.specs.declared.counter.Answered.{Answered}
use Rattle.http_wire.specs.declared.faults.Fault.{Fault}
use Rattle.http_sessions.specs.declared.conversation.SessionEnd.{SessionEnd}
use Rattle.http_sessions.specs.declared.conversation.SessionEnd.TheVariants.{Ended as EndsOpen, Torn as EndsTorn, LimitReached, LinkFault}
use Rattle.http_sessions.specs.declared.messages.Step.{Step}
use Rattle.http_sessions.specs.declared.messages.Step.TheVariants.{Next, Last, Ended, Torn, Unread, Unwritten}

abbrev pub step_of : List ℕ → Step
step_of [] = Ended
step_of (byte ∷ bytes) = Torn

abbrev pub end_of : Step → ℕ → SessionEnd
end_of Next done = EndsOpen
end_of Last done = if done == 99 then LimitReached else EndsOpen
end_of Ended done = EndsOpen
end_of Torn done = EndsTorn
end_of Unread done = LinkFault
end_of Unwritten done = LinkFault

-- a text was written whole and its message dropped, or a prefix of it was written
abbrev pub IsSent : List ℕ → Bool → ℕ → List ℕ → List ℕ → Option (List ℕ) → Option (List ℕ) → Step → Type 0
IsSent text last len held kept before after Next = (last ≡ false) × (kept ≡ drop len held) × Appends text before after
IsSent text last len held kept before after Last = (last ≡ true) × (kept ≡ drop len held) × Appends text before after
IsSent text last len held kept before after Ended = ⊥
IsSent text last len held kept before after Torn = ⊥
IsSent text last len held kept before after Unread = ⊥
IsSent text last len held kept before after Unwritten = (n : ℕ) × (n < length text) × Appends (take n text) before after

module _ {C : Type 0} (R : C → Option (List ℕ) → Ask → Result Answered Fault → C → Type 0) where
  -- the held bytes begin with a message, whatever follows, and it takes the counter from here to there
  pub record IsAnswered (c c' : C) (held : List ℕ) (item : Item) (outcome : Outcome) : Type 0 where
    pub len : ℕ
    pub is : (more : List ℕ) → IsItem (held ++ more) item len
    pub goes : Goes R c item outcome c'

  -- A reply with this text is ready to the message of this length with which the held bytes begin, whatever follows.
  -- It takes the counter from here to there.
  abbrev pub IsReady : C → C → ℕ → List ℕ → ℕ → Bool → List ℕ → Type 0
  IsReady c c' number held len last text =
      (item : Item) × (outcome : Outcome) × ((more : List ℕ) → IsItem (held ++ more) item len) × (last ≡ item.closes) × Goes R c item outcome c' × (text ≡ reply_to number item outcome)

  pub record IsReplied (c c' : C) (number : ℕ) (held kept : List ℕ) (closes : Bool) (before after : Option (List ℕ)) : Type 0 where
    pub item : Item
    pub outcome : Outcome
    pub answered : IsAnswered c c' held item outcome
    pub last : item.closes ≡ closes
    pub kept_is : kept ≡ drop answered.len held
    pub written : Appends (reply_to number item outcome) before after

  pub record IsCutOff (c c' : C) (number : ℕ) (held : List ℕ) (before after : Option (List ℕ)) : Type 0 where
    pub item : Item
    pub outcome : Outcome
    pub answered : IsAnswered c c' held item outcome
    pub count : ℕ
    pub fewer : count < length (reply_to number item outcome)
    pub written : Appends (take count (reply_to number item outcome)) before after

  -- nothing was answered
  pub record IsStill (c c' : C) (before after : Option (List ℕ)) : Type 0 where
    pub counter : c' ≡ c
    pub written : after ≡ before

  abbrev pub IsStep : C → C → ℕ → List ℕ → List ℕ → Type 0 → Option (List ℕ) → Option (List ℕ) → Step → Type 0
  IsStep c c' number held kept ended before after Next = IsReplied c c' number held kept false before after
  IsStep c c' number held kept ended before after Last = IsReplied c c' number held kept true before after
  IsStep c c' number held kept ended before after Ended = ended × (held ≡ []) × IsStill c c' before after
  IsStep c c' number held kept ended before after Torn = ended × IsTorn held × IsStill c c' before after
  IsStep c c' number held kept ended before after Unread = IsUnfinished held × IsStill c c' before after
  IsStep c c' number held kept ended before after Unwritten = IsCutOff c c' number held before after
