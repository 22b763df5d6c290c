-- How a session ends.
use Rattle.std.specs.Prelude.{◌≡◌, ◌≤◌, ◌<◌, ◌+◌, ◌⊎◌, ℕ, Bool, true, false, List, [], ◌∷◌, ◌++◌, Option, Result, length, take}
use Rattle.std.specs.List.{list_any}
use Rattle.office_base.specs.Outside.{Appends, Took}
use Rattle.office_asks.specs.declared.ask.Ask.{Ask}
use Rattle.http_sessions.specs.Limits.{most_messages}
use Rattle.office_links.specs.declared.outside.Link.{Ghosts as LinkGhosts}
use Rattle.http_wire.specs.Messages.{IsTorn, IsUnfinished}
use Rattle.http_sessions.specs.Exchange.{Item, Outcome, Cuts, Runs, replies, open_before, closes_last, but_last, is_last}
use Rattle.http_sessions.specs.declared.counter.Answered.{Answered}
use Rattle.http_wire.specs.declared.faults.Fault.{Fault}
use Rattle.http_sessions.specs.declared.conversation.SessionEnd.{SessionEnd}
use Rattle.http_sessions.specs.declared.conversation.SessionEnd.TheVariants.{Ended, Torn, LimitReached, LinkFault}

-- no more messages are answered: the limit is reached, or the last one closes, or no whole one follows
abbrev pub IsEnd : SessionEnd → List Item → List ℕ → Type 0
IsEnd Ended items rest = (length items < most_messages) × ((closes_last items ≡ true) ⊎ ((list_any is_last items ≡ false) × (rest ≡ [])))
IsEnd Torn items rest = (length items < most_messages) × (list_any is_last items ≡ false) × IsTorn rest
IsEnd LimitReached items rest = length items ≡ most_messages
IsEnd LinkFault items rest = ⊥

-- what a link had to read and what was written to it, before and after
pub record Talk : Type 0 where
  pub left_before : Option (List ℕ)
  pub left_after : Option (List ℕ)
  pub written_before : Option (List ℕ)
  pub written_after : Option (List ℕ)

-- the same of a link that was this one and is that one now
abbrev pub talk_over : {L : Type 0} → LinkGhosts L → L → L → Talk
talk_over link old new = record { left_before = link.left old; left_after = link.left new; written_before = link.written old; written_after = link.written new }

-- the replies were written whole
abbrev pub AreWritten : Talk → List Item → List Outcome → Type 0
AreWritten talk items outcomes = Appends (replies 1 items outcomes) talk.written_before talk.written_after

-- The link failed in a read: it did so before the hundredth reply, the replies were written whole, and what was taken
-- holds no further whole message.
pub record FailsReading (bytes : List ℕ) (talk : Talk) (items : List Item) (outcomes : List Outcome) : Type 0 where
  pub taken : List ℕ
  pub rest : List ℕ
  pub took : Took taken talk.left_before talk.left_after
  pub cuts : Cuts taken items rest
  pub unfinished : IsUnfinished rest
  pub fewer : length items < most_messages
  pub unclosed : list_any is_last items ≡ false
  pub written : AreWritten talk items outcomes

-- The link failed in a write: all replies but the last were written whole, and of the last one a prefix.
pub record FailsWriting (talk : Talk) (items : List Item) (outcomes : List Outcome) : Type 0 where
  pub count : ℕ
  pub more : length (replies 1 (but_last items) outcomes) ≤ count
  pub fewer : count < length (replies 1 items outcomes)
  pub written : Appends (take count (replies 1 items outcomes)) talk.written_before talk.written_after

abbrev pub IsTold : SessionEnd → List ℕ → Talk → List Item → List Outcome → List ℕ → Type 0
IsTold LinkFault bytes talk items outcomes rest = FailsReading bytes talk items outcomes ⊎ FailsWriting talk items outcomes
IsTold end bytes talk items outcomes rest = IsEnd end items rest × AreWritten talk items outcomes

-- A session over the bytes of a link took a counter from here to there.
pub record IsSession {C : Type 0} (R : C → Option (List ℕ) → Ask → Result Answered Fault → C → Type 0) (before after : C) (bytes : List ℕ) (talk : Talk) (end : SessionEnd) : Type 0 where
  pub items : List Item
  pub outcomes : List Outcome
  pub rest : List ℕ
  pub cuts : Cuts bytes items rest
  pub few : length items ≤ most_messages
  pub unclosed : open_before items ≡ true
  pub runs : Runs R before items outcomes after
  pub told : IsTold end bytes talk items outcomes rest
