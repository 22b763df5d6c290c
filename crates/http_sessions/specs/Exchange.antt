-- The messages of a connection, what is asked, and what is replied.
use Rattle.std.specs.Prelude.{◌≡◌, ◌≤◌, ◌<◌, ◌+◌, ◌==◌, ◌||◌, ◌&&◌, ◌⊎◌, not, ℕ, Bool, true, false, List, [], ◌∷◌, ◌++◌, Option, Some, None, Result, Ok, Err, length, drop}
use Rattle.std.specs.List.{list_any}
use Rattle.office_asks.specs.declared.ask.Ask.{Ask}
use Rattle.office_base.specs.declared.errors.OutOfMemory.{OutOfMemory as Want}
use Rattle.http_sessions.specs.Limits.{most_messages}
use Rattle.http_wire.specs.Fields.{closes}
use Rattle.http_wire.specs.Messages.{Message, IsWhole, IsRefused}
use Rattle.http_asks.specs.Verdicts.{Verdict, refuses, asks, verdict_of, reads_body}
use Rattle.http_wire.specs.Replies.{reply_text, fault_body}
use Rattle.http_wire.specs.Statuses.{fault_status}
use Rattle.http_wire.specs.declared.faults.Fault.{Fault}
use Rattle.http_wire.specs.declared.faults.Fault.TheVariants.{Memory}
use Rattle.http_sessions.specs.declared.counter.Answered.{Answered}

-- ---- messages

-- A message as it is answered: the verdict on it, whether the connection closes after the reply,
-- and whether its body is read.
pub record Item : Type 0 where
  pub verdict : Verdict
  pub closes : Bool
  pub reads_body : Bool

abbrev pub item_of : Message → Item
item_of message = record { verdict = verdict_of message; closes = closes message.minor message.fields; reads_body = reads_body message }

-- bytes that are no message, and are refused with this status
abbrev pub refused_item : ℕ → Item
refused_item status = record { verdict = refuses status None; closes = true; reads_body = false }

-- the bytes begin with that message, which takes this many of them
abbrev pub IsItem : List ℕ → Item → ℕ → Type 0
IsItem bytes item len = ((message : Message) × IsWhole bytes message len × (item ≡ item_of message))
    ⊎ ((status : ℕ) × IsRefused bytes status × (item ≡ refused_item status) × (len ≡ 0))

-- the bytes are these messages, one after another, and then these bytes
abbrev pub Cuts : List ℕ → List Item → List ℕ → Type 0
Cuts bytes [] rest = rest ≡ bytes
Cuts bytes (item ∷ items) rest = (len : ℕ) × IsItem bytes item len × Cuts (drop len bytes) items rest

abbrev pub is_last : Item → Bool
is_last item = item.closes

-- none closes but the last one
abbrev pub open_before : List Item → Bool
open_before [] = true
open_before (item ∷ []) = true
open_before (item ∷ next ∷ items) = not item.closes && open_before (next ∷ items)

-- the last one closes
abbrev pub closes_last : List Item → Bool
closes_last [] = false
closes_last (item ∷ []) = item.closes
closes_last (item ∷ next ∷ items) = closes_last (next ∷ items)

abbrev pub but_last : List Item → List Item
but_last [] = []
but_last (item ∷ []) = []
but_last (item ∷ next ∷ items) = item ∷ but_last (next ∷ items)

-- ---- replies

-- What came of a message: nothing was asked; memory ran out to read its body; or the counter answered this.
pub data Outcome : Type 0 where
  wired : Outcome
  unread : Outcome
  heard : (answer : Result Answered Fault) → Outcome

abbrev pub fault_text : Bool → Fault → List ℕ
fault_text close fault = reply_text (fault_status fault) (Some (fault_body fault)) None close

-- the reply with this status and a body, or that memory ran out for the body
abbrev pub body_text : Bool → ℕ → Result (List ℕ) Want → List ℕ
body_text close status (Ok body) = reply_text status (Some body) None close
body_text close status (Err want) = fault_text close Memory

abbrev pub answered_text : Bool → Result Answered Fault → List ℕ
answered_text close (Ok answered) = body_text close answered.status answered.body
answered_text close (Err fault) = fault_text close fault

abbrev pub refusal_text : Bool → Verdict → List ℕ
refusal_text close (refuses status allow) = reply_text status None allow close
refusal_text close (asks token ask) = []

abbrev pub outcome_text : Bool → Verdict → Outcome → List ℕ
outcome_text close verdict wired = refusal_text close verdict
outcome_text close verdict unread = fault_text close Memory
outcome_text close verdict (heard answer) = answered_text close answer

-- the reply to the message of this number
unfoldable pub reply_to : ℕ → Item → Outcome → List ℕ
reply_to number item outcome = outcome_text (item.closes || number == most_messages) item.verdict outcome

-- the replies to messages, of which the first has this number
abbrev pub replies : ℕ → List Item → List Outcome → List ℕ
replies number [] outcomes = []
replies number (item ∷ items) [] = []
replies number (item ∷ items) (outcome ∷ outcomes) = reply_to number item outcome ++ replies (number + 1) items outcomes

-- ---- what is asked

abbrev pub IsRefusal : Verdict → Type 0
IsRefusal (refuses status allow) = Unit {0}
IsRefusal (asks token ask) = ⊥

abbrev pub IsAsked : Verdict → (Option (List ℕ) → Ask → Type 0) → Type 0
IsAsked (refuses status allow) P = ⊥
IsAsked (asks token ask) P = P token ask

module _ {C : Type 0} (R : C → Option (List ℕ) → Ask → Result Answered Fault → C → Type 0) where
  -- one message takes the counter from here to there
  abbrev pub Goes : C → Item → Outcome → C → Type 0
  Goes c item wired c' = IsRefusal item.verdict × (c' ≡ c)
  Goes c item unread c' = (item.reads_body ≡ true) × (c' ≡ c)
  Goes c item (heard answer) c' = IsAsked item.verdict (λ token ask. R c token ask answer c')

  -- each takes it from where the one before it left it
  abbrev pub Runs : C → List Item → List Outcome → C → Type 0
  Runs c [] [] c' = c' ≡ c
  Runs c [] (outcome ∷ outcomes) c' = ⊥
  Runs c (item ∷ items) [] c' = ⊥
  Runs c (item ∷ items) (outcome ∷ outcomes) c' = (mid : C) × Goes c item outcome mid × Runs mid items outcomes c'
