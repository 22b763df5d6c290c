-- One request of a run, from the moment before it to the moment after it.
use Rattle.std.specs.Prelude.{◌≡◌, ◌⊎◌, ◌+◌, ℕ, List, Option, length, take}
use Rattle.keeper_mem.specs.Keeper.{KeeperView}
use Rattle.kept_rows.specs.Tables.{IsTold, Tables}
use Rattle.office_base.specs.Outside.{Appends}
use Rattle.office_asks.specs.declared.ask.Request.{Request}
use Rattle.office_moves.specs.Facts.{SeasonFacts}
use Rattle.office_moves.specs.State.{State}
use Rattle.office_moves.specs.Decided.{decided}
use Rattle.office_moves.specs.Moves.{IsMove}
use Rattle.office_moves.specs.History.{IsHistory, grown, newly}
use Rattle.office_moves.specs.Stands.{Stand}
use Rattle.office_moves.specs.declared.moves.Entry.{Entry}
use Rattle.office_moves.specs.declared.moves.Reply.{Reply}
use Rattle.proceedings.specs.Proceeding.{last_of}
use Rattle.round_cut.specs.Office.{OfficeView}
use Rattle.shown_replies.specs.Shown.{reply_bytes}

-- a moment of a run: the state of the office, its entries, the tables of its keeper, and what is written so far
pub record Moment : Type 0 where
  pub state : State
  pub entries : List Entry
  pub tables : Tables
  pub written : Option (List ℕ)

-- the moment of an office, by the tables of its keeper and what is written
abbrev pub moment_of : {K : Type 0} → (K → KeeperView) → OfficeView K → Option (List ℕ) → Moment
moment_of seen office written = record { state = office.state; entries = office.entries; tables = (seen office.keeper).tables; written = written }

-- the entries have what the request newly accepted, under the number after the last one
abbrev pub HasAccepted : SeasonFacts → State → Request → List Entry → List Entry → Type 0
HasAccepted facts old request held kept = kept ≡ grown held (last_of held + 1) (newly old.now (decided facts old request))

-- the request is answered, and n bytes of its reply are written
pub record IsAnsweredInPart (facts : SeasonFacts) (request : Request) (n : ℕ) (old new : Moment) : Type 0 where
  pub reply : Reply
  pub moves : IsMove facts old.state request reply new.state
  pub accepted : HasAccepted facts old.state request old.entries new.entries
  pub written : Appends (take n (reply_bytes facts new.state reply)) old.written new.written

-- the request is answered, and all bytes of its reply are written
abbrev pub IsAnswered : SeasonFacts → Request → Moment → Moment → Type 0
IsAnswered facts request old new =
    (n : ℕ) × (part : IsAnsweredInPart facts request n old new) × (n ≡ length (reply_bytes facts new.state part.reply))

-- the state and the entries are unchanged, and nothing is written
pub record IsUnanswered (old new : Moment) : Type 0 where
  pub state : new.state ≡ old.state
  pub entries : new.entries ≡ old.entries
  pub written : new.written ≡ old.written

-- nothing was done for the request, or it is answered and nothing of its reply is written
abbrev pub IsCutOff : SeasonFacts → Request → Moment → Moment → Type 0
IsCutOff facts request old new = IsUnanswered old new ⊎ IsAnsweredInPart facts request 0 old new

-- The office of the same season, in a state to which its entries lead, over tables that represent the state.
-- What is visible of the tables now was visible before.
pub record Continues {K : Type 0} (seen : K → KeeperView) (old new : OfficeView K) : Type 0 where
  pub season : new.season ≡ old.season
  pub history : IsHistory new.season new.entries new.state
  pub stands : Stand new.season new.state (seen new.keeper).tables
  pub told_before : IsTold (seen new.keeper).tables → IsTold (seen old.keeper).tables
