-- Two calls of the program with the same words that find the same end in one way. `serve` is left out.
use Rattle.std.specs.Prelude.{◌≡◌, ℕ, List, Some}
use Rattle.office_base.specs.Outside.{Appends}
use Rattle.office_base.specs.declared.outside.Source.{Ghosts as SourceGhosts}
use Rattle.office_base.specs.declared.outside.Sink.{Ghosts as SinkGhosts}
use Rattle.office_links.specs.declared.outside.Door.{Ghosts as DoorGhosts}
use Rattle.office_links.specs.declared.outside.Link.{Ghosts as LinkGhosts}
use Rattle.keeper_mem.specs.declared.keeper.Keeper.{Ghosts as KeeperGhosts}
use Rattle.command_answers.specs.Status.{IsAnswered}
use Rattle.command_answers.specs.declared.status.Status.{Status}
use Rattle.same_input_laws.specs.Keep.{HoldTheSame}
use Rattle.same_input_laws.specs.ResumeOutputs.{IsVisible}
use Rattle.office_commands.specs.Call.{Call, call_of}
use Rattle.office_commands.specs.Keeping.{RunsWords}
use Rattle.office_commands.specs.Program.{SpellServing}

-- What one call finds of the outside, and what it leaves.
pub record Objects (S K P D : Type 0) : Type 0 where
  pub source : S
  pub source_left : S
  pub sink : K
  pub sink_left : K
  pub keeper : P
  pub keeper_left : P
  pub doors : List D
  pub doors_left : List D

-- the call over them
abbrev pub call_over : {S K P D L : Type 0} → SourceGhosts S → SinkGhosts K → KeeperGhosts P → DoorGhosts D L → LinkGhosts L → Objects S K P D → Call
call_over s k p d l objects = call_of s k p d l objects.source objects.source_left objects.sink objects.sink_left objects.keeper objects.keeper_left objects.doors objects.doors_left

-- Both calls find the same: the sources have the same bytes left, the keepers hold the same tables, and all of this is visible.
pub record FindTheSame (call other : Call) : Type 0 where
  pub bytes : List ℕ
  pub left : call.left ≡ Some bytes
  pub other_left : other.left ≡ Some bytes
  pub tables : other.tables ≡ call.tables
  pub visible : IsVisible call.tables call.now_tables
  pub other_visible : IsVisible other.tables other.now_tables

-- Both calls end in one way: with one status, one output after what each sink had, and tables that hold the same.
pub record EndAsOne (call other : Call) (status end : Status) : Type 0 where
  pub one_status : status ≡ end
  pub one_output : (output : List ℕ) × Appends output call.written call.now_written × Appends output other.written other.now_written
  pub kept : HoldTheSame call.now_tables other.now_tables

-- what holds of two calls with the same words: if both find the same and end with an answer, they end in one way
abbrev pub AreOne : List (List ℕ) → Call → Call → Status → Status → Type 0
AreOne words call other status end = IsAnswered status → IsAnswered end → (SpellServing words → ⊥) → FindTheSame call other → RunsWords words call status → RunsWords words other end
    → EndAsOne call other status end

-- Two calls with the same words that find the same end in one way, also over objects of different types.
abbrev pub CallsAreOne : {S K P D L T N Q E M : Type 0} → SourceGhosts S → SinkGhosts K → KeeperGhosts P → DoorGhosts D L → LinkGhosts L → SourceGhosts T → SinkGhosts N → KeeperGhosts Q
    → DoorGhosts E M → LinkGhosts M → Type 0
CallsAreOne {S} {K} {P} {D} {L} {T} {N} {Q} {E} {M} s k p d l t n q e m = (words : List (List ℕ)) (first : Objects S K P D) (second : Objects T N Q E) (status end : Status)
    → AreOne words (call_over s k p d l first) (call_over t n q e m second) status end
