-- How a command that answers with one text ends, by what it finds of the outside and leaves.
use Rattle.std.specs.Prelude.{◌≡◌, ◌≢◌, ◌⊎◌, ℕ, List}
use Rattle.office_base.specs.Outside.{IsAtEnd, Rose}
use Rattle.command_answers.specs.Answers.{Answers, Tells}
use Rattle.office_base.specs.Visible.{Readable, Streams, Writable}
use Rattle.command_answers.specs.Writes.{IsTextOf, IsUsageText, IsWantText, WritesFor}
use Rattle.command_answers.specs.declared.status.Status.{Status}
use Rattle.command_answers.specs.declared.status.Status.TheVariants.{Ok as Done, Usage, BadInput, ReadFault, WriteFault, KeeperFault, OutOfMemory}

-- the source did not fail, and neither did the sink
abbrev pub Held : Streams → Streams → Type 0
Held old new = (¬ Rose old.source.faults new.source.faults) × (¬ Rose old.sink.faults new.sink.faults)

-- this is how the command ended, unless memory ran out
abbrev pub EndedWith : (Status → Type 0) → Status → Type 0
EndedWith With status = With status ⊎ (status ≡ OutOfMemory)

-- The status reports a fault of the source or the sink only if that object failed.
-- If it reports none, that object did not fail.
-- Only a fault of the sink can hide one of the source. No fault of a keeper is reported.
pub record BlamesStreams (status : Status) (old new : Streams) : Type 0 where
  pub read : status ≡ ReadFault → Rose old.source.faults new.source.faults
  pub write : status ≡ WriteFault → Rose old.sink.faults new.sink.faults
  pub no_keeper : status ≢ KeeperFault
  pub source_steady : status ≢ ReadFault → status ≢ WriteFault → new.source.faults ≡ old.source.faults
  pub sink_steady : status ≢ WriteFault → new.sink.faults ≡ old.sink.faults

-- A fault of the sink is reported by its status, if and only if the sink failed.
pub record BlamesSink (status : Status) (old new : Writable) : Type 0 where
  pub write_fault : status ≡ WriteFault → Rose old.faults new.faults
  pub sink_steady : status ≢ WriteFault → new.faults ≡ old.faults

-- What a command that answers with one text does with the source and the sink.
-- If neither failed, an input without faults is answered, and a faulty one is refused.
pub record AnswersText (answers : Answers) (old new : Streams) (status : Status) : Type 0 where
  pub written : WritesFor (IsTextOf answers old.source.left) old.sink new.sink status
  pub read_whole : status ≡ Done → IsAtEnd new.source.left
  pub blamed : BlamesStreams status old new
  pub complete : Tells answers.IsInput old.source.left → Held old new → EndedWith (λ end. end ≡ Done) status
  pub refused : Tells answers.IsFaulty old.source.left → Held old new → EndedWith (λ end. end ≡ BadInput) status

-- nothing was read of the source
abbrev pub IsUnread : Readable → Readable → Type 0
IsUnread old new = (new.left ≡ old.left) × (new.faults ≡ old.faults)

-- the whole text that goes with each status if no command is run: the words spell none, or memory ran out to divide them
abbrev pub IsRefusalText : Status → List ℕ → Type 0
IsRefusalText status text = IsUsageText status text ⊎ IsWantText status text

-- Words that spell no command of a program are refused, and nothing is read.
pub record RefusesUsage (old new : Streams) (status : Status) : Type 0 where
  pub written : WritesFor IsRefusalText old.sink new.sink status
  pub unread : IsUnread old.source new.source
  pub blamed : BlamesStreams status old new
  pub usage : ¬ Rose old.sink.faults new.sink.faults → EndedWith (λ end. end ≡ Usage) status
