-- What commands that answer with one text do with a source and a sink.
use Rattle.std.proofs.Common.{◌≡◌, ◌⊎◌, ◌∙◌, inl, inr, ℕ, List, Result, Ok, Err, refl, rules, sym}
use Rattle.std.specs.Prelude.{OnOk}
use Rattle.office_base.specs.FaultLines.{memory_line}
use Rattle.office_base.specs.Visible.{Streams}
use Rattle.command_answers.specs.Answers.{Answer, Answers, HaveOneAnswer}
use Rattle.command_answers.specs.Ends.{AnswersText, BlamesStreams, IsRefusalText, IsUnread, RefusesUsage}
use Rattle.command_answers.specs.Writes.{Told, status_of, text_of, usage_line}
use Rattle.command_answers.specs.declared.failure.Failure.{Failure}
use Rattle.command_answers.specs.declared.failure.Failure.TheVariants.{Read, Bad, NoMemory}
use Rattle.command_answers.specs.declared.status.Status.{Status}
use Rattle.command_answers.specs.declared.status.Status.TheVariants.{Ok as Done, Usage, ReadFault, WriteFault, KeeperFault, OutOfMemory}
use Rattle.command_answers.proofs.Ended.{answer_is_written, fault_is_refused, input_is_answered, no_keeper, no_write, read_alone, source_held, told_is_written}

-- an answer with the status of success is an output
at_end : (answer : Result (List ℕ) Failure) (Ended : Type 0) → OnOk answer Ended → Done ≡ status_of answer → Ended
at_end (Ok output) Ended ended same = ended
at_end (Err Read) Ended ended same = absurd (cc same)
at_end (Err (Bad line)) Ended ended same = absurd (cc same)
at_end (Err NoMemory) Ended ended same = absurd (cc same)

-- the answer blames the source and the sink if they failed
answer_blames : (answers : Answers) (old new : Streams) (answer : Result (List ℕ) Failure) (status : Status) → Answer answers old.source new.source answer
    → Told (status_of answer) (text_of answer) old.sink new.sink status → BlamesStreams status old new
answer_blames answers old new answer status made told = record {
  read = λ is. elim told.told [
    | inl whole ↦ read_alone answers old.source.left _ answer made.failure (sym is ∙ whole.0)
    | inr cut ↦ let wrong : ReadFault ≡ WriteFault = sym is ∙ cut.0 in absurd (cc wrong)
  ];
  write = λ is. elim told.told [ inl whole ↦ absurd (no_write answer (sym is ∙ whole.0)) | inr cut ↦ cut.1 ];
  no_keeper = λ is. elim told.told [
    | inl whole ↦ no_keeper answer (sym is ∙ whole.0)
    | inr cut ↦ let wrong : KeeperFault ≡ WriteFault = sym is ∙ cut.0 in cc wrong
  ];
  source_steady = λ read write. source_held answer status _ _ _ _ made.steady told.told read write;
  sink_steady = told.steady;
}

-- What was read is answered.
pub text_answered : (answers : Answers) (old new : Streams) (answer : Result (List ℕ) Failure) (status : Status) → ((bytes : List ℕ) → HaveOneAnswer answers bytes)
    → Answer answers old.source new.source answer → Told (status_of answer) (text_of answer) old.sink new.sink status → AnswersText answers old new status
text_answered answers old new answer status laws made told = record {
  written = answer_is_written answers old.source.left _ answer status _ _ _ made.output made.failure told.told;
  read_whole = λ is. elim told.told [
    | inl whole ↦ at_end answer _ made.ended (sym is ∙ whole.0)
    | inr cut ↦ let wrong : Done ≡ WriteFault = sym is ∙ cut.0 in absurd (cc wrong)
  ];
  blamed = answer_blames answers old new answer status made told;
  complete = λ tells held. input_is_answered answers old.source.left _ answer status _ _ _ laws made.failure told.told tells held.0 held.1;
  refused = λ tells held. fault_is_refused answers old.source.left _ answer status _ _ _ laws made.output made.failure told.told tells held.0 held.1;
}

-- So it is if memory ran out before anything was read,
pub want_answered : (answers : Answers) (old new : Streams) (status : Status) → ((bytes : List ℕ) → HaveOneAnswer answers bytes) → IsUnread old.source new.source
    → Told OutOfMemory memory_line old.sink new.sink status → AnswersText answers old new status
want_answered answers old new status laws unread told = text_answered answers old new (Err NoMemory) status laws (record {
  output = tt;
  ended = tt;
  failure = tt;
  count = search rules;
  steady = λ other. unread.1;
}) told

-- if the sink did not fail, a refusal with this status has it
refused : (wanted : Status) (old new : Streams) (text : List ℕ) (status : Status) → IsRefusalText wanted text → (wanted ≡ Usage) ⊎ (wanted ≡ OutOfMemory) → IsUnread old.source new.source
    → Told wanted text old.sink new.sink status → RefusesUsage old new status
refused wanted old new text status is one unread told = record {
  written = told_is_written IsRefusalText wanted status text _ _ _ is told.told;
  unread = unread;
  blamed = search rules;
  usage = λ held. search rules;
}

-- and so are words refused that spell no command.
pub usage_refused : (old new : Streams) (status : Status) → IsUnread old.source new.source → Told Usage usage_line old.sink new.sink status → RefusesUsage old new status
usage_refused old new status unread told = refused Usage old new usage_line status (inl refl) (inl refl) unread told

pub want_refused : (old new : Streams) (status : Status) → IsUnread old.source new.source → Told OutOfMemory memory_line old.sink new.sink status → RefusesUsage old new status
want_refused old new status unread told = refused OutOfMemory old new memory_line status (inr refl) (inr refl) unread told
