-- The commands that begin a season, over a new keeper in memory.
use Rattle.std.proofs.Common.{◌≡◌, ◌≤◌, ◌⊎◌, ◌∙◌, inl, inr, ℕ, true, List, Result, arith, refl, subst, sym}
use Rattle.std.specs.Prelude.{IfErr, IfOk, IsErrOf, OnOk}
use Rattle.office_base.specs.FaultLines.{memory_line}
use Rattle.office_base.specs.Outside.{IsAtEnd, Rose}
use Rattle.office_base.specs.Visible.{Readable, Streams, Writable}
use Rattle.kept_rows.specs.Tables.{Tables, Untold, NoSeason, Records, IsTold, still}
use Rattle.command_answers.specs.Answers.{HasLeft, HaveOneAnswer, IsFailureOf}
use Rattle.command_answers.specs.Ends.{AnswersText, BlamesSink, IsUnread, RefusesUsage}
use Rattle.command_answers.specs.Writes.{IsWantText, Told, WritesFor, status_of, text_of}
use Rattle.command_answers.specs.declared.failure.Failure.{Failure}
use Rattle.command_answers.specs.declared.failure.Failure.TheVariants.{Read}
use Rattle.command_answers.specs.declared.status.Status.{Status}
use Rattle.command_answers.specs.declared.status.Status.TheVariants.{Ok as Done, ReadFault, WriteFault, KeeperFault, OutOfMemory}
use Rattle.command_answers.proofs.Ended.{status_is_told, told_is_written}
use Rattle.command_answers.proofs.Streamed.{text_answered, want_answered, want_refused}
use Rattle.command_words.specs.declared.words.Command.{Command}
use Rattle.command_words.specs.declared.words.Command.TheVariants.{Check, Run, Generate}
use Rattle.command_words.specs.declared.words.OutKind.{OutKind}
use Rattle.command_words.specs.declared.words.OutKind.TheVariants as out_kind
use Rattle.command_words.specs.declared.words.Store.{Store}
use Rattle.command_words.specs.declared.words.Store.TheVariants.{Memory}
use Rattle.season_commands.specs.Anew.{CountsAnew, Generates, RunsAnew}
use Rattle.season_commands.specs.Check.{IsBundle, IsFaultyBundle, bundle_answers, check_answers}
use Rattle.season_commands.specs.Generated.{EndsGeneratedRun, IsGeneratedText}
use Rattle.season_commands.specs.Outside.{Outside, Outputs}
use Rattle.season_commands.specs.Run.{EndsRun, RunsInput, RunsScript, TellsNoSeason}
use Rattle.season_program.specs.Look.{Looks}

-- a sink, and a keeper that never failed, with these tables
abbrev outside : Writable → Tables → Outside
outside sink tables = record { written = sink.written; write_faults = sink.faults; tables = tables; keeper_faults = 0 }

-- tables without a season had none, if the tables after them are visible
had_none : (after : Tables) → IsTold after → TellsNoSeason (still NoSeason after)
had_none Untold told = told
had_none NoSeason told = tt
had_none (Records kept) told = tt

-- What was run over such tables.
pub run_anew : (old new : Streams) (before after : Tables) (status : Status) → before ≡ NoSeason → IsTold after
    → Outputs (EndsRun old.source.left) (outside old.sink before) (outside new.sink after) status
    → RunsInput (IsBundle true) (IsFaultyBundle true) old.source new.source (outside old.sink before) (outside new.sink after) status → RunsAnew old new status
run_anew old new before after status none told written runs =
    let here = subst (λ (t : Tables). RunsInput (IsBundle true) (IsFaultyBundle true) old.source new.source (outside old.sink t) (outside new.sink after) status) none runs in record {
      written = (after, told, subst (λ (t : Tables). Outputs (EndsRun old.source.left) (outside old.sink t) (outside new.sink after) status) none written);
      read_whole = here.read_whole;
      blamed = record {
        read = here.read_blamed.read_fault;
        write = here.blamed.write_fault;
        no_keeper = λ is. let rose = here.blamed.keeper_fault is in omega (arith, rose);
        source_steady = here.read_blamed.source_steady;
        sink_steady = here.blamed.sink_steady;
      };
      complete = λ tells held. here.complete tells (had_none after told) held.0 (held.1, λ rose. omega (arith, rose));
      refused = λ tells held. here.refused tells held.0 held.1;
    }

-- What was counted over such tables.
pub count_anew : (n seed : ℕ) (source : Readable) (sink sink_now : Writable) (before after : Tables) (status : Status) → before ≡ NoSeason → IsTold after
    → Outputs (EndsGeneratedRun n seed) (outside sink before) (outside sink_now after) status → RunsScript (outside sink before) (outside sink_now after) status
    → CountsAnew n seed (record { source = source; sink = sink }) (record { source = source; sink = sink_now }) status
count_anew n seed source sink sink_now before after status none told written runs =
    let here = subst (λ (t : Tables). RunsScript (outside sink t) (outside sink_now after) status) none runs in record {
      written = (after, told, subst (λ (t : Tables). Outputs (EndsGeneratedRun n seed) (outside sink t) (outside sink_now after) status) none written);
      unread = (refl, refl);
      blamed = record {
        read = λ is. absurd (here.no_read_fault is);
        write = here.blamed.write_fault;
        no_keeper = λ is. let rose = here.blamed.keeper_fault is in omega (arith, rose);
        source_steady = λ read write. refl;
        sink_steady = here.blamed.sink_steady;
      };
      complete = λ held. here.complete (had_none after told) (held.1, λ rose. omega (arith, rose));
    }

-- What was generated.
pub generated_anew : (n seed : ℕ) (source : Readable) (sink sink_now : Writable) (status : Status) → WritesFor (IsGeneratedText n seed) sink sink_now status
    → (status ≡ Done) ⊎ ((status ≡ OutOfMemory) ⊎ (status ≡ WriteFault)) → BlamesSink status sink sink_now
    → Generates n seed (record { source = source; sink = sink }) (record { source = source; sink = sink_now }) status
generated_anew n seed source sink sink_now status written own blamed = record {
  written = written;
  unread = (refl, refl);
  blamed = record {
    read = λ is. elim own [
      | inl done ↦ let wrong : ReadFault ≡ Done = sym is ∙ done in absurd (cc wrong)
      | inr (inl none) ↦ let wrong : ReadFault ≡ OutOfMemory = sym is ∙ none in absurd (cc wrong)
      | inr (inr cut) ↦ let wrong : ReadFault ≡ WriteFault = sym is ∙ cut in absurd (cc wrong)
    ];
    write = blamed.write_fault;
    no_keeper = λ is. elim own [
      | inl done ↦ let wrong : KeeperFault ≡ Done = sym is ∙ done in cc wrong
      | inr (inl none) ↦ let wrong : KeeperFault ≡ OutOfMemory = sym is ∙ none in cc wrong
      | inr (inr cut) ↦ let wrong : KeeperFault ≡ WriteFault = sym is ∙ cut in cc wrong
    ];
    source_steady = λ read write. refl;
    sink_steady = blamed.sink_steady;
  };
  complete = λ held. elim own [ inl done ↦ inl done | inr (inl none) ↦ inr none | inr (inr cut) ↦ absurd (held.1 (blamed.write_fault cut)) ];
}

-- What was read of a bundle is answered under `check`.
pub check_answered : (old new : Streams) (answer : Result (List ℕ) Failure) (status : Status) → ((bytes : List ℕ) → HaveOneAnswer check_answers bytes)
    → IfOk answer (HasLeft check_answers.IsOutput old.source.left) → OnOk answer (IsAtEnd new.source.left) → IfErr answer (IsFailureOf check_answers old.source.left (Rose old.source.faults new.source.faults))
    → old.source.faults ≤ new.source.faults → (¬ IsErrOf answer Read → new.source.faults ≡ old.source.faults) → Told (status_of answer) (text_of answer) old.sink new.sink status → AnswersText check_answers old new status
check_answered old new answer status laws output ended failure count steady told =
    text_answered check_answers old new answer status laws (record { output = output; ended = ended; failure = failure; count = count; steady = steady }) told

-- What is done under a command is done under the same command by another name.
pub looks_as : (command other : Command) (old new : Streams) (status : Status) → command ≡ other → Looks other old new status → Looks command old new status
looks_as command other old new status same looks = subst (λ (k : Command). Looks k old new status) (sym same) looks

-- A command that is none of the three is refused.
pub other_refused : (command : Command) (old new : Streams) (status : Status) → (command ≡ Check → ⊥) → ((store : Store) → command ≡ Run store → ⊥) → ((n seed : ℕ) (out : OutKind) → command ≡ Generate n seed out → ⊥)
    → RefusesUsage old new status → Looks command old new status
other_refused Check old new status check run generate refused = absurd (check refl)
other_refused (Run store) old new status check run generate refused = absurd (run store refl)
other_refused (Generate n seed out) old new status check run generate refused = absurd (generate n seed out refl)
other_refused other old new status check run generate refused = refused

-- What a command did if memory ran out before anything was read.
pub want_looked : (command : Command) (old new : Streams) (status : Status) → ((bytes : List ℕ) → HaveOneAnswer check_answers bytes) → ((bytes : List ℕ) → HaveOneAnswer (bundle_answers true) bytes)
    → IsUnread old.source new.source → Told OutOfMemory memory_line old.sink new.sink status → Looks command old new status
want_looked Check old new status one bundle unread told = want_answered check_answers old new status one unread told
want_looked (Run Memory) old new status one bundle unread told =
    let want = want_answered (bundle_answers true) old new status bundle unread told in
    let (output, appends, writes) = want.written in record {
      written = (NoSeason, tt, (output, appends, inl (writes, refl)));
      read_whole = want.read_whole;
      blamed = want.blamed;
      complete = want.complete;
      refused = want.refused;
    }
want_looked (Generate n seed out_kind.Text) old new status one bundle unread told = record {
  written = told_is_written (IsGeneratedText n seed) OutOfMemory status memory_line _ _ _ refl told.told;
  unread = unread;
  blamed = (want_answered check_answers old new status one unread told).blamed;
  complete = λ held. inr (status_is_told OutOfMemory status memory_line _ _ _ told.told held.1);
}
want_looked (Generate n seed out_kind.Run) old new status one bundle unread told =
    let (output, appends, writes) = told_is_written IsWantText OutOfMemory status memory_line _ _ _ refl told.told in record {
      written = (NoSeason, tt, (output, appends, inl (writes, refl)));
      unread = unread;
      blamed = (want_answered check_answers old new status one unread told).blamed;
      complete = λ held. inr (status_is_told OutOfMemory status memory_line _ _ _ told.told held.1);
    }
want_looked other old new status one bundle unread told = want_refused old new status unread told
