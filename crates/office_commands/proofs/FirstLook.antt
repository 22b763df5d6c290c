-- The promises of the programs for a first look are those of the office.
use Rattle.std.proofs.Common.{◌≡◌, ◌⊎◌, inl, inr, ℕ, List, [], arith, refl, subst}
use Rattle.office_base.specs.Outside.{Appends, IsAtEnd}
use Rattle.office_base.specs.Visible.{Streams}
use Rattle.kept_rows.specs.Tables.{Tables, Untold, NoSeason, Records, IsTold, still}
use Rattle.command_answers.specs.Ends.{AnswersText, BlamesStreams, Held, IsRefusalText, IsUnread, RefusesUsage}
use Rattle.command_answers.specs.Writes.{IsUsageText, IsWantText, Writes}
use Rattle.command_answers.specs.declared.status.Status.{Status}
use Rattle.command_answers.specs.declared.status.Status.TheVariants.{BadInput, WriteFault, OutOfMemory, DoorFault}
use Rattle.command_words.specs.Words.{Spell, SpellNothing}
use Rattle.command_words.specs.declared.words.Command.{Command}
use Rattle.command_words.specs.declared.words.Command.TheVariants.{Step, Check, Run, Resume, Generate}
use Rattle.command_words.specs.declared.words.OutKind.TheVariants as out_kind
use Rattle.command_words.specs.declared.words.Store.{Store}
use Rattle.season_commands.specs.Anew.{CountsAnew, Generates, RunsAnew}
use Rattle.season_commands.specs.Check.{check_answers}
use Rattle.season_commands.specs.Run.{TellsSeason}
use Rattle.step_command.specs.Step.{step_answers}
use Rattle.office_commands.specs.Blames.{Blames}
use Rattle.office_commands.specs.FirstLook.{IsTheOffice, lone_call}
use Rattle.office_commands.specs.Keeping.{EndsWith, Runs, RunsWords, WritesOf}
use Rattle.office_commands.specs.Program.{BeginsOffice, Ends, MakesSpecial, ReadsSource, Resumes, Serves, SpellServing, Succeeds, TellsFault, TellsInput}
use Rattle.office_commands.proofs.Blaming.{blames, no_door}
use Rattle.office_commands.proofs.Spelled.{runs_words}

-- what was written over these tables does not end with a fault of a door, so nobody is blamed but the streams
blames_streams : (command : Command) (old new : Streams) (before after : Tables) (status : Status) → (Serves command → ⊥)
    → ((output : List ℕ) × Ends command old.source.left before after (lone_call old new before after).doors status output) → BlamesStreams status old new
    → Blames (Serves command) status (lone_call old new before after).counts (lone_call old new before after).now_counts
blames_streams command old new before after status other ended blamed =
    blames (Serves command) old.source.faults new.source.faults old.sink.faults new.sink.faults 0 0 [] status
    (λ is. no_door command old.source.left before after (lone_call old new before after).doors ended.0 other (subst (λ (s : Status). Ends command old.source.left before after (lone_call old new before after).doors s ended.0) is ended.1))
    blamed.read blamed.write (λ is. absurd (blamed.no_keeper is)) blamed.source_steady blamed.sink_steady (λ failed write. refl) (omega arith)

-- a refusal is no fault of a door
no_door_line : (status : Status) (output : List ℕ) → Writes IsRefusalText status output → status ≡ DoorFault → ⊥
no_door_line DoorFault output (inl (inl usage)) is = usage
no_door_line DoorFault output (inl (inr want)) is = want
no_door_line DoorFault output (inr cut) is = let wrong : DoorFault ≡ WriteFault = cut.0 in cc wrong
no_door_line other output writes is = cc is

-- tables without a season had none
had_none : (after : Tables) → TellsSeason (still NoSeason after) → ⊥
had_none Untold tells = tells
had_none NoSeason tells = tells
had_none (Records kept) tells = tells

-- A command without an office to resume and without doors does over the streams what the office does.
runs_streams : (command : Command) (old new : Streams) (before after : Tables) (status : Status) → (Serves command → ⊥) → (Resumes command → ⊥) → ((store : Store) → command ≡ Resume store → ⊥) → (MakesSpecial command → ⊥)
    → WritesOf command (lone_call old new before after) status → BlamesStreams status old new
    → (ReadsSource command → Succeeds command status → IsAtEnd new.source.left) → (¬ ReadsSource command → IsUnread old.source new.source) → (¬ BeginsOffice command → after ≡ before)
    → (TellsInput command old.source.left → Held old new → Succeeds command status ⊎ (status ≡ OutOfMemory)) → (TellsFault command old.source.left → Held old new → EndsWith BadInput status)
    → (BeginsOffice command → TellsSeason (still before after) → ⊥) → Runs command (lone_call old new before after) status
runs_streams command old new before after status serves resumes resume special written blamed whole unread same complete refused empty = record {
  written = written;
  spares = record {
    read_whole = whole;
    spared = unread;
    untouched = λ begins resumed. same begins;
    spared_doors = λ other. tt;
    all_served = λ served. absurd (serves served);
    all_named = λ served. absurd (serves served);
    records_first = λ resumed. absurd (resumes resumed);
  };
  answers = record {
    complete = λ tells ready read wrote kept shut. complete tells (read, wrote);
    refused = λ tells read wrote. refused tells (read, wrote);
    not_empty = λ begins tells. absurd (empty begins tells);
    none_kept = λ resumed. absurd (resumes resumed);
    kept_text = λ resumed. absurd (resumes resumed);
    differs = λ resumed. absurd (resumes resumed);
    unasked = λ store is. absurd (resume store is);
    special_lists = λ makes. absurd (special makes);
    special_refused = λ makes. absurd (special makes);
  };
  blamed = blames_streams command old new before after status serves (written.0, written.2) blamed;
}

-- ---- by the command

runs_step : (old new : Streams) (tables : Tables) (status : Status) → AnswersText step_answers old new status → Runs Step (lone_call old new tables tables) status
runs_step old new tables status does =
    let (output, appends, writes) = does.written in
    runs_streams Step old new tables tables status (λ serves. serves) (λ resumes. resumes) (λ store same. cc same) (λ makes. makes) (output, appends, (writes, refl)) does.blamed
    (λ reads well. does.read_whole well) (λ none. absurd (none tt)) (λ begins. refl) does.complete does.refused (λ begins. absurd begins)

runs_check : (old new : Streams) (tables : Tables) (status : Status) → AnswersText check_answers old new status → Runs Check (lone_call old new tables tables) status
runs_check old new tables status does =
    let (output, appends, writes) = does.written in
    runs_streams Check old new tables tables status (λ serves. serves) (λ resumes. resumes) (λ store same. cc same) (λ makes. makes) (output, appends, (writes, refl)) does.blamed
    (λ reads well. does.read_whole well) (λ none. absurd (none tt)) (λ begins. refl) does.complete does.refused (λ begins. absurd begins)

runs_run : (store : Store) (old new : Streams) (status : Status) (does : RunsAnew old new status) → Runs (Run store) (lone_call old new NoSeason does.written.0) status
runs_run store old new status does =
    runs_streams (Run store) old new NoSeason does.written.0 status (λ serves. serves) (λ resumes. resumes) (λ other same. cc same) (λ makes. makes) does.written.2 does.blamed
    (λ reads well. does.read_whole well) (λ none. absurd (none tt)) (λ begins. absurd (begins tt)) does.complete does.refused (λ begins tells. had_none does.written.0 tells)

runs_generate : (n seed : ℕ) (old new : Streams) (tables : Tables) (status : Status) → Generates n seed old new status → Runs (Generate n seed out_kind.Text) (lone_call old new tables tables) status
runs_generate n seed old new tables status does =
    let (output, appends, writes) = does.written in
    runs_streams (Generate n seed out_kind.Text) old new tables tables status (λ serves. serves) (λ resumes. resumes) (λ store same. cc same) (λ makes. makes)
    (output, appends, (writes, refl)) does.blamed (λ reads. absurd reads) (λ none. does.unread) (λ begins. refl) (λ tells held. does.complete held) (λ tells. absurd tells) (λ begins. absurd begins)

runs_count : (n seed : ℕ) (old new : Streams) (status : Status) (does : CountsAnew n seed old new status) → Runs (Generate n seed out_kind.Run) (lone_call old new NoSeason does.written.0) status
runs_count n seed old new status does =
    runs_streams (Generate n seed out_kind.Run) old new NoSeason does.written.0 status (λ serves. serves) (λ resumes. resumes) (λ store same. cc same) (λ makes. makes)
    does.written.2 does.blamed (λ reads. absurd reads) (λ none. does.unread) (λ begins. absurd (begins tt)) (λ tells held. does.complete held) (λ tells. absurd tells) (λ begins tells. had_none does.written.0 tells)

-- ---- by the words

-- a refusal is one of the two
which : (status : Status) (output : List ℕ) → Writes IsRefusalText status output → Writes IsWantText status output ⊎ Writes IsUsageText status output
which status output (inl (inl usage)) = inr (inl usage)
which status output (inl (inr want)) = inl (inl want)
which status output (inr (is, (other, text, n, inl usage, cut))) = inr (inr (is, (other, text, n, usage, cut)))
which status output (inr (is, (other, text, n, inr want, cut))) = inl (inr (is, (other, text, n, want, cut)))

-- words that spell no command are refused
runs_nothing : (words : List (List ℕ)) (old new : Streams) (tables : Tables) (status : Status) → SpellNothing words → RefusesUsage old new status → RunsWords words (lone_call old new tables tables) status
runs_nothing words old new tables status nothing does =
    let (output, appends, writes) = does.written in record {
      written = (output, appends, elim (which status output writes) [ inl want ↦ inl (want, refl, tt) | inr usage ↦ inr (inl (nothing, (usage, refl))) ]);
      spares = λ command spelled. absurd (nothing command spelled);
      answers = λ command spelled. absurd (nothing command spelled);
      usage = λ none. record { unread = does.unread; unkept = refl; usage = does.usage };
      spared_doors = λ other. tt;
      blamed = blames (SpellServing words) old.source.faults new.source.faults old.sink.faults new.sink.faults 0 0 [] status (no_door_line status output writes)
          does.blamed.read does.blamed.write (λ is. absurd (does.blamed.no_keeper is)) does.blamed.source_steady does.blamed.sink_steady (λ failed write. refl) (omega arith);
    }

-- What a first look does with words is what the office does with them.
pub is_the_office : ((words : List (List ℕ)) (command other : Command) → Spell words command → Spell words other → command ≡ other) → (words : List (List ℕ)) (old new : Streams) (status : Status) → IsTheOffice words old new status
is_the_office one words old new status = record {
  step = λ spelled does tables. runs_words one words Step _ status spelled (runs_step old new tables status does);
  check = λ spelled does tables. runs_words one words Check _ status spelled (runs_check old new tables status does);
  run = λ store spelled does. (does.written.0, does.written.1, runs_words one words (Run store) _ status spelled (runs_run store old new status does));
  generate = λ n seed spelled does tables. runs_words one words (Generate n seed out_kind.Text) _ status spelled (runs_generate n seed old new tables status does);
  count = λ n seed spelled does. (does.written.0, does.written.1, runs_words one words (Generate n seed out_kind.Run) _ status spelled (runs_count n seed old new status does));
  usage = λ nothing does tables. runs_nothing words old new tables status nothing does;
}
