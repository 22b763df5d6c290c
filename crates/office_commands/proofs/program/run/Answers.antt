use Rattle.std.proofs.Common.{◌≡◌, ◌≢◌, ◌⊎◌, inl, inr, refl, rules}
use Rattle.season_commands.specs.Check.{check_answers}
use Rattle.step_command.specs.Step.{step_answers}
use Rattle.command_answers.specs.declared.status.Status.{Status}
use Rattle.command_answers.specs.declared.status.Status.TheVariants.{BadInput, ReadFault, Differs}
use Rattle.command_answers.proofs.Ended.{fault_is_refused, input_is_answered}
use Rattle.office_commands.proofs.Blaming.{serve_blames}
use Rattle.office_commands.proofs.Coming.{all_come}
use Rattle.office_commands.proofs.Ended.{answer_blames, text_is_written}
use Rattle.office_commands.proofs.program.run.Goals as goal

-- where nothing differs, and where nothing is read
no_difference : (result : Status) (Held : Type 0) → result ≢ Differs → ((result ≡ BadInput) ⊎ (result ≡ ReadFault) → Held) → (result ≡ BadInput) ⊎ ((result ≡ ReadFault) ⊎ (result ≡ Differs)) → Held
no_difference result Held none held (inl bad) = held (inl bad)
no_difference result Held none held (inr (inl read)) = held (inr read)
no_difference result Held none held (inr (inr differs)) = absurd (none differs)

no_read : (result : Status) (Held : Type 0) → result ≢ ReadFault → ((result ≡ BadInput) ⊎ (result ≡ Differs) → Held) → (result ≡ BadInput) ⊎ ((result ≡ ReadFault) ⊎ (result ≡ Differs)) → Held
no_read result Held none held (inl bad) = held (inl bad)
no_read result Held none held (inr (inl read)) = absurd (none read)
no_read result Held none held (inr (inr differs)) = held (inr differs)

pub returns-in-Step : goal.returns-in-Step
returns-in-Step g c =
    let e = c.step_answer.ensures in
    let told = c.finish.ensures.told in
    rw c.in-Step.is (record {
      written = text_is_written step_answers _ _ c.step_answer.result _ _ _ _ _ e.output e.failure told;
      spares = search rules;
      answers = record {
        complete = λ tells ready read wrote kept shut. input_is_answered step_answers _ _ c.step_answer.result _ _ _ _ c.one_answer.ensures.step e.failure told tells read wrote;
        refused = fault_is_refused step_answers _ _ c.step_answer.result _ _ _ _ c.one_answer.ensures.step e.output e.failure told;
        not_empty = λ begins. absurd begins;
        none_kept = λ resumes. absurd resumes;
        kept_text = λ resumes. absurd resumes;
        differs = λ resumes. absurd resumes;
        unasked = λ store same. absurd (cc same);
        special_lists = λ makes. absurd makes;
        special_refused = λ makes. absurd makes;
      };
      blamed = answer_blames _ step_answers _ _ _ _ _ _ _ c.step_answer.result _ _ _ e.failure e.steady told c.finish.ensures.steady;
    })

pub returns-in-Check : goal.returns-in-Check
returns-in-Check g c =
    let e = c.check_answer.ensures in
    let told = c.finish-in-Check.ensures.told in
    rw c.in-Check.is (record {
      written = text_is_written check_answers _ _ c.check_answer.result _ _ _ _ _ e.output e.failure told;
      spares = search rules;
      answers = record {
        complete = λ tells ready read wrote kept shut. input_is_answered check_answers _ _ c.check_answer.result _ _ _ _ c.one_answer.ensures.check e.failure told tells read wrote;
        refused = fault_is_refused check_answers _ _ c.check_answer.result _ _ _ _ c.one_answer.ensures.check e.output e.failure told;
        not_empty = λ begins. absurd begins;
        none_kept = λ resumes. absurd resumes;
        kept_text = λ resumes. absurd resumes;
        differs = λ resumes. absurd resumes;
        unasked = λ store same. absurd (cc same);
        special_lists = λ makes. absurd makes;
        special_refused = λ makes. absurd makes;
      };
      blamed = answer_blames _ check_answers _ _ _ _ _ _ _ c.check_answer.result _ _ _ e.failure e.steady told c.finish-in-Check.ensures.steady;
    })

pub returns-in-New : goal.returns-in-New
returns-in-New g c =
    let e = c.serve_season.ensures in
    rw (c.in-Serve.is, c.in-New.is) (record {
      written = e.written;
      spares = record {
        read_whole = λ reads well. e.read_whole (inl well);
        spared = λ none. absurd (none tt);
        untouched = λ begins resumes. absurd (begins tt);
        spared_doors = λ none. absurd (none tt);
        all_served = λ serves well. e.doors.all_served well;
        all_named = λ serves well. all_come g.D.Door.to_come c.in-Serve.conns c.in-Serve.workers _ _ (e.doors.all_served well);
        records_first = λ resumes. absurd resumes;
      };
      answers = record {
        complete = λ tells ready read wrote kept shut. e.answers.complete tells ready read (wrote, kept) shut;
        refused = λ tells read wrote. e.answers.refused tells read wrote;
        not_empty = λ begins tells read wrote kept. e.answers.not_empty tells read (wrote, kept);
        none_kept = λ resumes. absurd resumes;
        kept_text = λ resumes. absurd resumes;
        differs = λ resumes. absurd resumes;
        unasked = λ other same. absurd (cc same);
        special_lists = λ makes. absurd makes;
        special_refused = λ makes. absurd makes;
      };
      blamed = serve_blames g.D.Door.faults _ _ _ _ _ _ _ _ _ c.serve_season.result.0 tt e.read_blamed.read_fault e.sink.write_fault e.keeper.keeper_fault e.doors.door_fault
          e.read_blamed.source_steady e.sink.sink_steady (no_difference _ _ e.no_difference e.keeper.keeper_early) e.doors.doors_steady e.keeper.keeper_count;
    })

pub returns-in-Serve : goal.returns-in-Serve
returns-in-Serve g c =
    let e = c.serve_kept.ensures in
    rw (c.in-Serve.is, c.in-Kept.is) (record {
      written = e.written;
      spares = record {
        read_whole = λ reads. absurd reads;
        spared = λ none. (refl, refl);
        untouched = λ begins resumes. absurd (resumes tt);
        spared_doors = λ none. absurd (none tt);
        all_served = λ serves well. e.doors.all_served well;
        all_named = λ serves well. all_come g.D.Door.to_come c.in-Serve.conns c.in-Serve.workers _ _ (e.doors.all_served well);
        records_first = λ resumes early. (refl, refl);
      };
      answers = record {
        complete = λ tells ready read wrote kept shut. e.complete ready wrote kept shut;
        refused = λ tells. absurd tells;
        not_empty = λ begins. absurd begins;
        none_kept = λ resumes tells wrote kept. e.records.none_kept tells (wrote, kept);
        kept_text = λ resumes tells wrote kept. e.records.kept_text tells (wrote, kept);
        differs = λ resumes tells wrote kept. e.records.differs tells (wrote, kept);
        unasked = λ other same. absurd (cc same);
        special_lists = λ makes. absurd makes;
        special_refused = λ makes. absurd makes;
      };
      blamed = serve_blames g.D.Door.faults _ _ _ _ _ _ _ _ _ c.serve_kept.result.0 tt (λ same. absurd (e.no_read_fault same)) e.sink.write_fault e.keeper.keeper_fault e.doors.door_fault
          (λ read write. refl) e.sink.sink_steady (no_read _ _ e.no_read_fault e.keeper.keeper_early) e.doors.doors_steady e.keeper.keeper_count;
    })
