use Rattle.std.proofs.Common.{inl, inr, rules, subst}
use Rattle.office_moves.specs.Facts.{IsSound, SeasonFacts}
use Rattle.resume_command.proofs.ResumeEnds.{still_resumed, unresumed_ends}
use Rattle.resume_command.proofs.Unresumed.{no_office_goes_on, none_stops, row_fault_stops, sound_stops, text_fault_stops}
use Rattle.resume_command.proofs.resume.resume_office.Goals as goal

pub returns-in-Ok-clause-sound : goal.returns-in-Ok-clause-sound
returns-in-Ok-clause-sound g c after was =
    let o = c.in-Ok.ensures.ok in
    no_office_goes_on _ c.in-Ok.office.season c.in-Ok.office.state c.one_reading.ensures c.one_end.ensures (subst (λ (f : SeasonFacts). IsSound f) c.season.ensures c.says_what_is_sound.ensures)
    (still_resumed _ _ after _ _ o.told was o.resumed)

pub returns-in-Err-clause-unresumed : goal.returns-in-Err-clause-unresumed
returns-in-Err-clause-unresumed g c =
    let e = c.in-Err.ensures in
    let t = c.tell_unresumed.ensures in record {
      written = unresumed_ends _ _ c.in-Err.stopped _ _ c.tell_unresumed.result e.err e.fault t.written;
      never = search rules;
      blamed = record {
        write_fault = search rules;
        keeper_fault = search rules;
        sink_steady = search rules;
        keeper_count = search rules;
        keeper_steady = λ held wrote. e.blamed_err.steady (λ failed. elim (t.keeper failed) [ inl is ↦ held is | inr is ↦ wrote is ]);
      };
      records = record {
        none_kept = λ tells kept. none_stops _ _ c.in-Err.stopped c.tell_unresumed.result _ _ e.err tells e.fault e.blamed_err.cause kept.1 t.status t.write_fault kept.0;
        kept_text = λ tells kept. text_fault_stops _ _ c.in-Err.stopped c.tell_unresumed.result _ _ c.one_reading.ensures e.err tells e.fault e.blamed_err.cause kept.1 t.status t.write_fault kept.0;
        differs = λ tells kept. row_fault_stops _ _ c.in-Err.stopped c.tell_unresumed.result _ _ c.one_reading.ensures e.err tells e.fault e.blamed_err.cause kept.1 t.status t.write_fault kept.0;
      };
      sound = λ sound kept. sound_stops _ _ c.in-Err.stopped c.tell_unresumed.result _ _ e.err sound e.fault e.blamed_err.cause kept.1 t.status t.write_fault kept.0;
    }
