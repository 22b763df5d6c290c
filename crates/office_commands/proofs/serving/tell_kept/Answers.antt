use Rattle.std.proofs.Common.{rules, subst}
use Rattle.office_moves.specs.Facts.{IsSound, SeasonFacts}
use Rattle.office_commands.proofs.ServedEnds.{end_is_told, office_after}
use Rattle.office_commands.proofs.serving.tell_kept.Goals as goal

pub returns-clause-written : goal.returns-clause-written
returns-clause-written g c =
    end_is_told c.args.office.season c.args.office.entries _ c.args.office.state c.args.door_failed c.served_text-text.result _ _ _ c.write_served-status.result
    (office_after _ _ _ _ (subst (λ (f : SeasonFacts). IsSound f) c.season.ensures c.says_what_is_sound.ensures) c.entries-entries.ensures.history c.into_keeper.ensures.stands c.runs_its_course.ensures c.keeps_its_word.ensures)
    c.served_text-text.ensures c.write_served-status.ensures.told

pub returns-clause-sink : goal.returns-clause-sink
returns-clause-sink g c = record { write_fault = search rules; sink_steady = search rules }
