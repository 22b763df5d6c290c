use Rattle.std.proofs.Common.{false, Err, refl, rules}
use Rattle.office_commands.specs.Doors.{doors_of}
use Rattle.season_commands.specs.Check.{bundle_answers}
use Rattle.season_commands.proofs.RunEnds.{no_faulty_bundle}
use Rattle.command_answers.proofs.Ended.{input_is_answered}
use Rattle.door_crews.specs.Served.{telling}
use Rattle.office_commands.proofs.ServeEnds.{read_ends, unread_ends}
use Rattle.office_commands.proofs.season.serve_season.Goals as goal

pub returns-in-Ok-clause-written : goal.returns-in-Ok-clause-written
returns-in-Ok-clause-written g c =
    read_ends _ _ _ (doors_of (telling g.D.Door g.D.Conn.Link) _ _ _ _ _ _ _) c.in-Ok.season _ _ _ c.begin_and_serve.result.0 c.in-Ok.ensures.bundle c.begin_and_serve.ensures.written

pub returns-in-Ok-clause-answers : goal.returns-in-Ok-clause-answers
returns-in-Ok-clause-answers g c =
    let e = c.begin_and_serve.ensures in record {
      complete = λ tells none read kept shut. e.complete none kept.0 kept.1 shut;
      refused = λ tells read wrote. absurd (no_faulty_bundle false _ c.in-Ok.season _ c.one_bundle_answer.ensures c.in-Ok.ensures.bundle tells);
      not_empty = λ tells read kept. e.not_empty tells kept.0 kept.1;
    }

pub returns-clause-written : goal.returns-clause-written
returns-clause-written g c =
    unread_ends _ _ c.in-Err.failure _ (doors_of (telling g.D.Door g.D.Conn.Link) _ _ _ _ _ _ _) _ _ _ c.tell_failure.result c.in-Err.ensures.failure refl c.tell_failure.ensures.told

pub returns-clause-answers : goal.returns-clause-answers
returns-clause-answers g c = record {
  complete = λ tells none read kept shut. input_is_answered (bundle_answers false) _ _ (Err c.in-Err.failure) c.tell_failure.result _ _ _ (c.one_bundle_answer.ensures false) c.in-Err.ensures.failure c.tell_failure.ensures.told tells read kept.0;
  refused = search rules;
  not_empty = search rules;
}
