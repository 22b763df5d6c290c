use Rattle.std.proofs.Common.{ap, refl}
use Rattle.command_answers.proofs.Streamed.{usage_refused}
use Rattle.keeper_mem.specs.Memory.{Memory as Held}
use Rattle.season_program.proofs.Looking.{check_answered, count_anew, generated_anew, other_refused, run_anew}
use Rattle.season_program.proofs.look.look.Goals as goal

pub returns-in-Check : goal.returns-in-Check
returns-in-Check g c =
    let e = c.check_answer.ensures in
    rw c.in-Check.is (check_answered _ _ c.check_answer.result c.finish.result c.one_answer.ensures e.output e.ended e.failure e.count e.steady c.finish.ensures)

pub returns-in-Memory : goal.returns-in-Memory
returns-in-Memory g c =
    rw (c.in-Run.is, c.in-Memory.is) (run_anew _ _ _ _ c.run_season-status.result.0 (ap (λ (m : Held). m.tables) c.new-keeper.ensures) c.tells.ensures.told c.run_season-status.ensures.written c.run_season-status.ensures.runs)

pub returns-in-File : goal.returns-in-File
returns-in-File g c = rw (c.in-Run.is, c.in-File.is) (usage_refused _ _ c.tell_usage.result (refl, refl) c.tell_usage.ensures)

pub returns-in-Text : goal.returns-in-Text
returns-in-Text g c =
    let e = c.write_generated.ensures in
    rw (c.in-Generate.is, c.in-Text.is) (generated_anew _ _ _ _ _ c.write_generated.result e.written e.own e.sink)

pub returns-in-Run-out : goal.returns-in-Run-out
returns-in-Run-out g c =
    rw (c.in-Generate.is, c.in-Run-out.is) (count_anew _ _ _ _ _ _ _ c.run_generated-status.result.0 (ap (λ (m : Held). m.tables) c.new-keeper-in-Run-out.ensures) c.tells-in-Run-out.ensures.told c.run_generated-status.ensures.written c.run_generated-status.ensures.runs)

pub returns-in_default : goal.returns-in_default
returns-in_default g c = other_refused c.args.command.now _ _ _ c.in_default.not-Check c.in_default.not-Run c.in_default.not-Generate (usage_refused _ _ _ (refl, refl) c.tell_usage-in_default.ensures)
