use Rattle.std.proofs.Common.{◌≡◌, None, Some, false, rules, true}
use Rattle.sqlite.specs.Held.{state}
use Rattle.stored_tables.specs.Told.{told}
use Rattle.keeper_mem.specs.declared.keeper.Keeper.{Ghosts as KeeperGhosts}
use Rattle.keeper_sqlite.specs.Stored.{Stored}
use Rattle.allocation_cli.proofs.Running.{runs_at_once, runs_waiting}
use Rattle.allocation_cli.proofs.answer_over.Goals as goal

pub returns-in-None-clause-runs : goal.returns-in-None-clause-runs
returns-in-None-clause-runs g c =
    let is : c.args.service.now ≡ None = search rules in
    runs_at_once _ _ _ c.args.words.now c.args.service.now _ c.args.keeper c.answer.result.1 is c.answer.result.0 c.answer.ensures.runs

pub returns-in-Some-clause-runs : goal.returns-in-Some-clause-runs
returns-in-Some-clause-runs g c =
    let is : c.args.service.now ≡ Some c.in-Some.field-0 = search rules in
    let p : KeeperGhosts (Stored _) =
    record { seen = λ k. record { tables = told (state g.A.Store k.connection); kept = told (state g.A.Store k.connection); settled = true; faults = k.faults; holds_room = false; spare = 0 } } in
    runs_waiting p _ _ c.args.words.now c.args.service.now _ c.args.keeper c.new-waiting.result c.answer-ended.result.1 c.into_keeper.result _ c.new-waiting.ensures is c.into_keeper.ensures c.answer-ended.result.0 c.answer-ended.ensures.runs
