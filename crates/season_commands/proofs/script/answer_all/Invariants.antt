use Rattle.std.proofs.Common.{◌≡◌}
use Rattle.kept_rows.specs.Tables.{IsTold}
use Rattle.season_commands.specs.Steps.{moment_of}
use Rattle.season_commands.proofs.Running.{IsRunning}
use Rattle.season_commands.proofs.script.answer_all.Given as goal

abbrev pub invariant-requests : goal.invariant-requests
invariant-requests g l = record {
  running : IsRunning l.fn.office.season l.script l.request-index l.office.season
      (moment_of g.P.Keeper.seen l.fn.office (g.K.Sink.written l.fn.sink)) (moment_of g.P.Keeper.seen l.office (g.K.Sink.written l.sink));
  keeper : (g.P.Keeper.seen l.office.keeper).faults ≡ (g.P.Keeper.seen l.fn.office.keeper).faults;
  sink : g.K.Sink.faults l.sink ≡ g.K.Sink.faults l.fn.sink;
  told_before : IsTold (g.P.Keeper.seen l.office.keeper).tables → IsTold (g.P.Keeper.seen l.fn.office.keeper).tables;
}
