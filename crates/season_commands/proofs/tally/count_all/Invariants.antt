use Rattle.std.proofs.Common.{◌≤◌}
use Rattle.kept_rows.specs.Tables.{IsTold}
use Rattle.season_commands.proofs.Tallying.{IsCounting}
use Rattle.season_commands.proofs.tally.count_all.Given as goal

abbrev pub invariant-requests : goal.invariant-requests
invariant-requests g l =
    (IsCounting l.fn.office.season l.fn.office.state l.script l.request-index l.office.season l.office.entries l.office.state (g.P.Keeper.seen l.office.keeper).tables l.tally
    (g.P.Keeper.seen l.fn.office.keeper).faults (g.P.Keeper.seen l.office.keeper).faults × (l.tally.noted ≤ l.request-index) × (l.tally.refused ≤ l.request-index))
    × (IsTold (g.P.Keeper.seen l.office.keeper).tables → IsTold (g.P.Keeper.seen l.fn.office.keeper).tables)
