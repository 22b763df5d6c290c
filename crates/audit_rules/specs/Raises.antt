-- Which raises a replay takes.
use Rattle.std.specs.Prelude.{Bool, not, ◌&&◌, ◌==◌, ◌+◌, ◌-◌, nat_le, nat_lt}
use Rattle.office_base.specs.Limits.{most_matrix_seats, most_step_seats}
use Rattle.office_asks.specs.declared.ask.By.{By}
use Rattle.kept_rows.specs.declared.rows.RaiseRow.{RaiseRow}
use Rattle.seat_matrix.specs.Seats.{is_dereserved}
use Rattle.office_moves.specs.Judge.{is_clerk}
use Rattle.office_moves.specs.declared.decide.RaiseFacts.{RaiseFacts}

-- the step may have so many seats, by what it has and by what all have
abbrev pub may_have : RaiseFacts → RaiseRow → Bool
may_have looks row = not (is_dereserved row.step) && (nat_lt looks.seats row.seats
    && (nat_le row.seats most_step_seats && nat_le (looks.total - looks.seats + row.seats) most_matrix_seats))

-- the clerk raises seats anew, in the open window, before the last one
abbrev pub lifts : RaiseFacts → By → RaiseRow → Bool
lifts looks by row = is_clerk by && (not looks.again && ((row.window == looks.window && nat_lt looks.window looks.rounds) && may_have looks row))
