use Rattle.published_rounds.proofs.WholeListLaws as traces
use Rattle.published_rounds.proofs.laws.rounds_leave_no_trace.Goals as goal

pub returns : goal.returns
returns c = traces.rounds_leave_no_trace (record { orderly = c.orderly.ensures; well = c.choose_well.ensures; more_seats = c.more_seats_hurt_nobody.ensures })
