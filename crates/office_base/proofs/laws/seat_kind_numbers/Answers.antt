use Rattle.office_base.proofs.SeatKinds.{seat_kind_at, seat_kind_number_at}
use Rattle.office_base.proofs.laws.seat_kind_numbers.Goals as goal

pub returns : goal.returns
returns c = (seat_kind_at, seat_kind_number_at)
