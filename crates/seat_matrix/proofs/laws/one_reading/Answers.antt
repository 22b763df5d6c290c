use Rattle.seat_matrix.proofs.LawsLemmas.{one_reading}
use Rattle.seat_matrix.proofs.laws.one_reading.Goals as goal

pub returns : goal.returns
returns c = one_reading
