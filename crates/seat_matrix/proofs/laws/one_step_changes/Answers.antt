use Rattle.seat_matrix.proofs.SeatsLemmas
use Rattle.seat_matrix.proofs.laws.one_step_changes.Goals as goal

pub returns : goal.returns
returns c = SeatsLemmas.one_step_changes
