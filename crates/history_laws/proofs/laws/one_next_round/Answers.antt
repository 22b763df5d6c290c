use Rattle.std.proofs.Common.{◌+◌}
use Rattle.office_moves.specs.Moves.{guaranteed_next, next_seeks}
use Rattle.office_moves.specs.Raised.{matrix_at}
use Rattle.history_laws.proofs.laws.one_next_round.Goals as goal

pub returns : goal.returns
returns c = λ facts state sound orderly round other first second.
    c.one_round.ensures facts (guaranteed_next facts state) (matrix_at facts state) (state.now + 1) (next_seeks facts state) round other sound orderly.seats orderly.programmes first second
