use Rattle.http_asks.proofs.PiecesLemmas.{not-two}
use Rattle.http_asks.proofs.pieces.two_pieces.Goals as goal

pub returns-in_default-Some-clause-none : goal.returns-in_default-Some-clause-none
returns-in_default-Some-clause-none c =
    not-two c.args.rest.now c.first_piece.result.0.now c.in_ok-after.field-0.now c.first_piece-2.result.0.now c.in_default-Some.field-0-1.now
    (rw c.in_ok-after.was at c.first_piece.ensures.more) (rw c.in_default-Some.is-1 at c.first_piece-2.ensures.more)
