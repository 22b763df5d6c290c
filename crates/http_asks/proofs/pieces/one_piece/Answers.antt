use Rattle.std.proofs.Common.{sym}
use Rattle.http_asks.proofs.PiecesLemmas.{not-one}
use Rattle.http_asks.proofs.pieces.one_piece.Goals as goal

pub returns-in_default-Some : goal.returns-in_default-Some
returns-in_default-Some c =
    sym (not-one c.args.rest.now c.first_piece.result.0.now c.in_default-Some.field-0-1.now (rw c.in_default-Some.is-1 at c.first_piece.ensures.more))
