use Rattle.std.proofs.Common.{refl}
use Rattle.std.proofs.lemmas.Bool.{false≢true}
use Rattle.list_texts.proofs.ListPieceLemmas.{seats-apart, seats-inside, seats-past, past-seats}
use Rattle.list_texts.proofs.list_pieces.begins_seats.Goals as goal

pub returns-in-Inside : goal.returns-in-Inside
returns-in-Inside c = (λ _. seats-inside c.args.most c.args.piece.now c.in-Inside.ensures, λ _. refl)

pub begins_candidates-requires : goal.begins_candidates-requires
begins_candidates-requires c = c.in-Past.ensures.clear c.requires

pub returns-in-Past : goal.returns-in-Past
returns-in-Past c = (
  λ begins. seats-past c.args.most c.args.piece.now c.in-Past.rest.now c.in-Past.ensures (c.begins_candidates.ensures.0 begins),
  λ b. c.begins_candidates.ensures.1 (past-seats c.args.most c.args.piece.now c.in-Past.rest.now c.in-Past.ensures b),
)

pub returns-in-Apart : goal.returns-in-Apart
returns-in-Apart c = (λ t. absurd (false≢true t), λ b. absurd (seats-apart c.args.most c.args.piece.now c.in-Apart.ensures b))
