use Rattle.std.proofs.Common.{refl}
use Rattle.std.proofs.lemmas.Bool.{false≢true}
use Rattle.list_texts.proofs.ListPieceLemmas.{list-apart, list-inside, list-past, past-list}
use Rattle.list_texts.proofs.list_pieces.begins_list_head.Goals as goal

pub returns-in-Inside : goal.returns-in-Inside
returns-in-Inside c = (λ _. list-inside c.args.matrix.now c.args.piece.now c.requires c.in-Inside.ensures, λ _. refl)

pub returns-in-Past : goal.returns-in-Past
returns-in-Past c = (
  λ begins. list-past c.args.matrix.now c.args.piece.now c.in-Past.rest.now c.in-Past.ensures (c.begins_list_code.ensures.0 begins),
  λ b. c.begins_list_code.ensures.1 (past-list c.args.matrix.now c.args.piece.now c.in-Past.rest.now c.in-Past.ensures b),
)

pub returns-in-Apart : goal.returns-in-Apart
returns-in-Apart c = (λ t. absurd (false≢true t), λ b. absurd (list-apart c.args.matrix.now c.args.piece.now c.in-Apart.ensures b))
