use Rattle.std.proofs.Common.{refl}
use Rattle.std.proofs.lemmas.Bool.{false≢true}
use Rattle.list_texts.proofs.ListPieceLemmas.{candidates-apart, candidates-inside, candidates-past, past-candidates}
use Rattle.list_texts.proofs.list_pieces.begins_candidates.Goals as goal

pub returns-in-Inside : goal.returns-in-Inside
returns-in-Inside c = (λ _. candidates-inside c.args.most c.args.piece.now c.in-Inside.ensures, λ _. refl)

pub begins_count-requires : goal.begins_count-requires
begins_count-requires c = c.in-Past.ensures.clear c.requires

pub returns-in-Past : goal.returns-in-Past
returns-in-Past c = (
  λ begins. candidates-past c.args.most c.args.piece.now c.in-Past.rest.now c.in-Past.ensures (c.begins_count.ensures.0 begins),
  λ b. c.begins_count.ensures.1 (past-candidates c.args.most c.args.piece.now c.in-Past.rest.now c.in-Past.ensures b),
)

pub returns-in-Apart : goal.returns-in-Apart
returns-in-Apart c = (λ t. absurd (false≢true t), λ b. absurd (candidates-apart c.args.most c.args.piece.now c.in-Apart.ensures b))
