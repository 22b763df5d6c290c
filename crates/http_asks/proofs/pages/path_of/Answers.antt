use Rattle.std.proofs.Common.{◌∙◌, sym, lit<}
use Rattle.http_asks.proofs.PiecesLemmas.{path-before, path-whole}
use Rattle.http_asks.proofs.pages.path_of.Goals as goal

pub returns-in-Some : goal.returns-in-Some
returns-in-Some c = (c.in-Some.ensures.byte (lit< tt) (λ w o f. f)).0 ∙ sym (path-before c.args.target.now)

pub returns-in-None : goal.returns-in-None
returns-in-None c = sym (path-whole c.args.target.now (c.in-None.ensures.byte (lit< tt) (λ w o f. f)))
