use Rattle.std.proofs.Common.{◌≢◌, ◌∷◌, ◌++◌, ℕ, sym, ap, ◌∙◌, arith}
use Rattle.std.specs.Fmt.{decimal}
use Rattle.std.specs.Prelude.{codes}
use Rattle.published_texts.specs.Texts.{code_in}
use Rattle.text_readers.proofs.PartsLemmas.{if-none}
use Rattle.list_texts.specs.ListLines.{IsListHead, list_words}
use Rattle.list_texts.proofs.NumberLines.{numbers-one}
use Rattle.list_texts.proofs.list_words.list_head.Goals as goal

pub returns-in_err-number-clause-none : goal.returns-in_err-number-clause-none
returns-in_err-number-clause-none c =
    if-none c.from_residual.result ((part : ℕ × ℕ) → IsListHead c.args.matrix.now part → c.args.line.now ≢ list_words c.args.matrix.now part) (λ part may same.
    c.in_err-number.ensures.none part.0 (code_in c.args.matrix.now part.1) (omega (arith, may.0)) same)

pub returns-in_err-prog-clause-none : goal.returns-in_err-prog-clause-none
returns-in_err-prog-clause-none c =
    if-none c.from_residual-in_err-prog.result ((part : ℕ × ℕ) → IsListHead c.args.matrix.now part → c.args.line.now ≢ list_words c.args.matrix.now part) (λ part may same.
    let one = numbers-one (codes "list ") c.in_ok-number.number part.0 c.in_ok-number.code.now (code_in c.args.matrix.now part.1) (omega (arith, c.in_ok-number.ensures.small)) (omega (arith, may.0)) (sym c.in_ok-number.ensures.some ∙ same) in
    c.in_err-prog.ensures.none part.1 may.1 one.1)

pub returns-clause-some : goal.returns-clause-some
returns-clause-some c = c.in_ok-number.ensures.some ∙ ap (λ z. codes "list " ++ (decimal c.in_ok-number.number ++ 32 ∷ z)) c.in_ok-prog.ensures.some.1
