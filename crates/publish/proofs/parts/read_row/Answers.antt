use Rattle.std.proofs.Common.{◌∷◌, ◌++◌, is_some, ap, sym, ◌∙◌, arith}
use Rattle.std.proofs.lemmas.Bool.{false≢true}
use Rattle.std.specs.Fmt.{decimal}
use Rattle.office_text.specs.Number.{number_within}
use Rattle.published_texts.specs.Texts.{code_in}
use Rattle.text_readers.proofs.NumberLemmas.{number-read, number-written}
use Rattle.text_readers.proofs.PartsLemmas.{if-none}
use Rattle.publish.specs.Rows.{IsNoRow}
use Rattle.publish.proofs.RowLemmas.{no-kind, row-cand, row-code, row-half, row-whole, kind-written}
use Rattle.publish.proofs.parts.read_row.Goals as goal

pub returns-in_err-cand-clause-none : goal.returns-in_err-cand-clause-none
returns-in_err-cand-clause-none c =
    if-none c.from_residual-in_err-cand.result (IsNoRow c.args.word.now c.args.matrix.now c.args.line.now) (λ cand prog step small row.
    row-whole c.args.word.now c.args.matrix.now c.args.line.now cand prog step c.requires small row c.in_ok-rest.rest.now c.in_ok-rest.ensures.some c.in_err-cand.ensures.none)

pub returns-in_err-code-clause-none : goal.returns-in_err-code-clause-none
returns-in_err-code-clause-none c =
    if-none c.from_residual-in_err-code.result (IsNoRow c.args.word.now c.args.matrix.now c.args.line.now) (λ cand prog step small row.
    row-half c.args.word.now c.args.matrix.now c.args.line.now cand prog step c.requires small row c.in_ok-rest.rest.now c.in_ok-cand.cand.now c.in_ok-cand.rest.now c.in_ok-rest.ensures.some
    c.in_ok-cand.ensures.some c.in_ok-cand.ensures.first c.in_err-code.ensures.none)

pub returns-in_err-cand-2-clause-none : goal.returns-in_err-cand-2-clause-none
returns-in_err-cand-2-clause-none c =
    if-none c.from_residual-in_err-cand-2.result (IsNoRow c.args.word.now c.args.matrix.now c.args.line.now) (λ cand prog step small row.
    let digits = (row-cand c.args.word.now c.args.matrix.now c.args.line.now cand prog step c.requires small row c.in_ok-rest.rest.now c.in_ok-cand.cand.now c.in_ok-cand.rest.now
    c.in_ok-rest.ensures.some c.in_ok-cand.ensures.some c.in_ok-cand.ensures.first).0 in
    false≢true (ap is_some (c.in_err-cand-2.ensures ∙ ap (number_within 0 4294967295) digits ∙ number-read c.numbers_are_inverse.ensures 4294967295 cand (omega (arith, small)) (omega (arith, small)))))

pub returns-in_err-prog-clause-none : goal.returns-in_err-prog-clause-none
returns-in_err-prog-clause-none c =
    if-none c.from_residual-in_err-prog.result (IsNoRow c.args.word.now c.args.matrix.now c.args.line.now) (λ cand prog step small row.
    c.in_err-prog.ensures.none prog row.within (row-code c.args.word.now c.args.matrix.now c.args.line.now cand prog step c.requires small row c.in_ok-rest.rest.now c.in_ok-cand.cand.now c.in_ok-cand.rest.now
    c.in_ok-code.code.now c.in_ok-code.step.now c.in_ok-rest.ensures.some c.in_ok-cand.ensures.some c.in_ok-cand.ensures.first c.in_ok-code.ensures.some c.in_ok-code.ensures.first).0)

pub returns-in_err-step-clause-none : goal.returns-in_err-step-clause-none
returns-in_err-step-clause-none c =
    if-none c.from_residual-in_err-step.result (IsNoRow c.args.word.now c.args.matrix.now c.args.line.now) (λ cand prog step small row.
    no-kind c.in_ok-code.step.now (sym c.in_err-step.ensures) step (row-code c.args.word.now c.args.matrix.now c.args.line.now cand prog step c.requires small row c.in_ok-rest.rest.now c.in_ok-cand.cand.now c.in_ok-cand.rest.now
    c.in_ok-code.code.now c.in_ok-code.step.now c.in_ok-rest.ensures.some c.in_ok-cand.ensures.some c.in_ok-cand.ensures.first c.in_ok-code.ensures.some c.in_ok-code.ensures.first).1)

pub returns-clause-some : goal.returns-clause-some
returns-clause-some c =
    let number = number-written c.numbers_are_inverse.ensures 0 4294967295 c.in_ok-cand-2.cand c.in_ok-cand.cand.now (omega arith) c.in_ok-cand-2.ensures in
    let (within, code) = c.in_ok-prog.ensures.some in
    record {
      same = c.in_ok-rest.ensures.some ∙ ap (λ z. c.args.word.now ++ z) (c.in_ok-cand.ensures.some ∙ ap (λ z. z ++ 32 ∷ c.in_ok-cand.rest.now) number.0
          ∙ ap (λ z. decimal c.in_ok-cand-2.cand ++ 32 ∷ z) (c.in_ok-code.ensures.some ∙ ap (λ z. z ++ 32 ∷ c.in_ok-code.step.now) code
          ∙ ap (λ z. code_in c.args.matrix.now c.in_ok-prog.prog.0 ++ 32 ∷ z) (kind-written c.in_ok-code.step.now c.in_ok-step.step (sym c.in_ok-step.ensures))));
      within = within;
    }
