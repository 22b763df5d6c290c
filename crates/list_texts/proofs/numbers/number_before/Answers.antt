use Rattle.std.proofs.Common.{◌≢◌, ◌≤◌, ◌∷◌, ◌++◌, ℕ, List, is_some, ap, ◌∙◌, arith}
use Rattle.std.proofs.lemmas.Bool.{false≢true}
use Rattle.std.specs.Fmt.{decimal}
use Rattle.office_text.specs.Number.{number_within}
use Rattle.text_readers.proofs.NumberLemmas.{number-read, number-written}
use Rattle.text_readers.proofs.PartsLemmas.{if-none}
use Rattle.list_texts.proofs.NumberLines.{before-parts, before-whole}
use Rattle.list_texts.proofs.numbers.number_before.Goals as goal

pub returns-in_err-number-clause-none : goal.returns-in_err-number-clause-none
returns-in_err-number-clause-none c =
    if-none c.from_residual.result ((n : ℕ) (rest : List ℕ) → n ≤ c.args.high → c.args.bytes.now ≢ decimal n ++ 32 ∷ rest) (λ n rest within same.
    before-whole c.args.bytes.now n rest (omega (arith, within, c.ranges.high.fits)) same c.in_err-number.ensures.none)

pub returns-in_err-number-2-clause-none : goal.returns-in_err-number-2-clause-none
returns-in_err-number-2-clause-none c =
    if-none c.from_residual-in_err-number-2.result ((n : ℕ) (rest : List ℕ) → n ≤ c.args.high → c.args.bytes.now ≢ decimal n ++ 32 ∷ rest) (λ n rest within same.
    let digits = (before-parts c.args.bytes.now n rest (omega (arith, within, c.ranges.high.fits)) same c.in_ok-number.number.now c.in_ok-number.rest.now c.in_ok-number.ensures.some c.in_ok-number.ensures.first).0 in
    false≢true (ap is_some (c.in_err-number-2.ensures ∙ ap (number_within 0 c.args.high) digits ∙ number-read c.numbers_are_inverse.ensures c.args.high n (omega (arith, within, c.ranges.high.fits)) within)))

pub returns-clause-small : goal.returns-clause-small
returns-clause-small c =
    (number-written c.numbers_are_inverse.ensures 0 c.args.high c.in_ok-number-2.number c.in_ok-number.number.now (omega (arith, c.ranges.high.fits)) c.in_ok-number-2.ensures).1

pub returns-clause-some : goal.returns-clause-some
returns-clause-some c =
    let written = number-written c.numbers_are_inverse.ensures 0 c.args.high c.in_ok-number-2.number c.in_ok-number.number.now (omega (arith, c.ranges.high.fits)) c.in_ok-number-2.ensures in
    c.in_ok-number.ensures.some ∙ ap (λ z. z ++ 32 ∷ c.in_ok-number.rest.now) written.0
