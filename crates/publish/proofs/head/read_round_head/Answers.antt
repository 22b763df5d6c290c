use Rattle.std.proofs.Common.{◌≢◌, ◌<◌, ◌^◌, ℕ, is_some, ap, ◌∙◌, arith}
use Rattle.std.proofs.lemmas.Bool.{false≢true}
use Rattle.office_text.specs.Number.{number_within}
use Rattle.text_readers.proofs.NumberLemmas.{number-read}
use Rattle.text_readers.proofs.PartsLemmas.{if-none}
use Rattle.publish.specs.Rows.{head_words}
use Rattle.publish.specs.declared.sort.Sort.TheVariants.{Round}
use Rattle.publish.proofs.HeadPieces.{head-count, head-parts, head-whole}
use Rattle.publish.proofs.head.read_round_head.Goals as goal

pub returns-in_err-number-clause-none : goal.returns-in_err-number-clause-none
returns-in_err-number-clause-none c =
    if-none c.from_residual-in_err-number.result ((number count : ℕ) → number < 2 ^ 16 → count < 2 ^ 32 → c.args.line.now ≢ head_words Round number count) (λ number count first small is.
    head-whole c.args.line.now c.in_ok-rest.rest.now number count first small is c.in_ok-rest.ensures.some c.in_err-number.ensures.none)

pub returns-in_err-number-2-clause-none : goal.returns-in_err-number-2-clause-none
returns-in_err-number-2-clause-none c =
    if-none c.from_residual-in_err-number-2.result ((number count : ℕ) → number < 2 ^ 16 → count < 2 ^ 32 → c.args.line.now ≢ head_words Round number count) (λ number count first small is.
    let digits = (head-parts c.args.line.now c.in_ok-rest.rest.now number count first small is c.in_ok-rest.ensures.some c.in_ok-number.number.now c.in_ok-number.rest.now c.in_ok-number.ensures.some c.in_ok-number.ensures.first).0 in
    false≢true (ap is_some (c.in_err-number-2.ensures ∙ ap (number_within 0 65535) digits ∙ number-read c.numbers_are_inverse.ensures 65535 number (omega (arith, first)) (omega (arith, first)))))

pub returns-in_err-count-clause-none : goal.returns-in_err-count-clause-none
returns-in_err-count-clause-none c =
    if-none c.from_residual-in_err-count.result ((number count : ℕ) → number < 2 ^ 16 → count < 2 ^ 32 → c.args.line.now ≢ head_words Round number count) (λ number count first small is.
    c.in_err-count.ensures.none _ (head-parts c.args.line.now c.in_ok-rest.rest.now number count first small is c.in_ok-rest.ensures.some c.in_ok-number.number.now c.in_ok-number.rest.now c.in_ok-number.ensures.some c.in_ok-number.ensures.first).1)

pub returns-in_err-count-2-clause-none : goal.returns-in_err-count-2-clause-none
returns-in_err-count-2-clause-none c =
    if-none c.from_residual-in_err-count-2.result ((number count : ℕ) → number < 2 ^ 16 → count < 2 ^ 32 → c.args.line.now ≢ head_words Round number count) (λ number count first small is.
    let digits = head-count c.args.line.now c.in_ok-rest.rest.now number count first small is c.in_ok-rest.ensures.some c.in_ok-number.number.now c.in_ok-number.rest.now c.in_ok-number.ensures.some c.in_ok-number.ensures.first
    c.in_ok-count.count.now c.in_ok-count.ensures.some in
    false≢true (ap is_some (c.in_err-count-2.ensures ∙ ap (number_within 0 4294967295) digits ∙ number-read c.numbers_are_inverse.ensures 4294967295 count (omega (arith, small)) (omega (arith, small)))))
