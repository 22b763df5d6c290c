use Rattle.std.proofs.Common.{◌≢◌, ◌∷◌, ◌++◌, ℕ, sym, ap, ◌∙◌, arith}
use Rattle.std.specs.Fmt.{decimal}
use Rattle.std.specs.Prelude.{codes}
use Rattle.step_lines.specs.Lines.{step_name}
use Rattle.text_readers.proofs.PartsLemmas.{if-none}
use Rattle.list_texts.specs.ListLines.{IsStepHead, step_words}
use Rattle.list_texts.proofs.WordLemmas.{candidates-admitted, no-candidates, no-seats, seats-candidates, seats_words, step-kind, step-seats}
use Rattle.list_texts.proofs.list_words.step_head.Goals as goal

pub returns-in_err-rest-2-clause-none : goal.returns-in_err-rest-2-clause-none
returns-in_err-rest-2-clause-none c =
    if-none c.from_residual-in_err-rest-2.result ((part : ℕ × ℕ × ℕ) → IsStepHead c.args.most part → c.args.line.now ≢ step_words c.args.kind part) (λ part may same.
    c.in_err-rest-2.ensures.none (seats_words part) (step-kind c.args.kind c.args.most c.ranges.most.fits part may c.args.line.now c.in_ok-rest.rest.now c.in_ok-rest.ensures.some same ∙ ap (λ z. z ++ seats_words part) (sym (c.as_bytes.ensures.value ∙ c.step_name.ensures))))

pub returns-in_err-seats-clause-none : goal.returns-in_err-seats-clause-none
returns-in_err-seats-clause-none c =
    if-none c.from_residual-in_err-seats.result ((part : ℕ × ℕ × ℕ) → IsStepHead c.args.most part → c.args.line.now ≢ step_words c.args.kind part) (λ part may same.
    let kind = c.in_ok-rest-2.ensures.some ∙ ap (λ z. z ++ c.in_ok-rest-2.rest.now) (c.as_bytes.ensures.value ∙ c.step_name.ensures) in
    let seats = step-seats c.args.kind c.args.most c.ranges.most.fits part may c.args.line.now c.in_ok-rest.rest.now c.in_ok-rest-2.rest.now c.in_ok-rest.ensures.some same kind in
    no-seats c.args.kind c.args.most c.ranges.most.fits part may c.in_ok-rest-2.rest.now seats c.in_err-seats.ensures.none)

pub returns-in_err-candidates-clause-none : goal.returns-in_err-candidates-clause-none
returns-in_err-candidates-clause-none c =
    if-none c.from_residual-in_err-candidates.result ((part : ℕ × ℕ × ℕ) → IsStepHead c.args.most part → c.args.line.now ≢ step_words c.args.kind part) (λ part may same.
    let kind = c.in_ok-rest-2.ensures.some ∙ ap (λ z. z ++ c.in_ok-rest-2.rest.now) (c.as_bytes.ensures.value ∙ c.step_name.ensures) in
    let seats = step-seats c.args.kind c.args.most c.ranges.most.fits part may c.args.line.now c.in_ok-rest.rest.now c.in_ok-rest-2.rest.now c.in_ok-rest.ensures.some same kind in
    let candidates = (seats-candidates c.args.kind c.args.most c.ranges.most.fits part may c.in_ok-rest-2.rest.now c.in_ok-seats.rest.now c.in_ok-seats.seats (omega (arith, c.in_ok-seats.ensures.small)) seats c.in_ok-seats.ensures.some).1 in
    no-candidates c.args.kind c.args.most c.ranges.most.fits part may c.in_ok-seats.rest.now candidates c.in_err-candidates.ensures.none)

pub returns-in_err-admitted-clause-none : goal.returns-in_err-admitted-clause-none
returns-in_err-admitted-clause-none c =
    if-none c.from_residual-in_err-admitted.result ((part : ℕ × ℕ × ℕ) → IsStepHead c.args.most part → c.args.line.now ≢ step_words c.args.kind part) (λ part may same.
    let kind = c.in_ok-rest-2.ensures.some ∙ ap (λ z. z ++ c.in_ok-rest-2.rest.now) (c.as_bytes.ensures.value ∙ c.step_name.ensures) in
    let seats = step-seats c.args.kind c.args.most c.ranges.most.fits part may c.args.line.now c.in_ok-rest.rest.now c.in_ok-rest-2.rest.now c.in_ok-rest.ensures.some same kind in
    let candidates = (seats-candidates c.args.kind c.args.most c.ranges.most.fits part may c.in_ok-rest-2.rest.now c.in_ok-seats.rest.now c.in_ok-seats.seats (omega (arith, c.in_ok-seats.ensures.small)) seats c.in_ok-seats.ensures.some).1 in
    let admitted = (candidates-admitted c.args.kind c.args.most c.ranges.most.fits part may c.in_ok-seats.rest.now c.in_ok-candidates.rest.now c.in_ok-candidates.candidates (omega (arith, c.in_ok-candidates.ensures.small)) candidates c.in_ok-candidates.ensures.some).1 in
    c.in_err-admitted.ensures.none part.2 may.2 admitted)

pub returns-clause-some : goal.returns-clause-some
returns-clause-some c =
    c.in_ok-rest.ensures.some ∙ ap (λ z. codes "step " ++ z) (c.in_ok-rest-2.ensures.some ∙ ap (λ z. z ++ c.in_ok-rest-2.rest.now) (c.as_bytes.ensures.value ∙ c.step_name.ensures)
    ∙ ap (λ z. step_name c.args.kind ++ z) (c.in_ok-seats.ensures.some ∙ ap (λ z. codes " seats " ++ (decimal c.in_ok-seats.seats ++ 32 ∷ z)) (c.in_ok-candidates.ensures.some
    ∙ ap (λ z. codes "candidates " ++ (decimal c.in_ok-candidates.candidates ++ 32 ∷ z)) c.in_ok-admitted.ensures.some)))
