use Rattle.std.proofs.Common.{◌≢◌, ◌≤◌, ◌++◌, ℕ, sym, ap, ◌∙◌}
use Rattle.std.proofs.lemmas.List.{append_cancel_left}
use Rattle.std.specs.Fmt.{decimal}
use Rattle.text_readers.proofs.PartsLemmas.{if-none}
use Rattle.list_texts.proofs.numbers.count_after.Goals as goal

pub returns-in_err-count-clause-none : goal.returns-in_err-count-clause-none
returns-in_err-count-clause-none c =
    if-none c.from_residual-in_err-count.result ((n : ℕ) → n ≤ c.args.high → c.args.line.now ≢ c.args.word.now ++ decimal n) (λ n within same.
    c.in_err-count.ensures.none n within (append_cancel_left c.args.word.now c.in_ok-rest.rest.now (decimal n) (sym c.in_ok-rest.ensures.some ∙ same)))

pub returns-clause-some : goal.returns-clause-some
returns-clause-some c = c.in_ok-rest.ensures.some ∙ ap (λ z. c.args.word.now ++ z) c.in_ok-count.ensures.some
