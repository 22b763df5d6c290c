use Rattle.std.proofs.Common.{◌≡◌, ◌+◌, ◌*◌, ◌-◌, drop, get_or, arith}
use Rattle.std.proofs.lemmas.List.{at_drop_more}
use Rattle.office_text.specs.Number.{value_after, value_of}
use Rattle.office_text.proofs.NumberLemmas.{value_after-ge, value_above}
use Rattle.office_text.proofs.number.value_of.Goals as goal

pub returns-then-value-from : goal.returns-then-value-from
returns-then-value-from c =
    let xs = c.args.digits.now in
    let i = c.loop-digit.digit-index in
    let n = c.loop-digit.value * 10 + (get_or xs i 0 - 48) in
    let step : value_after c.loop-digit.value (drop i xs) ≡ value_after n (drop (i + 1) xs) = at_drop_more (value_after c.loop-digit.value) xs i 0 (omega arith) in
    value_above (value_of xs) (omega (arith, value_after-ge n (drop (i + 1) xs), step, c.loop-digit.invariant.value))
