use Rattle.std.proofs.Common.{◌≡◌, arith}
use Rattle.answer_table.proofs.Digits.{third_digit, fourth_digit}
use Rattle.answer_table.proofs.turns.with_choice.Goals as goal

pub returns-in-2 : goal.returns-in-2
returns-in-2 c = rw (c.in-2.is, c.digit_for-digit.ensures) (third_digit c.args.byte c.args.choice)

pub returns-in_default : goal.returns-in_default
returns-in_default c =
    let last : c.args.place ≡ 3 = omega arith in
    rw (last, c.digit_for-digit.ensures) (fourth_digit c.args.byte c.args.choice)
