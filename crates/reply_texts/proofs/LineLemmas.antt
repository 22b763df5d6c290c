-- Lines made of words and numbers.
use Rattle.std.proofs.Common.{◌≡◌, ◌++◌, ℕ, List, append_assoc, ap, ◌∙◌}
use Rattle.std.specs.Fmt.{decimal}
use Rattle.std.specs.Prelude.{codes}
use Rattle.reply_texts.specs.Replies.{final_line, state_line}

-- words and a number more after what was put so far
then_more : (before so_far words number after next : List ℕ) → after ≡ before ++ so_far → next ≡ (after ++ words) ++ number → next ≡ before ++ ((so_far ++ words) ++ number)
then_more before so_far words number after next e f =
    f ∙ (ap (λ z. (z ++ words) ++ number) e ∙ (ap (λ z. z ++ number) (append_assoc before so_far words) ∙ append_assoc before (so_far ++ words) number))

-- and the rest of the line
then_rest : (before so_far rest after : List ℕ) → after ≡ before ++ so_far → after ++ rest ≡ before ++ (so_far ++ rest)
then_rest before so_far rest after e = ap (λ z. z ++ rest) e ∙ append_assoc before so_far rest

pub final_more : (before first : List ℕ) (admitted : ℕ) → first ≡ (before ++ codes "final admitted ") ++ decimal admitted → first ++ codes "\n" ≡ before ++ final_line admitted
final_more before first admitted e = then_rest before (codes "final admitted " ++ decimal admitted) (codes "\n") first (e ∙ append_assoc before (codes "final admitted ") (decimal admitted))

pub state_more : (before first second third : List ℕ) (window rounds published : ℕ) → first ≡ (before ++ codes "state window ") ++ decimal window
    → second ≡ (first ++ codes " rounds ") ++ decimal rounds → third ≡ (second ++ codes " published ") ++ decimal published
    → third ++ codes "\n" ≡ before ++ state_line window rounds published
state_more before first second third window rounds published e1 e2 e3 =
    let one = codes "state window " ++ decimal window in
    let two = (one ++ codes " rounds ") ++ decimal rounds in
    let three = (two ++ codes " published ") ++ decimal published in
    let first_is = e1 ∙ append_assoc before (codes "state window ") (decimal window) in
    let second_is = then_more before one (codes " rounds ") (decimal rounds) first second first_is e2 in
    then_rest before three (codes "\n") third (then_more before two (codes " published ") (decimal published) second third second_is e3)
