-- When two persons are one.
use Rattle.std.proofs.Common.{◌≡◌, ◌<◌, ℕ, List, [], ◌∷◌, length, get_or, suc, arith}

-- two lists of one length that agree at each place are one
pub same_each : {X : Type 0} (xs ys : List X) (d : X) → length xs ≡ length ys → ((k : ℕ) → k < length xs → get_or xs k d ≡ get_or ys k d) → xs ≡ ys
same_each [] [] d size each = cc
same_each [] (y ∷ ys) d size each = absurd (omega (arith, size))
same_each (x ∷ xs) [] d size each = absurd (omega (arith, size))
same_each (x ∷ xs) (y ∷ ys) d size each =
    let here : x ≡ y = each 0 (omega arith) in
    let rest : xs ≡ ys = same_each xs ys d (omega (arith, size)) (λ k less. each (suc k) (omega (arith, less))) in
    cc
