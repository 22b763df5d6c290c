-- A list that has a first element, as code takes it apart.
use Rattle.std.proofs.Common.{◌≡◌, ◌-◌, ◌<◌, suc, List, [], ◌∷◌, length, get_or, take, drop, sym, ap, take_all, arith}

-- the list is its first element and the rest
pub first_and_rest : {X : Type 0} (xs : List X) (d : X) → 0 < length xs → xs ≡ get_or xs 0 d ∷ take (length xs - 1) (drop 1 xs)
first_and_rest [] d h = absurd (omega arith)
first_and_rest (x ∷ xs) d h = ap (λ l. x ∷ l) (sym (take_all (suc (length xs) - 1) xs (omega arith)))
