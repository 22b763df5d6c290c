-- Exchanges move places alone.
use Rattle.std.proofs.Common.{◌<◌, ◌+◌, ◌-◌, ◌/◌, ◌^◌, ℕ, List, [], zero, suc, refl, length, arith, swap}
use Rattle.std.specs.List.{range_with_len}
use Rattle.std.specs.List.Sorted.{IsPermutation}
use Rattle.std.proofs.lemmas.List.Edits.{length-swap}
use Rattle.std.proofs.lemmas.List.FromFn.{length-range_with_len}
use Rattle.std.proofs.lemmas.List.Sorted.{IsPermutation-refl, IsPermutation-swap, IsPermutation-trans}
use Rattle.std.proofs.lemmas.Nat.{mod_below}
use Rattle.season_generator.specs.Bundle.{exchanged, places}
use Rattle.season_generator.specs.Draws.{drawn, next}

-- what is drawn is below the bound
pub drawn_below : (n state : ℕ) → 0 < n → drawn n state < n
unfolding drawn
drawn_below n state positive = mod_below (next state / 2 ^ 33) n positive

pub exchanged_keeps : (last state : ℕ) (held : List ℕ) → last < length held → IsPermutation held (exchanged state last held)
unfolding exchanged
exchanged_keeps zero state held within = IsPermutation-refl held
exchanged_keeps (suc before) state held within =
    let other = drawn (suc before + 1) state in
    let swapped = swap held (suc before) other in
    let drawn_small : other < suc before + 1 = drawn_below (suc before + 1) state (omega arith) in
    let below : other < length held = omega (arith, drawn_small, within) in
    let less : before < length swapped = omega (arith, within, length-swap held (suc before) other) in
    IsPermutation-trans held swapped (exchanged (next state) before swapped) (IsPermutation-swap held swapped (suc before) other within below refl) (exchanged_keeps before (next state) swapped less)

-- the places of a list are those from 1 to n
pub places_once : (n state : ℕ) → IsPermutation (range_with_len 1 n) (places n state)
unfolding exchanged
places_once zero state = IsPermutation-refl []
places_once (suc k) state = exchanged_keeps (suc k - 1) state (range_with_len 1 (suc k)) (omega (arith, length-range_with_len 1 (suc k)))
