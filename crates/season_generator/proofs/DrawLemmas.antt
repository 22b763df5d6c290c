-- The states of the generator one after another.
use Rattle.std.proofs.Common.{◌≡◌, ℕ, ◌+◌, ◌*◌, ◌/◌, ◌%◌, ◌^◌, ◌-◌, ◌<◌, ◌≤◌, List, zero, suc, sym, ap, ◌∙◌, refl, arith, add-one, add-suc, add-zero, mul-zero, swap}
use Rattle.std.proofs.Math.Nat.{mod-add-mod}
use Rattle.season_generator.specs.Bundle.{exchanged}
use Rattle.season_generator.specs.Draws.{state_after, drawn, next}

-- a step that wraps twice
pub next_is : (state : ℕ) → (state * 6364136223846793005 % 2 ^ 64 + 1442695040888963407) % 2 ^ 64 ≡ next state
unfolding next
next_is state = mod-add-mod (state * 6364136223846793005) (2 ^ 64) 1442695040888963407

-- the upper bits of a state fit 32 bits
pub value_below : (state : ℕ) → state < 2 ^ 64 → state / 2 ^ 33 < 2 ^ 32
value_below state small = omega (arith, small)

-- no draw leaves the state
pub after_none : (state : ℕ) → state_after 0 state ≡ state
unfolding state_after
after_none state = refl

-- nor those of no candidate or window
pub after_no_times : (draws state : ℕ) → state_after (draws * 0) state ≡ state
after_no_times draws state = ap (λ k. state_after k state) (mul-zero draws) ∙ after_none state

-- one draw more
pub after_more : (draws state : ℕ) → state_after (draws + 1) state ≡ next (state_after draws state)
unfolding state_after
after_more draws state = ap (λ k. state_after k state) (add-one draws)

-- draws after draws
pub after_add : (before more state : ℕ) → state_after (before + more) state ≡ state_after more (state_after before state)
unfolding state_after
after_add before zero state = ap (λ k. state_after k state) (add-zero before)
after_add before (suc more) state = ap (λ k. state_after k state) (add-suc before more) ∙ ap next (after_add before more state)

-- the same draws once more for one candidate or window more
pub after_times : (draws times state : ℕ) → state_after (draws * (times + 1)) state ≡ state_after draws (state_after (draws * times) state)
after_times draws times state =
    let e : draws * (times + 1) ≡ draws * times + draws = omega arith in
    ap (λ k. state_after k state) e ∙ after_add (draws * times) draws state

-- draws that begin with one
pub after_less : (draws state : ℕ) → 0 < draws → state_after (draws - 1) (next state) ≡ state_after draws state
unfolding state_after
after_less draws state positive =
    let e : 1 + (draws - 1) ≡ draws = omega arith in
    sym (after_add 1 (draws - 1) state) ∙ ap (λ k. state_after k state) e

-- an exchange that begins with that of the last place
pub exchanged_less : (state last : ℕ) (held : List ℕ) → 0 < last → exchanged (next state) (last - 1) (swap held last (drawn (last + 1) state)) ≡ exchanged state last held
unfolding exchanged
exchanged_less state zero held positive = absurd (omega (arith, positive))
exchanged_less state (suc before) held positive =
    let e : suc before - 1 ≡ before = omega arith in
    ap (λ k. exchanged (next state) k (swap held (suc before) (drawn (suc before + 1) state))) e

-- so the exchanges that are left after one of them end as before it
pub exchange_goes_on : (state now last : ℕ) (before held whole : List ℕ) → 0 < last → now ≡ next state → held ≡ swap before last (drawn (last + 1) state) → exchanged state last before ≡ whole
    → exchanged now (last - 1) held ≡ whole
exchange_goes_on state now last before held whole positive is_next is_swapped so_far =
    ap (λ s. exchanged s (last - 1) held) is_next ∙ ap (exchanged (next state) (last - 1)) is_swapped ∙ exchanged_less state last before positive ∙ so_far

-- and the draws that are left
pub draws_go_on : (state now last whole : ℕ) → 0 < last → now ≡ next state → state_after last state ≡ whole → state_after (last - 1) now ≡ whole
draws_go_on state now last whole positive is_next so_far = ap (state_after (last - 1)) is_next ∙ after_less last state positive ∙ so_far

-- none is left at the first place
pub exchange_ends : (state last : ℕ) (held whole : List ℕ) → last ≤ 0 → exchanged state last held ≡ whole → held ≡ whole
unfolding exchanged
exchange_ends state zero held whole low so_far = so_far
exchange_ends state (suc before) held whole low so_far = absurd (omega (arith, low))

pub draws_end : (state last whole : ℕ) → last ≤ 0 → state_after last state ≡ whole → state ≡ whole
unfolding state_after
draws_end state zero whole low so_far = so_far
draws_end state (suc before) whole low so_far = absurd (omega (arith, low))
