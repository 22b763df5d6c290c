-- Tickets: how often one was drawn, and what a rising list of numbers says.
use Rattle.std.proofs.Common.{◌≡◌, ◌≢◌, ◌+◌, ◌<◌, ◌≤◌, ℕ, suc, List, [], ◌∷◌, ◌++◌, Bool, true, false, ◌&&◌, ◌||◌, nat_lt, nat_le, refl, ap, ◌∙◌, subst, arith}
use Rattle.std.specs.Prelude.{◌==◌, cond}
use Rattle.std.specs.List.{AllByRecursion, list_any}
use Rattle.std.proofs.lemmas.Bool.{eq-eqb, ne_eqb, cond-true, cond-false}
use Rattle.std.proofs.lemmas.Bool.Decides.{nat_tests}
use mathlib.Core.Logic.{dite}
use native.Mathlib.Decide.{ℕ_discrete, dec_le}
use Rattle.office_base.specs.Numbered.{last_from, rises}
use Rattle.office_desk.specs.Totals.{times, within}

pub times_here : (n : ℕ) (ms : List ℕ) → times n (n ∷ ms) ≡ suc (times n ms)
times_here n ms = let one = cond-true {A = ℕ} (n == n) 1 0 (eq-eqb n n refl) in omega (arith, one)

pub times_else : (n m : ℕ) (ms : List ℕ) → n ≢ m → times n (m ∷ ms) ≡ times n ms
times_else n m ms apart = let none = cond-false {A = ℕ} (n == m) 1 0 (ne_eqb n m apart) in omega (arith, none)

pub times_append : (n : ℕ) (ms ks : List ℕ) → times n (ms ++ ks) ≡ times n ms + times n ks
times_append n [] ks = omega arith
times_append n (m ∷ ms) ks = let back = times_append n ms ks in omega (arith, back)

-- numbers below a bound are not drawn at it or above
pub times_past : (bound n : ℕ) (ms : List ℕ) → AllByRecursion (λ t. t < bound) ms → bound ≤ n → times n ms ≡ 0
times_past bound n [] all le = refl
times_past bound n (m ∷ ms) all le =
    let here : m < bound = all.0 in
    let back = times_past bound n ms all.1 le in
    times_else n m ms (λ e. absurd (omega (arith, e, here, le))) ∙ back

pub within_in : (low high n : ℕ) → low ≤ n → n < high → within low high n ≡ 1
within_in low high n le lt = cond-true {A = ℕ} (nat_le low n && nat_lt n high) 1 0 (grind (arith, nat_tests))

pub within_below : (low high n : ℕ) → n < low → within low high n ≡ 0
within_below low high n lt = cond-false {A = ℕ} (nat_le low n && nat_lt n high) 1 0 (grind (arith, nat_tests))

pub within_above : (low high n : ℕ) → high ≤ n → within low high n ≡ 0
within_above low high n le = cond-false {A = ℕ} (nat_le low n && nat_lt n high) 1 0 (grind (arith, nat_tests))

at_most_one : (b : Bool) → cond {A = ℕ} b 1 0 ≤ 1
at_most_one true = omega arith
at_most_one false = omega arith

pub within_most : (low high n : ℕ) → within low high n ≤ 1
within_most low high n = at_most_one (nat_le low n && nat_lt n high)

pub within_empty : (low n : ℕ) → within low low n ≡ 0
within_empty low n = dite (dec_le low n) (λ le. within_above low low n le) (λ other. within_below low low n (omega (arith, other)))

not_at : (high n : ℕ) → n ≢ high → nat_lt n (high + 1) ≡ nat_lt n high
not_at high n apart = grind (arith, nat_tests)

-- one more ticket
pub within_more : (low high n : ℕ) → low ≤ high → within low (high + 1) n ≡ within low high n + times n (high ∷ [])
within_more low high n le = dite (ℕ_discrete n high)
    (λ e. let here : times n (high ∷ []) ≡ 1 = subst (λ k. times n (k ∷ []) ≡ 1) e (times_here n []) in
    let new = within_in low (high + 1) n (omega (arith, e, le)) (omega (arith, e)) in
    let old = within_above low high n (omega (arith, e)) in omega (arith, here, new, old))
    (λ apart. let none : times n (high ∷ []) ≡ 0 = times_else n high [] apart in
    let same : within low (high + 1) n ≡ within low high n = ap (λ b. cond {A = ℕ} (nat_le low n && b) 1 0) (not_at high n apart) in omega (arith, none, same))

-- a number that is among tickets, and one that is not
pub is_ticket : (n : ℕ) (ms : List ℕ) → 1 ≤ times n ms → list_any (λ t. n == t) ms ≡ true
is_ticket n [] some_time = absurd (omega (arith, some_time))
is_ticket n (m ∷ ms) some_time = dite (ℕ_discrete n m)
    (λ e. ap (λ b. b || list_any (λ t. n == t) ms) (eq-eqb n m e))
    (λ apart. ap (λ b. b || list_any (λ t. n == t) ms) (ne_eqb n m apart) ∙ is_ticket n ms (omega (arith, times_else n m ms apart, some_time)))

pub no_ticket : (n : ℕ) (ms : List ℕ) → times n ms ≡ 0 → list_any (λ t. n == t) ms ≡ false
no_ticket n [] none = refl
no_ticket n (m ∷ ms) none = dite (ℕ_discrete n m)
    (λ e. let here : times n (m ∷ ms) ≡ suc (times n ms) = subst (λ k. times n (k ∷ ms) ≡ suc (times n ms)) e (times_here n ms) in absurd (omega (arith, here, none)))
    (λ apart. ap (λ b. b || list_any (λ t. n == t) ms) (ne_eqb n m apart) ∙ no_ticket n ms (omega (arith, times_else n m ms apart, none)))

pub last_from-snoc : (a : ℕ) (ns : List ℕ) (n : ℕ) → last_from a (ns ++ n ∷ []) ≡ n
last_from-snoc a [] n = refl
last_from-snoc a (m ∷ ns) n = last_from-snoc m ns n

pub rises-snoc : (a : ℕ) (ns : List ℕ) (n : ℕ) → last_from a ns < n → rises a ns ≡ true → rises a (ns ++ n ∷ []) ≡ true
rises-snoc a [] n lt up = grind (arith, nat_tests)
rises-snoc a (m ∷ ns) n lt up = let back = rises-snoc m ns n lt in grind (arith, nat_tests)

pub rises_tail : (a m : ℕ) (ns : List ℕ) → rises a (m ∷ ns) ≡ true → (a < m) × (rises m ns ≡ true)
rises_tail a m ns up = (grind (arith, nat_tests), grind (arith, nat_tests))

pub last_above : (a : ℕ) (ns : List ℕ) → rises a ns ≡ true → a ≤ last_from a ns
last_above a [] up = omega arith
last_above a (m ∷ ns) up = let both = rises_tail a m ns up in let back = last_above m ns both.1 in let first = both.0 in omega (arith, first, back)

-- a rising list whose last number is below a bound is below it
pub all_below : (a bound : ℕ) (ns : List ℕ) → rises a ns ≡ true → last_from a ns < bound → AllByRecursion (λ n. n < bound) ns
all_below a bound [] up lt = tt
all_below a bound (m ∷ ns) up lt =
    let both = rises_tail a m ns up in
    let last = last_above m ns both.1 in (omega (arith, last, lt), all_below m bound ns both.1 lt)

-- a prefix of a rising list rises
pub rises_left : (a : ℕ) (ns ms : List ℕ) → rises a (ns ++ ms) ≡ true → rises a ns ≡ true
rises_left a [] ms up = refl
rises_left a (n ∷ ns) ms up = let both = rises_tail a n (ns ++ ms) up in let back = rises_left n ns ms both.1 in let first = both.0 in grind (arith, nat_tests)
