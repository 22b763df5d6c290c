-- Seats, counted along the seekers and along the programmes.
use Rattle.std.proofs.Common.{◌≡◌, ◌≢◌, ◌<◌, ◌≤◌, ◌+◌, ◌&&◌, ℕ, zero, suc, Bool, true, false, List, [], ◌∷◌, Option, Some, None, length, arith, refl, sym, ap, ◌∙◌, nat_lt, ◌==◌, if◌then◌else◌}
use Rattle.std.specs.Prelude.{slice_get, not}
use Rattle.std.proofs.lemmas.Bool.Decides.{nat_tests}
use Rattle.office_base.specs.declared.seat.Seat.{Seat}
use Rattle.office_base.specs.declared.person.Person.{Person}
use Rattle.allocations.specs.Market.{Seeker, is_of, those}
use Rattle.allocations.proofs.Seated.{length_if, one_if, one_le, seeker_at, sum_below, sum_le}
use Rattle.kept_seats.specs.Orders.{count_of, is_beyond, is_kept}

one_most : (b c : Bool) → one_if b ≤ one_if c + 1
one_most true c = omega arith
one_most false c = omega arith

-- who passes the first test passes the second, at each place
pub count_le : (f g : Option Seat → Bool) (seats others : List (Option Seat)) → length others ≡ length seats
    → ((i : ℕ) (seat other : Option Seat) → slice_get seats i ≡ Some seat → slice_get others i ≡ Some other → f seat ≡ true → g other ≡ true) → count_of f seats ≤ count_of g others
count_le f g [] others full each = omega arith
count_le f g (x ∷ seats) [] full each = absurd (omega (arith, full))
count_le f g (x ∷ seats) (y ∷ others) full each =
    let here = one_le (f x) (g y) (each 0 x y refl refl) in
    let rest = count_le f g seats others (omega (arith, full)) (λ i. each (suc i)) in
    omega (arith, here, rest)

-- at each place but one
pub count_but_one : (f g : Option Seat → Bool) (at : ℕ) (seats others : List (Option Seat)) → length others ≡ length seats
    → ((i : ℕ) (seat other : Option Seat) → i ≢ at → slice_get seats i ≡ Some seat → slice_get others i ≡ Some other → f seat ≡ true → g other ≡ true)
    → count_of f seats ≤ count_of g others + 1
count_but_one f g at [] others full each = omega arith
count_but_one f g at (x ∷ seats) [] full each = absurd (omega (arith, full))
count_but_one f g zero (x ∷ seats) (y ∷ others) full each =
    let here = one_most (f x) (g y) in
    let rest = count_le f g seats others (omega (arith, full)) (λ i seat other has has'. each (suc i) seat other (λ e. omega (arith, e)) has has') in
    omega (arith, here, rest)
count_but_one f g (suc at) (x ∷ seats) (y ∷ others) full each =
    let here = one_le (f x) (g y) (each 0 x y (λ e. omega (arith, e)) refl refl) in
    let rest = count_but_one f g at seats others (omega (arith, full)) (λ i seat other apart has has'. each (suc i) seat other (λ e. apart (omega (arith, e))) has has') in
    omega (arith, here, rest)

-- a seat within those of the programmes
abbrev pub is_within : Option Seat → Bool
is_within None = false
is_within (Some seat) = not (is_kept seat.step)

abbrev pub has_seat : Option Seat → Bool
has_seat None = false
has_seat (Some seat) = true

one_split : (b : Bool) → 1 ≡ one_if b + one_if (not b)
one_split true = refl
one_split false = refl

-- a seat is beyond those of the programmes or within them
pub count_split : (seats : List (Option Seat)) → count_of has_seat seats ≡ count_of is_beyond seats + count_of is_within seats
count_split [] = refl
count_split (None ∷ seats) = let rest = count_split seats in omega (arith, rest)
count_split (Some seat ∷ seats) =
    let rest = count_split seats in
    let here = one_split (is_kept seat.step) in
    omega (arith, here, rest)

-- ---- sums

-- it is a seat of a programme below this number
abbrev pub is_below : ℕ → Option Seat → Bool
is_below n None = false
is_below n (Some seat) = nat_lt seat.prog.0 n

-- those who hold a seat of a programme that passes the test
abbrev pub holders_of : (Option Seat → Bool) → ℕ → List Seeker → List (Option Seat) → List Person
holders_of test p seekers seats = those (λ s seat. test seat && is_of p seat) seekers seats

number : (k n : ℕ) → one_if (nat_lt k (suc n)) ≡ one_if (nat_lt k n) + one_if (k == n)
number k n = grind (arith, nat_tests)

under : (f b c d : Bool) → one_if b ≡ one_if c + one_if d → one_if (f && b) ≡ one_if (f && c) + one_if (f && d)
under true b c d e = e
under false b c d e = refl

below_next : (test : Option Seat → Bool) (n : ℕ) (seat : Option Seat)
    → one_if (test seat && is_below (suc n) seat) ≡ one_if (test seat && is_below n seat) + one_if (test seat && is_of n seat)
below_next test n None = under (test None) false false false refl
below_next test n (Some seat) = under (test (Some seat)) (nat_lt seat.prog.0 (suc n)) (nat_lt seat.prog.0 n) (seat.prog.0 == n) (number seat.prog.0 n)

abbrev count_under : (Option Seat → Bool) → ℕ → List (Option Seat) → ℕ
count_under test n seats = count_of (λ seat. test seat && is_below n seat) seats

count_next : (test : Option Seat → Bool) (n : ℕ) (seekers : List Seeker) (seats : List (Option Seat)) → length seats ≡ length seekers
    → count_under test (suc n) seats ≡ count_under test n seats + length (holders_of test n seekers seats)
count_next test n [] [] full = refl
count_next test n [] (seat ∷ seats) full = absurd (omega (arith, full))
count_next test n (s ∷ seekers) [] full = refl
count_next test n (s ∷ seekers) (seat ∷ seats) full =
    let here = below_next test n seat in
    let rest = count_next test n seekers seats (omega (arith, full)) in
    let size = length_if (test seat && is_of n seat) s.person (holders_of test n seekers seats) in
    omega (arith, here, rest, size)

and_false : (b : Bool) → (b && false) ≡ false
and_false true = refl
and_false false = refl

none_below : (seat : Option Seat) → is_below 0 seat ≡ false
none_below None = refl
none_below (Some seat) = go seat.prog.0
  where
    go : (k : ℕ) → nat_lt k 0 ≡ false
    go k = grind (arith, nat_tests)

count_none : (test : Option Seat → Bool) (seats : List (Option Seat)) → count_under test 0 seats ≡ 0
count_none test [] = refl
count_none test (seat ∷ seats) =
    let rest = count_none test seats in
    let here : (test seat && is_below 0 seat) ≡ false = ap (λ b. test seat && b) (none_below seat) ∙ and_false (test seat) in
    let zero_here : one_if (test seat && is_below 0 seat) ≡ 0 = ap one_if here in
    omega (arith, rest, zero_here)

-- the seats of the programmes together are those of the seekers
pub count_sum : (test : Option Seat → Bool) (n : ℕ) (seekers : List Seeker) (seats : List (Option Seat)) → length seats ≡ length seekers
    → sum_below (λ p. length (holders_of test p seekers seats)) n ≡ count_under test n seats
count_sum test zero seekers seats full = sym (count_none test seats)
count_sum test (suc n) seekers seats full = let rest = count_sum test n seekers seats full in let here = count_next test n seekers seats full in omega (arith, rest, here)

-- each seat is one of a programme below this number
one_same : (b c : Bool) → (b ≡ true → c ≡ true) → one_if (b && c) ≡ one_if b
one_same true true h = refl
one_same true false h = absurd (let e = h refl in cc)
one_same false c h = refl

pub count_all : (test : Option Seat → Bool) (n : ℕ) (seats : List (Option Seat)) → ((i : ℕ) (seat : Option Seat) → slice_get seats i ≡ Some seat → test seat ≡ true → is_below n seat ≡ true)
    → count_of (λ seat. test seat && is_below n seat) seats ≡ count_of test seats
count_all test n [] each = refl
count_all test n (seat ∷ seats) each =
    let here = one_same (test seat) (is_below n seat) (each 0 seat refl) in
    let rest = count_all test n seats (λ i. each (suc i)) in
    omega (arith, here, rest)
