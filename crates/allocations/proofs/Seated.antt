-- Any two fair allocations of a market seat the same seekers, and each programme as many, where from more people no fewer are admitted.
use Rattle.std.proofs.Common.{◌≡◌, ◌<◌, ◌≤◌, ◌+◌, inl, inr, ℕ, zero, suc, Bool, true, false, List, [], ◌∷◌, Option, Some, None, length, arith, refl, sym, ap, ◌∙◌, subst, nat_lt, ◌==◌, if◌then◌else◌}
use Rattle.std.specs.Prelude.{slice_get}
use Rattle.std.proofs.lemmas.Bool.{cases_lt, lt-ltb}
use Rattle.std.proofs.lemmas.Bool.Decides.{nat_tests}
use Rattle.office_base.specs.Lists.{IsAmong, IsSublist}
use Rattle.office_base.specs.declared.seat.Seat.{Seat}
use Rattle.office_base.specs.declared.person.Person.{Person}
use Rattle.allocations.specs.Fair.{IsMarket, IsAllocation, IsFair, IsBest}
use Rattle.allocations.specs.Market.{Seeker, place_of, seat_at, applies, is_of, applicants, holders}
use Rattle.allocations.specs.Compared.{SeatAlike, FairSeatAlike}
use Rattle.allocations.specs.Rule.{Rule, ChoosesWell, AreAdmitted, AdmitsNoFewer}
use Rattle.allocations.proofs.Best.{best_there}
use Rattle.allocations.proofs.Claims.{applicants_may, holders_apply}
use Rattle.allocations.proofs.Places.{applies_true, applies_means, of_seat, place_read, seat_of}
use Rattle.allocations.proofs.Those.{of_those, part, those_has, value_at}

-- ---- sums

abbrev pub sum_below : (ℕ → ℕ) → ℕ → ℕ
sum_below f zero = 0
sum_below f (suc n) = sum_below f n + f n

pub sum_le : (f g : ℕ → ℕ) (n : ℕ) → ((p : ℕ) → p < n → f p ≤ g p) → sum_below f n ≤ sum_below g n
sum_le f g zero each = omega arith
sum_le f g (suc n) each = let rest = sum_le f g n (λ p less. each p (omega (arith, less))) in let here = each n (omega arith) in omega (arith, rest, here)

-- where each is no more and the sum is no less, each is the same
sum_same : (f g : ℕ → ℕ) (n : ℕ) → ((p : ℕ) → p < n → f p ≤ g p) → sum_below g n ≤ sum_below f n → (p : ℕ) → p < n → f p ≡ g p
sum_same f g zero each less p below = absurd (omega (arith, below))
sum_same f g (suc n) each less p below =
    let before : (q : ℕ) → q < n → f q ≤ g q = λ q under. each q (omega (arith, under)) in
    let rest = sum_le f g n before in
    let here = each n (omega arith) in
    elim (cases_lt p n) [
      | inl under ↦ sum_same f g n before (omega (arith, less, here)) p under
      | inr past ↦
          let last : p ≡ n = omega (arith, past, below) in
          let same : f n ≡ g n = omega (arith, less, here, rest) in
          subst (λ q. f q ≡ g q) (sym last) same
    ]

-- ---- seats, counted along the seekers and along the programmes

-- it is a seat of a programme below this number
abbrev is_below : ℕ → Option Seat → Bool
is_below n None = false
is_below n (Some seat) = nat_lt seat.prog.0 n

abbrev pub one_if : Bool → ℕ
one_if b = if b then 1 else 0

abbrev seated : ℕ → List (Option Seat) → ℕ
seated n [] = 0
seated n (seat ∷ seats) = one_if (is_below n seat) + seated n seats

below_next : (n : ℕ) (seat : Option Seat) → one_if (is_below (suc n) seat) ≡ one_if (is_below n seat) + one_if (is_of n seat)
below_next n None = refl
below_next n (Some seat) = number seat.prog.0 n
  where
    number : (k n : ℕ) → one_if (nat_lt k (suc n)) ≡ one_if (nat_lt k n) + one_if (k == n)
    number k n = grind (arith, nat_tests)

pub length_if : (b : Bool) (x : Person) (xs : List Person) → length (if b then x ∷ xs else xs) ≡ one_if b + length xs
length_if true x xs = omega arith
length_if false x xs = omega arith

seated_next : (n : ℕ) (seekers : List Seeker) (seats : List (Option Seat)) → length seats ≡ length seekers → seated (suc n) seats ≡ seated n seats + length (holders n seekers seats)
seated_next n [] [] full = refl
seated_next n [] (seat ∷ seats) full = absurd (omega (arith, full))
seated_next n (s ∷ seekers) [] full = refl
seated_next n (s ∷ seekers) (seat ∷ seats) full =
    let here = below_next n seat in
    let rest = seated_next n seekers seats (omega (arith, full)) in
    let size = length_if (is_of n seat) s.person (holders n seekers seats) in
    omega (arith, here, rest, size)

seated_none : (seats : List (Option Seat)) → seated 0 seats ≡ 0
seated_none [] = refl
seated_none (None ∷ seats) = let rest = seated_none seats in omega (arith, rest)
seated_none (Some seat ∷ seats) = let rest = seated_none seats in let no : one_if (nat_lt seat.prog.0 0) ≡ 0 = grind (arith, nat_tests) in omega (arith, rest, no)

-- the seats of the programmes together are those of the seekers
seated_sum : (n : ℕ) (seekers : List Seeker) (seats : List (Option Seat)) → length seats ≡ length seekers → sum_below (λ p. length (holders p seekers seats)) n ≡ seated n seats
seated_sum zero seekers seats full = sym (seated_none seats)
seated_sum (suc n) seekers seats full = let rest = seated_sum n seekers seats full in let here = seated_next n seekers seats full in omega (arith, rest, here)

-- a seeker who has a seat in the first list has one in the second
abbrev AreSeated : ℕ → List (Option Seat) → List (Option Seat) → Type 0
AreSeated n seats others = (i : ℕ) (seat other : Option Seat) → slice_get seats i ≡ Some seat → slice_get others i ≡ Some other → is_below n seat ≡ true → is_below n other ≡ true

pub one_le : (b c : Bool) → (b ≡ true → c ≡ true) → one_if b ≤ one_if c
one_le true true h = omega arith
one_le true false h = absurd (let e = h refl in cc)
one_le false c h = omega arith

one_same : (b c : Bool) → one_if c ≤ one_if b → c ≡ true → b ≡ true
one_same true c less h = refl
one_same false true less h = absurd (omega (arith, less))
one_same false false less h = h

seated_le : (n : ℕ) (seats others : List (Option Seat)) → length others ≡ length seats → AreSeated n seats others → seated n seats ≤ seated n others
seated_le n [] others full each = omega arith
seated_le n (seat ∷ seats) [] full each = absurd (omega (arith, full))
seated_le n (seat ∷ seats) (other ∷ others) full each =
    let here = one_le (is_below n seat) (is_below n other) (each 0 seat other refl refl) in
    let rest = seated_le n seats others (omega (arith, full)) (λ i. each (suc i)) in
    omega (arith, here, rest)

-- and where the second has no more, it has the same
seated_same : (n : ℕ) (seats others : List (Option Seat)) → length others ≡ length seats → AreSeated n seats others → seated n others ≤ seated n seats → AreSeated n others seats
seated_same n [] others full each less i other seat at at' is_seat = absurd (cc)
seated_same n (x ∷ seats) [] full each less i other seat at at' is_seat = absurd (cc)
seated_same n (x ∷ seats) (y ∷ others) full each less zero other seat at at' is_seat =
    let rest = seated_le n seats others (omega (arith, full)) (λ i. each (suc i)) in
    let first : y ≡ other = cc in
    let second : x ≡ seat = cc in
    let here = one_same (is_below n x) (is_below n y) (omega (arith, less, rest)) (subst (λ z. is_below n z ≡ true) (sym first) is_seat) in
    subst (λ z. is_below n z ≡ true) second here
seated_same n (x ∷ seats) (y ∷ others) full each less (suc i) other seat at at' is_seat =
    let here = one_le (is_below n x) (is_below n y) (each 0 x y refl refl) in
    seated_same n seats others (omega (arith, full)) (λ j. each (suc j)) (omega (arith, less, here)) i other seat at at' is_seat

-- ---- fair allocations

-- those who hold a seat of a programme are those whom it admits
pub holders_admitted : (rule : Rule) (count p : ℕ) (seekers : List Seeker) (seats : List (Option Seat)) → p < count → IsFair rule count seekers seats
    → AreAdmitted rule p (applicants p seekers seats) (holders p seekers seats)
holders_admitted rule count p seekers seats below fair = record {
  part = holders_apply p seekers seats fair.allocation;
  each = λ x among. (
    λ holds.
        let found = of_those (λ s seat. is_of p seat) seekers seats x holds in
        let seat = seat_of p found.value found.passes in
        let held : slice_get seats found.place ≡ Some (Some (seat_at p seat.0)) = found.at ∙ ap Some seat.1 in
        (seat.0, subst (λ z. rule p (applicants p seekers seats) z seat.0) (sym found.person_is) ((fair.agrees p found.place found.s seat.0 below found.there).1 held)),
    λ admits.
        let found = of_those (λ s seat. applies p s.list seat) seekers seats x among in
        let own = subst (λ z. rule p (applicants p seekers seats) z admits.0) found.person_is admits.1 in
        let seat = (fair.agrees p found.place found.s admits.0 below found.there).0 own in
        let is_seat : found.value ≡ Some (seat_at p admits.0) = (let e = found.at in cc) in
        subst (λ z. IsAmong z (holders p seekers seats)) (sym found.person_is)
        (those_has (λ s seat. is_of p seat) seekers seats found.place found.s found.value found.there found.at (of_seat p found.value admits.0 is_seat)),
  );
}

-- a person who applies by the best allocation applies by any fair one
best_applicants : (rule : Rule) (count p : ℕ) (seekers : List Seeker) (seats others : List (Option Seat)) → IsBest rule count seekers seats → IsFair rule count seekers others
    → IsSublist (applicants p seekers seats) (applicants p seekers others)
best_applicants rule count p seekers seats others best fair =
    part (λ s seat. applies p s.list seat) (λ s seat. applies p s.list seat) seekers seats others (fair.allocation.full ∙ sym best.fair.allocation.full)
    (λ i s seat other there has has' h.
    let a = applies_means p s.list seat h in
    let no_worse = best.best others fair i s seat other there has has' in
    applies_true p s.list other a.wants (omega (arith, a.within, no_worse)))

-- a seat of the seeker's own list is one of a programme of the market
own_below : (MayApply : ℕ → List Person → Type 0) (count i : ℕ) (seekers : List Seeker) (seats : List (Option Seat)) (s : Seeker) (seat : Seat) → IsMarket MayApply count seekers
    → IsAllocation seekers seats → slice_get seekers i ≡ Some s → slice_get seats i ≡ Some (Some seat) → seat.prog.0 < count
own_below MayApply count i seekers seats s seat market allocation there has =
    let q = place_read s.list seat.prog.0 (allocation.own i s (Some seat) there has) in
    let below = market.below i (place_of s.list seat.prog.0) s q.0 there q.1 in
    subst (λ n. n < count) q.2 below

-- at a place of the seats there is a seeker
pub seeker_at : (seekers : List Seeker) (seats : List (Option Seat)) (i : ℕ) (seat : Option Seat) → length seats ≡ length seekers → slice_get seats i ≡ Some seat
    → (s : Seeker) × (slice_get seekers i ≡ Some s)
seeker_at seekers [] i seat full has = absurd (cc)
seeker_at [] (x ∷ seats) i seat full has = absurd (omega (arith, full))
seeker_at (s ∷ seekers) (x ∷ seats) zero seat full has = (s, refl)
seeker_at (s ∷ seekers) (x ∷ seats) (suc i) seat full has = seeker_at seekers seats i seat (omega (arith, full)) has

module _ (rule : Rule) (MayApply : ℕ → List Person → Type 0) (well : ChoosesWell rule MayApply) (no_fewer : AdmitsNoFewer rule MayApply) (count : ℕ) (seekers : List Seeker)
    (market : IsMarket MayApply count seekers) where
  -- a seeker who has a seat in a fair allocation has one in the best
  best_seats : (seats others : List (Option Seat)) → IsBest rule count seekers seats → IsFair rule count seekers others → AreSeated count others seats
  best_seats seats others best fair i None seat has has' is_seat = absurd (cc)
  best_seats seats others best fair i (Some other) None has has' is_seat = absurd (
      let s = seeker_at seekers others i (Some other) fair.allocation.full has in
      let no_worse = best.best others fair i s.0 None (Some other) s.1 has' has in
      let own = fair.allocation.own i s.0 (Some other) s.1 has in
      omega (arith, no_worse, own))
  best_seats seats others best fair i (Some other) (Some seat) has has' is_seat =
      let s = seeker_at seekers others i (Some other) fair.allocation.full has in
      lt-ltb _ _ (own_below MayApply count i seekers seats s.0 seat market best.fair.allocation s.1 has')

  -- a seeker who has no seat has none in an allocation that seats no others
  none_too : (seats : List (Option Seat)) (i : ℕ) (others : List (Option Seat)) → IsFair rule count seekers seats → length others ≡ length seekers → AreSeated count seats others
      → slice_get others i ≡ Some None → slice_get seats i ≡ Some None
  none_too seats i others fair full each none =
      let s = seeker_at seekers others i None full none in
      let y = value_at seekers seats i s.0 fair.allocation.full s.1 in
      go s.0 y.0 s.1 y.1
    where
      go : (s : Seeker) (y : Option Seat) → slice_get seekers i ≡ Some s → slice_get seats i ≡ Some y → slice_get seats i ≡ Some None
      go s None there has = has
      go s (Some seat) there has = absurd (let is_seat = each i (Some seat) None has none (lt-ltb _ _ (own_below MayApply count i seekers seats s seat market fair.allocation there has)) in cc)

  fewer_holders : (seats others : List (Option Seat)) → IsBest rule count seekers seats → IsFair rule count seekers others → (p : ℕ) → p < count
      → length (holders p seekers seats) ≤ length (holders p seekers others)
  fewer_holders seats others best fair p below =
      no_fewer p (applicants p seekers seats) (applicants p seekers others) (holders p seekers seats) (holders p seekers others)
      (applicants_may rule MayApply count p seekers others market well below fair.allocation.full) (best_applicants rule count p seekers seats others best fair)
      (holders_admitted rule count p seekers seats below best.fair) (holders_admitted rule count p seekers others below fair)

  -- Any fair allocation seats as the best one does.
  as_best : (seats others : List (Option Seat)) → IsBest rule count seekers seats → IsFair rule count seekers others → SeatAlike count seekers seats others
  as_best seats others best fair =
      let full = best.fair.allocation.full in
      let full' = fair.allocation.full in
      let fewer = fewer_holders seats others best fair in
      let has = best_seats seats others best fair in
      let mine = seated_sum count seekers seats full in
      let his = seated_sum count seekers others full' in
      let more = sum_le (λ p. length (holders p seekers seats)) (λ p. length (holders p seekers others)) count fewer in
      let less = seated_le count others seats (full ∙ sym full') has in
      let back = seated_same count others seats (full ∙ sym full') has (omega (arith, mine, his, more)) in
      record {
        unseated = λ i. (
          λ none. none_too others i seats fair best.fair.allocation.full has none,
          λ none. none_too seats i others best.fair full' back none,
        );
        programmes = sum_same (λ p. length (holders p seekers seats)) (λ p. length (holders p seekers others)) count fewer (omega (arith, mine, his, less));
      }

  -- Any two fair allocations seat alike.
  pub fair_alike : (seats others : List (Option Seat)) → IsFair rule count seekers seats → IsFair rule count seekers others → SeatAlike count seekers seats others
  fair_alike seats others fair fair' =
      let best = best_there rule MayApply count seekers market well in
      let first = as_best best.0 seats best.1 fair in
      let second = as_best best.0 others best.1 fair' in
      record {
        unseated = λ i. (λ none. (second.unseated i).0 ((first.unseated i).1 none), λ none. (first.unseated i).0 ((second.unseated i).1 none));
        programmes = λ p below. sym (first.programmes p below) ∙ second.programmes p below;
      }

pub fair_seat_alike : (rule : Rule) (MayApply : ℕ → List Person → Type 0) → ChoosesWell rule MayApply → AdmitsNoFewer rule MayApply → FairSeatAlike rule MayApply
fair_seat_alike rule MayApply well no_fewer count seekers seats others market fair fair' = fair_alike rule MayApply well no_fewer count seekers market seats others fair fair'
