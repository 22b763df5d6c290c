-- Seats of two fair allocations counted against each other: some take theirs of the second, all others keep theirs of the first.
use Rattle.std.proofs.Common.{◌≡◌, ◌<◌, ◌≤◌, ◌+◌, ◌==◌, inl, inr, ℕ, zero, suc, Bool, true, false, List, [], ◌∷◌, Option, Some, None, length, nat_lt, arith, refl, sym, ap, ◌∙◌, subst, if◌then◌else◌}
use Rattle.std.specs.Prelude.{slice_get}
use Rattle.std.proofs.lemmas.Bool.{cases_Bool, lt-ltb}
use Rattle.std.proofs.lemmas.Bool.Decides.{nat_tests}
use Rattle.std.proofs.lemmas.Option.{slice_get_within}
use Rattle.office_base.proofs.Lists.{there_is}
use Rattle.office_base.specs.Lists.{IsAmong, IsSublist}
use Rattle.office_base.specs.declared.seat.Seat.{Seat}
use Rattle.office_base.specs.declared.person.Person.{Person}
use Rattle.placements.proofs.Sublists.{IsSublist-same}
use Rattle.allocations.specs.Fair.{IsFair, IsMarket}
use Rattle.allocations.specs.Market.{Seeker, applicants, applies, holders, is_of, place_of, seat_at, those}
use Rattle.allocations.specs.Rule.{Admits, AdmitsNoFewer, AreAdmitted, ChoosesWell, Rule}
use Rattle.allocations.proofs.Claims.{applicants_may}
use Rattle.allocations.proofs.Places.{applies_means, holder_applies, place_read, seat_of}
use Rattle.allocations.proofs.Seated.{holders_admitted}
use Rattle.allocations.proofs.Those.{of_those, part, those_sublist, value_at}

-- ---- how many pass a test

abbrev one_for : Bool → ℕ
one_for b = if b then 1 else 0

abbrev tally : (Option Seat → Bool) → List (Option Seat) → ℕ
tally f [] = 0
tally f (seat ∷ seats) = one_for (f seat) + tally f seats

longer_if : (b : Bool) (x : Person) (xs : List Person) (n : ℕ) → length xs ≡ n → length (if b then x ∷ xs else xs) ≡ one_for b + n
longer_if true x xs n e = omega (arith, e)
longer_if false x xs n e = omega (arith, e)

tally_those : (f : Option Seat → Bool) (seekers : List Seeker) (seats : List (Option Seat)) → length seats ≡ length seekers → length (those (λ s seat. f seat) seekers seats) ≡ tally f seats
tally_those f [] [] full = refl
tally_those f (s ∷ seekers) (seat ∷ seats) full = longer_if (f seat) s.person _ _ (tally_those f seekers seats (omega (arith, full)))
tally_those f seekers seats full = absurd (omega (arith, full))

one_more : (b c : Bool) (m n : ℕ) → (b ≡ true → c ≡ true) → m ≤ n → one_for b + m ≤ one_for c + n
one_more true false m n h le = absurd (let e = h refl in cc)
one_more b c m n h le = omega (arith, le)

-- where whoever passes in the first list passes in the second, no more do
tally_le : (f : Option Seat → Bool) (xs ys : List (Option Seat)) → length ys ≡ length xs
    → ((i : ℕ) (x y : Option Seat) → slice_get xs i ≡ Some x → slice_get ys i ≡ Some y → f x ≡ true → f y ≡ true) → tally f xs ≤ tally f ys
tally_le f [] ys full each = omega arith
tally_le f (x ∷ xs) [] full each = absurd (omega (arith, full))
tally_le f (x ∷ xs) (y ∷ ys) full each = one_more (f x) (f y) _ _ (each 0 x y refl refl) (tally_le f xs ys (omega (arith, full)) (λ i. each (suc i)))

-- and fewer, where one more passes in the second
tally_less : (f : Option Seat → Bool) (xs ys : List (Option Seat)) (r : ℕ) (x y : Option Seat) → length ys ≡ length xs
    → ((i : ℕ) (x y : Option Seat) → slice_get xs i ≡ Some x → slice_get ys i ≡ Some y → f x ≡ true → f y ≡ true) → slice_get xs r ≡ Some x → slice_get ys r ≡ Some y
    → f x ≡ false → f y ≡ true → tally f xs < tally f ys
tally_less f (a ∷ xs) (b ∷ ys) zero x y full each at at' fails passes =
    let first : a ≡ x = cc in
    let second : b ≡ y = cc in
    let rest = tally_le f xs ys (omega (arith, full)) (λ i. each (suc i)) in
    let none : one_for (f a) ≡ 0 = ap (λ z. one_for (f z)) first ∙ ap one_for fails in
    let one : one_for (f b) ≡ 1 = ap (λ z. one_for (f z)) second ∙ ap one_for passes in
    omega (arith, rest, none, one)
tally_less f (a ∷ xs) (b ∷ ys) (suc r) x y full each at at' fails passes =
    let rest = tally_less f xs ys r x y (omega (arith, full)) (λ i. each (suc i)) at at' fails passes in
    let here = one_more (f a) (f b) 0 0 (each 0 a b refl refl) (omega arith) in
    omega (arith, rest, here)
tally_less f xs ys r x y full each at at' fails passes = absurd (cc)

-- ---- over the programmes

-- a seat of a programme with a number below this one
abbrev has_below : ℕ → Option Seat → Bool
has_below n None = false
has_below n (Some seat) = nat_lt seat.prog.0 n

next_one : (n : ℕ) (seat : Option Seat) → one_for (has_below (suc n) seat) ≡ one_for (is_of n seat) + one_for (has_below n seat)
next_one n None = refl
next_one n (Some seat) = number seat.prog.0 n
  where
    number : (k n : ℕ) → one_for (nat_lt k (suc n)) ≡ one_for (k == n) + one_for (nat_lt k n)
    number k n = grind (arith, nat_tests)

tally_next : (n : ℕ) (seats : List (Option Seat)) → tally (has_below (suc n)) seats ≡ tally (is_of n) seats + tally (has_below n) seats
tally_next n [] = refl
tally_next n (seat ∷ seats) = let here = next_one n seat in let rest = tally_next n seats in omega (arith, here, rest)

tally_zero : (seats : List (Option Seat)) → tally (has_below 0) seats ≡ 0
tally_zero [] = refl
tally_zero (None ∷ seats) = let rest = tally_zero seats in omega (arith, rest)
tally_zero (Some seat ∷ seats) = let rest = tally_zero seats in let no : one_for (nat_lt seat.prog.0 0) ≡ 0 = grind (arith, nat_tests) in omega (arith, rest, no)

-- where each programme has no more, all together have no more
tally_all : (n : ℕ) (xs ys : List (Option Seat)) → ((p : ℕ) → p < n → tally (is_of p) xs ≤ tally (is_of p) ys) → tally (has_below n) xs ≤ tally (has_below n) ys
tally_all zero xs ys each = let e = tally_zero xs in omega (arith, e)
tally_all (suc n) xs ys each =
    let rest = tally_all n xs ys (λ p less. each p (omega (arith, less))) in
    let here = each n (omega arith) in
    omega (arith, rest, here, tally_next n xs, tally_next n ys)

-- ---- seats of both

-- at the places that move the seat of the first list, at all others that of the second
abbrev mixed : (ℕ → Bool) → List (Option Seat) → List (Option Seat) → List (Option Seat)
mixed moves [] ys = []
mixed moves (x ∷ xs) [] = []
mixed moves (x ∷ xs) (y ∷ ys) = (if moves 0 then x else y) ∷ mixed (λ i. moves (suc i)) xs ys

length_mixed : (moves : ℕ → Bool) (xs ys : List (Option Seat)) → length ys ≡ length xs → length (mixed moves xs ys) ≡ length xs
length_mixed moves [] ys full = refl
length_mixed moves (x ∷ xs) [] full = absurd (omega (arith, full))
length_mixed moves (x ∷ xs) (y ∷ ys) full = ap suc (length_mixed (λ i. moves (suc i)) xs ys (omega (arith, full)))

moved_at : (moves : ℕ → Bool) (xs ys : List (Option Seat)) (i : ℕ) (x z : Option Seat) → moves i ≡ true → slice_get xs i ≡ Some x → slice_get (mixed moves xs ys) i ≡ Some z → x ≡ z
moved_at moves (a ∷ xs) (b ∷ ys) zero x z e at at' =
    let first : x ≡ a = cc in
    let second : (if moves 0 then a else b) ≡ z = cc in
    let chosen = rw e at second in
    first ∙ chosen
moved_at moves (a ∷ xs) (b ∷ ys) (suc i) x z e at at' = moved_at (λ j. moves (suc j)) xs ys i x z e at at'
moved_at moves xs ys i x z e at at' = absurd (cc)

kept_at : (moves : ℕ → Bool) (xs ys : List (Option Seat)) (i : ℕ) (y z : Option Seat) → moves i ≡ false → slice_get ys i ≡ Some y → slice_get (mixed moves xs ys) i ≡ Some z → y ≡ z
kept_at moves (a ∷ xs) (b ∷ ys) zero y z e at at' =
    let first : y ≡ b = cc in
    let second : (if moves 0 then a else b) ≡ z = cc in
    let chosen = rw e at second in
    first ∙ chosen
kept_at moves (a ∷ xs) (b ∷ ys) (suc i) y z e at at' = kept_at (λ j. moves (suc j)) xs ys i y z e at at'
kept_at moves xs ys i y z e at at' = absurd (cc)

-- One market with fair seats, and another of the same persons with fair seats. At some places the seat of the second is one for which the seeker applied in the first.
-- At all others whoever applies in the first applies in the second.
pub record AreBeside (rule : Rule) (count : ℕ) (seekers told : List Seeker) (seats others : List (Option Seat)) (moves : ℕ → Bool) : Type 0 where
  pub fair : IsFair rule count seekers seats
  pub told_fair : IsFair rule count told others
  pub same : length told ≡ length seekers
  pub persons : (i : ℕ) (s t : Seeker) → slice_get seekers i ≡ Some s → slice_get told i ≡ Some t → s.person ≡ t.person
  pub moving : (i : ℕ) (s : Seeker) (seat other : Option Seat) → moves i ≡ true → slice_get seekers i ≡ Some s → slice_get seats i ≡ Some seat → slice_get others i ≡ Some other
      → (z : Seat) × (other ≡ Some z) × (applies z.prog.0 s.list seat ≡ true)
  pub staying : (i p : ℕ) (s t : Seeker) (seat other : Option Seat) → moves i ≡ false → slice_get seekers i ≡ Some s → slice_get told i ≡ Some t → slice_get seats i ≡ Some seat
      → slice_get others i ≡ Some other → applies p s.list seat ≡ true → applies p t.list other ≡ true

module _ (rule : Rule) (MayApply : ℕ → List Person → Type 0) (well : ChoosesWell rule MayApply) (no_fewer : AdmitsNoFewer rule MayApply) (count : ℕ) (seekers told : List Seeker)
    (seats others : List (Option Seat)) (moves : ℕ → Bool) (market : IsMarket MayApply count seekers) (market' : IsMarket MayApply count told)
    (beside : AreBeside rule count seekers told seats others moves) where
  abbrev both : List (Option Seat)
  both = mixed moves others seats

  full : length seats ≡ length seekers
  full = beside.fair.allocation.full

  full' : length others ≡ length seekers
  full' = beside.told_fair.allocation.full ∙ beside.same

  full_both : length both ≡ length seekers
  full_both = length_mixed moves others seats (full ∙ sym full') ∙ full'

  -- who holds a seat in both applied in the first market,
  in_first : (p : ℕ) → IsSublist (holders p seekers both) (applicants p seekers seats)
  in_first p = part (λ s seat. is_of p seat) (λ s seat. applies p s.list seat) seekers both seats (full ∙ sym full_both)
      (λ i s x y there at at' h. elim (cases_Bool (moves i)) [
        | inl moving ↦
            let other = value_at seekers others i s full' there in
            let is = moved_at moves others seats i other.0 x moving other.1 at in
            let found = seat_of p x h in
            let mine = beside.moving i s y other.0 moving there at' other.1 in
            let prog : mine.0.prog.0 ≡ p = (let a = mine.1 in let b = found.1 in
            let e : Some mine.0 ≡ Some (seat_at p found.0) = cc in
            let f : mine.0 ≡ seat_at p found.0 = cc in
            ap (λ (z : Seat). z.prog.0) f) in
            subst (λ q. applies q s.list y ≡ true) prog mine.2
        | inr staying ↦
            let is = kept_at moves others seats i y x staying at' at in
            holder_applies p s.list y (beside.fair.allocation.own i s y there at') (subst (λ z. is_of p z ≡ true) (sym is) h)
      ])

  -- and in the second
  in_second : (p : ℕ) → IsSublist (holders p seekers both) (applicants p told others)
  in_second p = those_sublist (λ s seat. is_of p seat) (λ s seat. applies p s.list seat) seekers told both others (record {
    seekers = beside.same;
    values = full' ∙ sym full_both;
    persons = beside.persons;
    passes = λ i s t x y there there' at at' h. elim (cases_Bool (moves i)) [
      | inl moving ↦
          let is = moved_at moves others seats i y x moving at' at in
          holder_applies p t.list y (beside.told_fair.allocation.own i t y there' at') (subst (λ z. is_of p z ≡ true) (sym is) h)
      | inr staying ↦
          let seat = value_at seekers seats i s full there in
          let is = kept_at moves others seats i seat.0 x staying seat.1 at in
          let held = holder_applies p s.list seat.0 (beside.fair.allocation.own i s seat.0 there seat.1) (subst (λ z. is_of p z ≡ true) (sym is) h) in
          beside.staying i p s t seat.0 y staying there there' seat.1 at' held
    ];
  })

  -- so the programme would admit them all together
  admits_both : (p : ℕ) → p < count → (x : Person) → IsAmong x (holders p seekers both) → Admits rule p (holders p seekers both) x
  admits_both p below x among =
      let found = of_those (λ s seat. is_of p seat) seekers both x among in
      let i = found.place in
      let kind = seat_of p found.value found.passes in
      let may = applicants_may rule MayApply count p seekers seats market well below full in
      let may' = applicants_may rule MayApply count p told others market' well below beside.told_fair.allocation.full in
      elim (cases_Bool (moves i)) [
        | inl moving ↦
            let t = value_at seekers told i found.s beside.same found.there in
            let other = value_at seekers others i found.s full' found.there in
            let is = moved_at moves others seats i other.0 found.value moving other.1 found.at in
            let has : slice_get others i ≡ Some (Some (seat_at p kind.0)) = other.1 ∙ ap Some (is ∙ kind.1) in
            let admitted = (beside.told_fair.agrees p i t.0 kind.0 below t.1).1 has in
            let one : t.0.person ≡ x = sym (found.person_is ∙ beside.persons i found.s t.0 found.there t.1) in
            well.fewer p (holders p seekers both) (applicants p told others) x may' (in_second p) among (kind.0, subst (λ z. rule p (applicants p told others) z kind.0) one admitted)
        | inr staying ↦
            let seat = value_at seekers seats i found.s full found.there in
            let is = kept_at moves others seats i seat.0 found.value staying seat.1 found.at in
            let has : slice_get seats i ≡ Some (Some (seat_at p kind.0)) = seat.1 ∙ ap Some (is ∙ kind.1) in
            let admitted = (beside.fair.agrees p i found.s kind.0 below found.there).1 has in
            well.fewer p (holders p seekers both) (applicants p seekers seats) x may (in_first p) among
            (kind.0, subst (λ z. rule p (applicants p seekers seats) z kind.0) (sym found.person_is) admitted)
      ]

  no_more : (p : ℕ) → p < count → tally (is_of p) both ≤ tally (is_of p) seats
  no_more p below =
      let may = applicants_may rule MayApply count p seekers seats market well below full in
      let all : AreAdmitted rule p (holders p seekers both) (holders p seekers both) =
      record { part = IsSublist-same (holders p seekers both); each = λ x among. (λ inside. admits_both p below x among, λ admits. among) } in
      let few = no_fewer p (holders p seekers both) (applicants p seekers seats) (holders p seekers both) (holders p seekers seats) may (in_first p) all
      (holders_admitted rule count p seekers seats below beside.fair) in
      let a = tally_those (is_of p) seekers both full_both in
      let b = tally_those (is_of p) seekers seats full in
      omega (arith, few, a, b)

  -- a seat of a list of the market is of a programme of it
  listed_below : (i p : ℕ) (s : Seeker) → slice_get seekers i ≡ Some s → place_of s.list p < length s.list → p < count
  listed_below i p s there less =
      let read = place_read s.list p less in
      subst (λ n. n < count) read.2 (market.below i (place_of s.list p) s read.0 there read.1)

  -- whoever moves has a seat in both
  mine : (i : ℕ) (y : Option Seat) → moves i ≡ true → slice_get both i ≡ Some y → has_below count y ≡ true
  mine i y moving at =
      let s = there_is seekers i (omega (arith, slice_get_within both i y at, full_both)) in
      let seat = value_at seekers seats i s.0 full s.1 in
      let other = value_at seekers others i s.0 full' s.1 in
      let is = moved_at moves others seats i other.0 y moving other.1 at in
      let m = beside.moving i s.0 seat.0 other.0 moving s.1 seat.1 other.1 in
      let a = applies_means m.0.prog.0 s.0.list seat.0 m.2 in
      let below = listed_below i m.0.prog.0 s.0 s.1 a.wants in
      let given : Some m.0 ≡ y = sym m.1 ∙ is in
      subst (λ z. has_below count z ≡ true) given (lt-ltb m.0.prog.0 count below)

  below_both : (i : ℕ) (x y : Option Seat) → slice_get seats i ≡ Some x → slice_get both i ≡ Some y → has_below count x ≡ true → has_below count y ≡ true
  below_both i x y at at' h = elim (cases_Bool (moves i)) [
    | inl moving ↦ mine i y moving at'
    | inr staying ↦ subst (λ z. has_below count z ≡ true) (kept_at moves others seats i x y staying at at') h
  ]

  -- so whoever moves had one in the first
  pub has_seat : (r : ℕ) (s : Seeker) → moves r ≡ true → slice_get seekers r ≡ Some s → slice_get seats r ≡ Some None → ⊥
  has_seat r s moving there none =
      let w = value_at seekers both r s full_both there in
      let yes = mine r w.0 moving w.1 in
      let less = tally_less (has_below count) seats both r None w.0 (full_both ∙ sym full) below_both none w.1 refl yes in
      omega (arith, less, tally_all count both seats no_more)
