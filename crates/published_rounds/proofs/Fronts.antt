-- The best allocation by the fronts of some lists is the best by the whole lists, where by these nobody does worse than the front ends.
use Rattle.std.proofs.Common.{◌≡◌, ◌<◌, ◌≤◌, ◌⊎◌, inl, inr, ℕ, suc, true, List, Option, Some, None, length, min, take, arith, refl, sym, ap, ◌∙◌, subst, length-take}
use Rattle.std.specs.Prelude.{slice_get}
use Rattle.office_base.specs.declared.seat.Seat.{Seat}
use Rattle.office_base.specs.declared.person.Person.{Person}
use Rattle.office_base.specs.declared.person.ProgId.{ProgId}
use Rattle.allocations.specs.Fair.{IsBest, IsFair, IsMarket, IsOwn}
use Rattle.allocations.specs.Market.{Seeker, applies, place_of, rank_of}
use Rattle.allocations.specs.Rule.{ChoosesWell, Rule}
use Rattle.allocations.proofs.Best.{best_there}
use Rattle.allocations.proofs.Places.{applies_means, applies_true, rank_within}
use Rattle.allocations.proofs.Those.{value_at}
use Rattle.allocations.proofs.Truthful.{front_place, still_fair}

-- The same persons seek by the whole lists, or by the fronts of them that end at some seats.
pub record AreFronts (whole now : List Seeker) (seats : List (Option Seat)) : Type 0 where
  pub same : length now ≡ length whole
  pub full : length seats ≡ length whole
  pub persons : (i : ℕ) (t c : Seeker) → slice_get whole i ≡ Some t → slice_get now i ≡ Some c → t.person ≡ c.person
  pub lists : (i : ℕ) (t c : Seeker) (seat : Option Seat) → slice_get whole i ≡ Some t → slice_get now i ≡ Some c → slice_get seats i ≡ Some seat
      → (c.list ≡ t.list) ⊎ (c.list ≡ take (suc (rank_of t.list seat)) t.list)

-- nobody does worse by the best allocation than those seats
abbrev pub DoNoWorse : Rule → ℕ → List Seeker → List (Option Seat) → Type 0
DoNoWorse rule count whole seats = (others : List (Option Seat)) (i : ℕ) (t : Seeker) (seat other : Option Seat) → IsBest rule count whole others → slice_get whole i ≡ Some t
    → slice_get seats i ≡ Some seat → slice_get others i ≡ Some other → rank_of t.list other ≤ rank_of t.list seat

-- ---- one list and its front

-- a list that is another one, or its front up to a place
abbrev IsFrontOf : ℕ → List ProgId → List ProgId → Type 0
IsFrontOf n list front = (front ≡ list) ⊎ (front ≡ take (suc n) list)

-- the place of a programme in both, and their lengths
record Lengths (n : ℕ) (list front : List ProgId) (p : ℕ) : Type 0 where
  pub shorter : length front ≤ length list
  pub whole : (length front ≡ length list) ⊎ (length front ≡ min (suc n) (length list))
  pub ahead : place_of front p ≤ place_of list p
  pub place : place_of front p < length front → place_of front p ≡ place_of list p
  pub listed : place_of list p ≤ n → place_of list p < length list → (place_of front p ≡ place_of list p) × (place_of front p < length front)
  pub back : length list ≤ n → (length front ≡ length list) × (place_of list p < length list → place_of front p ≡ place_of list p)

lengths : (n : ℕ) (list front : List ProgId) (p : ℕ) → IsFrontOf n list front → Lengths n list front p
lengths n list front p (inl same) =
    let size : length front ≡ length list = ap (λ l. length l) same in
    let at : place_of front p ≡ place_of list p = ap (λ l. place_of l p) same in
    record {
      shorter = omega (arith, size);
      whole = inl size;
      ahead = omega (arith, at);
      place = λ less. at;
      listed = λ within less. (at, omega (arith, at, size, less));
      back = λ long. (size, λ less. at);
    }
lengths n list front p (inr cut) =
    let size : length front ≡ min (suc n) (length list) = ap (λ l. length l) cut ∙ length-take (suc n) list in
    let at : place_of front p ≡ min (place_of list p) (suc n) = ap (λ l. place_of l p) cut ∙ front_place (suc n) list p in
    record {
      shorter = omega (arith, size);
      whole = inr size;
      ahead = omega (arith, at);
      place = λ less. omega (arith, at, size, less);
      listed = λ within less. (omega (arith, at, within), omega (arith, at, size, within, less));
      back = λ long. (omega (arith, size, long), λ less. omega (arith, at, less, long));
    }

-- a seat of the list that does not stand behind the place is one of the front
own_front : (n : ℕ) (list front : List ProgId) (seat : Option Seat) → IsFrontOf n list front → IsOwn list seat → rank_of list seat ≤ n → IsOwn front seat
own_front n list front None is own within = tt
own_front n list front (Some x) is own within = ((lengths n list front x.prog.0 is).listed within own).1

own_whole : (n : ℕ) (list front : List ProgId) (seat : Option Seat) → IsFrontOf n list front → IsOwn front seat → IsOwn list seat
own_whole n list front None is own = tt
own_whole n list front (Some x) is own =
    let l = lengths n list front x.prog.0 is in
    omega (arith, l.place own, l.shorter, own)

-- the rank of a seat by the front is not behind that by the list
rank_front : (n : ℕ) (list front : List ProgId) (seat : Option Seat) → IsFrontOf n list front → rank_of front seat ≤ rank_of list seat
rank_front n list front None is = (lengths n list front 0 is).shorter
rank_front n list front (Some x) is = (lengths n list front x.prog.0 is).ahead

-- who applies by the front applies by the list
applies_whole : (n p : ℕ) (list front : List ProgId) (seat : Option Seat) → IsFrontOf n list front → applies p front seat ≡ true → applies p list seat ≡ true
applies_whole n p list front seat is h =
    let a = applies_means p front seat h in
    let l = lengths n list front p is in
    let at = l.place a.wants in
    applies_true p list seat (omega (arith, at, l.shorter, a.wants)) (omega (arith, at, rank_front n list front seat is, a.within))

-- who applies by the list, up to a seat of the front, applies by the front
applies_front : (n p : ℕ) (list front : List ProgId) (y : Seat) → IsFrontOf n list front → place_of list y.prog.0 ≤ n → IsOwn front (Some y) → applies p list (Some y) ≡ true
    → applies p front (Some y) ≡ true
applies_front n p list front y is within own h =
    let a = applies_means p list (Some y) h in
    let before : place_of list p ≤ place_of list y.prog.0 = a.within in
    let mine = (lengths n list front p is).listed (omega (arith, before, within)) a.wants in
    let his = (lengths n list front y.prog.0 is).place own in
    applies_true p front (Some y) mine.1 (let at = mine.0 in omega (arith, at, his, before))

-- and so does who has no seat, where the front is the whole list
applies_none : (n p : ℕ) (list front : List ProgId) → IsFrontOf n list front → length list ≤ n → applies p list None ≡ true → applies p front None ≡ true
applies_none n p list front is long h =
    let a = applies_means p list None h in
    let b = (lengths n list front p is).back long in
    let at = b.1 a.wants in
    let size = b.0 in
    let wants = a.wants in
    applies_true p front None (omega (arith, at, size, wants)) (omega (arith, at, size, wants))

-- a seat that the front holds does not stand behind the place
front_within : (n : ℕ) (list : List ProgId) (p : ℕ) → place_of (take (suc n) list) p < length (take (suc n) list) → place_of list p ≤ n
front_within n list p less =
    omega (arith, length-take (suc n) list, front_place (suc n) list p, less)

none_of : (list : List ProgId) (seat : Option Seat) → IsOwn list seat → length list ≤ rank_of list seat → seat ≡ None
none_of list None own long = refl
none_of list (Some x) own long = absurd (omega (arith, own, long))

rank_back : (n : ℕ) (list front : List ProgId) (x y : Option Seat) → IsFrontOf n list front → IsOwn front x → IsOwn list y → rank_of list y ≤ n → rank_of front x ≤ rank_of front y
    → rank_of list x ≤ rank_of list y
rank_back n list front x None is own own' within order = rank_within list x (own_whole n list front x is own)
rank_back n list front None (Some y) is own own' within order = absurd (let mine = own_front n list front (Some y) is own' within in omega (arith, mine, order))
rank_back n list front (Some x) (Some y) is own own' within order =
    let mine = (lengths n list front x.prog.0 is).place own in
    let his = (lengths n list front y.prog.0 is).place (own_front n list front (Some y) is own' within) in
    omega (arith, mine, his, order)

-- ---- the markets

module _ (rule : Rule) (MayApply : ℕ → List Person → Type 0) (count : ℕ) (well : ChoosesWell rule MayApply) (whole now : List Seeker) (seats actual : List (Option Seat))
    (market : IsMarket MayApply count whole) (now_market : IsMarket MayApply count now) (fronts : AreFronts whole now seats) (no_worse : DoNoWorse rule count whole seats)
    (best : IsBest rule count now actual) where
  -- the best allocation by the whole lists
  by_whole : (others : List (Option Seat)) × IsBest rule count whole others
  by_whole = best_there rule MayApply count whole market well

  record Here (i : ℕ) (t c : Seeker) : Type 0 where
    pub seat : Option Seat
    pub is : IsFrontOf (rank_of t.list seat) t.list c.list
    pub other : Option Seat
    pub at : slice_get by_whole.0 i ≡ Some other
    pub own : IsOwn t.list other
    pub within : rank_of t.list other ≤ rank_of t.list seat

  here : (i : ℕ) (t c : Seeker) → slice_get whole i ≡ Some t → slice_get now i ≡ Some c → Here i t c
  here i t c there there' =
      let seat = value_at whole seats i t fronts.full there in
      let other = value_at whole by_whole.0 i t by_whole.1.fair.allocation.full there in
      record {
        seat = seat.0;
        is = fronts.lists i t c seat.0 there there' seat.1;
        other = other.0;
        at = other.1;
        own = by_whole.1.fair.allocation.own i t other.0 there other.1;
        within = no_worse by_whole.0 i t seat.0 other.0 by_whole.1 there seat.1 other.1;
      }

  -- it is fair by the fronts
  front_fair : IsFair rule count now by_whole.0
  front_fair =
      still_fair rule MayApply well count whole now market by_whole.0 fronts.same fronts.persons
      (λ i t c there there' y has.
      let h = here i t c there there' in
      let one : h.other ≡ y = (let e = h.at in cc) in
      subst (λ z. IsOwn c.list z) one (own_front (rank_of t.list h.seat) t.list c.list h.other h.is h.own h.within))
      (λ i t c there there' p y has applied. let h = here i t c there there' in applies_whole (rank_of t.list h.seat) p t.list c.list y h.is applied)
      by_whole.1.fair

  no_later : (i : ℕ) (t c : Seeker) (x : Option Seat) (h : Here i t c) → slice_get now i ≡ Some c → slice_get actual i ≡ Some x → rank_of c.list x ≤ rank_of c.list h.other
  no_later i t c x h there' has = best.best by_whole.0 front_fair i c x h.other there' has h.at

  narrow : (i p : ℕ) (t c : Seeker) (x : Option Seat) → slice_get whole i ≡ Some t → slice_get now i ≡ Some c → slice_get actual i ≡ Some x → applies p t.list x ≡ true → applies p c.list x ≡ true
  narrow i p t c None there there' has applied =
      let h = here i t c there there' in
      let order = no_later i t c None h there' has in
      elim h.is [
        | inl same ↦ subst (λ l. applies p l None ≡ true) (sym same) applied
        | inr cut ↦
            let none = none_of c.list h.other (own_front (rank_of t.list h.seat) t.list c.list h.other h.is h.own h.within) order in
            let long : length t.list ≤ rank_of t.list h.seat = subst (λ o. rank_of t.list o ≤ rank_of t.list h.seat) none h.within in
            applies_none (rank_of t.list h.seat) p t.list c.list h.is long applied
      ]
  narrow i p t c (Some x) there there' has applied =
      let h = here i t c there there' in
      let own = best.fair.allocation.own i c (Some x) there' has in
      elim h.is [
        | inl same ↦ subst (λ l. applies p l (Some x) ≡ true) (sym same) applied
        | inr cut ↦
            let own' : place_of (take (suc (rank_of t.list h.seat)) t.list) x.prog.0 < length (take (suc (rank_of t.list h.seat)) t.list) = subst (λ l. place_of l x.prog.0 < length l) cut own in
            applies_front (rank_of t.list h.seat) p t.list c.list x h.is (front_within (rank_of t.list h.seat) t.list x.prog.0 own') own applied
      ]

  -- the allocation by the fronts is fair by the whole lists,
  whole_fair : IsFair rule count whole actual
  whole_fair =
      still_fair rule MayApply well count now whole now_market actual (sym fronts.same)
      (λ i c t there' there. sym (fronts.persons i t c there there'))
      (λ i c t there' there x has.
      let h = here i t c there there' in
      own_whole (rank_of t.list h.seat) t.list c.list x h.is (best.fair.allocation.own i c x there' has))
      (λ i c t there' there p x has applied. narrow i p t c x there there' has applied)
      best.fair

  -- and the best
  pub fronts_are_best : IsBest rule count whole actual
  fronts_are_best = record {
    fair = whole_fair;
    best = λ others fair' i t x other there has has'.
        let c = value_at whole now i t fronts.same there in
        let h = here i t c.0 there c.1 in
        let first = rank_back (rank_of t.list h.seat) t.list c.0.list x h.other h.is (best.fair.allocation.own i c.0 x c.1 has) h.own h.within (no_later i t c.0 x h c.1 has) in
        let second = by_whole.1.best others fair' i t h.other other there h.at has' in
        omega (arith, first, second);
  }
