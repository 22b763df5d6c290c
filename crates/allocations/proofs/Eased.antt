-- Where some leave, and programmes still admit whom they admitted, nobody else does worse.
use Rattle.std.proofs.Common.{◌≡◌, ◌<◌, ◌≤◌, ◌+◌, inl, inr, ℕ, zero, suc, true, List, [], ◌∷◌, Option, Some, None, length, take, arith, refl, sym, ap, ◌∙◌, subst, length-take}
use Rattle.std.specs.Prelude.{slice_get}
use Rattle.office_base.specs.declared.seat.Seat.{Seat}
use Rattle.office_base.specs.declared.person.Person.{Person}
use Rattle.office_base.specs.declared.person.ProgId.{ProgId}
use Rattle.allocations.specs.Compared.{HurtsNobody, SomeLeave}
use Rattle.allocations.specs.Fair.{IsBest, IsFair, IsMarket, IsNextMarket, IsOwn}
use Rattle.allocations.specs.Market.{Seeker, applies, place_of, rank_of}
use Rattle.allocations.specs.Rule.{ChoosesWell, Grows, Rule}
use Rattle.allocations.proofs.Best.{best_there}
use Rattle.allocations.proofs.Falls.{nobody_falls}
use Rattle.allocations.proofs.Places.{applies_means, applies_true, place_read, rank_within}
use Rattle.allocations.proofs.Those.{value_at}
use Rattle.allocations.proofs.Truthful.{front_distinct, front_place, narrows_market, still_fair, with_list}

-- the front of the list that ends with the seat, and the whole list where there is none
abbrev up_to : Seeker → Option Seat → Seeker
up_to s seat = with_list s (take (rank_of s.list seat + 1) s.list)

abbrev cut : List Seeker → List (Option Seat) → List Seeker
cut [] seats = []
cut (s ∷ seekers) [] = []
cut (s ∷ seekers) (seat ∷ seats) = up_to s seat ∷ cut seekers seats

length_cut : (seekers : List Seeker) (seats : List (Option Seat)) → length seats ≡ length seekers → length (cut seekers seats) ≡ length seekers
length_cut [] seats full = refl
length_cut (s ∷ seekers) [] full = absurd (omega (arith, full))
length_cut (s ∷ seekers) (seat ∷ seats) full = ap suc (length_cut seekers seats (omega (arith, full)))

cut_at : (seekers : List Seeker) (seats : List (Option Seat)) (i : ℕ) (s : Seeker) (seat : Option Seat) → slice_get seekers i ≡ Some s → slice_get seats i ≡ Some seat
    → slice_get (cut seekers seats) i ≡ Some (up_to s seat)
cut_at [] seats i s seat there has = absurd (cc)
cut_at (x ∷ seekers) [] i s seat there has = absurd (cc)
cut_at (x ∷ seekers) (y ∷ seats) zero s seat there has =
    let first : x ≡ s = cc in
    let second : y ≡ seat = cc in
    ap (λ z. Some (up_to z y)) first ∙ ap (λ z. Some (up_to s z)) second
cut_at (x ∷ seekers) (y ∷ seats) (suc i) s seat there has = cut_at seekers seats i s seat there has

-- what is on the cut list is on the list, at the seat or before it
record OnCut (s : Seeker) (seat : Option Seat) (p : ℕ) : Type 0 where
  pub place : place_of (up_to s seat).list p ≡ place_of s.list p
  pub within : place_of s.list p ≤ rank_of s.list seat
  pub less : place_of s.list p < length s.list

on_cut : (s : Seeker) (seat : Option Seat) (p : ℕ) → place_of (up_to s seat).list p < length (up_to s seat).list → OnCut s seat p
on_cut s seat p stands =
    let place = front_place (rank_of s.list seat + 1) s.list p in
    let size = length-take (rank_of s.list seat + 1) s.list in
    record { place = omega (arith, place, size, stands); within = omega (arith, place, size, stands); less = omega (arith, place, size, stands) }

stands_cut : (s : Seeker) (seat : Option Seat) (p : ℕ) → place_of s.list p ≤ rank_of s.list seat → place_of s.list p < length s.list
    → place_of (up_to s seat).list p < length (up_to s seat).list
stands_cut s seat p within less =
    let place = front_place (rank_of s.list seat + 1) s.list p in
    let size = length-take (rank_of s.list seat + 1) s.list in
    omega (arith, place, size, within, less)

-- the seeker of the cut list and of the whole one, for the seats by the cut lists
record Both (seats : List (Option Seat)) (i : ℕ) (c t : Seeker) : Type 0 where
  pub persons : c.person ≡ t.person
  pub own : (seat : Option Seat) → IsOwn c.list seat → IsOwn t.list seat
  pub narrow : (p : ℕ) (seat : Option Seat) → slice_get seats i ≡ Some seat → applies p t.list seat ≡ true → applies p c.list seat ≡ true

module _ (rule more : Rule) (MayApply : ℕ → List Person → Type 0) (well : ChoosesWell rule MayApply) (more_well : ChoosesWell more MayApply) (grows : Grows rule more MayApply) (count : ℕ)
    (seekers next : List Seeker) (seats : List (Option Seat)) (market : IsMarket MayApply count seekers) (leave : SomeLeave seekers next) (fair : IsFair rule count seekers seats) where
  abbrev small : List Seeker
  small = cut next seats

  full : length seats ≡ length next
  full = fair.allocation.full ∙ sym leave.same

  full_small : length small ≡ length next
  full_small = length_cut next seats full

  -- a seeker of the cut market, with the seeker before and after
  record Cut (i : ℕ) (c : Seeker) : Type 0 where
    pub s : Seeker
    pub there : slice_get seekers i ≡ Some s
    pub t : Seeker
    pub there' : slice_get next i ≡ Some t
    pub seat : Option Seat
    pub has : slice_get seats i ≡ Some seat
    pub is_cut : c ≡ up_to t seat

  cut_of : (i : ℕ) (c : Seeker) → slice_get small i ≡ Some c → Cut i c
  cut_of i c at =
      let t = value_at small next i c (sym full_small) at in
      let s = value_at next seekers i t.0 (sym leave.same) t.1 in
      let seat = value_at next seats i t.0 full t.1 in
      let here = cut_at next seats i t.0 seat.0 t.1 seat.1 in
      record { s = s.0; there = s.1; t = t.0; there' = t.1; seat = seat.0; has = seat.1; is_cut = (let same : Some c ≡ Some (up_to t.0 seat.0) = sym at ∙ here in cc) }

  -- if a programme is on a seeker's list after, that list is the list before
  stood : (i p : ℕ) (s t : Seeker) → slice_get seekers i ≡ Some s → slice_get next i ≡ Some t → place_of t.list p < length t.list → t.list ≡ s.list
  stood i p s t there there' stands = elim (leave.lists i s t there there') [
    | inl same ↦ same
    | inr none ↦ absurd (let less = subst (λ l. place_of l p < length l) none stands in omega (arith, less))
  ]

  wants_cut : (i p : ℕ) (c : Seeker) (found : Cut i c) → place_of c.list p < length c.list → OnCut found.s found.seat p
  wants_cut i p c found stands =
      let stands' = subst (λ (z : Seeker). place_of z.list p < length z.list) found.is_cut stands in
      let on = on_cut found.t found.seat p stands' in
      let same = stood i p found.s found.t found.there found.there' on.less in
      let stands'' = subst (λ l. place_of (take (rank_of l found.seat + 1) l) p < length (take (rank_of l found.seat + 1) l)) same stands' in
      on_cut found.s found.seat p stands''

  same_person : (i : ℕ) (c : Seeker) (found : Cut i c) → found.s.person ≡ c.person
  same_person i c found = leave.persons i found.s found.t found.there found.there' ∙ ap (λ (z : Seeker). z.person) (sym found.is_cut)

  narrows : IsNextMarket seekers seats small
  narrows = record {
    same = full_small ∙ leave.same;
    persons = λ i s c there at.
        let found = cut_of i c at in
        let one = found.there in
        let same : s ≡ found.s = cc in
        ap (λ (z : Seeker). z.person) same ∙ same_person i c found;
    narrowed = λ p i s c seat there at has stands.
        let found = cut_of i c at in
        let one = found.there in
        let two = found.has in
        let same : found.s ≡ s = cc in
        let value : found.seat ≡ seat = cc in
        let on = wants_cut i p c found stands in
        subst (λ z. applies p s.list z ≡ true) value (subst (λ (z : Seeker). applies p z.list found.seat ≡ true) same (applies_true p found.s.list found.seat on.less on.within));
  }

  small_market : IsMarket MayApply count small
  small_market = narrows_market rule MayApply well count seekers small market (record {
    same = full_small ∙ leave.same;
    persons = narrows.persons;
    distinct = λ i k c q at at'.
        let found = cut_of i c at in
        let get = subst (λ (z : Seeker). slice_get z.list k ≡ Some q) found.is_cut at' in
        let place = front_distinct (rank_of found.t.list found.seat + 1) found.t.list (λ k' q' at''. distinct i k' found.s found.t q' found.there found.there' at'') k q get in
        subst (λ (z : Seeker). place_of z.list q.0 ≡ k) (sym found.is_cut) place;
    narrowed = λ p i s c there at stands.
        let found = cut_of i c at in
        let one = found.there in
        let same : found.s ≡ s = cc in
        let on = wants_cut i p c found stands in
        subst (λ (z : Seeker). place_of z.list p < length z.list) same on.less;
  })
    where
      distinct : (i k : ℕ) (s t : Seeker) (q : ProgId) → slice_get seekers i ≡ Some s → slice_get next i ≡ Some t → slice_get t.list k ≡ Some q → place_of t.list q.0 ≡ k
      distinct i k s t q there there' at = elim (leave.lists i s t there there') [
        | inl same ↦ subst (λ l. place_of l q.0 ≡ k) (sym same) (market.distinct i k s q there (subst (λ l. slice_get l k ≡ Some q) same at))
        | inr none ↦ absurd (let gone = subst (λ l. slice_get l k ≡ Some q) none at in cc)
      ]

  first : (small_seats : List (Option Seat)) × IsBest more count small small_seats
  first = best_there more MayApply count small small_market more_well

  -- a seeker who has no seat by the cut list had none before, or wants none
  had_none : (i p : ℕ) (c : Seeker) (found : Cut i c) → slice_get small i ≡ Some c → slice_get first.0 i ≡ Some None → place_of found.t.list p < length found.t.list → found.seat ≡ None
  had_none i p c found at none stands = go found.seat found.has found.is_cut
    where
      go : (seat : Option Seat) → slice_get seats i ≡ Some seat → c ≡ up_to found.t seat → seat ≡ None
      go None has is_cut = refl
      go (Some x) has is_cut = absurd (
          let own : place_of found.s.list x.prog.0 < length found.s.list = fair.allocation.own i found.s (Some x) found.there has in
          let read = place_read found.s.list x.prog.0 own in
          let below = subst (λ n. n < count) read.2 (market.below i (place_of found.s.list x.prog.0) found.s read.0 found.there read.1) in
          let same = stood i p found.s found.t found.there found.there' stands in
          let own' = subst (λ l. place_of l x.prog.0 < length l) (sym same) own in
          let wanted = subst (λ (z : Seeker). place_of z.list x.prog.0 < length z.list) (sym is_cut) (stands_cut found.t (Some x) x.prog.0 (omega arith) own') in
          nobody_falls rule more MayApply count x.prog.0 i seekers small seats first.0 found.s c x.step market well grows fair first.1.fair narrows below found.there at has wanted none)

  -- so the best allocation by the cut lists is fair by the whole ones
  whole_fair : IsFair more count next first.0
  whole_fair =
      still_fair more MayApply more_well count small next small_market first.0 (sym full_small)
      (λ i c t at there. let e = cut_seeker i c t at there in e.persons)
      (λ i c t at there seat has. (cut_seeker i c t at there).own seat (first.1.fair.allocation.own i c seat at has))
      (λ i c t at there p seat has h. (cut_seeker i c t at there).narrow p seat has h) first.1.fair
    where
      own_of : (t : Seeker) (seat x : Option Seat) → IsOwn (up_to t seat).list x → IsOwn t.list x
      own_of t seat None own = tt
      own_of t seat (Some x) own = (on_cut t seat x.prog.0 own).less

      narrow_of : (i : ℕ) (c : Seeker) (found : Cut i c) → slice_get small i ≡ Some c → (p : ℕ) (x : Option Seat) → slice_get first.0 i ≡ Some x → applies p found.t.list x ≡ true
          → applies p (up_to found.t found.seat).list x ≡ true
      narrow_of i c found at p None has h =
          let a = applies_means p found.t.list None h in
          let none = had_none i p c found at has a.wants in
          let rank : rank_of found.t.list found.seat ≡ length found.t.list = ap (λ z. rank_of found.t.list z) none in
          let less = a.wants in
          let stands = stands_cut found.t found.seat p (omega (arith, rank, less)) less in
          applies_true p (up_to found.t found.seat).list None stands (omega (arith, stands))
      narrow_of i c found at p (Some y) has h =
          let a = applies_means p found.t.list (Some y) h in
          let own = subst (λ (z : Seeker). IsOwn z.list (Some y)) found.is_cut (first.1.fair.allocation.own i c (Some y) at has) in
          let on = on_cut found.t found.seat y.prog.0 own in
          let before : place_of found.t.list p ≤ place_of found.t.list y.prog.0 = a.within in
          let within = on.within in
          let stands = stands_cut found.t found.seat p (omega (arith, before, within)) a.wants in
          let mine = (on_cut found.t found.seat p stands).place in
          let his = on.place in
          applies_true p (up_to found.t found.seat).list (Some y) stands (omega (arith, mine, his, before))

      both_of : (i : ℕ) (c : Seeker) (found : Cut i c) → slice_get small i ≡ Some c → Both first.0 i c found.t
      both_of i c found at = record {
        persons = ap (λ (z : Seeker). z.person) found.is_cut;
        own = λ seat own. own_of found.t found.seat seat (subst (λ (z : Seeker). IsOwn z.list seat) found.is_cut own);
        narrow = λ p x has h. subst (λ (z : Seeker). applies p z.list x ≡ true) (sym found.is_cut) (narrow_of i c found at p x has h);
      }

      cut_seeker : (i : ℕ) (c t : Seeker) → slice_get small i ≡ Some c → slice_get next i ≡ Some t → Both first.0 i c t
      cut_seeker i c t at there =
          let found = cut_of i c at in
          let one = found.there' in
          let same : found.t ≡ t = cc in
          subst (λ z. Both first.0 i c z) same (both_of i c found at)

  -- the seat by the cut lists is at the one before, or ahead of it
  no_later : (i : ℕ) (s t : Seeker) (seat x : Option Seat) → slice_get seekers i ≡ Some s → slice_get next i ≡ Some t → t.list ≡ s.list → slice_get seats i ≡ Some seat
      → slice_get first.0 i ≡ Some x → rank_of t.list x ≤ rank_of t.list seat
  no_later i s t None x there there' same has at = rank_within t.list x (whole_fair.allocation.own i t x there' at)
  no_later i s t (Some y) None there there' same has at = absurd (
      let here = cut_at next seats i t (Some y) there' has in
      let own : place_of s.list y.prog.0 < length s.list = fair.allocation.own i s (Some y) there has in
      let own' = subst (λ l. place_of l y.prog.0 < length l) (sym same) own in
      let read = place_read s.list y.prog.0 own in
      let below = subst (λ n. n < count) read.2 (market.below i (place_of s.list y.prog.0) s read.0 there read.1) in
      nobody_falls rule more MayApply count y.prog.0 i seekers small seats first.0 s (up_to t (Some y)) y.step market well grows fair first.1.fair narrows below there here has
      (stands_cut t (Some y) y.prog.0 (omega arith) own') at)
  no_later i s t (Some y) (Some x) there there' same has at =
      let here = cut_at next seats i t (Some y) there' has in
      let own : place_of (up_to t (Some y)).list x.prog.0 < length (up_to t (Some y)).list = first.1.fair.allocation.own i (up_to t (Some y)) (Some x) here at in
      (on_cut t (Some y) x.prog.0 own).within

  pub no_worse : (others : List (Option Seat)) (i : ℕ) (s t : Seeker) (seat other : Option Seat) → IsBest more count next others → slice_get seekers i ≡ Some s → slice_get next i ≡ Some t
      → t.list ≡ s.list → slice_get seats i ≡ Some seat → slice_get others i ≡ Some other → rank_of s.list other ≤ rank_of s.list seat
  no_worse others i s t seat other best there there' same has has' =
      let x = value_at next first.0 i t whole_fair.allocation.full there' in
      let one = best.best first.0 whole_fair i t other x.0 there' has' x.1 in
      let two = no_later i s t seat x.0 there there' same has x.1 in
      let all : rank_of t.list other ≤ rank_of t.list seat = omega (arith, one, two) in
      subst (λ l. rank_of l other ≤ rank_of l seat) same all

-- Nobody else does worse.
pub hurts_nobody : (rule more : Rule) (MayApply : ℕ → List Person → Type 0) → ChoosesWell rule MayApply → ChoosesWell more MayApply → Grows rule more MayApply → HurtsNobody rule more MayApply
hurts_nobody rule more MayApply well more_well grows count i seekers next seats others s t seat other market leave fair best there there' same has has' =
    no_worse rule more MayApply well more_well grows count seekers next seats market leave fair others i s t seat other best there there' same has has'
