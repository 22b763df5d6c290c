-- Markets where each seeker submits the front of a list: nobody who still lists the seat they had does worse where others list less.
use Rattle.std.proofs.Common.{◌≡◌, ◌<◌, ◌≤◌, ◌+◌, inl, inr, ℕ, zero, suc, min, true, List, [], ◌∷◌, Option, Some, None, length, take, arith, refl, sym, ap, ◌∙◌, subst, length-take}
use Rattle.std.specs.Prelude.{slice_get}
use Rattle.std.specs.Option.{unwrap_or}
use Rattle.std.proofs.lemmas.Bool.{cases_lt}
use Rattle.std.proofs.lemmas.List.{take_all}
use Rattle.office_base.specs.Lists.{IsSublist}
use Rattle.office_base.specs.declared.seat.Seat.{Seat}
use Rattle.office_base.specs.declared.person.Person.{Person}
use Rattle.office_base.specs.declared.person.ProgId.{ProgId}
use Rattle.office_base.specs.declared.seat.SeatKind.{SeatKind}
use Rattle.allocations.specs.Fair.{IsBest, IsFair, IsMarket, IsNextMarket, IsOwn}
use Rattle.allocations.specs.Market.{Seeker, applicants, applies, place_of, rank_of, seat_at}
use Rattle.allocations.specs.Rule.{Admits, ChoosesWell, Grows, Rule}
use Rattle.allocations.proofs.Best.{best_there}
use Rattle.allocations.proofs.Claims.{applicants_may}
use Rattle.allocations.proofs.Places.{applies_means, applies_true, place_read}
use Rattle.allocations.proofs.Those.{those_has, those_sublist, value_at}
use Rattle.allocations.proofs.Truthful.{front_distinct, front_place, narrows_market, still_fair, with_list}

-- ---- the front of a list

-- where a programme is on a front: before its end, and on the list
record IsOn (n : ℕ) (list : List ProgId) (p : ℕ) : Type 0 where
  pub before : place_of list p < n
  pub on : place_of list p < length list

on_front : (n : ℕ) (list : List ProgId) (p : ℕ) → place_of (take n list) p < length (take n list) → IsOn n list p
on_front n list p less =
    let e = front_place n list p in
    let size = length-take n list in
    record { before = omega (arith, less, e, size); on = omega (arith, less, e, size) }

front_on : (n : ℕ) (list : List ProgId) (p : ℕ) → place_of list p < n → place_of list p < length list → place_of (take n list) p < length (take n list)
front_on n list p before on = let e = front_place n list p in let size = length-take n list in omega (arith, e, size, before, on)

-- an application by a front, told by the list
pub record AppliesBy (n : ℕ) (list : List ProgId) (p : ℕ) (seat : Option Seat) : Type 0 where
  pub before : place_of list p < n
  pub on : place_of list p < length list
  pub within : place_of list p ≤ rank_of list seat

rank_front : (n : ℕ) (list : List ProgId) (seat : Option Seat) → rank_of (take n list) seat ≡ min (rank_of list seat) n
rank_front n list None = omega (arith, length-take n list)
rank_front n list (Some y) = front_place n list y.prog.0

pub applies_by : (n : ℕ) (list : List ProgId) (p : ℕ) (seat : Option Seat) → applies p (take n list) seat ≡ true → AppliesBy n list p seat
applies_by n list p seat h =
    let a = applies_means p (take n list) seat h in
    let at = on_front n list p a.wants in
    record { before = at.before; on = at.on; within = omega (arith, a.within, at.before, front_place n list p, rank_front n list seat) }

pub by_applies : (n : ℕ) (list : List ProgId) (p : ℕ) (seat : Option Seat) → AppliesBy n list p seat → applies p (take n list) seat ≡ true
by_applies n list p seat a = applies_true p (take n list) seat (front_on n list p a.before a.on) (omega (arith, front_place n list p, rank_front n list seat))

-- a seat is at a place of a front, or there is none
abbrev pub IsWithin : ℕ → List ProgId → Option Seat → Type 0
IsWithin n list None = Unit {0}
IsWithin n list (Some y) = (place_of list y.prog.0 < n) × (place_of list y.prog.0 < length list)

pub within_own : (n : ℕ) (list : List ProgId) (seat : Option Seat) → IsOwn (take n list) seat → IsWithin n list seat
within_own n list None own = tt
within_own n list (Some y) own = let at = on_front n list y.prog.0 own in (at.before, at.on)

pub wider : (n m : ℕ) (list : List ProgId) (seat : Option Seat) → n ≤ m → IsWithin n list seat → IsWithin m list seat
wider n m list None le at = tt
wider n m list (Some y) le at = (omega (arith, at.0, le), at.1)

pub own_within : (n : ℕ) (list : List ProgId) (seat : Option Seat) → IsWithin n list seat → IsOwn (take n list) seat
own_within n list None at = tt
own_within n list (Some y) at = front_on n list y.prog.0 at.0 at.1

-- of seats of a front, the one that is no later there is no later on the list
pub ranks_by : (n : ℕ) (list : List ProgId) (x y : Option Seat) → IsWithin n list x → IsWithin n list y → rank_of (take n list) x ≤ rank_of (take n list) y → rank_of list x ≤ rank_of list y
ranks_by n list None None at at' le = omega arith
ranks_by n list None (Some y) at at' le = absurd (omega (arith, at'.0, at'.1, front_place n list y.prog.0, length-take n list))
ranks_by n list (Some x) y at at' le = omega (arith, at.0, front_place n list x.prog.0, rank_front n list y)

-- ---- the seekers with fronts of their lists

abbrev pub fronted : (ℕ → ℕ) → List Seeker → List Seeker
fronted k [] = []
fronted k (s ∷ seekers) = with_list s (take (k 0) s.list) ∷ fronted (λ i. k (suc i)) seekers

pub length_fronted : (k : ℕ → ℕ) (seekers : List Seeker) → length (fronted k seekers) ≡ length seekers
length_fronted k [] = refl
length_fronted k (s ∷ seekers) = ap suc (length_fronted (λ i. k (suc i)) seekers)

pub fronted_at : (k : ℕ → ℕ) (seekers : List Seeker) (i : ℕ) (s : Seeker) → slice_get seekers i ≡ Some s → slice_get (fronted k seekers) i ≡ Some (with_list s (take (k i) s.list))
fronted_at k [] i s there = absurd (cc)
fronted_at k (x ∷ seekers) zero s there = let same : x ≡ s = cc in ap (λ (z : Seeker). Some (with_list z (take (k 0) z.list))) same
fronted_at k (x ∷ seekers) (suc i) s there = fronted_at (λ j. k (suc j)) seekers i s there

-- where each front is the whole list, the seekers are as they are
pub fronted_whole : (k : ℕ → ℕ) (seekers : List Seeker) → ((i : ℕ) (s : Seeker) → slice_get seekers i ≡ Some s → length s.list ≤ k i) → fronted k seekers ≡ seekers
fronted_whole k [] whole = refl
fronted_whole k (s ∷ seekers) whole =
    ap (λ l. with_list s l ∷ fronted (λ i. k (suc i)) seekers) (take_all (k 0) s.list (whole 0 s refl))
    ∙ ap (λ rest. s ∷ rest) (fronted_whole (λ i. k (suc i)) seekers (λ i. whole (suc i)))

-- the list of the seeker at a place, or none
abbrev pub listed : Option Seeker → List ProgId
listed None = []
listed (Some s) = s.list

-- how long the list at a place is
abbrev pub size_at : List Seeker → ℕ → ℕ
size_at seekers i = length (listed (slice_get seekers i))

pub size_there : (seekers : List Seeker) (i : ℕ) (s : Seeker) → slice_get seekers i ≡ Some s → size_at seekers i ≡ length s.list
size_there seekers i s there = ap (λ o. length (listed o)) there

-- the value at a place, or none
abbrev pub seat_of_place : List (Option Seat) → ℕ → Option Seat
seat_of_place seats i = unwrap_or (slice_get seats i) None

pub of_place : (seats : List (Option Seat)) (i : ℕ) (seat : Option Seat) → slice_get seats i ≡ Some seat → seat_of_place seats i ≡ seat
of_place seats i seat at = ap (λ o. unwrap_or o None) at

-- how far down their list the seat at a place is
abbrev pub rank_at : List Seeker → List (Option Seat) → ℕ → ℕ
rank_at seekers seats i = rank_of (listed (slice_get seekers i)) (seat_of_place seats i)

pub rank_there : (seekers : List Seeker) (seats : List (Option Seat)) (i : ℕ) (s : Seeker) (seat : Option Seat) → slice_get seekers i ≡ Some s → slice_get seats i ≡ Some seat
    → rank_at seekers seats i ≡ rank_of s.list seat
rank_there seekers seats i s seat there has = ap (λ o. rank_of (listed o) (seat_of_place seats i)) there ∙ ap (λ o. rank_of s.list o) (of_place seats i seat has)

pub rank_short : (list : List ProgId) (seat : Option Seat) → rank_of list seat ≤ length list
rank_short list seat = omega (arith, rank_front (length list) list seat, ap (λ l. rank_of l seat) (take_all (length list) list (omega arith)))

-- In fair seats of the next round, by a rule that admits whom the first does, a seeker who had a seat and still wants its programme has a seat.
still_seated : (rule more : Rule) (MayApply : ℕ → List Person → Type 0) (count p i : ℕ) (seekers next : List Seeker) (seats others : List (Option Seat)) (s t : Seeker) (kind : SeatKind)
    → IsMarket MayApply count seekers → ChoosesWell more MayApply → Grows rule more MayApply → IsFair rule count seekers seats → IsFair more count next others
    → IsNextMarket seekers seats next → p < count → slice_get seekers i ≡ Some s → slice_get next i ≡ Some t → slice_get seats i ≡ Some (Some (seat_at p kind))
    → place_of t.list p < length t.list → slice_get others i ≡ Some None → ⊥
still_seated rule more MayApply count p i seekers next seats others s t kind market well grows fair fair' narrows below there there' has wanted none =
    let full = fair.allocation.full in
    let may = applicants_may more MayApply count p seekers seats market well below full in
    let part : IsSublist (applicants p next others) (applicants p seekers seats) =
    those_sublist (λ s seat. applies p s.list seat) (λ s seat. applies p s.list seat) next seekers others seats (record {
      seekers = sym narrows.same;
      values = full ∙ (sym narrows.same ∙ sym fair'.allocation.full);
      persons = λ i s t there there'. sym (narrows.persons i t s there' there);
      passes = λ i s t x y there there' at at' h. narrows.narrowed p i t s y there' there at' (applies_means p s.list x h).wants;
    }) in
    let same : s.person ≡ t.person = narrows.persons i s t there there' in
    let among = those_has (λ s seat. applies p s.list seat) next others i t None there' none (applies_true p t.list None wanted (omega (arith, wanted))) in
    let admitted : Admits rule p (applicants p seekers seats) t.person =
    (kind, subst (λ z. rule p (applicants p seekers seats) z kind) same ((fair.agrees p i s kind below there).1 has)) in
    let grown = grows p (applicants p seekers seats) t.person may admitted in
    let fewer = well.fewer p (applicants p next others) (applicants p seekers seats) t.person may part among grown in
    let seat = (fair'.agrees p i t fewer.0 below there').0 fewer.1 in
    cc

-- the seeker of a front
pub record Base (seekers : List Seeker) (k : ℕ → ℕ) (i : ℕ) (t : Seeker) : Type 0 where
  pub s : Seeker
  pub there : slice_get seekers i ≡ Some s
  pub is : t ≡ with_list s (take (k i) s.list)

pub base : (seekers : List Seeker) (k : ℕ → ℕ) (i : ℕ) (t : Seeker) → slice_get (fronted k seekers) i ≡ Some t → Base seekers k i t
base seekers k i t at =
    let s = value_at (fronted k seekers) seekers i t (sym (length_fronted k seekers)) at in
    let here = fronted_at k seekers i s.0 s.1 in
    record { s = s.0; there = s.1; is = (cc) }

-- fair seats by fronts are of the front
pub front_within : (rule : Rule) (count : ℕ) (seekers : List Seeker) (k : ℕ → ℕ) (seats : List (Option Seat)) (i : ℕ) (s : Seeker) (seat : Option Seat) → IsFair rule count (fronted k seekers) seats
    → slice_get seekers i ≡ Some s → slice_get seats i ≡ Some seat → IsWithin (k i) s.list seat
front_within rule count seekers k seats i s seat fair there has =
    within_own (k i) s.list seat (fair.allocation.own i (with_list s (take (k i) s.list)) seat (fronted_at k seekers i s there) has)

module _ (rule : Rule) (MayApply : ℕ → List Person → Type 0) (well : ChoosesWell rule MayApply) (count : ℕ) (seekers : List Seeker) (market : IsMarket MayApply count seekers) where
  -- fronts are a market
  pub front_market : (k : ℕ → ℕ) → IsMarket MayApply count (fronted k seekers)
  front_market k = narrows_market rule MayApply well count seekers (fronted k seekers) market (record {
    same = length_fronted k seekers;
    persons = λ i s t there at. let b = base seekers k i t at in cc (b.there, b.is);
    distinct = λ i j t q at get.
        let b = base seekers k i t at in
        let get' = subst (λ (z : Seeker). slice_get z.list j ≡ Some q) b.is get in
        let place = front_distinct (k i) b.s.list (λ j q at. market.distinct i j b.s q b.there at) j q get' in
        subst (λ (z : Seeker). place_of z.list q.0 ≡ j) (sym b.is) place;
    narrowed = λ p i s t there at less.
        let b = base seekers k i t at in
        let same : b.s ≡ s = cc (b.there) in
        subst (λ (z : Seeker). place_of z.list p < length z.list) same
        (on_front (k i) b.s.list p (subst (λ (z : Seeker). place_of z.list p < length z.list) b.is less)).on;
  })

  -- fair seats by fronts are fair by others that hold them, where nobody applies to more
  pub moved : (k m : ℕ → ℕ) (seats : List (Option Seat)) → IsFair rule count (fronted k seekers) seats
      → ((i : ℕ) (s : Seeker) (seat : Option Seat) → slice_get seekers i ≡ Some s → slice_get seats i ≡ Some seat → IsWithin (m i) s.list seat)
      → ((i p : ℕ) (s : Seeker) (seat : Option Seat) → slice_get seekers i ≡ Some s → slice_get seats i ≡ Some seat → AppliesBy (m i) s.list p seat → place_of s.list p < k i)
      → IsFair rule count (fronted m seekers) seats
  moved k m seats fair own narrow =
      still_fair rule MayApply well count (fronted k seekers) (fronted m seekers) (front_market k) seats (length_fronted m seekers ∙ sym (length_fronted k seekers))
      (λ i a b at at'. let c = base seekers k i a at in let d = base seekers m i b at' in cc (c.there, c.is, d.there, d.is))
      (λ i a b at at' seat has.
      let d = base seekers m i b at' in
      subst (λ (z : Seeker). IsOwn z.list seat) (sym d.is) (own_within (m i) d.s.list seat (own i d.s seat d.there has)))
      (λ i a b at at' p seat has h.
      let c = base seekers k i a at in
      let d = base seekers m i b at' in
      let by = applies_by (m i) d.s.list p seat (subst (λ (z : Seeker). applies p z.list seat ≡ true) d.is h) in
      let still = by_applies (k i) d.s.list p seat (record { before = narrow i p d.s seat d.there has by; on = by.on; within = by.within }) in
      cc (c.there, c.is, d.there))
      fair

-- ---- where some list less, and programmes admit whom they admitted

module _ (rule more : Rule) (MayApply : ℕ → List Person → Type 0) (well : ChoosesWell more MayApply) (grows : Grows rule more MayApply) (count : ℕ) (seekers : List Seeker)
    (market : IsMarket MayApply count seekers) (k m : ℕ → ℕ) (shorter : (i : ℕ) → k i ≤ m i) (seats : List (Option Seat)) (fair : IsFair rule count (fronted m seekers) seats) where
  -- up to the seats
  abbrev upto : ℕ → ℕ
  upto i = min (k i) (rank_at seekers seats i + 1)

  small : (small_seats : List (Option Seat)) × IsBest more count (fronted upto seekers) small_seats
  small = best_there more MayApply count (fronted upto seekers) (front_market more MayApply well count seekers market upto) well

  seat_there : (i : ℕ) (s : Seeker) → slice_get seekers i ≡ Some s → (seat : Option Seat) × (slice_get seats i ≡ Some seat)
  seat_there i s there = value_at seekers seats i s (fair.allocation.full ∙ length_fronted m seekers) there

  narrows : IsNextMarket (fronted m seekers) seats (fronted upto seekers)
  narrows = record {
    same = length_fronted upto seekers ∙ sym (length_fronted m seekers);
    persons = λ i a b at at'.
        let c = base seekers m i a at in
        let d = base seekers upto i b at' in
        cc (c.there, c.is, d.there, d.is);
    narrowed = λ p i a b seat at at' has less.
        let c = base seekers m i a at in
        let d = base seekers upto i b at' in
        let is_front : b ≡ with_list c.s (take (upto i) c.s.list) = cc (c.there, d.there, d.is) in
        let on = on_front (upto i) c.s.list p (subst (λ (z : Seeker). place_of z.list p < length z.list) is_front less) in
        let before = on.before in
        let rank = rank_there seekers seats i c.s seat c.there has in
        subst (λ (z : Seeker). applies p z.list seat ≡ true) (sym c.is)
        (by_applies (m i) c.s.list p seat (record { before = omega (arith, before, shorter i); on = on.on; within = omega (arith, before, rank) }));
  }

  -- who still lists their seat has one so far
  has_one : (i : ℕ) (s : Seeker) (y : Seat) → slice_get seekers i ≡ Some s → slice_get seats i ≡ Some (Some y) → slice_get small.0 i ≡ Some None → place_of s.list y.prog.0 < k i → ⊥
  has_one i s y there has none listed =
      let own = within_own (m i) s.list (Some y) (fair.allocation.own i (with_list s (take (m i) s.list)) (Some y) (fronted_at m seekers i s there) has) in
      let read = place_read s.list y.prog.0 own.1 in
      let below = subst (λ n. n < count) read.2 (market.below i (place_of s.list y.prog.0) s read.0 there read.1) in
      still_seated rule more MayApply count y.prog.0 i (fronted m seekers) (fronted upto seekers) seats small.0 (with_list s (take (m i) s.list)) (with_list s (take (upto i) s.list)) y.step
      (front_market more MayApply well count seekers market m) well grows fair small.1.fair narrows below (fronted_at m seekers i s there) (fronted_at upto seekers i s there) has
      (front_on (upto i) s.list y.prog.0 (omega (arith, listed, rank_there seekers seats i s (Some y) there has)) own.1) none

  -- who has no seat so far had none, or no longer lists it
  not_listed : (i : ℕ) (s : Seeker) (seat : Option Seat) → slice_get seekers i ≡ Some s → slice_get seats i ≡ Some seat → slice_get small.0 i ≡ Some None
      → (p : ℕ) → place_of s.list p < k i → place_of s.list p < length s.list → place_of s.list p < upto i
  not_listed i s None there has none p before on = let rank = rank_there seekers seats i s None there has in omega (arith, rank, before, on)
  not_listed i s (Some y) there has none p before on = elim (cases_lt (place_of s.list y.prog.0) (k i)) [
    | inl listed ↦ absurd (has_one i s y there has none listed)
    | inr gone ↦ let rank = rank_there seekers seats i s (Some y) there has in omega (arith, gone, rank, before)
  ]

  small_fair : IsFair more count (fronted k seekers) small.0
  small_fair = moved more MayApply well count seekers market upto k small.0 small.1.fair
      (λ i s z there has. wider (upto i) (k i) s.list z (omega arith) (front_within more count seekers upto small.0 i s z small.1.fair there has))
      applied
    where
      applied : (i p : ℕ) (s : Seeker) (z : Option Seat) → slice_get seekers i ≡ Some s → slice_get small.0 i ≡ Some z → AppliesBy (k i) s.list p z → place_of s.list p < upto i
      applied i p s None there has a = let seat = seat_there i s there in not_listed i s seat.0 there seat.1 has p a.before a.on
      applied i p s (Some w) there has a =
          let own = front_within more count seekers upto small.0 i s (Some w) small.1.fair there has in
          omega arith

  -- so far the seats are no later
  no_later : (i : ℕ) (s : Seeker) (seat z : Option Seat) → slice_get seekers i ≡ Some s → slice_get seats i ≡ Some seat → slice_get small.0 i ≡ Some z → IsWithin (k i) s.list seat
      → rank_of s.list z ≤ rank_of s.list seat
  no_later i s None None there has at listed = omega arith
  no_later i s (Some y) None there has at listed = absurd (has_one i s y there has at listed.0)
  no_later i s seat (Some w) there has at listed =
      let own = front_within more count seekers upto small.0 i s (Some w) small.1.fair there at in
      omega (arith, own.0, rank_there seekers seats i s seat there has)

  -- nobody who still lists their seat has a worse one by the best seats
  pub still_listed : (others : List (Option Seat)) (i : ℕ) (s : Seeker) (seat other : Option Seat) → IsBest more count (fronted k seekers) others → slice_get seekers i ≡ Some s
      → slice_get seats i ≡ Some seat → slice_get others i ≡ Some other → IsWithin (k i) s.list seat → rank_of s.list other ≤ rank_of s.list seat
  still_listed others i s seat other best there has has' listed =
      let z = value_at seekers small.0 i s (small_fair.allocation.full ∙ length_fronted k seekers) there in
      let t = fronted_at k seekers i s there in
      let one = best.best small.0 small_fair i (with_list s (take (k i) s.list)) other z.0 t has' z.1 in
      let first = front_within more count seekers k others i s other best.fair there has' in
      let second = front_within more count seekers k small.0 i s z.0 small_fair there z.1 in
      omega (arith, ranks_by (k i) s.list other z.0 first second one, no_later i s seat z.0 there has z.1 listed)

-- Where programmes admit whom they admitted, nobody has a worse seat by the best seats than by any fair ones before, all lists as they are.
pub more_is_no_worse : (rule more : Rule) (MayApply : ℕ → List Person → Type 0) → ChoosesWell more MayApply → Grows rule more MayApply → (count i : ℕ) (seekers : List Seeker)
    (seats others : List (Option Seat)) (s : Seeker) (seat other : Option Seat) → IsMarket MayApply count seekers → IsFair rule count seekers seats → IsBest more count seekers others
    → slice_get seekers i ≡ Some s → slice_get seats i ≡ Some seat → slice_get others i ≡ Some other → rank_of s.list other ≤ rank_of s.list seat
more_is_no_worse rule more MayApply well grows count i seekers seats others s seat other market fair best there has has' =
    let all = size_at seekers in
    let same : fronted all seekers ≡ seekers = fronted_whole all seekers (λ i s there. let e = size_there seekers i s there in omega (arith, e)) in
    let fair' = subst (λ l. IsFair rule count l seats) (sym same) fair in
    still_listed rule more MayApply well grows count seekers market all all (λ i. omega arith) seats fair' others i s seat other (subst (λ l. IsBest more count l others) (sym same) best) there has has'
    (front_within rule count seekers all seats i s seat fair' there has)
