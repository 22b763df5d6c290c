-- Where some leave, nobody is newly kept; and where one joins, at most one more is.
use Rattle.std.proofs.Common.{◌≡◌, ◌≢◌, ◌<◌, ◌≤◌, ◌+◌, ◌&&◌, inl, inr, ℕ, true, List, Option, Some, None, length, arith, refl, sym, ap, ◌∙◌, subst}
use Rattle.std.specs.Prelude.{slice_get}
use Rattle.std.proofs.lemmas.Bool.{and_from, and_parts, lt-ltb}
use Rattle.office_base.specs.Lists.{IsAmong, IsSublist}
use Rattle.office_base.specs.declared.seat.Seat.{Seat}
use Rattle.office_base.specs.declared.seat.SeatKind.TheVariants.{Kept, Under}
use Rattle.office_base.specs.declared.person.Person.{Person}
use Rattle.allocations.specs.Compared.{SomeLeave}
use Rattle.allocations.specs.Fair.{IsAllocation, IsBest, IsFair, IsMarket}
use Rattle.allocations.specs.Market.{Seeker, applicants, applies, is_of, place_of, rank_of, seat_at}
use Rattle.allocations.specs.Rule.{Admits, AdmitsNoFewer, AreAdmitted, ChoosesWell}
use Rattle.allocations.proofs.Claims.{applicants_may}
use Rattle.allocations.proofs.Eased.{hurts_nobody}
use Rattle.allocations.proofs.Places.{applies_means, applies_true, holder_applies, of_seat, seat_of}
use Rattle.allocations.proofs.Those.{of_those, part, those_has, those_sublist, value_at}
use Rattle.kept_seats.specs.Kept.{Guarantees, IsKept, StepRule, with_kept}
use Rattle.kept_seats.specs.Orders.{count_beyond, count_of, is_beyond}
use Rattle.kept_seats.proofs.Counts.{count_all, count_but_one, count_le, count_split, count_sum, has_seat, holders_of, is_below, is_within}
use Rattle.allocations.proofs.Seated.{seeker_at, sum_le}
use Rattle.kept_seats.proofs.Kept as kept
use Rattle.kept_seats.proofs.Newly.{beyond_seat, is_beyond_at}
use Rattle.kept_seats.proofs.Worth.{listed_below, nobody_guaranteed_falls, seat_there}

module _ (guaranteed : Guarantees) (rule : StepRule) (MayApply : ℕ → List Person → Type 0) (well : ChoosesWell rule MayApply)
    (count : ℕ) (seekers next : List Seeker) (seats others : List (Option Seat)) (market : IsMarket MayApply count seekers) (leave : SomeLeave seekers next)
    (fair : IsFair (with_kept guaranteed rule) count seekers seats) (best : IsBest (with_kept guaranteed rule) count next others) where
  well' : ChoosesWell (with_kept guaranteed rule) MayApply
  well' = kept.choose_well guaranteed rule MayApply well

  -- nobody else does worse
  no_worse : (i : ℕ) (s t : Seeker) (seat other : Option Seat) → slice_get seekers i ≡ Some s → slice_get next i ≡ Some t → t.list ≡ s.list
      → slice_get seats i ≡ Some seat → slice_get others i ≡ Some other → rank_of s.list other ≤ rank_of s.list seat
  no_worse i s t seat other there there' same has has' =
      hurts_nobody (with_kept guaranteed rule) (with_kept guaranteed rule) MayApply well' well' (λ p people x may admits. admits)
      count i seekers next seats others s t seat other market leave fair best there there' same has has'

  -- who has a programme on the list has the list of before
  stood : (i p : ℕ) (s t : Seeker) → slice_get seekers i ≡ Some s → slice_get next i ≡ Some t → place_of t.list p < length t.list → t.list ≡ s.list
  stood i p s t there there' stands = elim (leave.lists i s t there there') [
    | inl same ↦ same
    | inr none ↦ absurd (let less = subst (λ l. place_of l p < length l) none stands in omega (arith, less))
  ]

  -- who applies after applied before
  fewer_apply : (p : ℕ) → IsSublist (applicants p next others) (applicants p seekers seats)
  fewer_apply p =
      those_sublist (λ s seat. applies p s.list seat) (λ s seat. applies p s.list seat) next seekers others seats (record {
        seekers = sym leave.same;
        values = fair.allocation.full ∙ (sym leave.same ∙ sym best.fair.allocation.full);
        persons = λ i t s there' there. sym (leave.persons i s t there there');
        passes = λ i t s other seat there' there has' has h.
            let a = applies_means p t.list other h in
            let same = stood i p s t there there' a.wants in
            let wants : place_of s.list p < length s.list = subst (λ l. place_of l p < length l) same a.wants in
            let within : place_of s.list p ≤ rank_of s.list other = subst (λ l. place_of l p ≤ rank_of l other) same a.within in
            let less = no_worse i s t seat other there there' same has has' in
            applies_true p s.list seat wants (omega (arith, within, less));
      })

  -- Nobody is newly kept.
  pub none_newly_kept : count_beyond others ≤ count_beyond seats
  none_newly_kept =
      let full = fair.allocation.full in
      let full' = best.fair.allocation.full in
      count_le is_beyond is_beyond others seats (full ∙ (sym leave.same ∙ sym full')) (λ i other seat has' has h.
      let found = beyond_seat other h in
      let p = found.0 in
      let at' : slice_get others i ≡ Some (Some (seat_at p Kept)) = has' ∙ ap Some found.1 in
      let s = seeker_at seekers seats i seat full has in
      let t = value_at seekers next i s.0 leave.same s.1 in
      let person : s.0.person ≡ t.0.person = leave.persons i s.0 t.0 s.1 t.1 in
      let own : place_of t.0.list p < length t.0.list = best.fair.allocation.own i t.0 (Some (seat_at p Kept)) t.1 at' in
      let same = stood i p s.0 t.0 s.1 t.1 own in
      let wants : place_of s.0.list p < length s.0.list = subst (λ l. place_of l p < length l) same own in
      let below = listed_below MayApply count p i seekers s.0 market s.1 wants in
      let keeps : IsKept rule guaranteed p (applicants p next others) t.0.person = (best.fair.agrees p i t.0 Kept below t.1).1 at' in
      let sure : guaranteed p s.0.person ≡ true = subst (λ z. guaranteed p z ≡ true) (sym person) keeps.guaranteed_there in
      let ahead = nobody_guaranteed_falls guaranteed rule MayApply well count p i seekers seats s.0 seat market fair s.1 has sure wants in
      let less = no_worse i s.0 t.0 seat other s.1 t.1 same has has' in
      let rank : rank_of s.0.list other ≡ place_of s.0.list p = ap (λ z. rank_of s.0.list z) found.1 in
      let seat_is = seat_there p s.0.list seat wants (omega (arith, ahead, less, rank)) in
      let held : slice_get seats i ≡ Some (Some (seat_at p seat_is.0)) = has ∙ ap Some seat_is.1 in
      elim (kept.view guaranteed rule p _ s.0.person seat_is.0 ((fair.agrees p i s.0 seat_is.0 below s.1).1 held)) [
        | inl picked ↦ absurd (
            let may = applicants_may (with_kept guaranteed rule) MayApply count p seekers seats market well' below full in
            let admitted : Admits rule p (applicants p seekers seats) t.0.person = (picked.0, subst (λ z. rule p (applicants p seekers seats) z picked.0) person picked.2) in
            let fewer = well.fewer p _ _ t.0.person may (fewer_apply p) keeps.applies admitted in
            keeps.not_chosen fewer.0 fewer.1)
        | inr beside ↦ is_beyond_at seat_is.0 p seat seat_is.1 beside.0
      ])

-- ---- those who hold seats within those of the programmes

module _ (guaranteed : Guarantees) (rule : StepRule) (count : ℕ) (seekers : List Seeker) (seats : List (Option Seat))
    (fair : IsFair (with_kept guaranteed rule) count seekers seats) where
  not_within : (p : ℕ) (seat : Option Seat) → seat ≡ Some (seat_at p Kept) → is_within seat ≡ true → ⊥
  not_within p seat at within = (let here : is_within (Some (seat_at p Kept)) ≡ true = subst (λ z. is_within z ≡ true) at within in cc)

  -- they are those whom the rule chooses
  pub chosen_holders : (p : ℕ) → p < count → AreAdmitted rule p (applicants p seekers seats) (holders_of is_within p seekers seats)
  chosen_holders p below = record {
    part = part (λ s seat. is_within seat && is_of p seat) (λ s seat. applies p s.list seat) seekers seats seats refl
        (λ i s x y there at again h.
        let same : x ≡ y = cc in
        let holds = (and_parts (is_within x) (is_of p x) h).1 in
        subst (λ z. applies p s.list z ≡ true) same (holder_applies p s.list x (fair.allocation.own i s x there at) holds));
    each = λ x among. (
      λ holds.
          let found = of_those (λ s seat. is_within seat && is_of p seat) seekers seats x holds in
          let two = and_parts (is_within found.value) (is_of p found.value) found.passes in
          let seat = seat_of p found.value two.1 in
          let held : slice_get seats found.place ≡ Some (Some (seat_at p seat.0)) = found.at ∙ ap Some seat.1 in
          elim (kept.view guaranteed rule p _ found.s.person seat.0 ((fair.agrees p found.place found.s seat.0 below found.there).1 held)) [
            | inl picked ↦ (picked.0, subst (λ z. rule p (applicants p seekers seats) z picked.0) (sym found.person_is) picked.2)
            | inr beside ↦ absurd (not_within p found.value (seat.1 ∙ ap (λ k. Some (seat_at p k)) beside.0) two.0)
          ],
      λ admits.
          let found = of_those (λ s seat. applies p s.list seat) seekers seats x among in
          let own = subst (λ z. rule p (applicants p seekers seats) z admits.0) found.person_is admits.1 in
          let seat = (fair.agrees p found.place found.s (Under admits.0) below found.there).0 own in
          let is_seat : found.value ≡ Some (seat_at p (Under admits.0)) = (let e = found.at in cc) in
          let within : is_within found.value ≡ true = subst (λ z. is_within z ≡ true) (sym is_seat) refl in
          subst (λ z. IsAmong z (holders_of is_within p seekers seats)) (sym found.person_is)
          (those_has (λ s seat. is_within seat && is_of p seat) seekers seats found.place found.s found.value found.there found.at
          (and_from _ _ within (of_seat p found.value (Under admits.0) is_seat))),
    );
  }

-- each seat is one of a programme of the market
own_below : (MayApply : ℕ → List Person → Type 0) (count i : ℕ) (seekers : List Seeker) (seats : List (Option Seat)) (seat : Option Seat) → IsMarket MayApply count seekers
    → IsAllocation seekers seats → slice_get seats i ≡ Some seat → is_within seat ≡ true → is_below count seat ≡ true
own_below MayApply count i seekers seats None market allocation has within = absurd (cc)
own_below MayApply count i seekers seats (Some seat) market allocation has within =
    let s = seeker_at seekers seats i (Some seat) allocation.full has in
    lt-ltb _ _ (listed_below MayApply count seat.prog.0 i seekers s.0 market s.1 (allocation.own i s.0 (Some seat) s.1 has))

module _ (guaranteed : Guarantees) (rule : StepRule) (MayApply : ℕ → List Person → Type 0) (well : ChoosesWell rule MayApply) (no_fewer : AdmitsNoFewer rule MayApply)
    (count : ℕ) (seekers next : List Seeker) (seats others : List (Option Seat)) (market : IsMarket MayApply count seekers)
    (next_market : IsMarket MayApply count next) (leave : SomeLeave seekers next) (fair : IsFair (with_kept guaranteed rule) count seekers seats)
    (best : IsBest (with_kept guaranteed rule) count next others) where
  -- the programmes choose no fewer before than after
  within_fewer : count_of is_within others ≤ count_of is_within seats
  within_fewer =
      let well' = kept.choose_well guaranteed rule MayApply well in
      let first = count_sum is_within count next others best.fair.allocation.full in
      let second = count_sum is_within count seekers seats fair.allocation.full in
      let all = count_all is_within count others (λ i seat has. own_below MayApply count i next others seat next_market best.fair.allocation has) in
      let all' = count_all is_within count seats (λ i seat has. own_below MayApply count i seekers seats seat market fair.allocation has) in
      let less = sum_le (λ p. length (holders_of is_within p next others)) (λ p. length (holders_of is_within p seekers seats)) count
      (λ p below. no_fewer p (applicants p next others) (applicants p seekers seats) (holders_of is_within p next others) (holders_of is_within p seekers seats)
      (applicants_may (with_kept guaranteed rule) MayApply count p seekers seats market well' below fair.allocation.full)
      (fewer_apply guaranteed rule MayApply well count seekers next seats others market leave fair best p)
      (chosen_holders guaranteed rule count next others best.fair p below)
      (chosen_holders guaranteed rule count seekers seats fair p below)) in
      omega (arith, first, second, all, all', less)

  -- who has a seat before and stays has one after
  seated_after : (i : ℕ) (s t : Seeker) (seat other : Option Seat) → slice_get seekers i ≡ Some s → slice_get next i ≡ Some t → t.list ≡ s.list → slice_get seats i ≡ Some seat
      → slice_get others i ≡ Some other → has_seat seat ≡ true → has_seat other ≡ true
  seated_after i s t seat (Some y) there there' same has has' h = refl
  seated_after i s t None None there there' same has has' h = absurd (cc)
  seated_after i s t (Some x) None there there' same has has' h = absurd (
      let own : place_of s.list x.prog.0 < length s.list = fair.allocation.own i s (Some x) there has in
      let less : length s.list ≤ place_of s.list x.prog.0 =
      no_worse guaranteed rule MayApply well count seekers next seats others market leave fair best i s t (Some x) None there there' same has has' in
      omega (arith, own, less))

  -- Where all but one stay, at most one more was kept before.
  pub one_more : (i : ℕ) → ((j : ℕ) (s t : Seeker) → j ≢ i → slice_get seekers j ≡ Some s → slice_get next j ≡ Some t → t.list ≡ s.list)
      → count_beyond seats ≤ count_beyond others + 1
  one_more i stay =
      let full = fair.allocation.full in
      let full' = best.fair.allocation.full in
      let some = count_but_one has_seat has_seat i seats others (full' ∙ (leave.same ∙ sym full)) (λ j seat other apart has has' h.
      let s = seeker_at seekers seats j seat full has in
      let t = value_at seekers next j s.0 leave.same s.1 in
      seated_after j s.0 t.0 seat other s.1 t.1 (stay j s.0 t.0 apart s.1 t.1) has has' h) in
      let first = count_split seats in
      let second = count_split others in
      let chosen = within_fewer in
      omega (arith, some, first, second, chosen)

  -- Where all stay, no more are kept by any fair allocation than by the best.
  pub no_more_than_best : ((j : ℕ) (s t : Seeker) → slice_get seekers j ≡ Some s → slice_get next j ≡ Some t → t.list ≡ s.list) → count_beyond seats ≤ count_beyond others
  no_more_than_best stay =
      let full = fair.allocation.full in
      let full' = best.fair.allocation.full in
      let some = count_le has_seat has_seat seats others (full' ∙ (leave.same ∙ sym full)) (λ j seat other has has' h.
      let s = seeker_at seekers seats j seat full has in
      let t = value_at seekers next j s.0 leave.same s.1 in
      seated_after j s.0 t.0 seat other s.1 t.1 (stay j s.0 t.0 s.1 t.1) has has' h) in
      let first = count_split seats in
      let second = count_split others in
      let chosen = within_fewer in
      omega (arith, some, first, second, chosen)
