-- No group gains together (Hatfield and Kojima 2009). Those who would gain cut their lists before their seats, and take them back one by one.
use Rattle.std.proofs.Common.{◌≡◌, ◌<◌, ◌≤◌, ◌+◌, ◌⊎◌, ◌==◌, inl, inr, ℕ, zero, suc, Bool, true, false, List, Option, Some, None, length, nat_lt, not, take, arith, refl, sym, ap, ◌∙◌, subst, if◌then◌else◌, below_more}
use Rattle.std.specs.Prelude.{◌&&◌, ◌||◌, slice_get}
use Rattle.std.specs.Option.{is_none, is_some}
use Rattle.std.proofs.lemmas.Bool.{false_from_ne_true, and_cases, and_from, and_left, and_parts, and_right, cases_Bool, cases_eq, cases_lt, cond-false, cond-true, eq-eqb, eqb-true, lt-ltb, ltb-false, ltb-true, ne_eqb, not-false, not-true, not_from_false, not_from_true, or_cases, or_from, or_parts, or_right}
use Rattle.std.proofs.lemmas.Option.{slice_get_within}
use Rattle.office_base.proofs.Lists.{there_is}
use Rattle.office_base.proofs.Options.{none_from}
use Rattle.office_base.specs.declared.seat.Seat.{Seat}
use Rattle.office_base.specs.declared.person.Person.{Person}
use Rattle.allocations.specs.Fair.{IsBest, IsFair, IsMarket}
use Rattle.allocations.specs.Market.{Seeker, applies, place_of, rank_of}
use Rattle.allocations.specs.Rule.{AdmitsNoFewer, ChoosesWell, Rule}
use Rattle.allocations.proofs.Best.{best_there}
use Rattle.allocations.proofs.Places.{applies_true}
use Rattle.allocations.proofs.Seated.{fair_alike}
use Rattle.allocations.proofs.Those.{value_at}
use Rattle.allocations.proofs.Truthful.{with_list}
use Rattle.published_rounds.specs.Groups.{AllGain, NoGroupGains, TellTogether}
use Rattle.published_rounds.proofs.Counted.{AreBeside, has_seat}
use Rattle.published_rounds.proofs.ListFronts.{AppliesBy, base, IsWithin, applies_by, by_applies, fronted, fronted_at, fronted_whole, front_market, front_within, length_fronted, moved, of_place, rank_at, rank_there, seat_of_place, listed, rank_short, wider, size_at, size_there, still_listed}

-- ---- places

-- one of the first places passes a test, or none does
search_places : (f : ℕ → Bool) (n : ℕ) → ((i : ℕ) × (i < n) × (f i ≡ true)) ⊎ ((i : ℕ) → i < n → f i ≡ false)
search_places f zero = inr (λ i less. absurd (omega (arith, less)))
search_places f (suc n) = elim (search_places f n) [
  | inl found ↦ inl (found.0, (let less = found.1 in omega (arith, less)), found.2)
  | inr none ↦ elim (cases_Bool (f n)) [
    | inl here ↦ inl (n, omega arith, here)
    | inr gone ↦ inr (λ i less. below_more (λ k. f k ≡ false) n none gone i (omega (arith, less)))
  ]
]

-- how many of the first places pass a test
abbrev passing : (ℕ → Bool) → ℕ → ℕ
passing f zero = 0
passing f (suc n) = passing f n + (if f n then 1 else 0)

passing_less : (f g : ℕ → Bool) (n r : ℕ) → ((i : ℕ) → f i ≡ true → g i ≡ true) → f r ≡ false → g r ≡ true → (passing f n ≤ passing g n) × (r < n → passing f n < passing g n)
passing_less f g zero r each e h = (omega arith, λ less. omega (arith, less))
passing_less f g (suc n) r each e h =
    let rest = passing_less f g n r each e h in
    let here = one_fewer (f n) (g n) (each n) in (
      omega (arith, rest.0, here),
      λ less. elim (cases_lt r n) [
        | inl before ↦ let more = rest.1 before in omega (arith, more, here)
        | inr last ↦
            let same : r ≡ n = omega (arith, less, last) in
            let none = cond-false {A = ℕ} (f n) 1 0 (cc) in
            let one = cond-true {A = ℕ} (g n) 1 0 (cc) in
            omega (arith, rest.0, none, one)
      ],
    )
  where
    one_fewer : (b c : Bool) → (b ≡ true → c ≡ true) → (if b then 1 else 0) ≤ (if c then 1 else 0)
    one_fewer true true h = omega arith
    one_fewer true false h = absurd (let e = h refl in cc)
    one_fewer false c h = omega arith

module _ (rule : Rule) (MayApply : ℕ → List Person → Type 0) (well : ChoosesWell rule MayApply) (no_fewer : AdmitsNoFewer rule MayApply) (count : ℕ) (group : ℕ → Bool)
    (seekers told : List Seeker) (seats others : List (Option Seat)) (market : IsMarket MayApply count seekers) (market' : IsMarket MayApply count told)
    (together : TellTogether group seekers told) (best : IsBest rule count seekers seats) (fair' : IsFair rule count told others) (gain : AllGain group seekers seats others) where
  abbrev many : ℕ
  many = length seekers

  abbrev whole : ℕ → ℕ
  whole i = size_at seekers i

  abbrev rank : ℕ → ℕ
  rank i = rank_at seekers seats i

  -- who would gain
  abbrev gains : ℕ → Bool
  gains i = nat_lt (rank_at seekers others i) (rank i)

  -- of these, who has not taken their list back
  abbrev cuts : (ℕ → Bool) → ℕ → Bool
  cuts back i = gains i && not (back i)

  -- they cut it before their seat
  abbrev kept : (ℕ → Bool) → ℕ → ℕ
  kept back i = if cuts back i then rank i else whole i

  seat_there : (i : ℕ) (s : Seeker) → slice_get seekers i ≡ Some s → (seat : Option Seat) × (slice_get seats i ≡ Some seat)
  seat_there i s there = value_at seekers seats i s best.fair.allocation.full there

  short : (i : ℕ) → rank i ≤ whole i
  short i = rank_short (listed (slice_get seekers i)) (seat_of_place seats i)

  all_whole : fronted whole seekers ≡ seekers
  all_whole = fronted_whole whole seekers (λ i s there. let e = size_there seekers i s there in omega (arith, e))

  seats_whole : IsFair rule count (fronted whole seekers) seats
  seats_whole = subst (λ l. IsFair rule count l seats) (sym all_whole) best.fair

  kept_cut : (back : ℕ → Bool) (i : ℕ) → cuts back i ≡ true → kept back i ≡ rank i
  kept_cut back i e = cond-true (cuts back i) (rank i) (whole i) e

  kept_whole : (back : ℕ → Bool) (i : ℕ) → cuts back i ≡ false → kept back i ≡ whole i
  kept_whole back i e = cond-false (cuts back i) (rank i) (whole i) e

  kept_short : (back : ℕ → Bool) (i : ℕ) → kept back i ≤ whole i
  kept_short back i = elim (cases_Bool (cuts back i)) [
    | inl cut ↦ let e = kept_cut back i cut in let le = short i in omega (arith, e, le)
    | inr not_cut ↦ let e = kept_whole back i not_cut in omega (arith, e)
  ]

  -- the best seats by what is kept
  seated : (back : ℕ → Bool) → (small : List (Option Seat)) × IsBest rule count (fronted (kept back) seekers) small
  seated back = best_there rule MayApply count (fronted (kept back) seekers) (front_market rule MayApply well count seekers market (kept back)) well

  full_seated : (back : ℕ → Bool) → length (seated back).0 ≡ length seekers
  full_seated back = (seated back).1.fair.allocation.full ∙ length_fronted (kept back) seekers

  -- who does not cut has no worse seat than before
  no_worse : (back : ℕ → Bool) (i : ℕ) (s : Seeker) (y : Option Seat) → cuts back i ≡ false → slice_get seekers i ≡ Some s → slice_get (seated back).0 i ≡ Some y → rank_of s.list y ≤ rank i
  no_worse back i s y not_cut there has =
      let seat = seat_there i s there in
      let le = still_listed rule rule MayApply well (λ p people x may h. h) count seekers market (kept back) whole (kept_short back) seats seats_whole (seated back).0 i s seat.0 y (seated back).1 there seat.1 has
      (wider (whole i) (kept back i) s.list seat.0 (omega (arith, kept_whole back i not_cut)) (front_within rule count seekers whole seats i s seat.0 seats_whole there seat.1)) in
      omega (arith, le, rank_there seekers seats i s seat.0 there seat.1)

  -- ---- if all who cut have a seat, it is better than the best

  module _ (back : ℕ → Bool) (all : (i : ℕ) → i < many → (cuts back i && is_none (seat_of_place (seated back).0 i)) ≡ false) where
    has_one : (i : ℕ) (s : Seeker) → slice_get seekers i ≡ Some s → cuts back i ≡ true → slice_get (seated back).0 i ≡ Some None → ⊥
    has_one i s there cut none =
        let both = and_from (cuts back i) (is_none (seat_of_place (seated back).0 i)) cut (ap is_none (of_place (seated back).0 i None none)) in
        cc (all i (slice_get_within seekers i s there))

    stays : (i p : ℕ) (s : Seeker) (y : Option Seat) → slice_get seekers i ≡ Some s → slice_get (seated back).0 i ≡ Some y → AppliesBy (whole i) s.list p y → place_of s.list p < kept back i
    stays i p s None there has a = elim (cases_Bool (cuts back i)) [
      | inl cut ↦ absurd (has_one i s there cut has)
      | inr not_cut ↦ let e = kept_whole back i not_cut in let before = a.before in omega (arith, e, before)
    ]
    stays i p s (Some y) there has a =
        let own = front_within rule count seekers (kept back) (seated back).0 i s (Some y) (seated back).1.fair there has in
        omega arith

    seated_fair : IsFair rule count seekers (seated back).0
    seated_fair = subst (λ l. IsFair rule count l (seated back).0) all_whole
        (moved rule MayApply well count seekers market (kept back) whole (seated back).0 (seated back).1.fair
        (λ i s y there has. wider (kept back i) (whole i) s.list y (kept_short back i)
        (front_within rule count seekers (kept back) (seated back).0 i s y (seated back).1.fair there has))
        stays)

    too_good : (j : ℕ) (s : Seeker) (y : Option Seat) → slice_get seekers j ≡ Some s → cuts back j ≡ true → slice_get (seated back).0 j ≡ Some y → ⊥
    too_good j s None there cut has = has_one j s there cut has
    too_good j s (Some y) there cut has =
        let seat = seat_there j s there in
        let own = front_within rule count seekers (kept back) (seated back).0 j s (Some y) (seated back).1.fair there has in
        let le : rank_of s.list seat.0 ≤ place_of s.list y.prog.0 = best.best (seated back).0 seated_fair j s seat.0 (Some y) there seat.1 has in
        omega (arith, kept_cut back j cut, rank_there seekers seats j s seat.0 there seat.1, le)

  -- ---- one who has none takes the list back

  abbrev Holds : (ℕ → Bool) → Type 0
  Holds back = (i : ℕ) (s : Seeker) (y : Option Seat) → back i ≡ true → slice_get seekers i ≡ Some s → slice_get (seated back).0 i ≡ Some y → rank_of s.list y ≡ rank i

  not_cut_of : (back : ℕ → Bool) (i : ℕ) → back i ≡ true → cuts back i ≡ false
  not_cut_of back i e = and_right (gains i) (not (back i)) (not_from_true (back i) e)

  module _ (back : ℕ → Bool) (holds : Holds back) (r : ℕ) (s : Seeker) (there : slice_get seekers r ≡ Some s) (cut : cuts back r ≡ true) (none : slice_get (seated back).0 r ≡ Some None) where
    abbrev more : ℕ → Bool
    more i = back i || (i == r)

    more_self : more r ≡ true
    more_self = or_right (back r) (r == r) (eq-eqb r r refl)

    more_means : (i : ℕ) → more i ≡ true → (back i ≡ true) ⊎ (i ≡ r)
    more_means i e = elim (or_cases (back i) (i == r) e) [
      | inl was ↦ inl was
      | inr is_r ↦ inr (eqb-true i r is_r)
    ]

    -- who cuts after cut before
    cut_before : (i : ℕ) → cuts more i ≡ true → cuts back i ≡ true
    cut_before i e =
        let parts = and_parts (gains i) (not (more i)) e in
        and_from (gains i) (not (back i)) parts.0 (not_from_false (back i) (or_parts (back i) (i == r) (not-true (more i) parts.1)).0)

    -- and who cut before, and is another, cuts after
    cut_after : (i : ℕ) → cuts back i ≡ true → (i ≡ r → ⊥) → cuts more i ≡ true
    cut_after i e apart =
        let parts = and_parts (gains i) (not (back i)) e in
        and_from (gains i) (not (more i)) parts.0 (not_from_false (more i) (or_from (back i) (i == r) (not-true (back i) parts.1) (ne_eqb i r apart)))

    longer : (i : ℕ) → kept back i ≤ kept more i
    longer i = elim (cases_Bool (cuts more i)) [
      | inl still ↦ let e = kept_cut more i still in let f = kept_cut back i (cut_before i still) in omega (arith, e, f)
      | inr not_cut ↦ let e = kept_whole more i not_cut in let le = kept_short back i in omega (arith, e, le)
    ]

    -- an earlier seat than before would be one by the cut list
    back_fair : (w : Seat) → slice_get (seated more).0 r ≡ Some (Some w) → place_of s.list w.prog.0 < rank r → IsFair rule count (fronted (kept back) seekers) (seated more).0
    back_fair w has before =
        moved rule MayApply well count seekers market (kept more) (kept back) (seated more).0 (seated more).1.fair own (λ i p t y there' has' a. let first = a.before in let le = longer i in omega (arith, first, le))
      where
        own : (i : ℕ) (t : Seeker) (y : Option Seat) → slice_get seekers i ≡ Some t → slice_get (seated more).0 i ≡ Some y → IsWithin (kept back i) t.list y
        own i t y there' has' =
            let mine = front_within rule count seekers (kept more) (seated more).0 i t y (seated more).1.fair there' has' in
            elim (cases_Bool (cuts back i)) [
              | inr not_cut ↦ let e = kept_whole back i not_cut in let le = kept_short more i in wider (kept more i) (kept back i) t.list y (omega (arith, e, le)) mine
              | inl is_cut ↦ elim (cases_eq i r) [
                | inl same ↦
                    let one : s ≡ t = cc in
                    let two : Some w ≡ y = cc in
                    let on = (front_within rule count seekers (kept more) (seated more).0 r s (Some w) (seated more).1.fair there has).1 in
                    let here : IsWithin (kept back r) s.list (Some w) = (omega (arith, kept_cut back r cut, before), on) in
                    subst (λ n. IsWithin (kept back n) t.list y) (sym same) (subst (λ o. IsWithin (kept back r) t.list o) two (subst (λ (z : Seeker). IsWithin (kept back r) z.list (Some w)) one here))
                | inr apart ↦
                    wider (kept more i) (kept back i) t.list y (omega (arith, kept_cut back i is_cut, kept_cut more i (cut_after i is_cut apart))) mine
              ]
            ]

    exactly : (y : Option Seat) → slice_get (seated more).0 r ≡ Some y → rank_of s.list y ≡ rank r
    exactly y has = elim (cases_lt (rank_of s.list y) (rank r)) [
      | inr past ↦ omega (arith, no_worse more r s y (not_cut_of more r more_self) there has, past)
      | inl before ↦ absurd (earlier y has before)
    ]
      where
        earlier : (y : Option Seat) → slice_get (seated more).0 r ≡ Some y → rank_of s.list y < rank r → ⊥
        earlier None has before = let le = short r in let e = size_there seekers r s there in omega (arith, before, le, e)
        earlier (Some w) has before =
            let alike = fair_alike rule MayApply well no_fewer count (fronted (kept back) seekers) (front_market rule MayApply well count seekers market (kept back)) (seated back).0 (seated more).0
            (seated back).1.fair (back_fair w has before) in
            let gone = (alike.unseated r).0 none in
            cc

    still_holds : Holds more
    still_holds i t y is_back there' has = elim (more_means i is_back) [
      | inr same ↦
          let one : s ≡ t = cc in
          let e = exactly y (cc) in
          cc
      | inl was ↦
          let before = value_at seekers (seated back).0 i t (full_seated back) there' in
          let mine = front_within rule count seekers (kept more) (seated more).0 i t y (seated more).1.fair there' has in
          let first = still_listed rule rule MayApply well (λ p people x may h. h) count seekers market (kept back) (kept more) longer (seated more).0 (seated more).1.fair (seated back).0 i t y before.0 (seated back).1 there' has before.1
          (wider (kept more i) (kept back i) t.list y (omega (arith, kept_whole back i (not_cut_of back i was), kept_short more i)) mine) in
          omega (arith, holds i t before.0 was there' before.1, first, no_worse more i t y (not_cut_of more i is_back) there' has)
    ]

    -- ---- the last one

    module _ (last : (i : ℕ) → i < many → cuts more i ≡ false) where
      taken_back : (i : ℕ) (t : Seeker) → slice_get seekers i ≡ Some t → gains i ≡ true → more i ≡ true
      taken_back i t there' e = elim (and_cases (gains i) (not (more i)) (last i (slice_get_within seekers i t there'))) [
        | inl gone ↦ absurd (cc)
        | inr taken ↦ not-false (more i) taken
      ]

      -- who gains applied for the seat of the others
      moving : (i : ℕ) (t : Seeker) (y other : Option Seat) → gains i ≡ true → slice_get seekers i ≡ Some t → slice_get (seated back).0 i ≡ Some y → slice_get others i ≡ Some other
          → (z : Seat) × (other ≡ Some z) × AppliesBy (kept back i) t.list z.prog.0 y
      moving i t y None e there' has has' = absurd (omega (arith, ltb-true _ _ e, rank_there seekers others i t None there' has', short i, size_there seekers i t there'))
      moving i t y (Some z) e there' has has' =
          let less = ltb-true _ _ e in
          let same = rank_there seekers others i t (Some z) there' has' in
          let le = short i in
          let size = size_there seekers i t there' in
          let room : (rank i ≤ kept back i) × (rank i ≤ rank_of t.list y) = elim (more_means i (taken_back i t there' e)) [
            | inl was ↦ (omega (arith, le, kept_whole back i (not_cut_of back i was)), omega (arith, holds i t y was there' has))
            | inr is_r ↦
                let gone : None ≡ y = cc in
                (omega (arith, kept_cut back i (cc)), omega (arith, le, size, ap (λ o. rank_of t.list o) gone))
          ] in
          (z, refl, record { before = omega (arith, less, same, room.0); on = omega (arith, less, same, le, size); within = omega (arith, less, same, room.1) })

      -- who does not gain is as the others are
      staying : (i p : ℕ) (t u : Seeker) (y other : Option Seat) → gains i ≡ false → slice_get seekers i ≡ Some t → slice_get told i ≡ Some u → slice_get (seated back).0 i ≡ Some y
          → slice_get others i ≡ Some other → AppliesBy (kept back i) t.list p y → applies p u.list other ≡ true
      staying i p t u y other e there' at has has' a =
          let seat = seat_there i t there' in
          let same = rank_there seekers others i t other there' has' in
          let same' = rank_there seekers seats i t seat.0 there' seat.1 in
          let past = ltb-false (rank_at seekers others i) (rank i) e in
          let out = false_from_ne_true (group i) (λ within. omega (arith, gain i t seat.0 other within there' seat.1 has', same, same', past)) in
          let list = together.others i t u out there' at in
          let worse = no_worse back i t y (and_left (gains i) (not (back i)) e) there' has in
          subst (λ l. applies p l other ≡ true) (sym list) (applies_true p t.list other a.on (omega (arith, worse, past, same)))

      beside : AreBeside rule count (fronted (kept back) seekers) told (seated back).0 others gains
      beside = record {
        fair = (seated back).1.fair;
        told_fair = fair';
        same = together.same ∙ sym (length_fronted (kept back) seekers);
        persons = λ i a u at at'.
            let t = base seekers (kept back) i a at in
            let e = together.persons i t.s u t.there at' in
            cc (t.is);
        moving = λ i a y other e at has has'.
            let t = base seekers (kept back) i a at in
            let m = moving i t.s y other e t.there has has' in
            (m.0, m.1, subst (λ (z : Seeker). applies m.0.prog.0 z.list y ≡ true) (sym t.is) (by_applies (kept back i) t.s.list m.0.prog.0 y m.2));
        staying = λ i p a u y other e at at' has has' h.
            let t = base seekers (kept back) i a at in
            staying i p t.s u y other e t.there at' has has' (applies_by (kept back i) t.s.list p y (subst (λ (z : Seeker). applies p z.list y ≡ true) t.is h));
      }

      no_last : ⊥
      no_last =
          has_seat rule MayApply well no_fewer count (fronted (kept back) seekers) told (seated back).0 others gains (front_market rule MayApply well count seekers market (kept back)) market' beside r
          (with_list s (take (kept back r) s.list)) (and_parts (gains r) (not (back r)) cut).0 (fronted_at (kept back) seekers r s there) none

  -- ---- one after another

  none_left : (fuel : ℕ) (back : ℕ → Bool) (j : ℕ) → passing (cuts back) many ≤ fuel → Holds back → j < many → cuts back j ≡ true → ⊥
  none_left zero back j few holds less cut =
      omega (arith, few, (passing_less (λ i. false) (cuts back) many j (λ i e. absurd (cc)) refl cut).1 less)
  none_left (suc fuel) back j few holds less cut = elim (search_places (λ i. cuts back i && is_none (seat_of_place (seated back).0 i)) many) [
    | inr all ↦
        let s = there_is seekers j less in
        let y = value_at seekers (seated back).0 j s.0 (full_seated back) s.1 in
        too_good back all j s.0 y.0 s.1 cut y.1
    | inl found ↦
        let r = found.0 in
        let parts = and_parts (cuts back r) (is_none (seat_of_place (seated back).0 r)) found.2 in
        let s = there_is seekers r found.1 in
        let y = value_at seekers (seated back).0 r s.0 (full_seated back) s.1 in
        let none : slice_get (seated back).0 r ≡ Some None = y.1 ∙ ap Some (none_from y.0 (not-true (is_some y.0) (subst (λ o. is_none o ≡ true) (of_place (seated back).0 r y.0 y.1) parts.1))) in
        let next : ℕ → Bool = λ i. back i || (i == r) in
        let fewer = (passing_less (cuts next) (cuts back) many r (cut_before back holds r s.0 s.1 parts.0 none) (not_cut_of next r (more_self back holds r s.0 s.1 parts.0 none)) parts.0).1 found.1 in
        elim (search_places (cuts next) many) [
          | inl other ↦ none_left fuel next other.0 (omega (arith, fewer, few)) (still_holds back holds r s.0 s.1 parts.0 none) other.1 other.2
          | inr last ↦ no_last back holds r s.0 s.1 parts.0 none last
        ]
  ]

  not_all_gain : (i : ℕ) (s : Seeker) → group i ≡ true → slice_get seekers i ≡ Some s → ⊥
  not_all_gain i s within there =
      let seat = seat_there i s there in
      let other = value_at seekers others i s (fair'.allocation.full ∙ together.same) there in
      let less = gain i s seat.0 other.0 within there seat.1 other.1 in
      let e = rank_there seekers seats i s seat.0 there seat.1 in
      let gaining : gains i ≡ true = lt-ltb (rank_at seekers others i) (rank i) (omega (arith, less, e, rank_there seekers others i s other.0 there other.1)) in
      none_left (passing (cuts (λ j. false)) many) (λ j. false) i (omega arith) (λ j t y is_back. absurd (cc)) (slice_get_within seekers i s there)
      (and_from (gains i) true gaining refl)

-- No group can all gain.
pub no_group_gains : (rule : Rule) (MayApply : ℕ → List Person → Type 0) → ChoosesWell rule MayApply → AdmitsNoFewer rule MayApply → NoGroupGains rule MayApply
no_group_gains rule MayApply well no_fewer count group seekers told seats others i s market market' together best fair' within there gain =
    not_all_gain rule MayApply well no_fewer count group seekers told seats others market market' together best fair' gain i s within there
