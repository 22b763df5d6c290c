-- A market has a best allocation under any rule that chooses well: the course of the applications ends there.
use Rattle.std.proofs.Common.{◌≡◌, ◌≤◌, ◌<◌, ◌+◌, ◌⊎◌, inl, inr, ℕ, zero, suc, List, [], ◌∷◌, Option, Some, None, length, slice_set, arith, refl, sym, ap, ◌∙◌, subst}
use Rattle.std.specs.Prelude.{slice_get, replicate, ◌↔◌}
use Rattle.std.proofs.lemmas.Bool.{cases_lt}
use Rattle.std.proofs.lemmas.List.{length-replicate}
use Rattle.office_base.specs.declared.seat.Seat.{Seat}
use Rattle.office_base.specs.declared.person.Person.{Person}
use Rattle.office_base.specs.declared.person.ProgId.{ProgId}
use Rattle.office_base.specs.declared.seat.SeatKind.{SeatKind}
use Rattle.office_base.proofs.Lists.{there_is}
use Rattle.allocations.specs.Course.{AreSeatsOf, AreSettled, IsHeld, IsSettled, IsUnderway, MayTry, places_left, tried}
use Rattle.allocations.specs.Fair.{IsBest, IsMarket}
use Rattle.allocations.specs.Market.{Seeker, place_of, seat_at}
use Rattle.allocations.specs.Rule.{ChoosesWell, Rule}
use Rattle.allocations.proofs.Course.{begins, ends_best, goes_on, left_falls, tried_may}
use Rattle.allocations.proofs.Places.{one_place}
use Rattle.allocations.proofs.Settled.{not_held}
use Rattle.allocations.proofs.Those.{value_at}

pub zeros_at : (n i m : ℕ) → slice_get (replicate n 0) i ≡ Some m → m ≡ 0
zeros_at zero i m at = absurd (cc)
zeros_at (suc n) zero m at = (let same : 0 ≡ m = cc in sym same)
zeros_at (suc n) (suc i) m at = zeros_at n i m at

module _ (rule : Rule) (MayApply : ℕ → List Person → Type 0) (count : ℕ) (seekers : List Seeker) (market : IsMarket MayApply count seekers) (well : ChoosesWell rule MayApply) where
  -- the programme at a place of a seeker's list
  record There (i k : ℕ) (s : Seeker) : Type 0 where
    pub prog : ProgId
    pub below : prog.0 < count
    pub place : place_of s.list prog.0 ≡ k

  there_at : (i k : ℕ) (s : Seeker) → slice_get seekers i ≡ Some s → k < length s.list → There i k s
  there_at i k s there less =
      let q = there_is s.list k less in
      record { prog = q.0; below = market.below i k s q.0 there q.1; place = market.distinct i k s q.0 there q.1 }

  -- a seeker is held or is not
  held_or_not : (next : List ℕ) (i n : ℕ) (s : Seeker) → IsUnderway rule count seekers next → slice_get seekers i ≡ Some s → slice_get next i ≡ Some n
      → IsHeld rule count seekers next s n ⊎ (IsHeld rule count seekers next s n → ⊥)
  held_or_not next i zero s underway there at = inr (λ held. let e = held.2 in omega (arith, e))
  held_or_not next i (suc m) s underway there at =
      let short = underway.within i (suc m) s there at in
      let q = there_at i m s there (omega (arith, short)) in
      let p = q.prog.0 in
      let where_it_is = q.place in
      let tells : suc m ≡ place_of s.list p + 1 = omega (arith, where_it_is) in
      elim (well.decided p (tried p seekers next) s.person (tried_may rule MayApply count p seekers next market well q.below underway.full underway.within)) [
        | inl admits ↦ inl (p, q.below, tells, admits)
        | inr refuses ↦ inr (not_held rule MayApply count p i (suc m) seekers next s tells short refuses)
      ]

  -- a seeker who may try a programme next
  record Tries (next : List ℕ) : Type 0 where
    pub i : ℕ
    pub p : ℕ
    pub n : ℕ
    pub s : Seeker
    pub try : MayTry rule count seekers next i p n s

  settled_or_tries : (next : List ℕ) (i n : ℕ) (s : Seeker) → IsUnderway rule count seekers next → slice_get seekers i ≡ Some s → slice_get next i ≡ Some n
      → IsSettled rule count seekers next s n ⊎ Tries next
  settled_or_tries next i n s underway there at = elim (held_or_not next i n s underway there at) [
    | inl held ↦ inl (inl held)
    | inr free ↦ elim (cases_lt n (length s.list)) [
      | inl less ↦
          let q = there_at i n s there less in
          inr (record { i = i; p = q.prog.0; n = n; s = s; try = record { there = there; at = at; below = q.below; place = q.place; less = less; free = free } })
      | inr past ↦ let short = underway.within i n s there at in inl (inr (omega (arith, past, short)))
    ]
  ]

  -- all seekers before a place are settled, or one may try
  search : (next : List ℕ) (k : ℕ) → IsUnderway rule count seekers next → k ≤ length seekers → AreSettled rule count seekers next k ⊎ Tries next
  search next zero underway within = inl (λ j n s less there at. absurd (omega (arith, less)))
  search next (suc k) underway within = elim (search next k underway (omega (arith, within))) [
    | inl settled ↦
        let s = there_is seekers k (omega (arith, within)) in
        let n = value_at seekers next k s.0 underway.full s.1 in
        elim (settled_or_tries next k n.0 s.0 underway s.1 n.1) [
          | inl here ↦ inl (λ j m t less there at. elim (cases_lt j k) [
            | inl before ↦ settled j m t before there at
            | inr past ↦
                let same : j ≡ k = omega (arith, past, less) in
                let there' : slice_get seekers k ≡ Some t = subst (λ z. slice_get seekers z ≡ Some t) same there in
                let at' : slice_get next k ≡ Some m = subst (λ z. slice_get next z ≡ Some m) same at in
                let first = s.1 in
                let second = n.1 in
                let seeker : s.0 ≡ t = cc in
                let value : n.0 ≡ m = cc in
                subst (λ z. IsSettled rule count seekers next t z) value (subst (λ z. IsSettled rule count seekers next z n.0) seeker here)
          ])
          | inr tries ↦ inr tries
        ]
    | inr tries ↦ inr tries
  ]

  -- the end of the applications
  record IsOver (next : List ℕ) : Type 0 where
    pub underway : IsUnderway rule count seekers next
    pub settled : (i n : ℕ) (s : Seeker) → slice_get seekers i ≡ Some s → slice_get next i ≡ Some n → IsSettled rule count seekers next s n

  within_of : {X : Type 0} (xs : List X) (i : ℕ) (x : X) → slice_get xs i ≡ Some x → i < length xs
  within_of [] i x at = absurd (cc)
  within_of (y ∷ xs) zero x at = omega arith
  within_of (y ∷ xs) (suc i) x at = let rest = within_of xs i x at in omega (arith, rest)

  ended : (next : List ℕ) → IsUnderway rule count seekers next → AreSettled rule count seekers next (length seekers) → IsOver next
  ended next underway settled = record { underway = underway; settled = λ i n s there at. settled i n s (within_of seekers i s there) there at }

  over : (fuel : ℕ) (next : List ℕ) → IsUnderway rule count seekers next → places_left seekers next ≤ fuel → (last : List ℕ) × IsOver last
  over zero next underway enough = elim (search next (length seekers) underway (omega arith)) [
    | inl settled ↦ (next, ended next underway settled)
    | inr tries ↦ absurd (let falls = left_falls tries.i tries.n seekers next tries.s tries.try.there tries.try.at tries.try.less in omega (arith, falls, enough))
  ]
  over (suc fuel) next underway enough = elim (search next (length seekers) underway (omega arith)) [
    | inl settled ↦ (next, ended next underway settled)
    | inr tries ↦
        let falls = left_falls tries.i tries.n seekers next tries.s tries.try.there tries.try.at tries.try.less in
        over fuel (slice_set next tries.i (tries.n + 1)) (goes_on rule MayApply count tries.p tries.i tries.n seekers next tries.s market well underway tries.try)
        (omega (arith, falls, enough))
  ]

  -- the seat that the programmes give to one seeker
  record Gives (next : List ℕ) (s : Seeker) (seat : Option Seat) : Type 0 where
    pub below : (held : Seat) → seat ≡ Some held → held.prog.0 < count
    pub each : (p : ℕ) (kind : SeatKind) → p < count → rule p (tried p seekers next) s.person kind ↔ (seat ≡ Some (seat_at p kind))

  gives_held : (next : List ℕ) (i n p : ℕ) (s : Seeker) (kind : SeatKind) → IsUnderway rule count seekers next → slice_get seekers i ≡ Some s → slice_get next i ≡ Some n
      → p < count → n ≡ place_of s.list p + 1 → rule p (tried p seekers next) s.person kind → Gives next s (Some (seat_at p kind))
  gives_held next i n p s kind underway there at below place admitted = record {
    below = λ held e. let same : seat_at p kind ≡ held = cc in subst (λ (z : Seat). z.prog.0 < count) same below;
    each = λ q other below'. (
      λ admits.
          let last = underway.last q i n s other below' there at admits in
          let short = underway.within i n s there at in
          let same : p ≡ q = one_place s.list p q (omega (arith, place, short)) (omega (arith, place, last)) in
          let step : kind ≡ other =
          well.one_step q (tried q seekers next) s.person kind other (tried_may rule MayApply count q seekers next market well below' underway.full underway.within)
          (subst (λ z. rule z (tried z seekers next) s.person kind) same admitted) admits in
          ap (λ z. Some (seat_at z kind)) same ∙ ap (λ z. Some (seat_at q z)) step,
      λ e.
          let seat : seat_at p kind ≡ seat_at q other = cc in
          let same : p ≡ q = ap (λ (z : Seat). z.prog.0) seat in
          let step : kind ≡ other = ap (λ (z : Seat). z.step) seat in
          subst (λ z. rule q (tried q seekers next) s.person z) step (subst (λ z. rule z (tried z seekers next) s.person kind) same admitted),
    );
  }

  gives_none : (next : List ℕ) (i n : ℕ) (s : Seeker) → IsUnderway rule count seekers next → slice_get seekers i ≡ Some s → slice_get next i ≡ Some n
      → (IsHeld rule count seekers next s n → ⊥) → Gives next s None
  gives_none next i n s underway there at free = record {
    below = λ held e. absurd (cc);
    each = λ q other below. (
      λ admits. absurd (free (q, below, underway.last q i n s other below there at admits, (other, admits))),
      λ e. absurd (cc),
    );
  }

  gives : (next : List ℕ) (i n : ℕ) (s : Seeker) → IsUnderway rule count seekers next → slice_get seekers i ≡ Some s → slice_get next i ≡ Some n → (seat : Option Seat) × Gives next s seat
  gives next i n s underway there at = elim (held_or_not next i n s underway there at) [
    | inl held ↦ (Some (seat_at held.0 held.3.0), gives_held next i n held.0 s held.3.0 underway there at held.1 held.2 held.3.1)
    | inr free ↦ (None, gives_none next i n s underway there at free)
  ]

  -- a seat for each of some seekers
  record GiveAll (next : List ℕ) (ss : List Seeker) : Type 0 where
    pub seats : List (Option Seat)
    pub full : length seats ≡ length ss
    pub each : (i : ℕ) (s : Seeker) (seat : Option Seat) → slice_get ss i ≡ Some s → slice_get seats i ≡ Some seat → Gives next s seat

  give_all : (next : List ℕ) (ss : List Seeker) → ((i : ℕ) (s : Seeker) → slice_get ss i ≡ Some s → (seat : Option Seat) × Gives next s seat) → GiveAll next ss
  give_all next [] one = record { seats = []; full = refl; each = λ i s seat there has. absurd (cc) }
  give_all next (s ∷ ss) one =
      let here = one 0 s refl in
      let rest = give_all next ss (λ i t there. one (suc i) t there) in
      record { seats = here.0 ∷ rest.seats; full = ap suc rest.full; each = each_of here.0 here.1 rest }
    where
      each_of : (seat : Option Seat) → Gives next s seat → (rest : GiveAll next ss) → (i : ℕ) (t : Seeker) (other : Option Seat) → slice_get (s ∷ ss) i ≡ Some t
          → slice_get (seat ∷ rest.seats) i ≡ Some other → Gives next t other
      each_of seat mine rest zero t other there has =
          let seeker : s ≡ t = cc in
          let same : seat ≡ other = cc in
          subst (λ z. Gives next t z) same (subst (λ z. Gives next z seat) seeker mine)
      each_of seat mine rest (suc i) t other there has = rest.each i t other there has

  seats_given : (next : List ℕ) → IsUnderway rule count seekers next → (seats : List (Option Seat)) × AreSeatsOf rule count seekers next seats
  seats_given next underway =
      let all = give_all next seekers (λ i s there. let n = value_at seekers next i s underway.full there in gives next i n.0 s underway there n.1) in (
        all.seats,
        record {
          full = all.full;
          below = λ i seat has.
              let size = all.full in
              let less = within_of all.seats i (Some seat) has in
              let s = there_is seekers i (omega (arith, size, less)) in
              (all.each i s.0 (Some seat) s.1 has).below seat refl;
          each = λ p i s kind below there.
              let seat = value_at seekers all.seats i s all.full there in
              let given = (all.each i s seat.0 there seat.1).each p kind below in
              (λ admits. seat.1 ∙ ap Some (given.0 admits), λ has. given.1 (let one = seat.1 in let same : Some seat.0 ≡ Some (Some (seat_at p kind)) = sym one ∙ has in cc));
        },
      )

  -- There is a best allocation.
  pub best_there : (seats : List (Option Seat)) × IsBest rule count seekers seats
  best_there =
      let next = replicate (length seekers) 0 in
      let underway = begins rule MayApply count seekers next market well (length-replicate (length seekers) 0) (λ i n at. zeros_at (length seekers) i n at) in
      let last = over (places_left seekers next) next underway (omega arith) in
      let seats = seats_given last.0 last.1.underway in
      (seats.0, ends_best rule MayApply count seekers last.0 seats.0 market well last.1.underway seats.1 last.1.settled)
