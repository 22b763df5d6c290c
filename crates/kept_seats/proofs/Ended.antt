-- The end of the applications: with the seats of those who are kept the allocation is the best one.
use Rattle.std.proofs.Common.{◌≡◌, ◌<◌, ◌+◌, ◌⊎◌, ◌↔◌, inl, inr, ℕ, true, List, Option, Some, None, length, arith, refl, sym, ap, ◌∙◌, subst, nat_lt}
use Rattle.std.specs.Prelude.{slice_get}
use Rattle.std.proofs.lemmas.Bool.{lt-ltb}
use Rattle.office_base.specs.declared.seat.Seat.{Seat}
use Rattle.office_base.specs.declared.seat.SeatKind.{SeatKind}
use Rattle.office_base.specs.declared.seat.SeatKind.TheVariants.{Kept, Under}
use Rattle.office_base.specs.declared.person.Person.{Person}
use Rattle.office_base.specs.declared.step.StepKind.{StepKind}
use Rattle.allocations.specs.Course.{AreSeatsOf, IsSettled, IsUnderway, tried}
use Rattle.allocations.specs.Fair.{IsBest, IsMarket}
use Rattle.allocations.specs.Market.{Seeker, place_of, seat_at}
use Rattle.allocations.specs.Rule.{ChoosesWell}
use Rattle.allocations.proofs.Course.{ends_best}
use Rattle.allocations.proofs.Places.{one_place}
use Rattle.allocations.proofs.Those.{those_has, value_at}
use Rattle.kept_seats.specs.Kept.{Guarantees, IsKept, StepRule, alone, with_kept}
use Rattle.kept_seats.proofs.Kept as kept
use Rattle.kept_seats.proofs.Worth.{by_step}

-- Who has a seat of a step keeps it; anybody else has one beyond the seats of the programme tried last, exactly if guaranteed there.
pub record IsAdded (guaranteed : Guarantees) (count : ℕ) (s : Seeker) (n : ℕ) (own seat : Option Seat) : Type 0 where
  pub stays : (held : Seat) → own ≡ Some held → seat ≡ Some held
  pub added : own ≡ None → ((p : ℕ) × (p < count) × (n ≡ place_of s.list p + 1) × (guaranteed p s.person ≡ true) × (seat ≡ Some (seat_at p Kept)))
      ⊎ ((seat ≡ None) × ((p : ℕ) → p < count → n ≡ place_of s.list p + 1 → guaranteed p s.person ≡ true → ⊥))

abbrev pub AreAdded : Guarantees → ℕ → List Seeker → List ℕ → List (Option Seat) → List (Option Seat) → Type 0
AreAdded guaranteed count seekers next own seats = (i n : ℕ) (s : Seeker) (first seat : Option Seat) → slice_get seekers i ≡ Some s → slice_get next i ≡ Some n → slice_get own i ≡ Some first
    → slice_get seats i ≡ Some seat → IsAdded guaranteed count s n first seat

seat_or_none : (seat : Option Seat) → (seat ≡ None) ⊎ ((held : Seat) × (seat ≡ Some held))
seat_or_none None = inl refl
seat_or_none (Some held) = inr (held, refl)

module _ (guaranteed : Guarantees) (rule : StepRule) (MayApply : ℕ → List Person → Type 0) (well : ChoosesWell rule MayApply) (count : ℕ) (seekers : List Seeker) (next : List ℕ)
    (own seats : List (Option Seat)) (market : IsMarket MayApply count seekers) (underway : IsUnderway (with_kept guaranteed rule) count seekers next)
    (firsts : AreSeatsOf (alone rule) count seekers next own) (full : length seats ≡ length seekers) (added : AreAdded guaranteed count seekers next own seats) where
  -- one of the seekers, with all that stands at the place
  record At (i : ℕ) (s : Seeker) : Type 0 where
    pub n : ℕ
    pub at : slice_get next i ≡ Some n
    pub first : Option Seat
    pub owns : slice_get own i ≡ Some first
    pub seat : Option Seat
    pub has : slice_get seats i ≡ Some seat
    pub is : IsAdded guaranteed count s n first seat

  at_of : (i : ℕ) (s : Seeker) → slice_get seekers i ≡ Some s → At i s
  at_of i s there =
      let n = value_at seekers next i s underway.full there in
      let first = value_at seekers own i s firsts.full there in
      let seat = value_at seekers seats i s full there in
      record { n = n.0; at = n.1; first = first.0; owns = first.1; seat = seat.0; has = seat.1; is = added i n.0 s first.0 seat.0 there n.1 first.1 seat.1 }

  -- a seat of a step is one that the rule gives
  of_step : (p i : ℕ) (s : Seeker) (step : StepKind) → p < count → slice_get seekers i ≡ Some s → rule p (tried p seekers next) s.person step ↔ (slice_get seats i ≡ Some (Some (seat_at p (Under step))))
  of_step p i s step below there = (
    λ picked.
        let a = at_of i s there in
        let held = (firsts.each p i s (Under step) below there).0 picked in
        let first_is : a.first ≡ Some (seat_at p (Under step)) = (let e = a.owns in cc) in
        a.has ∙ ap Some (a.is.stays (seat_at p (Under step)) first_is),
    λ held.
        let a = at_of i s there in
        let seat_is : a.seat ≡ Some (seat_at p (Under step)) = (let e = a.has in cc) in
        elim (seat_or_none a.first) [
          | inr own_is ↦
              let same : own_is.0 ≡ seat_at p (Under step) = (let e = a.is.stays own_is.0 own_is.1 in cc) in
              (firsts.each p i s (Under step) below there).1 (a.owns ∙ (ap Some own_is.1 ∙ ap (λ z. Some (Some z)) same))
          | inl none ↦ elim (a.is.added none) [
            | inl beside ↦ absurd (let e = beside.4 in let same : seat_at beside.0 Kept ≡ seat_at p (Under step) = cc in let kinds : Kept ≡ Under step = ap (λ (z : Seat). z.step) same in cc)
            | inr nothing ↦ absurd (let e = nothing.0 in cc)
          ]
        ],
  )

  -- a kept seat is one of a person whom the programme keeps
  of_kept : (p i : ℕ) (s : Seeker) → p < count → slice_get seekers i ≡ Some s → IsKept rule guaranteed p (tried p seekers next) s.person ↔ (slice_get seats i ≡ Some (Some (seat_at p Kept)))
  of_kept p i s below there = (
    λ keeps.
        let a = at_of i s there in
        let last = underway.last p i a.n s Kept below there a.at keeps in
        let short = underway.within i a.n s there a.at in
        elim (seat_or_none a.first) [
          | inr own_is ↦ absurd (
              let q = own_is.0.prog.0 in
              let held : slice_get own i ≡ Some (Some (seat_at q own_is.0.step)) = a.owns ∙ ap Some own_is.1 in
              let q_below = firsts.below i own_is.0 held in
              let picked = by_step rule q (tried q seekers next) s.person own_is.0.step ((firsts.each q i s own_is.0.step q_below there).1 held) in
              let his = underway.last q i a.n s (Under picked.0) q_below there a.at picked.1 in
              let same : p ≡ q = one_place s.list p q (omega (arith, last, short)) (omega (arith, last, his)) in
              let mine = subst (λ z. rule z (tried z seekers next) s.person picked.0) (sym same) picked.1 in
              keeps.not_chosen picked.0 mine)
          | inl none ↦ elim (a.is.added none) [
            | inl beside ↦
                let there_is = beside.2 in
                let same : p ≡ beside.0 = one_place s.list p beside.0 (omega (arith, last, short)) (omega (arith, last, there_is)) in
                a.has ∙ ap Some (beside.4 ∙ ap (λ z. Some (seat_at z Kept)) (sym same))
            | inr nothing ↦ absurd (nothing.1 p below last keeps.guaranteed_there)
          ]
        ],
    λ held.
        let a = at_of i s there in
        let seat_is : a.seat ≡ Some (seat_at p Kept) = (let e = a.has in cc) in
        elim (seat_or_none a.first) [
          | inr own_is ↦ absurd (
              let same : own_is.0 ≡ seat_at p Kept = (let e = a.is.stays own_is.0 own_is.1 in cc) in
              (firsts.each p i s Kept below there).1 (a.owns ∙ (ap Some own_is.1 ∙ ap (λ z. Some (Some z)) same)))
          | inl none ↦ elim (a.is.added none) [
            | inl beside ↦
                let e = beside.4 in
                let seat_same : seat_at beside.0 Kept ≡ seat_at p Kept = cc in
                let same : beside.0 ≡ p = ap (λ (z : Seat). z.prog.0) seat_same in
                let last : a.n ≡ place_of s.list p + 1 = subst (λ z. a.n ≡ place_of s.list z + 1) same beside.2 in
                record {
                  guaranteed_there = subst (λ z. guaranteed z s.person ≡ true) same beside.3;
                  applies = those_has (λ s n. nat_lt (place_of s.list p) n) seekers next i s a.n there a.at (lt-ltb _ _ (omega (arith, last)));
                  not_chosen = λ step picked. let one = (firsts.each p i s (Under step) below there).0 picked in let two = a.owns in cc;
                }
            | inr nothing ↦ absurd (let e = nothing.0 in cc)
          ]
        ],
  )

  each : (p i : ℕ) (s : Seeker) (kind : SeatKind) → p < count → slice_get seekers i ≡ Some s
      → with_kept guaranteed rule p (tried p seekers next) s.person kind ↔ (slice_get seats i ≡ Some (Some (seat_at p kind)))
  each p i s (Under step) below there = of_step p i s step below there
  each p i s Kept below there = of_kept p i s below there

  -- The seats are those of the programmes with guarantees.
  pub are_seats : ((i : ℕ) (seat : Seat) → slice_get seats i ≡ Some (Some seat) → seat.prog.0 < count) → AreSeatsOf (with_kept guaranteed rule) count seekers next seats
  are_seats below = record { full = full; below = below; each = each }
