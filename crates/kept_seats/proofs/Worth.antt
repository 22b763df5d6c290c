-- What guarantees are worth in a market: nobody guaranteed falls, steps choose as ever, and without need nothing changes.
use Rattle.std.proofs.Common.{◌≡◌, ◌<◌, ◌≤◌, inl, inr, ℕ, true, List, Option, Some, None, length, arith, sym, ap, ◌∙◌, subst}
use Rattle.std.specs.Prelude.{slice_get}
use Rattle.std.proofs.lemmas.Bool.{cases_lt}
use Rattle.office_base.specs.Lists.{IsAmong, IsSublist}
use Rattle.office_base.specs.declared.seat.Seat.{Seat}
use Rattle.office_base.specs.declared.seat.SeatKind.{SeatKind}
use Rattle.office_base.specs.declared.seat.SeatKind.TheVariants.{Kept, Under}
use Rattle.office_base.specs.declared.person.Person.{Person}
use Rattle.office_base.specs.declared.step.StepKind.{StepKind}
use Rattle.allocations.specs.Fair.{IsBest, IsFair, IsMarket}
use Rattle.allocations.specs.Market.{Seeker, applicants, applies, place_of, rank_of, seat_at}
use Rattle.allocations.specs.Rule.{Admits, ChoosesWell}
use Rattle.allocations.proofs.Best.{best_there}
use Rattle.allocations.proofs.Claims.{applicants_may}
use Rattle.allocations.proofs.Places.{applies_means, applies_true, one_place, place_read}
use Rattle.allocations.proofs.Those.{of_those, part, same_place, those_has, value_at}
use Rattle.kept_seats.specs.Kept.{alone, Guarantees, IsKept, KeptIsExact, NobodyGuaranteedFalls, NobodyNeeds, NothingChangesWithoutNeed, StepRule, StepsChooseAsEver, with_kept}
use Rattle.kept_seats.proofs.Kept as kept

-- a programme of a seeker's own list is one of the market
pub listed_below : (MayApply : ℕ → List Person → Type 0) (count p i : ℕ) (seekers : List Seeker) (s : Seeker) → IsMarket MayApply count seekers → slice_get seekers i ≡ Some s
    → place_of s.list p < length s.list → p < count
listed_below MayApply count p i seekers s market there listed =
    let read = place_read s.list p listed in
    subst (λ n. n < count) read.2 (market.below i (place_of s.list p) s read.0 there read.1)

-- who is among the applicants applies
pub among_applies : (MayApply : ℕ → List Person → Type 0) (count p i : ℕ) (seekers : List Seeker) (seats : List (Option Seat)) (s : Seeker) (seat : Option Seat) → IsMarket MayApply count seekers
    → slice_get seekers i ≡ Some s → slice_get seats i ≡ Some seat → IsAmong s.person (applicants p seekers seats) → applies p s.list seat ≡ true
among_applies MayApply count p i seekers seats s seat market there has among =
    let found = of_those (λ s seat. applies p s.list seat) seekers seats s.person among in
    let one : i ≡ found.place = same_place seekers i found.place s found.s market.ids there found.there (ap (λ (z : Person). z.id) found.person_is) in
    let there' : slice_get seekers i ≡ Some found.s = subst (λ k. slice_get seekers k ≡ Some found.s) (sym one) found.there in
    let has' : slice_get seats i ≡ Some found.value = subst (λ k. slice_get seats k ≡ Some found.value) (sym one) found.at in
    let seeker : found.s ≡ s = cc in
    let value : found.value ≡ seat = cc in
    subst (λ z. applies p s.list z ≡ true) value (subst (λ (z : Seeker). applies p z.list found.value ≡ true) seeker found.passes)

-- a seat at the place of a programme is one of that programme
pub seat_there : (p : ℕ) (list : List _) (seat : Option Seat) → place_of list p < length list → rank_of list seat ≡ place_of list p → (kind : SeatKind) × (seat ≡ Some (seat_at p kind))
seat_there p list None listed rank = absurd (let e : length list ≡ place_of list p = rank in omega (arith, e, listed))
seat_there p list (Some seat) listed rank =
    let same : p ≡ seat.prog.0 = one_place list p seat.prog.0 listed (sym rank) in
    (seat.step, ap (λ z. Some (seat_at z seat.step)) (sym same))

module _ (guaranteed : Guarantees) (rule : StepRule) where
  -- Nobody guaranteed falls.
  pub nobody_guaranteed_falls : (MayApply : ℕ → List Person → Type 0) → ChoosesWell rule MayApply → NobodyGuaranteedFalls guaranteed rule MayApply
  nobody_guaranteed_falls MayApply well count p i seekers seats s seat market fair there has sure listed =
      elim (cases_lt (place_of s.list p) (rank_of s.list seat)) [
        | inr no_later ↦ no_later
        | inl later ↦ absurd (
            let below = listed_below MayApply count p i seekers s market there listed in
            let may = applicants_may (with_kept guaranteed rule) MayApply count p seekers seats market (kept.choose_well guaranteed rule MayApply well) below fair.allocation.full in
            let applied = applies_true p s.list seat listed (omega (arith, later)) in
            let among = those_has (λ s seat. applies p s.list seat) seekers seats i s seat there has applied in
            let admitted : Admits (with_kept guaranteed rule) p (applicants p seekers seats) s.person = elim (well.decided p (applicants p seekers seats) s.person may) [
              | inl picked ↦ kept.chosen guaranteed rule p _ s.person picked
              | inr out ↦ kept.kept guaranteed rule p _ s.person (record { guaranteed_there = sure; applies = among; not_chosen = out })
            ] in
            let held = (fair.agrees p i s admitted.0 below there).0 admitted.1 in
            let same : seat ≡ Some (seat_at p admitted.0) = cc in
            let rank : rank_of s.list seat ≡ place_of s.list p = ap (λ z. rank_of s.list z) same in
            omega (arith, rank, later))
      ]

  -- Every step chooses as ever.
  pub steps_choose_as_ever : StepsChooseAsEver guaranteed rule
  steps_choose_as_ever count p i seekers seats s step fair below there = fair.agrees p i s (Under step) below there

  -- Kept is exact.
  pub kept_is_exact : KeptIsExact guaranteed rule
  kept_is_exact count p i seekers seats s fair below there = fair.agrees p i s Kept below there

-- by the rule alone a seat is had under a step
pub by_step : (rule : StepRule) (p : ℕ) (people : List Person) (x : Person) (kind : SeatKind) → alone rule p people x kind → (step : StepKind) × rule p people x step
by_step rule p people x (Under step) picked = (step, picked)
by_step rule p people x Kept none = absurd none

-- where a person is not kept the rule alone decides
same_alone : (guaranteed : Guarantees) (rule : StepRule) (p : ℕ) (people : List Person) (x : Person) (kind : SeatKind) → (IsKept rule guaranteed p people x → ⊥)
    → (with_kept guaranteed rule p people x kind → alone rule p people x kind) × (alone rule p people x kind → with_kept guaranteed rule p people x kind)
same_alone guaranteed rule p people x (Under step) none = (λ h. h, λ h. h)
same_alone guaranteed rule p people x Kept none = (λ keeps. none keeps, λ h. absurd h)

module _ (guaranteed : Guarantees) (rule : StepRule) (MayApply : ℕ → List Person → Type 0) (well : ChoosesWell rule MayApply) (count : ℕ) (seekers : List Seeker)
    (market : IsMarket MayApply count seekers) where
  -- if everybody guaranteed has what is guaranteed, nobody is kept
  none_kept : (seats : List (Option Seat)) → IsFair (alone rule) count seekers seats → NobodyNeeds guaranteed seekers seats → (p i : ℕ) (s : Seeker) → p < count → slice_get seekers i ≡ Some s
      → IsKept rule guaranteed p (applicants p seekers seats) s.person → ⊥
  none_kept seats fair needless p i s below there keeps =
      let seat = value_at seekers seats i s fair.allocation.full there in
      let applied = applies_means p s.list seat.0 (among_applies MayApply count p i seekers seats s seat.0 market there seat.1 keeps.applies) in
      let ahead = needless p i s seat.0 there seat.1 keeps.guaranteed_there applied.wants in
      let found = seat_there p s.list seat.0 applied.wants (omega (arith, ahead, applied.within)) in
      let held : slice_get seats i ≡ Some (Some (seat_at p found.0)) = seat.1 ∙ ap Some found.1 in
      let picked = by_step rule p _ s.person found.0 ((fair.agrees p i s found.0 below there).1 held) in
      keeps.not_chosen picked.0 picked.1

  -- an allocation that is fair by the rule alone, in which nobody is kept, is fair
  fair_still : (seats : List (Option Seat)) → IsFair (alone rule) count seekers seats
      → ((p i : ℕ) (s : Seeker) → p < count → slice_get seekers i ≡ Some s → IsKept rule guaranteed p (applicants p seekers seats) s.person → ⊥)
      → IsFair (with_kept guaranteed rule) count seekers seats
  fair_still seats fair none = record {
    allocation = fair.allocation;
    agrees = λ p i s kind below there. (
      λ admits. (fair.agrees p i s kind below there).0 ((same_alone guaranteed rule p _ s.person kind (none p i s below there)).0 admits),
      λ held. (same_alone guaranteed rule p _ s.person kind (none p i s below there)).1 ((fair.agrees p i s kind below there).1 held),
    );
  }

  -- and the other way round
  fair_alone : (seats : List (Option Seat)) → IsFair (with_kept guaranteed rule) count seekers seats
      → ((p i : ℕ) (s : Seeker) → p < count → slice_get seekers i ≡ Some s → IsKept rule guaranteed p (applicants p seekers seats) s.person → ⊥)
      → IsFair (alone rule) count seekers seats
  fair_alone seats fair none = record {
    allocation = fair.allocation;
    agrees = λ p i s kind below there. (
      λ picked. (fair.agrees p i s kind below there).0 ((same_alone guaranteed rule p _ s.person kind (none p i s below there)).1 picked),
      λ held. (same_alone guaranteed rule p _ s.person kind (none p i s below there)).0 ((fair.agrees p i s kind below there).1 held),
    );
  }

  -- who applies by an allocation that is no worse for anyone applies by the other
  fewer_apply : (p : ℕ) (seats others : List (Option Seat)) → length others ≡ length seats
      → ((i : ℕ) (s : Seeker) (seat other : Option Seat) → slice_get seekers i ≡ Some s → slice_get seats i ≡ Some seat → slice_get others i ≡ Some other
      → rank_of s.list seat ≤ rank_of s.list other) → IsSublist (applicants p seekers seats) (applicants p seekers others)
  fewer_apply p seats others full no_worse =
      part (λ s seat. applies p s.list seat) (λ s seat. applies p s.list seat) seekers seats others full
      (λ i s seat other there has has' h.
      let a = applies_means p s.list seat h in
      let less = no_worse i s seat other there has has' in
      applies_true p s.list other a.wants (omega (arith, a.within, less)))

  -- in an allocation that is no worse for anyone than one by the rule alone in which nobody needs a guarantee, nobody is kept
  none_better_kept : (seats firsts : List (Option Seat)) → IsFair (alone rule) count seekers seats → NobodyNeeds guaranteed seekers seats → IsFair (with_kept guaranteed rule) count seekers firsts
      → ((i : ℕ) (s : Seeker) (seat other : Option Seat) → slice_get seekers i ≡ Some s → slice_get firsts i ≡ Some seat → slice_get seats i ≡ Some other
      → rank_of s.list seat ≤ rank_of s.list other)
      → (p i : ℕ) (s : Seeker) → p < count → slice_get seekers i ≡ Some s → IsKept rule guaranteed p (applicants p seekers firsts) s.person → ⊥
  none_better_kept seats firsts fair needless fair' no_worse p i s below there keeps =
      let full = fair.allocation.full in
      let full' = fair'.allocation.full in
      let first = value_at seekers firsts i s full' there in
      let seat = value_at seekers seats i s full there in
      let applied = applies_means p s.list first.0 (among_applies MayApply count p i seekers firsts s first.0 market there first.1 keeps.applies) in
      let less = no_worse i s first.0 seat.0 there first.1 seat.1 in
      let ahead = needless p i s seat.0 there seat.1 keeps.guaranteed_there applied.wants in
      let found = seat_there p s.list seat.0 applied.wants (omega (arith, ahead, less, applied.within)) in
      let held : slice_get seats i ≡ Some (Some (seat_at p found.0)) = seat.1 ∙ ap Some found.1 in
      let picked = by_step rule p _ s.person found.0 ((fair.agrees p i s found.0 below there).1 held) in
      let may = applicants_may (with_kept guaranteed rule) MayApply count p seekers seats market (kept.choose_well guaranteed rule MayApply well) below full in
      let again = well.fewer p _ _ s.person may (fewer_apply p firsts seats (full ∙ sym full') no_worse) keeps.applies picked in
      keeps.not_chosen again.0 again.1

  pub unchanged : (seats : List (Option Seat)) → IsBest (alone rule) count seekers seats → NobodyNeeds guaranteed seekers seats → IsBest (with_kept guaranteed rule) count seekers seats
  unchanged seats best needless =
      let fair = fair_still seats best.fair (none_kept seats best.fair needless) in
      let first = best_there (with_kept guaranteed rule) MayApply count seekers market (kept.choose_well guaranteed rule MayApply well) in
      let alone = fair_alone first.0 first.1.fair (none_better_kept seats first.0 best.fair needless first.1.fair (first.1.best seats fair)) in
      record {
        fair = fair;
        best = λ others fair' i s seat other there has has'.
            let mid = value_at seekers first.0 i s first.1.fair.allocation.full there in
            let one = best.best first.0 alone i s seat mid.0 there has mid.1 in
            let two = first.1.best others fair' i s mid.0 other there mid.1 has' in
            omega (arith, one, two);
      }

-- Without need nothing changes.
pub nothing_changes_without_need : (guaranteed : Guarantees) (rule : StepRule) (MayApply : ℕ → List Person → Type 0) → ChoosesWell rule MayApply
    → NothingChangesWithoutNeed guaranteed rule MayApply
nothing_changes_without_need guaranteed rule MayApply well count seekers seats market best needless =
    unchanged guaranteed rule MayApply well count seekers market seats best needless
