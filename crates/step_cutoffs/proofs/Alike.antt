-- Newcomers with the same traits have the same cutoff, and one with more traits has one that admits no fewer places.
use Rattle.std.proofs.Common.{◌≡◌, ◌≢◌, ◌⊎◌, ◌∙◌, inl, inr, ℕ, suc, ◌≤◌, ◌<◌, List, [], ◌∷◌, Option, Some, None, true, false, arith, refl, sym, ap, subst}
use Rattle.std.specs.Prelude.{IsSome}
use Rattle.std.proofs.lemmas.Bool.{cases_eq}
use Rattle.office_base.specs.Certificate.{slots_of}
use Rattle.office_base.specs.Lists.{IsAmong}
use Rattle.office_base.specs.Merit.{IsNewTo}
use Rattle.office_base.specs.Person.{IsAhead, IsBetter, number_in}
use Rattle.office_base.specs.Placement.{IsHonoured}
use Rattle.office_base.specs.declared.person.Person.{Person}
use Rattle.office_base.specs.declared.step.Protections.{Protections}
use Rattle.placements.specs.Ranks.{AreDistinct, without}
use Rattle.placements.specs.Slots.{AreSlots, MayStand, pairs_of}
use Rattle.placements.proofs.Convert.{length-pairs_of, placement-from_slots, slots-from_placement}
use Rattle.placements.proofs.Greatest.{honoured-exists, honoured-one}
use Rattle.placements.proofs.Ranks.{among_itself, among_longer, monotone, one_person, one_step}
use Rattle.placements.proofs.Without.{all_without, distinct_without, is_numbered, without_among}
use Rattle.merit_choice.specs.Marks.{IsRaise}
use Rattle.merit_choice.specs.State.{IsStepKept, StepKept}
use Rattle.merit_choice.proofs.OneByOne.{better_or_worse}
use Rattle.step_cutoffs.specs.Cutoff.{CanTakePlaceOf, IsCutoffFor, IsFullFor, IsNoWider, IsWithin}
use Rattle.step_cutoffs.specs.Laws.{AreHeldBy}
use Rattle.step_cutoffs.specs.declared.cutoff.Cutoff.{Cutoff}
use Rattle.step_cutoffs.specs.declared.cutoff.Cutoff.TheVariants.{Nobody, UpTo, Anybody}

-- ---- who holds more traits may stand wherever the other may

may_stand : (one other : Person) (slot : Option ℕ) → AreHeldBy one.traits other.traits → MayStand one slot → MayStand other slot
may_stand one other None held may = tt
may_stand one other (Some t) held may = held t may

slots_again : (protections : Protections) (one other : Person) (people : List Person) (slots : List (Option ℕ)) → AreHeldBy one.traits other.traits → AreSlots protections (one ∷ people) slots
    → AreSlots protections (other ∷ people) slots
slots_again protections one other people [] held slots = absurd slots.held
slots_again protections one other people (slot ∷ rest) held slots = record { held = (may_stand one other slot held slots.held.0, slots.held.1); within = slots.within }

-- so as many protections are honoured with the other
pub honours_no_fewer : (protections : Protections) (one other : Person) (people : List Person) (m n : ℕ) → AreHeldBy one.traits other.traits → AreDistinct (one ∷ people) → AreDistinct (other ∷ people)
    → IsHonoured protections (one ∷ people) m → IsHonoured protections (other ∷ people) n → m ≤ n
honours_no_fewer protections one other people m n held distinct distinct' his its =
    let pairs = his.reached.0 in
    let slots = slots_of pairs (one ∷ people) in
    let stand = slots-from_placement protections (one ∷ people) pairs distinct his.reached.1 in
    let again = slots_again protections one other people slots held stand.0 in
    let few = its.most (pairs_of (other ∷ people) slots) (placement-from_slots protections (other ∷ people) slots distinct' again) in
    let size = length-pairs_of (other ∷ people) slots again.held in
    let full = stand.1 in
    let count = his.reached.2 in
    omega (arith, few, size, full, count)

-- ---- cutoffs compared

-- a place that is ahead of the last one is within
pub within_ahead : (place : Option ℕ) (last : ℕ) → IsAhead place (Some last) → IsWithin (UpTo last) place
within_ahead None last ahead = absurd ahead
within_ahead (Some number) last ahead = omega (arith, ahead)

-- and the last one itself is
pub within_last : (place : Option ℕ) (last : ℕ) → place ≡ Some last → IsWithin (UpTo last) place
within_last place last same = subst (IsWithin (UpTo last)) (sym same) (omega arith)

-- and no other
pub ahead_within : (place : Option ℕ) (last : ℕ) → place ≢ Some last → IsWithin (UpTo last) place → IsAhead place (Some last)
ahead_within None last apart within = absurd within
ahead_within (Some number) last apart within = elim (cases_eq number last) [
  | inl same ↦ absurd (apart (ap Some same))
  | inr other ↦ omega (arith, within, other)
]

placed_within : (place : Option ℕ) (last : ℕ) → IsWithin (UpTo last) place → IsSome place
placed_within None last within = absurd within
placed_within (Some number) last within = refl

within_bound : (place : Option ℕ) (last bound : ℕ) → last ≤ bound → IsWithin (UpTo last) place → IsWithin (UpTo bound) place
within_bound None last bound most within = absurd within
within_bound (Some number) last bound most within = omega (arith, most, within)

-- each place within a cutoff is within one that is no narrower
pub within_more : (cutoff more : Cutoff) (place : Option ℕ) → IsNoWider cutoff more → IsWithin cutoff place → IsWithin more place
within_more Nobody more place most within = absurd within
within_more (UpTo last) Nobody place most within = absurd most
within_more (UpTo last) (UpTo bound) place most within = within_bound place last bound most within
within_more (UpTo last) Anybody place most within = placed_within place last within
within_more Anybody Nobody place most within = absurd most
within_more Anybody (UpTo bound) place most within = absurd most
within_more Anybody Anybody place most within = within

-- ---- two newcomers, of whom the other one holds each trait of the one

module _ (kept : StepKept) (ok : IsStepKept kept) (one other : Person) (new : IsNewTo kept.list kept.held one) (new' : IsNewTo kept.list kept.held other)
    (held : AreHeldBy one.traits other.traits) where
  with_more : (m n : ℕ) → IsHonoured kept.protections (one ∷ kept.held) m → IsHonoured kept.protections (other ∷ kept.held) n → m ≤ n
  with_more m n = honours_no_fewer kept.protections one other kept.held m n held (new.distinct, ok.ranked.distinct) (new'.distinct, ok.ranked.distinct)

  -- more protections are honoured with the one, so also with the other
  pub raised : IsRaise kept.protections kept.held one true → IsRaise kept.protections kept.held other true
  raised raise n mine =
      let its = honoured-exists kept.protections (other ∷ kept.held) (new'.distinct, ok.ranked.distinct) in
      let low = with_more (suc n) its.0 (raise n mine) its.1 in
      let high = one_step kept.protections other kept.held (other ∷ kept.held) n its.0 (among_itself (other ∷ kept.held)) mine its.1 in
      subst (IsHonoured kept.protections (other ∷ kept.held)) (omega (arith, low, high)) its.1

  -- no more are honoured with the other, so not with the one either
  pub not_raised : IsRaise kept.protections kept.held other false → IsRaise kept.protections kept.held one false
  not_raised raise n mine =
      let his = honoured-exists kept.protections (one ∷ kept.held) (new.distinct, ok.ranked.distinct) in
      let high = with_more his.0 n his.1 (raise n mine) in
      let low = monotone kept.protections kept.held (one ∷ kept.held) n his.0 (among_longer one kept.held kept.held (among_itself kept.held)) mine his.1 in
      subst (IsHonoured kept.protections (one ∷ kept.held)) (omega (arith, low, high)) his.1

  -- whom the one can replace the other can, where no more are honoured with the other
  pub replaces : (out : Person) → IsRaise kept.protections kept.held other false → CanTakePlaceOf kept one out → CanTakePlaceOf kept other out
  replaces out raise can n mine =
      let rest = without out.id kept.held in
      let rest_distinct = distinct_without out.id kept.held ok.ranked.distinct in
      let apart = all_without (λ (p : Person). one.id ≢ p.id) out.id kept.held new.distinct in
      let apart' = all_without (λ (p : Person). other.id ≢ p.id) out.id kept.held new'.distinct in
      let its = honoured-exists kept.protections (other ∷ rest) (apart', rest_distinct) in
      let low = honours_no_fewer kept.protections one other rest n its.0 held (apart, rest_distinct) (apart', rest_distinct) (can n mine) its.1 in
      let high = monotone kept.protections (other ∷ rest) (other ∷ kept.held) its.0 n
      (inl refl, among_longer other rest kept.held (without_among out.id kept.held)) its.1 (raise n mine) in
      subst (IsHonoured kept.protections (other ∷ rest)) (omega (arith, low, high)) its.1

  raised_or_not : IsRaise kept.protections kept.held one true → IsRaise kept.protections kept.held one false → ⊥
  raised_or_not more as_many =
      let n = honoured-exists kept.protections kept.held ok.ranked.distinct in
      let same = honoured-one kept.protections (one ∷ kept.held) (suc n.0) n.0 (more n.0 n.1) (as_many n.0 n.1) in
      omega (arith, same)

  -- a full step is not one that admits anybody
  full_or_not : IsFullFor kept other → IsCutoffFor kept one Anybody → ⊥
  full_or_not full anybody = elim anybody [
    | inl less ↦ (let e = full.full in omega (arith, e, less))
    | inr raise ↦ raised_or_not raise (not_raised full.no_more)
  ]

  -- of two of those held, where the first is not better than the second, the second is it or is better
  no_better : (first second : Person) → IsAmong first kept.held → IsAmong second kept.held → (IsBetter kept.list first second → ⊥) → (first ≡ second) ⊎ IsBetter kept.list second first
  no_better first second here there not = elim (is_numbered second.id first) [
    | inl same ↦ inl (one_person kept.held ok.ranked.distinct first second here there same)
    | inr apart ↦ elim (better_or_worse kept.list kept.held first second ok.ranked.in_order here there apart) [ inl better ↦ absurd (not better) | inr worse ↦ inr worse ]
  ]

  -- the other one's cutoff is no narrower
  pub no_wider : (cutoff more : Cutoff) → IsCutoffFor kept one cutoff → IsCutoffFor kept other more → IsNoWider cutoff more
  no_wider Nobody more cut cut' = tt
  no_wider (UpTo last) Nobody cut cut' = absurd (cut'.1 cut.1 cut.2 (replaces cut.1 cut'.0.no_more cut.3))
  no_wider (UpTo last) (UpTo bound) cut cut' =
      elim (no_better cut'.1 cut.1 cut'.2 cut.2 (cut'.5 cut.1 cut.2 (replaces cut.1 cut'.0.no_more cut.3))) [
        | inl same ↦ at_most_same last bound (sym cut.4 ∙ (sym (ap (number_in kept.list) same) ∙ cut'.4))
        | inr better ↦ at_most_ahead last bound (subst (λ k. IsAhead k (Some bound)) cut.4 (subst (IsAhead (number_in kept.list cut.1)) cut'.4 better))
      ]
    where
      at_most_same : (a b : ℕ) → Some a ≡ Some b → a ≤ b
      at_most_same a b e = (let same : a ≡ b = cc (e) in omega (arith, same))

      at_most_ahead : (a b : ℕ) → a < b → a ≤ b
      at_most_ahead a b less = omega (arith, less)
  no_wider (UpTo last) Anybody cut cut' = tt
  no_wider Anybody Nobody cut cut' = absurd (full_or_not cut'.0 cut)
  no_wider Anybody (UpTo bound) cut cut' = absurd (full_or_not cut'.0 cut)
  no_wider Anybody Anybody cut cut' = tt

-- ---- one newcomer has one cutoff

module _ (kept : StepKept) (ok : IsStepKept kept) (person : Person) (new : IsNewTo kept.list kept.held person) where
  same_traits : AreHeldBy person.traits person.traits
  same_traits t has = has

  pub one_cutoff_for : (first second : Cutoff) → IsCutoffFor kept person first → IsCutoffFor kept person second → first ≡ second
  one_cutoff_for Nobody Nobody cut cut' = refl
  one_cutoff_for Nobody (UpTo last) cut cut' = absurd (cut.1 cut'.1 cut'.2 cut'.3)
  one_cutoff_for Nobody Anybody cut cut' = absurd (full_or_not kept ok person person new new same_traits cut.0 cut')
  one_cutoff_for (UpTo last) Nobody cut cut' = absurd (cut'.1 cut.1 cut.2 cut.3)
  one_cutoff_for (UpTo last) (UpTo bound) cut cut' =
      let same : cut.1 ≡ cut'.1 = elim (no_better kept ok person person new new same_traits cut.1 cut'.1 cut.2 cut'.2 (cut.5 cut'.1 cut'.2 cut'.3)) [
        | inl e ↦ e
        | inr better ↦ absurd (cut'.5 cut.1 cut.2 cut.3 better)
      ] in
      let number : Some last ≡ Some bound = sym cut.4 ∙ (ap (number_in kept.list) same ∙ cut'.4) in
      ap UpTo (some_one last bound number)
    where
      some_one : (a b : ℕ) → Some a ≡ Some b → a ≡ b
      some_one a b e = cc
  one_cutoff_for (UpTo last) Anybody cut cut' = absurd (full_or_not kept ok person person new new same_traits cut.0 cut')
  one_cutoff_for Anybody Nobody cut cut' = absurd (full_or_not kept ok person person new new same_traits cut'.0 cut)
  one_cutoff_for Anybody (UpTo bound) cut cut' = absurd (full_or_not kept ok person person new new same_traits cut'.0 cut)
  one_cutoff_for Anybody Anybody cut cut' = refl

-- ---- newcomers with the same traits

module _ (kept : StepKept) (ok : IsStepKept kept) (one other : Person) (new : IsNewTo kept.list kept.held one) (new' : IsNewTo kept.list kept.held other) (same : one.traits ≡ other.traits) where
  held : AreHeldBy one.traits other.traits
  held = subst (AreHeldBy one.traits) same (λ t has. has)

  held' : AreHeldBy other.traits one.traits
  held' = subst (AreHeldBy other.traits) (sym same) (λ t has. has)

  full_again : IsFullFor kept one → IsFullFor kept other
  full_again full = record { full = full.full; no_more = not_raised kept ok other one new' new held' full.no_more }

  pub same_cutoff : (cutoff : Cutoff) → IsCutoffFor kept one cutoff → IsCutoffFor kept other cutoff
  same_cutoff Nobody cut = (full_again cut.0, (λ out in_held can. cut.1 out in_held (replaces kept ok other one new' new held' out cut.0.no_more can)))
  same_cutoff (UpTo last) cut = (
    full_again cut.0,
    cut.1,
    cut.2,
    replaces kept ok one other new new' held cut.1 (full_again cut.0).no_more cut.3,
    cut.4,
    (λ out in_held can worse. cut.5 out in_held (replaces kept ok other one new' new held' out cut.0.no_more can) worse),
  )
  same_cutoff Anybody cut = elim cut [ inl less ↦ inl less | inr raise ↦ inr (raised kept ok one other new new' held raise) ]
