-- The worst whom a newcomer can replace is the last of those held who are not needed, or hold no trait outside the least full set.
use Rattle.std.proofs.Common.{◌≡◌, ◌≢◌, ◌⊎◌, inl, inr, ℕ, zero, suc, ◌<◌, List, [], ◌∷◌, ◌++◌, Some, None, Option, Bool, true, false, length, drop, get_or, arith, refl, sym, subst}
use Rattle.std.specs.Prelude.{◌↔◌, IsSome}
use Rattle.std.proofs.lemmas.Bool.{false≢true}
use Rattle.std.specs.List.{AllByRecursion, AllZip}
use Rattle.office_base.specs.Lists.{IsAmong}
use Rattle.office_base.specs.Merit.{IsNewTo}
use Rattle.office_base.specs.Person.{IsBetter, number_in}
use Rattle.office_base.specs.Placement.{IsHonoured}
use Rattle.office_base.specs.StepChoice.{AreRanked}
use Rattle.office_base.specs.declared.person.ListId.{ListId}
use Rattle.office_base.specs.declared.person.Person.{Person}
use Rattle.office_base.specs.declared.person.TraitSet.{TraitSet}
use Rattle.office_base.proofs.Lists.{all_among}
use Rattle.placements.specs.Demand.{is_within}
use Rattle.placements.specs.Ranks.{AreAmong, AreDistinct, CanBePlaced, without}
use Rattle.placements.proofs.Greatest.{honoured-exists, honoured-one}
use Rattle.placements.proofs.Merit.{ahead_again}
use Rattle.placements.proofs.Ranks.{among_longer, among_sublist, are_among, exchange, extension, monotone, placed_end, placed_front, refused, taken, widen}
use Rattle.placements.proofs.Without.{all_without, among_without, distinct_without, length_without, without_among, without_apart}
use Rattle.merit_choice.specs.Marks.{IsRaise}
use Rattle.merit_choice.specs.Needed.{AreNeeded, Tells}
use Rattle.merit_choice.specs.State.{IsStepKept, StepKept}
use Rattle.merit_choice.proofs.ByHand.{honoured_placed}
use Rattle.merit_choice.proofs.Needed.{decides, needed_honoured, nobody_of, other_number, placed_part}
use Rattle.merit_choice.proofs.OneByOne.{better_or_worse, has_number}
use Rattle.slot_matching.specs.Augmented.{CanReplace}
use Rattle.slot_matching.specs.Kept.{Kept}
use Rattle.slot_matching.specs.Replaceable.{IsReplaceable}
use Rattle.step_cutoffs.specs.Cutoff.{CanTakePlaceOf, IsCutoffFor, IsFullFor}
use Rattle.cutoff_lines.specs.Found.{IsLastPlace, IsSpare}
use Rattle.cutoff_lines.proofs.Places.{all_get, any_get, last_get}
use Rattle.step_cutoffs.specs.declared.cutoff.Cutoff.{Cutoff}
use Rattle.step_cutoffs.specs.declared.cutoff.Cutoff.TheVariants.{Nobody, UpTo}

module _ (kept : StepKept) (needed : List Person) (person : Person) (ok : IsStepKept kept) (new : IsNewTo kept.list kept.held person) (needs : AreNeeded kept.list kept.protections kept.held needed) where
  honoured : IsHonoured kept.protections kept.held (length needed)
  honoured = needed_honoured kept.list kept.protections kept.held needed ok.ranked.distinct needs

  apart : AreDistinct (person ∷ kept.held)
  apart = (new.distinct, ok.ranked.distinct)

  -- where the needed can all be placed with the person, more protections are honoured with the person
  pub raises : CanBePlaced kept.protections (needed ++ person ∷ []) → IsRaise kept.protections kept.held person true
  raises can n mine =
      let more = taken kept.protections person needed kept.held needs.among honoured (placed_front kept.protections person needed can) in
      subst (λ k. IsHonoured kept.protections (person ∷ kept.held) (suc k)) (honoured-one kept.protections kept.held (length needed) n honoured mine) more

  module _ (cannot : CanBePlaced kept.protections (needed ++ person ∷ []) → ⊥) where
    -- and no more otherwise
    as_many : IsHonoured kept.protections (person ∷ kept.held) (length needed)
    as_many = refused kept.protections person needed kept.held apart needs.among needs.placed honoured (λ can. cannot (placed_end kept.protections person needed can))

    pub no_raise : IsRaise kept.protections kept.held person false
    no_raise n mine = subst (IsHonoured kept.protections (person ∷ kept.held)) (honoured-one kept.protections kept.held (length needed) n honoured mine) as_many

    -- a part of those held with the person, without one of them, that honours as many
    by_part : (out : Person) (part : List Person) → AreAmong part (person ∷ without out.id kept.held) → CanBePlaced kept.protections part → length part ≡ length needed → CanTakePlaceOf kept person out
    by_part out part within can size n mine =
        let rest = without out.id kept.held in
        let rest_distinct : AreDistinct (person ∷ rest) = (all_without (λ (p : Person). person.id ≢ p.id) out.id kept.held new.distinct, distinct_without out.id kept.held ok.ranked.distinct) in
        let k = honoured-exists kept.protections (person ∷ rest) rest_distinct in
        let low = monotone kept.protections part (person ∷ rest) (length part) k.0 within (honoured_placed kept.protections part can) k.1 in
        let high = monotone kept.protections (person ∷ rest) (person ∷ kept.held) k.0 (length needed) (inl refl, among_longer person rest kept.held (without_among out.id kept.held)) k.1 as_many in
        let one = honoured-one kept.protections kept.held (length needed) n honoured mine in
        subst (IsHonoured kept.protections (person ∷ rest)) (omega (arith, low, high, size, one)) k.1

    -- who is not needed can be replaced
    not_needed : (out : Person) → IsAmong out kept.held → (IsAmong out needed → ⊥) → CanTakePlaceOf kept person out
    not_needed out there gone =
        by_part out needed (among_longer person needed (without out.id kept.held) (are_among needed (without out.id kept.held) (λ other here.
        among_without out.id other kept.held (widen other needed kept.held needs.among here) (apart_id other here)))) needs.placed refl
      where
        apart_id : (other : Person) → IsAmong other needed → other.id ≢ out.id
        apart_id other here = elim (decides out needed kept.held ok.ranked.distinct needs.among there) [
          | inl in_needed ↦ absurd (gone in_needed)
          | inr far ↦ other_number other out.id needed far here
        ]

    -- and one of the needed who can be replaced among them
    needed_replaced : (out : Person) → IsAmong out needed → CanBePlaced kept.protections (without out.id needed ++ person ∷ []) → CanTakePlaceOf kept person out
    needed_replaced out there can =
        let rest = without out.id needed in
        let front = placed_front kept.protections person rest can in
        let size = length_without out.id needed (has_number out needed there) in
        let within : AreAmong rest (without out.id kept.held) = are_among rest (without out.id kept.held) (λ other here.
        among_without out.id other kept.held (widen other needed kept.held needs.among (widen other rest needed (without_among out.id needed) here))
        (other_number other out.id rest (without_apart out.id needed needs.distinct) here)) in
        by_part out (person ∷ rest) (inl refl, among_longer person rest (without out.id kept.held) within) front (omega (arith, size))

    -- If the person can replace one of the needed, then so it is among the needed, or somebody worse is not needed.
    replaced_or_worse : (out : Person) → IsAmong out needed → CanTakePlaceOf kept person out
        → CanBePlaced kept.protections (without out.id needed ++ person ∷ []) ⊎ ((other : Person) × IsAmong other kept.held × (IsAmong other needed → ⊥) × IsBetter kept.list out other)
    replaced_or_worse out there can =
        let rest = without out.id needed in
        let left = without out.id kept.held in
        let all_distinct : AreDistinct (person ∷ left) = (all_without (λ (p : Person). person.id ≢ p.id) out.id kept.held new.distinct, distinct_without out.id kept.held ok.ranked.distinct) in
        let rest_within : AreAmong rest (person ∷ left) = among_longer person rest left (are_among rest left (λ other here.
        among_without out.id other kept.held (widen other needed kept.held needs.among (widen other rest needed (without_among out.id needed) here))
        (other_number other out.id rest (without_apart out.id needed needs.distinct) here))) in
        let rest_distinct = distinct_without out.id needed needs.distinct in
        let rest_placed = placed_part kept.protections rest needed needs.distinct rest_distinct (without_among out.id needed) needs.placed in
        let more = extension kept.protections rest (person ∷ left) (length needed) all_distinct rest_within rest_placed (can (length needed) honoured) in
        let size = length_without out.id needed (has_number out needed there) in
        let joins = exchange kept.protections (person ∷ left) rest more.0 all_distinct rest_within (among_sublist more.0 (person ∷ left) more.1) rest_placed more.3 (omega (arith, size, more.4)) in
        let who = joins.0 in
        elim (widen who more.0 (person ∷ left) (among_sublist more.0 (person ∷ left) more.1) joins.1) [
          | inl is_person ↦ inl (placed_end kept.protections person rest (subst (λ p. CanBePlaced kept.protections (p ∷ rest)) is_person joins.3))
          | inr in_left ↦
              let in_held = widen who left kept.held (without_among out.id kept.held) in_left in
              let other : who.id ≢ out.id = other_number who out.id left (without_apart out.id kept.held ok.ranked.distinct) in_left in
              let out_held = widen out needed kept.held needs.among there in
              let gone : IsAmong who needed → ⊥ = λ here. nobody_of who rest joins.2 (among_without out.id who needed here other) in
              elim (better_or_worse kept.list kept.held who out ok.ranked.in_order in_held out_held other) [
                | inl better ↦ absurd (needs.best out who there in_held gone better joins.3)
                | inr worse ↦ inr (who, in_held, gone, worse)
              ]
        ]

    module _ (set : TraitSet) (each : AllByRecursion (λ member. CanReplace (record { protections = kept.protections; list = kept.list; members = needed }) person member
        ↔ (is_within member.traits set ≡ true)) needed) where
      -- who is spare can be replaced
      pub spare_can : (out : Person) → IsAmong out kept.held → IsSpare needed set out → CanTakePlaceOf kept person out
      spare_can out there spare = elim (decides out needed kept.held ok.ranked.distinct needs.among there) [
        | inr far ↦ not_needed out there (nobody_of out needed far)
        | inl here ↦ elim spare [
          | inl gone ↦ absurd (gone here)
          | inr inside ↦ needed_replaced out here ((all_among _ needed out each here).1 inside)
        ]
      ]

      -- who can be replaced is spare, or is better than one who is
      pub can_spare : (out : Person) → IsAmong out kept.held → CanTakePlaceOf kept person out
          → IsSpare needed set out ⊎ ((other : Person) × IsAmong other kept.held × IsSpare needed set other × IsBetter kept.list out other)
      can_spare out there can = elim (decides out needed kept.held ok.ranked.distinct needs.among there) [
        | inr far ↦ inl (inl (nobody_of out needed far))
        | inl here ↦ elim (replaced_or_worse out here can) [
          | inl placed ↦ inl (inr ((all_among _ needed out each here).0 placed))
          | inr worse ↦ inr (worse.0, worse.1, inl worse.2, worse.3)
        ]
      ]

-- ---- who is spare, by the marks

told_at : (needed people : List Person) (marks : List Bool) (at : ℕ) (other : Person) (mark : Bool) → AllZip (Tells needed) people marks → at < length people
    → Tells needed (get_or people at other) (get_or marks at mark)
told_at needed [] marks at other mark told inside = absurd (omega (arith, inside))
told_at needed (person ∷ people) [] at other mark told inside = absurd told
told_at needed (person ∷ people) (first ∷ marks) zero other mark told inside = told.0
told_at needed (person ∷ people) (first ∷ marks) (suc at) other mark told inside = told_at needed people marks at other mark told.1 (omega (arith, inside))

spare_marked : (needed : List Person) (set : TraitSet) (person : Person) (mark : Bool) → Tells needed person mark → ((mark ≡ false) ⊎ (is_within person.traits set ≡ true)) ↔ IsSpare needed set person
spare_marked needed set person true here = (
  (λ spare. elim spare [ inl not ↦ absurd (false≢true (sym not)) | inr inside ↦ inr inside ]),
  (λ spare. elim spare [ inl gone ↦ absurd (gone here) | inr inside ↦ inr inside ]),
)
spare_marked needed set person false gone = (
  (λ spare. elim spare [ inl not ↦ inl gone | inr inside ↦ inr inside ]),
  (λ spare. inl refl),
)

pub spare_at : (needed people : List Person) (marks : List Bool) (set : TraitSet) (at : ℕ) (other : Person) (mark : Bool) → AllZip (Tells needed) people marks → at < length people
    → ((get_or marks at mark ≡ false) ⊎ (is_within (get_or people at other).traits set ≡ true)) ↔ IsSpare needed set (get_or people at other)
spare_at needed people marks set at other mark told inside = spare_marked needed set (get_or people at other) (get_or marks at mark) (told_at needed people marks at other mark told inside)

-- ---- the last who is spare

pub found_last : (list : ListId) (held needed : List Person) (set : TraitSet) (at : ℕ) (other : Person) (place : Option ℕ) → AreRanked list held → at < length held
    → IsSpare needed set (get_or held at other) → AllByRecursion (λ one. IsSpare needed set one → ⊥) (drop (suc at) held) → number_in list (get_or held at other) ≡ place
    → IsLastPlace list held needed set place
found_last list held needed set at other None ranked inside spare later same =
    let some = all_get (λ one. IsSome (number_in list one)) held at other inside ranked.placed in
    absurd (none_there (number_in list (get_or held at other)) some same)
  where
    none_there : (place : Option ℕ) → IsSome place → place ≡ None → ⊥
    none_there None some same = false≢true some
    none_there (Some n) some same = cc
found_last list held needed set at other (Some number) ranked inside spare later same = record {
  worst = get_or held at other;
  there = any_get (λ one. get_or held at other ≡ one) held at other inside refl;
  spare = spare;
  place = same;
  later = λ one here holds worse. last_get (IsSpare needed set) list held at other inside ranked.in_order later one here holds worse;
}

-- ---- the cutoff

-- the cutoff by the last who is spare
abbrev pub below : Option ℕ → Cutoff
below None = Nobody
below (Some number) = UpTo number

pub cutoff_found : (kept : StepKept) (matching : Kept) (person : Person) (set : TraitSet) (last : Option ℕ) → IsStepKept kept → IsNewTo kept.list kept.held person
    → AreNeeded kept.list kept.protections kept.held matching.members → matching.protections ≡ kept.protections → length kept.held ≡ kept.seats
    → IsReplaceable matching person (Some set) → IsLastPlace kept.list kept.held matching.members set last → IsCutoffFor kept person (below last)
cutoff_found kept matching person set last ok new needs same full replaceable found = by_last last found
  where
    cannot : CanBePlaced kept.protections (matching.members ++ person ∷ []) → ⊥
    cannot can = replaceable.0 (subst (λ protections. CanBePlaced protections (matching.members ++ person ∷ [])) (sym same) can)

    each : AllByRecursion (λ member. CanReplace (record { protections = kept.protections; list = kept.list; members = matching.members }) person member ↔ (is_within member.traits set ≡ true)) matching.members
    each = subst (λ protections. AllByRecursion (λ (member : Person). CanBePlaced protections (without member.id matching.members ++ person ∷ []) ↔ (is_within member.traits set ≡ true)) matching.members) same replaceable.1

    full_for : IsFullFor kept person
    full_for = record { full = full; no_more = no_raise kept matching.members person ok new needs cannot }

    by_last : (last : Option ℕ) → IsLastPlace kept.list kept.held matching.members set last → IsCutoffFor kept person (below last)
    by_last None none = (
      full_for,
      (λ other here can. elim (can_spare kept matching.members person ok new needs cannot set each other here can) [
        | inl spare ↦ none other here spare
        | inr worse ↦ none worse.0 worse.1 worse.2
      ]),
    )
    by_last (Some number) one = (
      full_for,
      one.worst,
      one.there,
      spare_can kept matching.members person ok new needs cannot set each one.worst one.there one.spare,
      one.place,
      (λ other here can worse. elim (can_spare kept matching.members person ok new needs cannot set each other here can) [
        | inl spare ↦ one.later other here spare worse
        | inr other_spare ↦ one.later other_spare.0 other_spare.1 other_spare.2
            (ahead_again (number_in kept.list one.worst) (number_in kept.list other) (number_in kept.list other_spare.0) worse other_spare.3)
      ]),
    )
