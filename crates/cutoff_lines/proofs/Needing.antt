-- Down the merit order, whoever can be placed with those before is needed, and is marked so.
use Rattle.std.proofs.Common.{◌≢◌, ◌<◌, ◌+◌, ℕ, zero, suc, List, [], ◌∷◌, ◌++◌, Bool, true, false, length, take, get_or, refl, sym, ap, subst, inl, inr}
use Rattle.std.specs.List.{AllByRecursion, AllZip}
use Rattle.std.specs.Prelude.{IsSome}
use Rattle.std.proofs.lemmas.List.{take_more}
use Rattle.office_base.specs.Lists.{IsAmong}
use Rattle.office_base.specs.Merit.{IsNewTo}
use Rattle.office_base.specs.Person.{IsBetter, IsTraitSet, number_in}
use Rattle.office_base.specs.StepChoice.{AreRanked}
use Rattle.office_base.specs.declared.person.ListId.{ListId}
use Rattle.office_base.specs.declared.person.Person.{Person}
use Rattle.office_base.specs.declared.step.Protections.{Protections}
use Rattle.office_base.proofs.Lists.{all_among as all_of, among_left, among_right}
use Rattle.placements.specs.Ranks.{AreAmong, AreDistinct, CanBePlaced}
use Rattle.placements.proofs.Merit.{not_both_better}
use Rattle.placements.proofs.Ranks.{all_among, among_again, among_itself, end_among_front, front_among_end, placed_end, placed_front, widen}
use Rattle.placements.proofs.Replace.{distinct_push}
use Rattle.merit_choice.specs.Needed.{AreNeeded, Tells}
use Rattle.merit_choice.proofs.Marking.{ahead_apart}
use Rattle.merit_choice.proofs.Needed.{among_more, apart_some, needed_again, needed_joined, needed_kept, nobody_of}
use Rattle.slot_matching.specs.Augmented.{IsAugmented}
use Rattle.slot_matching.specs.Kept.{Kept, MayJoin, with_member}
use Rattle.slot_matching.specs.declared.matching.Augment.{Augment}
use Rattle.slot_matching.specs.declared.matching.Augment.TheVariants.{Raised, Held}
use Rattle.cutoff_lines.specs.Found.{IsNeededOf}
use Rattle.cutoff_lines.proofs.Places.{all_get, before_get}

-- ---- marks

-- one more person at the end, with a mark
told_push : (needed people : List Person) (marks : List Bool) (person : Person) (mark : Bool) → AllZip (Tells needed) people marks → Tells needed person mark
    → AllZip (Tells needed) (people ++ person ∷ []) (marks ++ mark ∷ [])
told_push needed [] [] person mark all here = (here, tt)
told_push needed [] (first ∷ marks) person mark all here = absurd all
told_push needed (one ∷ people) [] person mark all here = absurd all
told_push needed (one ∷ people) (first ∷ marks) person mark all here = (all.0, told_push needed people marks person mark all.1 here)

-- the marks of the needed are those of others, if of these people the same are among them
told_again : (needed again people : List Person) (marks : List Bool) → ((one : Person) → IsAmong one people → IsAmong one needed → IsAmong one again)
    → ((one : Person) → IsAmong one people → IsAmong one again → IsAmong one needed) → AllZip (Tells needed) people marks → AllZip (Tells again) people marks
told_again needed again [] [] on back told = tt
told_again needed again [] (mark ∷ marks) on back told = absurd told
told_again needed again (one ∷ people) [] on back told = absurd told
told_again needed again (one ∷ people) (true ∷ marks) on back told =
    (on one (inl refl) told.0, told_again needed again people marks (λ other here. on other (inr here)) (λ other here. back other (inr here)) told.1)
told_again needed again (one ∷ people) (false ∷ marks) on back told =
    ((λ here. told.0 (back one (inl refl) here)), told_again needed again people marks (λ other here. on other (inr here)) (λ other here. back other (inr here)) told.1)

-- ---- one person more

module _ (list : ListId) (protections : Protections) (people : List Person) (at : ℕ) (other : Person) (matching : Kept) (marks : List Bool) (ranked : AreRanked list people)
    (inside : at < length people) (so_far : IsNeededOf list protections (take at people) matching marks) where
  abbrev person : Person
  person = get_or people at other

  abbrev before : List Person
  before = take at people

  apart : AllByRecursion (λ earlier. person.id ≢ earlier.id) before
  apart = all_back before (before_get (λ a b. a.id ≢ b.id) people at other inside ranked.distinct)
    where
      all_back : (some : List Person) → AllByRecursion (λ earlier. earlier.id ≢ person.id) some → AllByRecursion (λ earlier. person.id ≢ earlier.id) some
      all_back [] all = tt
      all_back (one ∷ some) all = ((λ e. all.0 (sym e)), all_back some all.1)

  ahead : AllByRecursion (λ earlier. IsBetter list earlier person) before
  ahead = before_get (IsBetter list) people at other inside ranked.in_order

  pub may_join : MayJoin matching person
  may_join = record {
    traits = all_get (λ one. IsTraitSet one.traits) people at other inside ranked.traits;
    placed = subst (λ (l : ListId). IsSome (number_in l person)) (sym so_far.same_list) (all_get (λ one. IsSome (number_in list one)) people at other inside ranked.placed);
    distinct = apart_some person.id matching.members before so_far.needs.among apart;
    apart = subst (λ (l : ListId). AllByRecursion (λ member. number_in l person ≢ number_in l member) matching.members) (sym so_far.same_list)
        (all_among (λ member. number_in list person ≢ number_in list member) matching.members before so_far.needs.among (places_apart before ahead));
  }
    where
      places_apart : (some : List Person) → AllByRecursion (λ earlier. IsBetter list earlier person) some → AllByRecursion (λ earlier. number_in list person ≢ number_in list earlier) some
      places_apart [] all = tt
      places_apart (one ∷ some) all = (ahead_apart (number_in list one) (number_in list person) all.0, places_apart some all.1)

  before_distinct : AreDistinct before
  before_distinct = first_distinct people at ranked.distinct
    where
      first_all : (P : Person → Type 0) (some : List Person) (n : ℕ) → AllByRecursion P some → AllByRecursion P (take n some)
      first_all P some zero all = tt
      first_all P [] (suc n) all = tt
      first_all P (one ∷ some) (suc n) all = (all.0, first_all P some n all.1)

      first_distinct : (some : List Person) (n : ℕ) → AreDistinct some → AreDistinct (take n some)
      first_distinct some zero all = tt
      first_distinct [] (suc n) all = tt
      first_distinct (one ∷ some) (suc n) all = (first_all (λ later. one.id ≢ later.id) some n all.0, first_distinct some n all.1)

  -- those before and the person, in any order
  from_front : AreAmong (before ++ person ∷ []) (person ∷ before)
  from_front = end_among_front person before

  joined : CanBePlaced protections (matching.members ++ person ∷ []) → AreNeeded list protections (before ++ person ∷ []) (matching.members ++ person ∷ [])
  joined can =
      let members = matching.members in
      let now = needed_joined list protections before members person before_distinct apart so_far.needs (placed_front protections person members can) in
      needed_again list protections (person ∷ before) (before ++ person ∷ []) (person ∷ members) (members ++ person ∷ []) (apart, before_distinct) from_front
      (among_again (members ++ person ∷ []) (person ∷ members) (before ++ person ∷ []) (end_among_front person members)
      (among_again (person ∷ members) (person ∷ before) (before ++ person ∷ []) now.among (front_among_end person before)))
      (front_among_end person members) (end_among_front person members)
      (distinct_push person members so_far.needs.distinct (apart_some person.id members before so_far.needs.among apart)) now

  stayed : (CanBePlaced protections (matching.members ++ person ∷ []) → ⊥) → AreNeeded list protections (before ++ person ∷ []) matching.members
  stayed cannot =
      let members = matching.members in
      let now = needed_kept list protections before members person so_far.needs (λ can. cannot (placed_end protections person members can)) (λ one here worse can.
      not_both_better list one person (all_of (λ earlier. IsBetter list earlier person) before one ahead (among_more one members before so_far.needs.among here)) worse) in
      needed_again list protections (person ∷ before) (before ++ person ∷ []) members members (apart, before_distinct) from_front
      (among_again members (person ∷ before) (before ++ person ∷ []) now.among (front_among_end person before)) (among_itself members) (among_itself members) so_far.needs.distinct now

  -- a member who comes is one of those before, or this one
  came : (one : Person) → IsAmong one before → IsAmong one (matching.members ++ person ∷ []) → IsAmong one matching.members
  came one there here = elim (widen one (matching.members ++ person ∷ []) (person ∷ matching.members) (end_among_front person matching.members) here) [
    | inl same ↦ absurd (all_of (λ earlier. person.id ≢ earlier.id) before one apart there (ap (λ (p : Person). p.id) (sym same)))
    | inr was ↦ was
  ]

  told_joined : AllZip (Tells (matching.members ++ person ∷ [])) (before ++ person ∷ []) (marks ++ true ∷ [])
  told_joined =
      let members = matching.members in
      told_push (members ++ person ∷ []) before marks person true (told_again members (members ++ person ∷ []) before marks (λ one there here. among_left one members (person ∷ []) here) came so_far.told)
      (among_right person members (person ∷ []) (inl refl))

  told_stayed : AllZip (Tells matching.members) (before ++ person ∷ []) (marks ++ false ∷ [])
  told_stayed =
      let members = matching.members in
      told_push members before marks person false so_far.told (nobody_of person members (apart_some person.id members before so_far.needs.among apart))

  pub needed_join : (answer : Augment) (after : Kept) → CanBePlaced matching.protections (with_member matching person).members → IsAugmented matching person answer after
      → IsNeededOf list protections (take (at + 1) people) after (marks ++ true ∷ [])
  needed_join Raised after can done = subst (λ kept. IsNeededOf list protections (take (at + 1) people) kept (marks ++ true ∷ [])) (sym done.1) (record {
    same_list = so_far.same_list;
    same_protections = so_far.same_protections;
    needs = subst (λ held. AreNeeded list protections held (matching.members ++ person ∷ [])) (sym (take_more people at other inside))
        (joined (subst (λ (those : Protections). CanBePlaced those (matching.members ++ person ∷ [])) so_far.same_protections done.0));
    told = subst (λ held. AllZip (Tells (matching.members ++ person ∷ [])) held (marks ++ true ∷ [])) (sym (take_more people at other inside)) told_joined;
  })
  needed_join (Held worst) after can done = absurd (done.0 can)

  pub needed_stay : (CanBePlaced matching.protections (with_member matching person).members → ⊥) → IsNeededOf list protections (take (at + 1) people) matching (marks ++ false ∷ [])
  needed_stay cannot = record {
    same_list = so_far.same_list;
    same_protections = so_far.same_protections;
    needs = subst (λ held. AreNeeded list protections held matching.members) (sym (take_more people at other inside))
        (stayed (λ can. cannot (subst (λ (those : Protections). CanBePlaced those (matching.members ++ person ∷ [])) (sym so_far.same_protections) can)));
    told = subst (λ held. AllZip (Tells matching.members) held (marks ++ false ∷ [])) (sym (take_more people at other inside)) told_stayed;
  }

-- a newcomer to those held may join those of them who are needed
pub newcomer_may_join : (list : ListId) (protections : Protections) (held : List Person) (matching : Kept) (person : Person) → (marks : List Bool)
    → IsNeededOf list protections held matching marks → IsNewTo list held person
    → MayJoin matching person
newcomer_may_join list protections held matching person marks needed new = record {
  traits = new.traits;
  placed = subst (λ (l : ListId). IsSome (number_in l person)) (sym needed.same_list) new.placed;
  distinct = apart_some person.id matching.members held needed.needs.among new.distinct;
  apart = subst (λ (l : ListId). AllByRecursion (λ member. number_in l person ≢ number_in l member) matching.members) (sym needed.same_list)
      (all_among (λ member. number_in list person ≢ number_in list member) matching.members held needed.needs.among new.numbers);
}
