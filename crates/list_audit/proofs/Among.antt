-- Those named are a part of people and honour as much: who of the others overtakes.
use Rattle.std.proofs.Common.{◌≡◌, ◌≢◌, ◌⊎◌, ℕ, suc, Option, Some, None, List, [], ◌∷◌, ◌++◌, length, refl, sym, ap, subst, inl, inr, arith}
use Rattle.std.specs.Prelude.{IsSome}
use Rattle.std.specs.List.{AllByRecursion}
use Rattle.office_base.specs.Lists.{IsAmong, IsSublist, Pairwise}
use Rattle.office_base.specs.Person.{IsBetter, IsTraitSet, number_in}
use Rattle.office_base.specs.Placement.{IsHonoured}
use Rattle.office_base.specs.StepChoice.{AreRanked}
use Rattle.office_base.specs.declared.person.CandId.{CandId}
use Rattle.office_base.specs.declared.person.ListId.{ListId}
use Rattle.office_base.specs.declared.person.Person.{Person}
use Rattle.office_base.specs.declared.step.Protections.{Protections}
use Rattle.placements.specs.Ranks.{AreAmong, CanBePlaced}
use Rattle.placements.proofs.Filters.{filter-sublist}
use Rattle.placements.proofs.Greatest.{honoured-one}
use Rattle.placements.proofs.Ranks.{all_among, among_again, among_itself, among_sublist, any_all, monotone, ranked_sublist}
use Rattle.programme_lists.specs.Programme.{without}
use Rattle.slot_matching.specs.Kept.{Kept, MayJoin, with_member}
use Rattle.merit_choice.proofs.ByHand.{honoured_placed}
use Rattle.merit_choice.proofs.InMerit.{ahead_other}
use Rattle.merit_choice.proofs.Needed.{apart_of, needed_honoured}
use Rattle.merit_choice.proofs.OneByOne.{better_or_worse}
use Rattle.list_audit.specs.Reckoning.{IsAhead as IsAheadOf, IsFirstAhead, IsReckoned, Reckoned}
use Rattle.list_audit.specs.Steps.{IsBestOf, OvertakesSome}
use Rattle.programme_lists.proofs.Taken.{among_without, among_without_from}

-- Those named are reckoned, and honour as much as all the people.
pub record AreSettled (list : ListId) (protections : Protections) (people named : List Person) (kept : Kept) (free : Option Person) : Type 0 where
  pub ranked : AreRanked list people
  pub part : IsSublist named people
  pub reckoned : IsReckoned list protections named kept free
  pub honours : ℕ
  pub ours : IsHonoured protections named honours
  pub all : IsHonoured protections people honours

-- what all people honour, by those of them who are needed
pub reckoned_honours : (list : ListId) (protections : Protections) (people : List Person) (kept : Kept) (free : Option Person) → AreRanked list people
    → IsReckoned list protections people kept free → IsHonoured protections people (length kept.members)
reckoned_honours list protections people kept free ranked r = needed_honoured list protections people kept.members ranked.distinct r.needs

module _ (list : ListId) (protections : Protections) (people named : List Person) (kept : Kept) (free : Option Person) (s : AreSettled list protections people named kept free) where
  named_among : AreAmong named people
  named_among = among_sublist named people s.part

  members_among : AreAmong kept.members people
  members_among = among_again kept.members named people s.reckoned.needs.among named_among

  named_ranked : AreRanked list named
  named_ranked = ranked_sublist list named people s.ranked s.part

  honours_members : IsHonoured protections people (length kept.members)
  honours_members =
      let same : s.honours ≡ length kept.members = honoured-one protections named s.honours (length kept.members) s.ours (needed_honoured list protections named kept.members named_ranked.distinct s.reckoned.needs) in
      subst (λ (n : ℕ). IsHonoured protections people n) same s.all

  pub members_placed : AllByRecursion (λ member. IsSome (number_in list member)) kept.members
  members_placed = all_among (λ member. IsSome (number_in list member)) kept.members people members_among s.ranked.placed

  pub members_traits : AllByRecursion (λ member. IsTraitSet member.traits) kept.members
  members_traits = all_among (λ member. IsTraitSet member.traits) kept.members people members_among s.ranked.traits

  -- ---- one who is not named

  apart_named : (person : Person) → IsAmong person people → (IsAmong person named → ⊥) → AllByRecursion (λ other. person.id ≢ other.id) named
  apart_named person there gone = apart_of person named people s.ranked.distinct named_among there gone

  other_place : (person other : Person) → IsAmong person people → IsAmong other people → person.id ≢ other.id → number_in list person ≢ number_in list other
  other_place person other there here differ = elim (better_or_worse list people person other s.ranked.in_order there here differ) [
    | inl ahead ↦ ahead_other (number_in list person) (number_in list other) ahead
    | inr behind ↦ λ same. ahead_other (number_in list other) (number_in list person) behind (sym same)
  ]

  -- may join those needed
  may_join : (person : Person) → IsAmong person people → (IsAmong person named → ⊥) → MayJoin kept person
  may_join person there gone =
      let away = apart_named person there gone in
      let found_traits = any_all (λ (o : Person). person ≡ o) (λ (o : Person). IsTraitSet o.traits) people there s.ranked.traits in
      let found_placed = any_all (λ (o : Person). person ≡ o) (λ (o : Person). IsSome (number_in list o)) people there s.ranked.placed in
      record {
        traits = subst (λ (p : Person). IsTraitSet p.traits) (sym found_traits.1) found_traits.2;
        placed = subst (λ (l : ListId). IsSome (number_in l person)) (sym s.reckoned.same_list) (subst (λ (p : Person). IsSome (number_in list p)) (sym found_placed.1) found_placed.2);
        distinct = all_among (λ other. person.id ≢ other.id) kept.members named s.reckoned.needs.among away;
        apart = subst (λ (l : ListId). AllByRecursion (λ member. number_in l person ≢ number_in l member) kept.members) (sym s.reckoned.same_list)
            (each kept.members (all_among (λ other. person.id ≢ other.id) kept.members named s.reckoned.needs.among away) members_among);
      }
    where
      each : (some : List Person) → AllByRecursion (λ other. person.id ≢ other.id) some → AreAmong some people → AllByRecursion (λ other. number_in list person ≢ number_in list other) some
      each [] away among = tt
      each (other ∷ some) away among = (other_place person other there among.0 away.0, each some away.1 among.1)

  -- and cannot be placed with all of them
  cannot_join : (person : Person) → IsAmong person people → CanBePlaced kept.protections (kept.members ++ person ∷ []) → ⊥
  cannot_join person there can =
      let wide : AreAmong (kept.members ++ person ∷ []) people = are_end kept.members members_among in
      let low = monotone protections (kept.members ++ person ∷ []) people (length (kept.members ++ person ∷ [])) (length kept.members) wide
      (honoured_placed protections (kept.members ++ person ∷ []) (subst (λ (p : Protections). CanBePlaced p (kept.members ++ person ∷ [])) s.reckoned.same_protections can)) honours_members in
      let size = longer kept.members in
      omega (arith, low, size)
    where
      are_end : (some : List Person) → AreAmong some people → AreAmong (some ++ person ∷ []) people
      are_end [] among = (there, tt)
      are_end (other ∷ some) among = (among.0, are_end some among.1)

      longer : (some : List Person) → length (some ++ person ∷ []) ≡ suc (length some)
      longer [] = refl
      longer (other ∷ some) = ap suc (longer some)

  -- ---- all of them

  all_others : (P : Person → Type 0) → ((person : Person) → IsAmong person people → (IsAmong person named → ⊥) → P person) → AllByRecursion P (without people named)
  all_others P each = walk (without people named) (λ person h. among_without person people named h)
    where
      walk : (some : List Person) → ((person : Person) → IsAmong person some → IsAmong person people × (IsAmong person named → ⊥)) → AllByRecursion P some
      walk [] h = tt
      walk (person ∷ some) h = (each person (h person (inl refl)).0 (h person (inl refl)).1, walk some (λ other there. h other (inr there)))

  pub all_may : AllByRecursion (MayJoin kept) (without people named)
  all_may = all_others (MayJoin kept) may_join

  pub all_cannot : AllByRecursion (λ person. ¬ CanBePlaced kept.protections (with_member kept person).members) (without people named)
  all_cannot = all_others (λ person. ¬ CanBePlaced kept.protections (with_member kept person).members) (λ person there gone. cannot_join person there)

  -- ---- who overtakes

  module _ (law : Reckoned) where
    ahead : (person : Person) → OvertakesSome list protections people named person → IsAheadOf list protections named kept.members person
    ahead person over = (law list protections people named kept.members person s.ranked s.part s.reckoned.needs honours_members over.1.stands over.1.unlisted).0 over

    overtakes : (person : Person) → IsAmong person (without people named) → IsAheadOf list protections named kept.members person → OvertakesSome list protections people named person
    overtakes person there h =
        let both = among_without person people named there in
        (law list protections people named kept.members person s.ranked s.part s.reckoned.needs honours_members both.0 both.1).1 h

    left : (person : Person) → OvertakesSome list protections people named person → IsAmong person (without people named)
    left person over = among_without_from people people named person s.ranked.distinct (among_itself people) named_among over.1.stands over.1.unlisted

    others_ranked : AreRanked list (without people named)
    others_ranked = ranked_sublist list (without people named) people s.ranked (filter-sublist _ people)

    pub best_of : (cand : Option CandId) → IsFirstAhead list protections named kept.members (without people named) cand → IsBestOf list protections people named cand
    best_of None none = λ person over.
        let found = any_all (λ (o : Person). person ≡ o) (λ (o : Person). IsAheadOf list protections named kept.members o → ⊥) (without people named) (left person over) none in
        found.2 (subst (λ (p : Person). IsAheadOf list protections named kept.members p) found.1 (ahead person over))
    best_of (Some cand) first =
        let before = first.0 in
        let person = first.1 in
        let after = first.2 in
        let split = first.3 in
        let order : Pairwise (IsBetter list) (before ++ person ∷ after) = subst (Pairwise (IsBetter list)) split others_ranked.in_order in (
          person,
          first.4,
          overtakes person (subst (IsAmong person) (sym split) (middle before)) first.5,
          λ other over.
              by other over before first.6 (subst (IsAmong other) split (left other over)) order,
        )
      where
        middle : (before : List Person) → IsAmong first.1 (before ++ first.1 ∷ first.2)
        middle [] = inl refl
        middle (other ∷ before) = inr (middle before)

        by : (other : Person) → OvertakesSome list protections people named other → (before : List Person)
            → AllByRecursion (λ one. IsAheadOf list protections named kept.members one → ⊥) before → IsAmong other (before ++ first.1 ∷ first.2) → Pairwise (IsBetter list) (before ++ first.1 ∷ first.2)
            → (other ≡ first.1) ⊎ IsBetter list first.1 other
        by other over [] none there order = elim there [
          | inl here ↦ inl here
          | inr later ↦ let found = any_all (λ (o : Person). other ≡ o) (IsBetter list first.1) first.2 later order.0 in inr (subst (IsBetter list first.1) (sym found.1) found.2)
        ]
        by other over (one ∷ before) none there order = elim there [
          | inl here ↦ absurd (none.0 (subst (λ (p : Person). IsAheadOf list protections named kept.members p) here (ahead other over)))
          | inr later ↦ by other over before none.1 later order.1
        ]

    -- from what the walk along the others finds
    pub best_found : (others : List Person) (cand : Option CandId) → others ≡ without people named
        → ((listed : List Person) → IsReckoned list kept.protections listed kept free → IsFirstAhead list kept.protections listed kept.members others cand)
        → IsBestOf list protections people named cand
    best_found others cand e found =
        let own : IsReckoned list kept.protections named kept free = subst (λ (p : Protections). IsReckoned list p named kept free) (sym s.reckoned.same_protections) s.reckoned in
        let first : IsFirstAhead list protections named kept.members others cand =
        subst (λ (p : Protections). IsFirstAhead list p named kept.members others cand) s.reckoned.same_protections (found named own) in
        best_of cand (subst (λ (those : List Person). IsFirstAhead list protections named kept.members those cand) e first)
