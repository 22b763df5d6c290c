-- What the matching shows of a person who comes, and what it makes of the needed and of the marks.
use Rattle.std.proofs.Common.{◌≡◌, ◌≢◌, ◌<◌, ◌⊎◌, ℕ, Bool, true, false, Some, List, [], ◌∷◌, ◌++◌, length, get_or, set, sym, ◌∙◌, subst, inl, inr}
use Rattle.std.specs.Prelude.{IsSome}
use Rattle.std.specs.List.{AllByRecursion}
use Rattle.office_base.specs.Lists.{AnyByRecursion}
use Rattle.office_base.specs.Person.{IsBetter, number_in}
use Rattle.office_base.specs.StepChoice.{AreRanked}
use Rattle.office_base.specs.declared.person.CandId.{CandId}
use Rattle.office_base.specs.declared.person.ListId.{ListId}
use Rattle.office_base.specs.declared.person.Person.{Person}
use Rattle.office_base.specs.declared.step.Protections.{Protections}
use Rattle.placements.specs.Ranks.{AreDistinct, CanBePlaced, without}
use Rattle.placements.proofs.Ranks.{any_all, any_append, among_again, among_back, among_front, among_itself, one_person, front_among_end, end_among_front, placed_end, placed_front, all_among}
use Rattle.placements.proofs.Replace.{distinct_push}
use Rattle.placements.proofs.Without.{without_among, without_apart, among_without}
use Rattle.slot_matching.specs.Augmented.{CanReplace, IsWorstFor}
use Rattle.slot_matching.specs.Kept.{Kept, MayJoin, with_member, without_member}
use Rattle.merit_choice.specs.InMerit.{IsNewTo}
use Rattle.merit_choice.specs.Laws.{IsAmong}
use Rattle.merit_choice.specs.Needed.{AreNeeded}
use Rattle.merit_choice.specs.State.{IsMatched}
use Rattle.merit_choice.proofs.Exchanged.{Replaces, needed_exchanged}
use Rattle.merit_choice.proofs.Needed.{among_more, apart_some, nobody_of, other_number, needed_again, needed_joined, needed_kept}
use Rattle.merit_choice.proofs.OneByOne.{has_number}
use Rattle.merit_choice.proofs.Places.{among_at, told_again, told_without}

-- who is new to those held may join the needed of them
pub may_join : (list : ListId) (held : List Person) (marks : List Bool) (kept : Kept) (person : Person) → IsNewTo list held person → IsMatched list held marks kept → MayJoin kept person
may_join list held marks kept person new matched =
    let told = matched.same_list in
    record {
      traits = new.traits;
      placed = subst (λ (l : ListId). IsSome (number_in l person)) (sym told) new.placed;
      distinct = apart_some person.id kept.members held matched.needs.among new.distinct;
      apart = subst (λ (l : ListId). AllByRecursion (λ member. number_in l person ≢ number_in l member) kept.members) (sym told)
          (all_among (λ other. number_in list person ≢ number_in list other) kept.members held matched.needs.among new.numbers);
    }

-- whether the person comes first or last
needed_end : (list : ListId) (protections : Protections) (held needed : List Person) (person : Person) → AreDistinct held → AreNeeded list protections held (person ∷ needed)
    → AreNeeded list protections held (needed ++ person ∷ [])
needed_end list protections held needed person distinct n =
    needed_again list protections held held (person ∷ needed) (needed ++ person ∷ []) distinct (among_itself held)
    (among_again (needed ++ person ∷ []) (person ∷ needed) held (end_among_front person needed) n.among)
    (front_among_end person needed) (end_among_front person needed) (distinct_push person needed n.distinct.1 n.distinct.0) n

-- the last one is one of them
last_among : (person : Person) (people : List Person) → IsAmong person (people ++ person ∷ [])
last_among person people = (among_back people (person ∷ [])).0

-- the others are too
front_of : (one person : Person) (people : List Person) → IsAmong one people → IsAmong one (people ++ person ∷ [])
front_of one person people there = among_more one people (people ++ person ∷ []) (among_front people (person ∷ [])) there

-- and nobody else
of_front : (one person : Person) (held people : List Person) → AllByRecursion (λ other. person.id ≢ other.id) held → IsAmong one held → IsAmong one (people ++ person ∷ []) → IsAmong one people
of_front one person held people new in_held there = elim (any_append (λ other. one ≡ other) people (person ∷ []) there) [
  | inl front ↦ front
  | inr back ↦ elim back [
    | inl same ↦ absurd (nobody_of person held new (subst (λ (each : Person). IsAmong each held) same in_held))
    | inr none ↦ absurd none
  ]
]

-- a person who can be placed with the needed is one of them
pub joined_raised : (list : ListId) (held : List Person) (marks : List Bool) (kept after : Kept) (person : Person) → AreRanked list held → IsNewTo list held person → IsMatched list held marks kept
    → CanBePlaced kept.protections (kept.members ++ person ∷ []) → after ≡ with_member kept person → IsMatched list (person ∷ held) (true ∷ marks) after
joined_raised list held marks kept after person ranked new matched can told =
    let members = kept.members in
    let needs = needed_joined list kept.protections held members person ranked.distinct new.distinct matched.needs (placed_front kept.protections person members can) in
    let now : IsMatched list (person ∷ held) (true ∷ marks) (with_member kept person) = record {
      same_list = matched.same_list;
      needs = needed_end list kept.protections (person ∷ held) members person (new.distinct, ranked.distinct) needs;
      told = (
        last_among person members,
        told_again members (members ++ person ∷ []) held marks (λ one in_held his. front_of one person members his)
            (λ one in_held his. of_front one person held members new.distinct in_held his) matched.told,
      );
    } in
    subst (IsMatched list (person ∷ held) (true ∷ marks)) (sym told) now

-- who replaces nobody who is worse is not
pub joined_kept : (list : ListId) (held : List Person) (marks : List Bool) (kept : Kept) (person : Person) → IsNewTo list held person → IsMatched list held marks kept
    → ¬ CanBePlaced kept.protections (kept.members ++ person ∷ [])
    → ((one : Person) → IsAmong one kept.members → IsBetter list person one → CanReplace kept person one → ⊥)
    → IsMatched list (person ∷ held) (false ∷ marks) kept
joined_kept list held marks kept person new matched cannot nobody =
    let members = kept.members in
    record {
      same_list = matched.same_list;
      needs = needed_kept list kept.protections held members person matched.needs (λ can. cannot (placed_end kept.protections person members can))
          (λ one his better can. nobody one his better (placed_end kept.protections person (without one.id members) can));
      told = ((λ his. nobody_of person held new.distinct (among_more person members held matched.needs.among his)), matched.told);
    }

-- a better person takes that one's place, without the mark there
pub joined_exchanged : (list : ListId) (held : List Person) (marks : List Bool) (kept after : Kept) (person other : Person) (cand : CandId) (at : ℕ) → AreRanked list held → IsNewTo list held person
    → IsMatched list held marks kept → ¬ CanBePlaced kept.protections (kept.members ++ person ∷ []) → IsWorstFor kept person (Some cand) → at < length held
    → (get_or held at other).id ≡ cand → IsBetter list person (get_or held at other) → after ≡ with_member (without_member kept cand) person
    → IsMatched list (person ∷ held) (true ∷ set marks at false) after
joined_exchanged list held marks kept after person other cand at ranked new matched cannot worst inside who better told =
    let members = kept.members in
    let distinct = ranked.distinct in
    let in_held = among_more worst.0 members held matched.needs.among worst.2 in
    let same : worst.0 ≡ get_or held at other = one_person held distinct worst.0 (get_or held at other) in_held (among_at held at other inside) (worst.1 ∙ sym who) in
    let replaces : Replaces list kept.protections held members person worst.0 = record {
      order = ranked.in_order;
      held_distinct = distinct;
      new = new.distinct;
      needs = matched.needs;
      cannot = λ can. cannot (placed_end kept.protections person members can);
      member = worst.2;
      can = placed_front kept.protections person (without worst.0.id members) worst.3;
      last = λ one his can.
          let found = any_all (λ (each : Person). one ≡ each) (λ (each : Person). CanReplace kept person each → (each ≡ worst.0) ⊎ IsBetter kept.list each worst.0) members his worst.4 in
          elim (found.2 (subst (CanReplace kept person) found.1 (placed_end kept.protections person (without one.id members) can))) [
            | inl equal ↦ inl (found.1 ∙ equal)
            | inr above ↦ inr (subst (λ (each : Person). IsBetter list each worst.0) (sym found.1) (subst (λ (l : ListId). IsBetter l found.0 worst.0) matched.same_list above))
          ];
      better = subst (IsBetter list person) (sym same) better;
    } in
    let left = without cand members in
    let needs : AreNeeded list kept.protections (person ∷ held) (person ∷ left) =
    subst (λ c. AreNeeded list kept.protections (person ∷ held) (person ∷ without c members)) worst.1
    (needed_exchanged list kept.protections held members person worst.0 replaces) in
    let now : IsMatched list (person ∷ held) (true ∷ set marks at false) (with_member (without_member kept cand) person) = record {
      same_list = matched.same_list;
      needs = needed_end list kept.protections (person ∷ held) left person (new.distinct, distinct) needs;
      told = (
        last_among person left,
        told_without members (left ++ person ∷ []) held marks at cand other distinct inside who
            (λ one there apart his. front_of one person left (among_without cand one members his apart))
            (λ one there his.
            let mine = of_front one person held left new.distinct there his in
            (among_more one left members (without_among cand members) mine, other_number one cand left (without_apart cand members matched.needs.distinct) mine))
            matched.told,
      );
    } in
    subst (IsMatched list (person ∷ held) (true ∷ set marks at false)) (sym told) now

-- the worst who can be replaced is one of the needed, and so of those held
pub worst_member : (list : ListId) (held : List Person) (marks : List Bool) (kept : Kept) (person : Person) (cand : CandId) → IsMatched list held marks kept → IsWorstFor kept person (Some cand)
    → AnyByRecursion (λ (member : Person). member.id ≡ cand) kept.members
worst_member list held marks kept person cand matched worst =
    subst (λ c. AnyByRecursion (λ (member : Person). member.id ≡ c) kept.members) worst.1 (has_number worst.0 kept.members worst.2)
