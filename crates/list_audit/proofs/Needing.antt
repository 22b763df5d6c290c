-- The listed come to a matching, the best first: the members are the needed.
use Rattle.std.proofs.Common.{◌≡◌, ◌≢◌, ◌<◌, ◌+◌, ◌⊎◌, ℕ, suc, Bool, true, false, Option, Some, None, List, [], ◌∷◌, ◌++◌, length, get_or, take, drop, add-one, refl, sym, subst, inl, inr}
use Rattle.std.proofs.Math.Seq.{take-suc}
use Rattle.std.specs.List.{AllByRecursion}
use Rattle.std.specs.Prelude.{IsSome}
use Rattle.office_base.specs.Lists.{IsAmong, Pairwise}
use Rattle.office_base.specs.Person.{IsBetter, IsTraitSet, number_in}
use Rattle.office_base.specs.StepChoice.{AreRanked}
use Rattle.office_base.specs.declared.person.ListId.{ListId}
use Rattle.office_base.specs.declared.person.Person.{Person}
use Rattle.office_base.specs.declared.step.Protections.{Protections}
use Rattle.office_base.proofs.Lists.{all_weaker, all_middle}
use Rattle.placements.specs.Ranks.{AreAmong, AreDistinct, CanBePlaced}
use Rattle.placements.proofs.Merit.{ahead_again, not_ahead}
use Rattle.placements.proofs.Ranks.{all_among, among_again, among_itself, among_longer, any_all, any_append, end_among_front, front_among_end, placed_end, placed_front, widen}
use Rattle.placements.proofs.Replace.{distinct_push}
use Rattle.slot_matching.specs.Kept.{Kept, MayJoin, with_member}
use Rattle.merit_choice.specs.Marks.{IsJoined}
use Rattle.merit_choice.specs.Needed.{AreNeeded}
use Rattle.merit_choice.proofs.ByHand.{placed_nobody}
use Rattle.merit_choice.proofs.Needed.{apart_some, needed_again, needed_joined, needed_kept, nobody_of}
use Rattle.merit_choice.proofs.Marking.{split_at, ahead_apart}
use Rattle.list_audit.specs.Reckoning.{IsReckoned, IsWorstFree}

-- ---- the next one

-- The next of people in merit order, after those in front: apart from them, and worse than each.
pub record IsNext (list : ListId) (front : List Person) (person : Person) : Type 0 where
  pub traits : IsTraitSet person.traits
  pub placed : IsSome (number_in list person)
  pub distinct : AreDistinct front
  pub apart : AllByRecursion (λ other. person.id ≢ other.id) front
  pub better : AllByRecursion (λ other. IsBetter list other person) front

-- what holds between each two holds between the front and the one in the middle, and in the front
before_middle : {X : Type 0} (R : X → X → Type 0) (front : List X) (x : X) (back : List X) → Pairwise R (front ++ x ∷ back) → AllByRecursion (λ y. R y x) front
before_middle R [] x back each = tt
before_middle R (y ∷ front) x back each = (all_middle (R y) front x back each.0, before_middle R front x back each.1)

all_in_front : {X : Type 0} (P : X → Type 0) (front back : List X) → AllByRecursion P (front ++ back) → AllByRecursion P front
all_in_front P [] back all = tt
all_in_front P (y ∷ front) back all = (all.0, all_in_front P front back all.1)

in_front : {X : Type 0} (R : X → X → Type 0) (front back : List X) → Pairwise R (front ++ back) → Pairwise R front
in_front R [] back each = tt
in_front R (y ∷ front) back each = (all_in_front (R y) front back each.0, in_front R front back each.1)

next_at : (list : ListId) (people : List Person) (at : ℕ) (other : Person) → AreRanked list people → at < length people → IsNext list (take at people) (get_or people at other)
next_at list people at other ranked inside =
    let split = split_at people at other inside in
    let front = take at people in
    let person = get_or people at other in
    let back = drop (suc at) people in
    let r : AreRanked list (front ++ person ∷ back) = subst (AreRanked list) split ranked in
    record {
      traits = all_middle (λ (p : Person). IsTraitSet p.traits) front person back r.traits;
      placed = all_middle (λ (p : Person). IsSome (number_in list p)) front person back r.placed;
      distinct = in_front (λ (a : Person) (b : Person). a.id ≢ b.id) front (person ∷ back) r.distinct;
      apart = all_weaker (λ (p : Person). p.id ≢ person.id) (λ (p : Person). person.id ≢ p.id) (λ p away same. away (sym same)) front
          (before_middle (λ (a : Person) (b : Person). a.id ≢ b.id) front person back r.distinct);
      better = before_middle (IsBetter list) front person back r.in_order;
    }

-- the next may join
pub next_joins : (list : ListId) (protections : Protections) (front : List Person) (person : Person) (kept : Kept) (free : Option Person) → IsNext list front person
    → IsReckoned list protections front kept free → MayJoin kept person
next_joins list protections front person kept free next r = record {
  traits = next.traits;
  placed = subst (λ (l : ListId). IsSome (number_in l person)) (sym r.same_list) next.placed;
  distinct = apart_some person.id kept.members front r.needs.among next.apart;
  apart = subst (λ (l : ListId). AllByRecursion (λ member. number_in l person ≢ number_in l member) kept.members) (sym r.same_list)
      (all_among (λ other. number_in list person ≢ number_in list other) kept.members front r.needs.among
      (all_weaker (λ other. IsBetter list other person) (λ other. number_in list person ≢ number_in list other) (λ other ahead. ahead_apart (number_in list other) (number_in list person) ahead) front
      next.better));
}

-- ---- a person who is not needed

-- one of the front and the next
of_end : (front : List Person) (person other : Person) → IsAmong other (front ++ person ∷ []) → IsAmong other front ⊎ (other ≡ person)
of_end front person other there = elim (any_append (λ one. other ≡ one) front (person ∷ []) there) [
  | inl here ↦ inl here
  | inr end ↦ elim end [ inl same ↦ inr same | inr none ↦ absurd none ]
]

to_end : (front : List Person) (person other : Person) → IsAmong other front → IsAmong other (front ++ person ∷ [])
to_end front person other there = widen other (person ∷ front) (front ++ person ∷ []) (front_among_end person front) (inr there)

at_end : (front : List Person) (person : Person) → IsAmong person (front ++ person ∷ [])
at_end front person = widen person (person ∷ front) (front ++ person ∷ []) (front_among_end person front) (inl refl)

free_joined : (list : ListId) (front members : List Person) (person : Person) (free : Option Person) → AllByRecursion (λ other. person.id ≢ other.id) front
    → IsWorstFree list front members free → IsWorstFree list (front ++ person ∷ []) (members ++ person ∷ []) free
free_joined list front members person None apart worst = λ other there gone. elim (of_end front person other there) [
  | inl here ↦ worst other here (λ his. gone (to_end members person other his))
  | inr same ↦ gone (subst (λ (p : Person). IsAmong p (members ++ person ∷ [])) (sym same) (at_end members person))
]
free_joined list front members person (Some free) apart worst = (
  to_end front person free worst.0,
  (λ his. elim (of_end members person free his) [
    | inl here ↦ worst.1 here
    | inr same ↦ nobody_of person front apart (subst (λ (p : Person). IsAmong p front) same worst.0)
  ]),
  (λ other there gone. elim (of_end front person other there) [
    | inl here ↦ worst.2 other here (λ his. gone (to_end members person other his))
    | inr same ↦ absurd (gone (subst (λ (p : Person). IsAmong p (members ++ person ∷ [])) (sym same) (at_end members person)))
  ]),
)

free_next : (list : ListId) (front members : List Person) (person : Person) → AreAmong members front → IsNext list front person → IsWorstFree list (front ++ person ∷ []) members (Some person)
free_next list front members person among next = (
  at_end front person,
  (λ his. nobody_of person front next.apart (widen person members front among his)),
  (λ other there gone. elim (of_end front person other there) [
    | inl here ↦ inr (let found = any_all (λ (o : Person). other ≡ o) (λ (o : Person). IsBetter list o person) front here next.better in
        subst (λ (p : Person). IsBetter list p person) (sym found.1) found.2)
    | inr same ↦ inl same
  ]),
)

-- ---- the next one comes

abbrev pub next_free : Bool → Person → Option Person → Option Person
next_free true person free = free
next_free false person free = Some person

reckoned_next : (list : ListId) (protections : Protections) (front : List Person) (person : Person) (before after : Kept) (joined : Bool) (free : Option Person) → IsNext list front person
    → IsReckoned list protections front before free → IsJoined before person joined after → IsReckoned list protections (front ++ person ∷ []) after (next_free joined person free)
reckoned_next list protections front person before after true free next r done =
    let members : List Person = before.members in
    let away = apart_some person.id members front r.needs.among next.apart in
    let can : CanBePlaced protections (person ∷ members) = placed_front protections person members
    (subst (λ (p : Protections). CanBePlaced p (members ++ person ∷ [])) r.same_protections done.0) in
    let needs = needed_joined list protections front members person next.distinct next.apart r.needs can in
    let again : AreNeeded list protections (front ++ person ∷ []) (members ++ person ∷ []) =
    needed_again list protections (person ∷ front) (front ++ person ∷ []) (person ∷ members) (members ++ person ∷ []) (next.apart, next.distinct) (end_among_front person front)
    (among_again (members ++ person ∷ []) (person ∷ members) (front ++ person ∷ []) (end_among_front person members)
    (among_again (person ∷ members) (person ∷ front) (front ++ person ∷ []) (inl refl, among_longer person members front r.needs.among) (front_among_end person front)))
    (front_among_end person members) (end_among_front person members) (distinct_push person members r.needs.distinct away) needs in
    let now : IsReckoned list protections (front ++ person ∷ []) (with_member before person) free = record {
      same_list = r.same_list;
      same_protections = r.same_protections;
      needs = again;
      worst = free_joined list front members person free next.apart r.worst;
    } in
    subst (λ (k : Kept). IsReckoned list protections (front ++ person ∷ []) k free) (sym done.1) now
reckoned_next list protections front person before after false free next r done =
    let members : List Person = before.members in
    let cannot : CanBePlaced protections (person ∷ members) → ⊥ = λ can.
    done.0 (subst (λ (p : Protections). CanBePlaced p (members ++ person ∷ [])) (sym r.same_protections) (placed_end protections person members can)) in
    let needs = needed_kept list protections front members person r.needs cannot (λ one his ahead can.
    let found = any_all (λ (o : Person). one ≡ o) (λ (o : Person). IsBetter list o person) front (widen one members front r.needs.among his) next.better in
    let behind : IsBetter list one person = subst (λ (p : Person). IsBetter list p person) (sym found.1) found.2 in
    not_ahead (number_in list one) (ahead_again (number_in list one) (number_in list person) (number_in list one) behind ahead)) in
    let again : AreNeeded list protections (front ++ person ∷ []) members =
    needed_again list protections (person ∷ front) (front ++ person ∷ []) members members (next.apart, next.distinct) (end_among_front person front)
    (among_again members front (front ++ person ∷ []) r.needs.among (among_again front (person ∷ front) (front ++ person ∷ []) (among_longer person front front (among_itself front)) (front_among_end person front)))
    (among_itself members) (among_itself members) r.needs.distinct needs in
    let now : IsReckoned list protections (front ++ person ∷ []) before (Some person) =
    record { same_list = r.same_list; same_protections = r.same_protections; needs = again; worst = free_next list front members person r.needs.among next } in
    subst (λ (k : Kept). IsReckoned list protections (front ++ person ∷ []) k (Some person)) (sym done.1) now

-- ---- by places

pub joins_at : (list : ListId) (protections : Protections) (people : List Person) (at : ℕ) (other : Person) (kept : Kept) (free : Option Person) → AreRanked list people → at < length people
    → IsReckoned list protections (take at people) kept free → MayJoin kept (get_or people at other)
joins_at list protections people at other kept free ranked inside r = next_joins list protections (take at people) (get_or people at other) kept free (next_at list people at other ranked inside) r

pub reckoned_at : (list : ListId) (protections : Protections) (people : List Person) (at : ℕ) (other : Person) (before after : Kept) (joined : Bool) (free : Option Person) → AreRanked list people
    → at < length people → IsReckoned list protections (take at people) before free → IsJoined before (get_or people at other) joined after
    → IsReckoned list protections (take (at + 1) people) after (next_free joined (get_or people at other) free)
reckoned_at list protections people at other before after joined free ranked inside r done =
    let one : take (at + 1) people ≡ take at people ++ get_or people at other ∷ [] = rw add-one (take-suc people at other inside) in
    subst (λ (front : List Person). IsReckoned list protections front after (next_free joined (get_or people at other) free)) (sym one)
    (reckoned_next list protections (take at people) (get_or people at other) before after joined free (next_at list people at other ranked inside) r done)

pub reckoned_nobody : (list : ListId) (protections : Protections) (kept : Kept) → kept ≡ record { protections = protections; list = list; members = [] } → IsReckoned list protections [] kept None
reckoned_nobody list protections kept e = subst (λ (k : Kept). IsReckoned list protections [] k None) (sym e) (record {
  same_list = refl;
  same_protections = refl;
  needs = record { among = tt; distinct = tt; placed = placed_nobody protections; most = λ other there out can. there; best = λ one other his there out better can. his };
  worst = λ person there gone. there;
})

pub next_held : (joined : Bool) (person : Person) (free : Option Person) → joined ≡ false → next_free joined person free ≡ Some person
next_held true person free e = absurd (cc)
next_held false person free e = refl

pub next_joined : (joined : Bool) (person : Person) (free : Option Person) → joined ≡ true → next_free joined person free ≡ free
next_joined true person free e = refl
next_joined false person free e = absurd (cc)
