-- One member fewer, and one member in the place of another.
use Rattle.std.proofs.Common.{◌≡◌, ◌≢◌, ◌<◌, ◌+◌, ℕ, List, [], ◌∷◌, ◌++◌, length, get_or, sym, subst, arith, slice_index, IsTrue}
use Rattle.std.specs.List.{remove}
use Rattle.std.specs.Prelude.{IsSome}
use Rattle.office_base.specs.Person.{IsTraitSet, number_in}
use Rattle.office_base.specs.declared.person.CandId.{CandId}
use Rattle.office_base.specs.declared.person.Person.{Person}
use Rattle.office_base.specs.declared.person.TraitSet.{TraitSet}
use Rattle.placements.specs.Demand.{is_within}
use Rattle.placements.specs.Ranks.{CanBePlaced, without}
use Rattle.placements.proofs.Exchange.{Leaves}
use Rattle.placements.proofs.Hall.{one_if, one_if_true, positions_below_few}
use Rattle.placements.proofs.Replace.{asking_leaves}
use Rattle.placements.proofs.Without.{leaves_at, all_without, pairwise_without, distinct_without}
use Rattle.slot_matching.specs.Kept.{Kept, without_member, MayJoin, IsCounted}
use Rattle.slot_matching.proofs.OneMemberMore.{HasSpare, joins_where}

-- one is given back to each set that holds the traits
abbrev pub IsGiven : List ℕ → TraitSet → List ℕ → Type 0
IsGiven before traits after = (m : ℕ) → m < 64 → slice_index after m ≡ slice_index before m + one_if (is_within traits (record { 0 = m }))

-- there is room for it
pub room_back : (kept : Kept) (spare : List ℕ) (size : ℕ) (out : Person) (rest : List Person) → IsCounted kept spare size → Leaves out kept.members rest
    → (m : ℕ) → m < 64 → IsTrue (is_within out.traits (record { 0 = m })) → slice_index spare m < 65535
room_back kept spare size out rest counted leaves m less inside =
    let set : TraitSet = record { 0 = m } in
    let left = counted.left.left m less in
    let asked = asking_leaves set out kept.members rest leaves in
    let one = one_if_true (is_within out.traits set) inside in
    let few = positions_below_few 6 kept.protections set in
    let most = counted.few in
    omega arith

-- what is kept true, without one member
pub counted_without : (kept : Kept) (before after : List ℕ) (size : ℕ) (cand : CandId) (out : Person) → IsCounted kept before size
    → Leaves out kept.members (without cand kept.members) → IsGiven before out.traits after → length after ≡ 64 → IsCounted (without_member kept cand) after size
counted_without kept before after size cand out counted leaves given sets = record {
  list = counted.list;
  traits = all_without (λ member. IsTraitSet member.traits) cand kept.members counted.traits;
  placed = all_without (λ member. IsSome (number_in kept.list member)) cand kept.members counted.placed;
  distinct = distinct_without cand kept.members counted.distinct;
  apart = pairwise_without (λ a b. number_in kept.list a ≢ number_in kept.list b) cand kept.members counted.apart;
  left = record {
    sets = sets;
    left = λ m less.
        let set : TraitSet = record { 0 = m } in
        let left = counted.left.left m less in
        let asked = asking_leaves set out kept.members (without cand kept.members) leaves in
        let back = given m less in
        omega arith;
  };
  few = counted.few;
  room = counted.room;
}

-- who may join the members may join them without one
pub may_join_without : (kept : Kept) (person : Person) (cand : CandId) → MayJoin kept person → MayJoin (without_member kept cand) person
may_join_without kept person cand may = record {
  traits = may.traits;
  placed = may.placed;
  distinct = all_without (λ member. person.id ≢ member.id) cand kept.members may.distinct;
  apart = all_without (λ member. number_in kept.list person ≢ number_in kept.list member) cand kept.members may.apart;
}

-- who was taken out at the place that was found
pub removed_at : (slice items : List Person) (at : ℕ) (cand : CandId) → slice ≡ items → remove slice at ≡ without cand slice → remove items at ≡ without cand items
removed_at slice items at cand same removed = subst (λ (l : List Person). remove l at ≡ without cand l) same removed

pub taken_out : (slice items : List Person) (at : ℕ) (cand : CandId) (left : Person) → slice ≡ items → at < length slice → remove slice at ≡ without cand slice
    → left ≡ get_or items at left → Leaves left items (without cand items)
taken_out slice items at cand left same less removed value =
    let inside : at < length items = subst (λ (l : List Person). at < length l) same less in
    subst (λ (p : Person). Leaves p items (without cand items)) (sym value)
    (subst (Leaves (get_or items at left) items) (removed_at slice items at cand same removed) (leaves_at items at left inside))

-- where the person can be placed with the others, each set that holds the person's traits has one to spare again
pub spare_again : (kept : Kept) (before after : List ℕ) (size : ℕ) (cand : CandId) (out person : Person) → IsCounted kept before size
    → Leaves out kept.members (without cand kept.members) → IsGiven before out.traits after → length after ≡ 64 → MayJoin kept person
    → CanBePlaced kept.protections (without cand kept.members ++ person ∷ []) → HasSpare after person.traits
spare_again kept before after size cand out person counted leaves given sets may can =
    joins_where (without_member kept cand) person after size (counted_without kept before after size cand out counted leaves given sets)
    (may_join_without kept person cand may) can
