-- What one member more makes of the members, of what is to spare and of the room.
use Rattle.std.proofs.Common.{◌≡◌, ◌∙◌, ◌≢◌, ◌<◌, ◌≤◌, ◌+◌, ℕ, List, [], ◌∷◌, ◌++◌, length, true, Result, Ok, Err, refl, sym, subst, inl, inr, arith, lit<, bit_and, IsTrue, slice_index}
use Rattle.std.proofs.lemmas.Bool.{cases_Bool, eq-eqb}
use Rattle.std.proofs.lemmas.Nat.{and_mask}
use Rattle.std.specs.List.{AllByRecursion}
use Rattle.std.specs.Prelude.{IsSome, OnErr}
use Rattle.std.specs.Result.{is_err}
use Rattle.office_base.specs.Person.{IsTraitSet, number_in}
use Rattle.office_base.specs.Placement.{IsHonoured}
use Rattle.office_base.specs.declared.person.TraitSet.{TraitSet}
use Rattle.office_base.specs.declared.person.Person.{Person}
use Rattle.office_base.specs.declared.step.Protections.{Protections}
use Rattle.office_base.proofs.Lists.{all_push}
use Rattle.placements.specs.Demand.{is_within, asking, positions}
use Rattle.placements.specs.Ranks.{CanBePlaced}
use Rattle.placements.proofs.Hall.{NoneShort, one_if, one_if_true, one_if_false, placed_where_none_short, none_short_where_placed}
use Rattle.placements.proofs.Ranks.{no_more_than_people}
use Rattle.placements.proofs.Replace.{asking_push, pairwise_push}
use Rattle.slot_matching.specs.Kept.{Kept, with_member, MayJoin, IsKept, IsSpare, IsCounted, all_traits}

-- a person who holds some of the six traits asks within all of them
pub within_all : (traits : TraitSet) → IsTraitSet traits → is_within traits all_traits ≡ true
within_all traits small = eq-eqb (bit_and traits.0 63) traits.0 (and_mask traits.0 6 ∙ omega arith)

-- everybody asks within all traits
pub asking_all : (people : List Person) → AllByRecursion (λ person. IsTraitSet person.traits) people → asking all_traits people ≡ length people
asking_all [] small = refl
asking_all (person ∷ people) small =
    let here = one_if_true (is_within person.traits all_traits) (within_all person.traits small.0) in let deeper = asking_all people small.1 in omega arith

-- the sets that hold the traits have one to spare
abbrev pub HasSpare : List ℕ → TraitSet → Type 0
HasSpare spare traits = (m : ℕ) → m < 64 → IsTrue (is_within traits (record { 0 = m })) → 0 < slice_index spare m

-- one is taken from each set that holds the traits
abbrev pub IsTaken : List ℕ → TraitSet → List ℕ → Type 0
IsTaken before traits after = (m : ℕ) → m < 64 → slice_index after m + one_if (is_within traits (record { 0 = m })) ≡ slice_index before m

-- what is to spare with one member more
pub spare_push : (protections : Protections) (members : List Person) (person : Person) (before after : List ℕ) → IsSpare protections members before
    → IsTaken before person.traits after → length after ≡ 64 → IsSpare protections (members ++ person ∷ []) after
spare_push protections members person before after spare taken size = record {
  sets = size;
  left = λ m less.
      let set : TraitSet = record { 0 = m } in
      let a = spare.left m less in let b = taken m less in let c = asking_push set members person in omega arith;
}

-- where something may be left to spare, no set is short
pub none_short : (protections : Protections) (members : List Person) (spare : List ℕ) → IsSpare protections members spare → NoneShort protections members
none_short protections members spare s m less = let a = s.left m less in omega arith

-- who has one to spare everywhere can be placed with the members
pub can_join : (kept : Kept) (person : Person) (spare : List ℕ) (size : ℕ) → IsCounted kept spare size → MayJoin kept person
    → HasSpare spare person.traits → CanBePlaced kept.protections (with_member kept person).members
can_join kept person spare size counted may has =
    placed_where_none_short kept.protections (kept.members ++ person ∷ [])
    (pairwise_push (λ a b. a.id ≢ b.id) (λ a b h e. h (sym e)) kept.members person counted.distinct may.distinct)
    (all_push (λ member. IsTraitSet member.traits) kept.members person counted.traits may.traits)
    (λ m less.
    let set : TraitSet = record { 0 = m } in
    let a = counted.left.left m less in let c = asking_push set kept.members person in
    elim (cases_Bool (is_within person.traits set)) [
      | inl inside ↦ (let one = one_if_true (is_within person.traits set) inside in let some = has m less inside in omega arith)
      | inr outside ↦ (let none = one_if_false (is_within person.traits set) outside in omega arith)
    ])

-- and who can be placed with them has one to spare everywhere
pub joins_where : (kept : Kept) (person : Person) (spare : List ℕ) (size : ℕ) → IsCounted kept spare size → MayJoin kept person
    → CanBePlaced kept.protections (with_member kept person).members → HasSpare spare person.traits
joins_where kept person spare size counted may can m less inside =
    let set : TraitSet = record { 0 = m } in
    let enough = none_short_where_placed kept.protections (kept.members ++ person ∷ []) set
    (pairwise_push (λ a b. a.id ≢ b.id) (λ a b h e. h (sym e)) kept.members person counted.distinct may.distinct)
    (all_push (λ member. IsTraitSet member.traits) kept.members person counted.traits may.traits) can in
    let a = counted.left.left m less in
    let c = asking_push set kept.members person in
    let one = one_if_true (is_within person.traits set) inside in omega arith

-- the members can all be placed
pub all_placed : (kept : Kept) (spare : List ℕ) (size : ℕ) → IsCounted kept spare size → CanBePlaced kept.protections kept.members
all_placed kept spare size counted =
    placed_where_none_short kept.protections kept.members counted.distinct counted.traits (none_short kept.protections kept.members spare counted.left)

-- what is kept, without the counts
pub kept_where : (kept : Kept) (spare : List ℕ) (size : ℕ) → IsCounted kept spare size → IsKept kept
kept_where kept spare size counted = record {
  list = counted.list;
  traits = counted.traits;
  placed = counted.placed;
  distinct = counted.distinct;
  apart = counted.apart;
  all = all_placed kept spare size counted;
}

-- the members are no more than all positions
pub members_few : (kept : Kept) (spare : List ℕ) (size : ℕ) → IsCounted kept spare size → length kept.members ≤ positions kept.protections all_traits
members_few kept spare size counted =
    let all = asking_all kept.members counted.traits in let a = counted.left.left 63 (lit< tt) in omega arith

-- and there is room for one more who has one to spare
pub room_for : (kept : Kept) (person : Person) (spare : List ℕ) (size : ℕ) → IsCounted kept spare size → IsTraitSet person.traits
    → HasSpare spare person.traits → length kept.members < size
room_for kept person spare size counted small has =
    let all = asking_all kept.members counted.traits in
    let a = counted.left.left 63 (lit< tt) in
    let some = has 63 (lit< tt) (within_all person.traits small) in
    let room = counted.room in omega arith

-- what is kept true, with one member more
pub counted_push : (kept : Kept) (person : Person) (members : List Person) (before after : List ℕ) (size size' : ℕ) → IsCounted kept before size
    → MayJoin kept person → members ≡ kept.members ++ person ∷ [] → IsTaken before person.traits after → length after ≡ 64 → size ≤ size'
    → IsCounted (record { protections = kept.protections; list = kept.list; members = members }) after size'
counted_push kept person members before after size size' counted may same taken sets larger =
    subst (λ (people : List Person). IsCounted (record { protections = kept.protections; list = kept.list; members = people }) after size') (sym same) (record {
      list = counted.list;
      traits = all_push (λ member. IsTraitSet member.traits) kept.members person counted.traits may.traits;
      placed = all_push (λ member. IsSome (number_in kept.list member)) kept.members person counted.placed may.placed;
      distinct = pairwise_push (λ a b. a.id ≢ b.id) (λ a b h e. h (sym e)) kept.members person counted.distinct may.distinct;
      apart = pairwise_push (λ a b. number_in kept.list a ≢ number_in kept.list b) (λ a b h e. h (sym e)) kept.members person counted.apart may.apart;
      left = spare_push kept.protections kept.members person before after counted.left taken sets;
      few = counted.few;
      room = (let room = counted.room in omega arith);
    })

-- the members are honoured with their number
pub honoured_all : (kept : Kept) (spare : List ℕ) (size : ℕ) → IsCounted kept spare size → IsHonoured kept.protections kept.members (length kept.members)
honoured_all kept spare size counted = record {
  reached = all_placed kept spare size counted;
  most = λ pairs p. no_more_than_people kept.protections kept.members pairs p;
}

-- what is left where a call failed holds where it did
pub where_failed : {T E : Type 0} (r : Result T E) (P : Type 0) → true ≡ is_err r → OnErr r P → P
where_failed (Ok x) P failed h = cc
where_failed (Err e) P failed h = h
