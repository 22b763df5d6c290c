-- Nobody is passed over for one who is worse and holds no other trait: otherwise the better one in the place of the worse
-- one would make a better set that honours as many.
use Rattle.std.proofs.Common.{◌≡◌, ◌≢◌, ◌⊎◌, inl, inr, ℕ, zero, suc, ◌≤◌, ◌<◌, List, [], ◌∷◌, length, map, arith, refl, sym, ap, ◌∙◌, subst, ◌==◌, if◌then◌else◌}
use Rattle.std.specs.Prelude.{IsTrue}
use Rattle.std.proofs.lemmas.Bool.{both_ways, cases_Bool, cond-false, cond-true, eq-eqb, eqb-true}
use Rattle.std.specs.List.{AllByRecursion}
use Rattle.office_base.specs.Lists.{AnyByRecursion, IsAmong, IsSublist, Pairwise}
use Rattle.office_base.specs.Person.{IsBetter, has_trait, number_in}
use Rattle.office_base.specs.Placement.{Fills, IsHonoured, IsPlacement, placed_on}
use Rattle.office_base.specs.StepChoice.{AreRanked, IsNoWorse, IsStep, IsStepChoice, MayAdmit}
use Rattle.office_base.specs.declared.person.CandId.{CandId}
use Rattle.office_base.specs.declared.person.ListId.{ListId}
use Rattle.office_base.specs.declared.person.Person.{Person}
use Rattle.office_base.specs.declared.step.Pair.{Pair}
use Rattle.office_base.specs.declared.step.Step.{Step}
use Rattle.placements.specs.Ranks.{AreAmong, without}
use Rattle.placements.proofs.Convert as convert
use Rattle.placements.proofs.Exchange.{Apart, Leaves, length_leaves}
use Rattle.placements.proofs.Greatest.{honoured-exists}
use Rattle.placements.proofs.Merit.{not_ahead, not_both_ahead}
use Rattle.placements.proofs.Ranks.{among_itself, among_sublist, any_all, any_at, are_among, monotone, one_person, pairwise_sublist, ranked_sublist, widen}
use Rattle.placements.proofs.Sublists.{sublist_again}
use Rattle.placements.proofs.Without.{among_without, leaves_member, without_apart, without_sublist}
use Rattle.merit_choice.specs.Laws.{NobodyPassedOver, NoJustifiedEnvy}
use Rattle.merit_choice.proofs.Members.{decides_among}

-- ---- one person more

-- some of the people, with one person more of them
record With (x : Person) (some all : List Person) : Type 0 where
  pub whole : List Person
  pub part : IsSublist whole all
  pub leaves : Leaves x whole some

with_one : (x : Person) (some all : List Person) → IsSublist some all → IsAmong x all → (IsAmong x some → ⊥) → With x some all
with_one x some [] sub there gone = absurd there
with_one x some (y ∷ ys) sub there gone = elim sub [
  | inl skips ↦ elim there [
    | inl here ↦ record { whole = y ∷ some; part = inr (some, refl, skips); leaves = inl (here, refl) }
    | inr later ↦ let rest = with_one x some ys skips later gone in record { whole = rest.whole; part = inl rest.part; leaves = rest.leaves }
  ]
  | inr takes ↦ elim there [
    | inl here ↦ absurd (gone (subst (λ l. IsAmong x l) (sym takes.1) (inl here)))
    | inr later ↦
        let rest = with_one x takes.0 ys takes.2 later (λ found. gone (subst (λ l. IsAmong x l) (sym takes.1) (inr found))) in
        record { whole = y ∷ rest.whole; part = inr (rest.whole, refl, rest.part); leaves = inr (takes.0, takes.1, rest.leaves) }
  ]
]

-- who is one of those left is one of all
leaves_widens : (x y : Person) (whole rest : List Person) → Leaves x whole rest → IsAmong y rest → IsAmong y whole
leaves_widens x y [] rest leaves here = absurd leaves
leaves_widens x y (z ∷ whole) rest leaves here = elim leaves [
  | inl first ↦ inr (subst (λ l. IsAmong y l) first.1 here)
  | inr later ↦ elim (subst (λ l. IsAmong y l) later.1 here) [
    | inl is ↦ inl is
    | inr more ↦ inr (leaves_widens x y whole later.0 later.2 more)
  ]
]

-- who is taken out was one of all
taken_there : (x : Person) (whole rest : List Person) → Leaves x whole rest → IsAmong x whole
taken_there x [] rest leaves = absurd leaves
taken_there x (z ∷ whole) rest leaves = elim leaves [ inl first ↦ inl first.0 | inr later ↦ inr (taken_there x whole later.0 later.2) ]

-- ---- without the better one the list is not as good as without the worse one

ahead_of_all : (list : ListId) (x y : Person) (people : List Person) → AllByRecursion (IsBetter list x) people → IsAmong y people → IsBetter list x y
ahead_of_all list x y people all there = let found = any_all (λ other. y ≡ other) (IsBetter list x) people there all in subst (IsBetter list x) (sym found.1) found.2

is_worse : (list : ListId) (better worse : Person) (whole left right : List Person) → AreRanked list whole → Leaves better whole left → Leaves worse whole right → IsBetter list better worse
    → IsNoWorse list left right → ⊥
is_worse list better worse [] left right ranked out out' ahead no_worse = absurd out
is_worse list better worse (z ∷ whole) left right ranked out out' ahead no_worse = elim out [
  | inl first ↦ elim out' [
    | inl also ↦ not_ahead (number_in list better) (subst (IsBetter list better) (also.0 ∙ sym first.0) ahead)
    | inr later ↦
        let rest : IsNoWorse list whole (z ∷ later.0) = subst (λ l. IsNoWorse list l (z ∷ later.0)) first.1 (subst (λ l. IsNoWorse list left l) later.1 no_worse) in
        no_first z whole later.0 ranked.in_order.0 rest
  ]
  | inr later ↦ elim out' [
    | inl first ↦
        let there = taken_there better whole later.0 later.2 in
        let before = ahead_of_all list z better whole ranked.in_order.0 there in
        let after = subst (IsBetter list better) first.0 ahead in
        not_both_ahead (number_in list z) (number_in list better) before after
    | inr also ↦
        let rest : IsNoWorse list (z ∷ later.0) (z ∷ also.0) = subst (λ l. IsNoWorse list l (z ∷ also.0)) later.1 (subst (λ l. IsNoWorse list left l) also.1 no_worse) in
        is_worse list better worse whole later.0 also.0 (record { traits = ranked.traits.1; placed = ranked.placed.1; in_order = ranked.in_order.1; distinct = ranked.distinct.1 }) later.2 also.2 ahead rest.1
  ]
]
  where
    no_first : (z : Person) (whole others : List Person) → AllByRecursion (IsBetter list z) whole → IsNoWorse list whole (z ∷ others) → ⊥
    no_first z [] others all no_worse = no_worse
    no_first z (y ∷ whole) others all no_worse = elim no_worse.0 [
      | inl same ↦ not_ahead (number_in list z) (subst (IsBetter list z) same all.0)
      | inr back ↦ not_both_ahead (number_in list z) (number_in list y) all.0 back
    ]

-- ---- the better one in the place of the other

-- the number of the one for that of the other
abbrev renamed : CandId → CandId → Pair → Pair
renamed from to pair = record { cand = if pair.cand.0 == from.0 then to else pair.cand; slot = pair.slot }

-- it is the one or stays
record IsRenamed (from to : CandId) (pair : Pair) : Type 0 where
  pub kept : ((pair.cand ≡ from) × ((renamed from to pair).cand ≡ to)) ⊎ ((pair.cand ≢ from) × ((renamed from to pair).cand ≡ pair.cand))

is_renamed : (from to : CandId) (pair : Pair) → IsRenamed from to pair
is_renamed from to pair = record {
  kept = elim (cases_Bool (pair.cand.0 == from.0)) [
    | inl same ↦ inl (convert.same_cand pair.cand from (eqb-true pair.cand.0 from.0 same), cond-true _ _ _ same)
    | inr other ↦ inr (λ e. both_ways (pair.cand.0 == from.0) other (eq-eqb pair.cand.0 from.0 (ap (λ (c : CandId). c.0) e)), cond-false _ _ _ other)
  ];
}

apart_renamed : (from to : CandId) (a b : Pair) → Apart a b → a.cand ≢ to → b.cand ≢ to → Apart (renamed from to a) (renamed from to b)
apart_renamed from to a b apart free free' e = elim (is_renamed from to a).kept [
  | inl one ↦ elim (is_renamed from to b).kept [
    | inl two ↦ apart (one.0 ∙ sym two.0)
    | inr two ↦ free' (sym two.1 ∙ (sym e ∙ one.1))
  ]
  | inr one ↦ elim (is_renamed from to b).kept [
    | inl two ↦ free (sym one.1 ∙ (e ∙ two.1))
    | inr two ↦ apart (sym one.1 ∙ (e ∙ two.1))
  ]
]

apart_all : (from to : CandId) (a : Pair) (pairs : List Pair) → AllByRecursion (Apart a) pairs → a.cand ≢ to → AllByRecursion (λ (b : Pair). b.cand ≢ to) pairs
    → AllByRecursion (Apart (renamed from to a)) (map (renamed from to) pairs)
apart_all from to a [] apart free all = tt
apart_all from to a (b ∷ pairs) apart free all = (apart_renamed from to a b apart.0 free all.0, apart_all from to a pairs apart.1 free all.1)

once_renamed : (from to : CandId) (pairs : List Pair) → Pairwise Apart pairs → AllByRecursion (λ (b : Pair). b.cand ≢ to) pairs → Pairwise Apart (map (renamed from to) pairs)
once_renamed from to [] once all = tt
once_renamed from to (a ∷ pairs) once all = (apart_all from to a pairs once.0 all.0 all.1, once_renamed from to pairs once.1 all.1)

placed_renamed : (from to : CandId) (t : ℕ) (pairs : List Pair) → placed_on t (map (renamed from to) pairs) ≡ placed_on t pairs
placed_renamed from to t [] = refl
placed_renamed from to t (pair ∷ pairs) = let rest = placed_renamed from to t pairs in omega (arith, rest)

length_renamed : (from to : CandId) (pairs : List Pair) → length (map (renamed from to) pairs) ≡ length pairs
length_renamed from to [] = refl
length_renamed from to (pair ∷ pairs) = ap suc (length_renamed from to pairs)

below : (a b : ℕ) → a ≤ b → (a < b) ⊎ (a ≡ b)
below zero zero le = inr refl
below zero (suc b) le = inl (omega arith)
below (suc a) zero le = absurd (omega arith)
below (suc a) (suc b) le = elim (below a b (omega (arith, le))) [ inl less ↦ inl (omega (arith, less)) | inr same ↦ inr (ap suc same) ]

module _ (step : Step) (chosen : List Person) (better worse : Person) (ok : IsStep step) (choice : IsStepChoice step chosen) (there : IsAmong better step.people) (here : IsAmong worse chosen)
    (ahead : IsBetter step.list better worse) (gone : IsAmong better chosen → ⊥) where
  with_better : With better chosen step.people
  with_better = with_one better chosen step.people choice.may.people there gone

  abbrev all : List Person
  all = with_better.whole

  abbrev other : List Person
  other = without worse.id all

  ranked : AreRanked step.list all
  ranked = ranked_sublist step.list all step.people ok.people with_better.part

  worse_there : IsAmong worse all
  worse_there = leaves_widens better worse all chosen with_better.leaves here

  better_there : IsAmong better all
  better_there = taken_there better all chosen with_better.leaves

  out : Leaves worse all other
  out = leaves_member worse all ranked.distinct worse_there

  two : better.id ≢ worse.id
  two e =
      let same = one_person all ranked.distinct better worse better_there worse_there e in
      not_ahead (number_in step.list better) (subst (IsBetter step.list better) (sym same) ahead)

  may_other : MayAdmit step other
  may_other = record {
    people = sublist_again other all step.people (without_sublist worse.id all) with_better.part;
    seats = (let one = length_leaves better all chosen with_better.leaves in let another = length_leaves worse all other out in let few = choice.may.seats in omega (arith, one, another, few));
  }

  -- with the better one in the place of the other, fewer protections are honoured
  fewer : (m n : ℕ) → IsHonoured step.protections other m → IsHonoured step.protections chosen n → m < n
  fewer m n his mine = elim (below m n (choice.most other m n may_other his mine)) [
    | inl less ↦ less
    | inr same ↦ absurd (is_worse step.list better worse all chosen other ranked with_better.leaves out ahead
        (choice.best other n may_other (subst (λ k. IsHonoured step.protections other k) same his) mine))
  ]

  among_other : AreAmong (better ∷ without worse.id chosen) other
  among_other = (
    among_without worse.id better all better_there two,
    are_among (without worse.id chosen) other (λ person here.
        among_without worse.id person all (leaves_widens better person all chosen with_better.leaves (widen person (without worse.id chosen) chosen (among_sublist (without worse.id chosen) chosen (without_sublist worse.id chosen)) here))
        (λ e. let found = any_all (λ one. person ≡ one) (λ (one : Person). worse.id ≢ one.id) (without worse.id chosen) here
        (without_apart worse.id chosen (pairwise_sublist _ chosen step.people choice.may.people ok.people.distinct)) in
        found.2 (sym e ∙ ap (λ (p : Person). p.id) found.1))),
  )

  envy : (m n : ℕ) → IsHonoured step.protections (better ∷ without worse.id chosen) m → IsHonoured step.protections chosen n → m < n
  envy m n his mine =
      let his_other = honoured-exists step.protections other (pairwise_sublist _ other step.people may_other.people ok.people.distinct) in
      let same = monotone step.protections (better ∷ without worse.id chosen) other m his_other.0 among_other his his_other.1 in
      let less = fewer his_other.0 n his_other.1 mine in
      omega (arith, same, less)

  -- a pair of one of the chosen
  record Filled (pair : Pair) : Type 0 where
    pub person : Person
    pub fills : Fills pair person
    pub is_chosen : IsAmong person chosen

  filled : (pair : Pair) → AnyByRecursion (Fills pair) chosen → Filled pair
  filled pair held = let found = any_all (Fills pair) (λ person. IsAmong person chosen) chosen held (among_itself chosen) in record { person = found.0; fills = found.1; is_chosen = found.2 }

  free : (pair : Pair) → Filled pair → pair.cand ≢ better.id
  free pair f e =
      let same = one_person all ranked.distinct f.person better (leaves_widens better f.person all chosen with_better.leaves f.is_chosen) better_there (sym f.fills.0 ∙ e) in
      gone (subst (λ z. IsAmong z chosen) same f.is_chosen)

  all_free : (pairs : List Pair) → AllByRecursion (λ pair. AnyByRecursion (Fills pair) chosen) pairs → AllByRecursion (λ (pair : Pair). pair.cand ≢ better.id) pairs
  all_free [] held = tt
  all_free (pair ∷ pairs) held = (free pair (filled pair held.0), all_free pairs held.1)

  -- the better one holds each trait of the other
  abbrev HoldsAll : Type 0
  HoldsAll = (t : ℕ) → IsTrue (has_trait worse.traits t) → IsTrue (has_trait better.traits t)

  stays : HoldsAll → (pair : Pair) → Filled pair → AnyByRecursion (Fills (renamed worse.id better.id pair)) other
  stays holds pair f = elim (is_renamed worse.id better.id pair).kept [
    | inl is ↦
        let wide = leaves_widens better f.person all chosen with_better.leaves f.is_chosen in
        let same = one_person all ranked.distinct f.person worse wide worse_there (sym f.fills.0 ∙ is.0) in
        let trait = holds pair.slot (subst (λ (z : Person). IsTrue (has_trait z.traits pair.slot)) same f.fills.1) in
        any_at (Fills (renamed worse.id better.id pair)) better other (among_without worse.id better all better_there two) (is.1, trait)
    | inr is ↦
        let wide = leaves_widens better f.person all chosen with_better.leaves f.is_chosen in
        any_at (Fills (renamed worse.id better.id pair)) f.person other (among_without worse.id f.person all wide (λ e. is.0 (f.fills.0 ∙ e))) (is.1 ∙ f.fills.0, f.fills.1)
  ]

  all_stay : HoldsAll → (pairs : List Pair) → AllByRecursion (λ pair. AnyByRecursion (Fills pair) chosen) pairs → AllByRecursion (λ pair. AnyByRecursion (Fills pair) other) (map (renamed worse.id better.id) pairs)
  all_stay holds [] held = tt
  all_stay holds (pair ∷ pairs) held = (stays holds pair (filled pair held.0), all_stay holds pairs held.1)

  -- what places some of the chosen places as many of the others
  placed : HoldsAll → (pairs : List Pair) → IsPlacement step.protections chosen pairs → IsPlacement step.protections other (map (renamed worse.id better.id) pairs)
  placed holds pairs p = record {
    held = all_stay holds pairs p.held;
    once = once_renamed worse.id better.id pairs p.once (all_free pairs p.held);
    within = λ t. let e = placed_renamed worse.id better.id t pairs in let less = p.within t in omega (arith, e, less);
  }

  no : HoldsAll → ⊥
  no holds =
      let mine = honoured-exists step.protections chosen (pairwise_sublist _ chosen step.people choice.may.people ok.people.distinct) in
      let his = honoured-exists step.protections other (pairwise_sublist _ other step.people may_other.people ok.people.distinct) in
      let reached = mine.1.reached in
      let size = length_renamed worse.id better.id reached.0 in
      let more = his.1.most (map (renamed worse.id better.id) reached.0) (placed holds reached.0 reached.1) in
      let less = fewer his.0 mine.0 his.1 mine.1 in
      let number = reached.2 in
      omega (arith, size, more, less, number)

pub nobody_passed_over : NobodyPassedOver
nobody_passed_over step chosen better worse ok choice there here ahead holds =
    elim (decides_among step.people chosen better ok.people.distinct choice.may.people there) [
      | inl found ↦ found
      | inr gone ↦ absurd (no step chosen better worse ok choice there here ahead gone holds)
    ]

pub no_justified_envy : NoJustifiedEnvy
no_justified_envy step chosen better worse m n ok choice there gone here ahead his mine = envy step chosen better worse ok choice there here ahead gone m n his mine
