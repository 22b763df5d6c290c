-- The same persons with other numbers in the same order, so that a place is free between any two of them.
use Rattle.std.proofs.Common.{◌≡◌, ◌≢◌, ◌∙◌, ◌≤◌, ◌<◌, ◌+◌, ◌-◌, ◌==◌, inl, inr, ℕ, zero, suc, List, [], ◌∷◌, Option, Some, None, Bool, true, false, length, map, arith, refl, sym, ap, subst, if◌then◌else◌}
use Rattle.std.specs.Prelude.{IsSome, slice_index_or}
use Rattle.std.specs.List.{AllByRecursion}
use Rattle.std.proofs.lemmas.List.{length-map}
use Rattle.office_base.specs.Lists.{AnyByRecursion, IsAmong, IsSublist, Pairwise}
use Rattle.office_base.specs.Merit.{IsNewTo}
use Rattle.office_base.specs.Person.{IsAhead, IsBetter, IsTraitSet, number_in, number_of}
use Rattle.office_base.specs.Placement.{Fills, IsHonoured, IsPlacement}
use Rattle.office_base.specs.StepChoice.{AreRanked, IsNoWorse, IsStep, IsStepChoice, MayAdmit}
use Rattle.office_base.specs.declared.person.CandId.{CandId}
use Rattle.office_base.specs.declared.person.ListId.{ListId}
use Rattle.office_base.specs.declared.person.Person.{Person}
use Rattle.office_base.specs.declared.person.Place.{Place}
use Rattle.office_base.specs.declared.person.Place.TheVariants.{Absent, Common, Relaxed}
use Rattle.office_base.specs.declared.person.TraitSet.{TraitSet}
use Rattle.office_base.specs.declared.step.Pair.{Pair}
use Rattle.office_base.specs.declared.step.Protections.{Protections}
use Rattle.office_base.specs.declared.step.Step.{Step}
use Rattle.office_base.proofs.Lists.{all_weaker}
use Rattle.placements.specs.Ranks.{without}
use Rattle.placements.proofs.Ranks.{are_among, widen}
use Rattle.merit_choice.specs.State.{IsStepKept, StepKept}
use Rattle.step_cutoffs.specs.Cutoff.{CanTakePlaceOf, IsCutoff, IsCutoffFor, IsFullFor, IsNoWider, IsWithin}
use Rattle.step_cutoffs.specs.Laws.{CutoffIsOfTraits, IsEased}
use Rattle.step_cutoffs.specs.declared.cutoff.Cutoff.{Cutoff}
use Rattle.step_cutoffs.specs.declared.cutoff.Cutoff.TheVariants.{Nobody, UpTo, Anybody}
use Rattle.step_cutoffs.proofs.Newcomers.{newcomer}

-- ---- one person

abbrev pub spread_place : Place → Place
spread_place Absent = Absent
spread_place (Common n) = Common (n + n + 1)
spread_place (Relaxed n) = Relaxed (n + n + 1)

abbrev pub spread : Person → Person
spread person = record person { places = map spread_place person.places }

-- the new number: an odd one
abbrev pub spread_number : Option ℕ → Option ℕ
spread_number None = None
spread_number (Some n) = Some (n + n + 1)

place_there : (places : List Place) (i : ℕ) → slice_index_or (map spread_place places) i Absent ≡ spread_place (slice_index_or places i Absent)
place_there [] i = refl
place_there (place ∷ places) zero = refl
place_there (place ∷ places) (suc i) = place_there places i

number_there : (place : Place) → number_of (spread_place place) ≡ spread_number (number_of place)
number_there Absent = refl
number_there (Common n) = refl
number_there (Relaxed n) = refl

pub number_spread : (list : ListId) (person : Person) → number_in list (spread person) ≡ spread_number (number_in list person)
number_spread list person = ap number_of (place_there person.places (list.0 - 1)) ∙ number_there (slice_index_or person.places (list.0 - 1) Absent)

ahead_spread : (m n : Option ℕ) → IsAhead m n → IsAhead (spread_number m) (spread_number n)
ahead_spread None n ahead = absurd ahead
ahead_spread (Some m) None ahead = absurd ahead
ahead_spread (Some m) (Some n) ahead = omega (arith, ahead)

spread_ahead : (m n : Option ℕ) → IsAhead (spread_number m) (spread_number n) → IsAhead m n
spread_ahead None n ahead = absurd ahead
spread_ahead (Some m) None ahead = absurd ahead
spread_ahead (Some m) (Some n) ahead = omega (arith, ahead)

some_spread : (n : Option ℕ) → IsSome n → IsSome (spread_number n)
some_spread None some = some
some_spread (Some n) some = refl

better_spread : (list : ListId) (a b : Person) → IsBetter list a b → IsBetter list (spread a) (spread b)
better_spread list a b better = subst (λ m. IsAhead m (number_in list (spread b))) (sym (number_spread list a))
    (subst (IsAhead (spread_number (number_in list a))) (sym (number_spread list b)) (ahead_spread (number_in list a) (number_in list b) better))

spread_better : (list : ListId) (a b : Person) → IsBetter list (spread a) (spread b) → IsBetter list a b
spread_better list a b better = spread_ahead (number_in list a) (number_in list b)
    (subst (IsAhead (spread_number (number_in list a))) (number_spread list b) (subst (λ m. IsAhead m (number_in list (spread b))) (number_spread list a) better))

-- ---- lists of persons

all_spread : (P Q : Person → Type 0) → ((person : Person) → P person → Q (spread person)) → (people : List Person) → AllByRecursion P people → AllByRecursion Q (map spread people)
all_spread P Q on [] all = tt
all_spread P Q on (person ∷ people) all = (on person all.0, all_spread P Q on people all.1)

pairs_spread : (R S : Person → Person → Type 0) → ((a b : Person) → R a b → S (spread a) (spread b)) → (people : List Person) → Pairwise R people → Pairwise S (map spread people)
pairs_spread R S on [] pairs = tt
pairs_spread R S on (person ∷ people) pairs = (all_spread (R person) (S (spread person)) (on person) people pairs.0, pairs_spread R S on people pairs.1)

among_spread : (person : Person) (people : List Person) → IsAmong person people → IsAmong (spread person) (map spread people)
among_spread person [] here = here
among_spread person (other ∷ people) here = elim here [ inl same ↦ inl (ap spread same) | inr later ↦ inr (among_spread person people later) ]

spread_among : (one : Person) (people : List Person) → IsAmong one (map spread people) → (person : Person) × IsAmong person people × (one ≡ spread person)
spread_among one [] here = absurd here
spread_among one (other ∷ people) here = elim here [
  | inl same ↦ (other, inl refl, same)
  | inr later ↦ let found = spread_among one people later in (found.0, inr found.1, found.2)
]

sublist_spread : (some people : List Person) → IsSublist some people → IsSublist (map spread some) (map spread people)
sublist_spread some [] part = ap (map spread) part
sublist_spread some (person ∷ people) part = elim part [
  | inl rest ↦ inl (sublist_spread some people rest)
  | inr first ↦ inr (map spread first.0, ap (map spread) first.1, sublist_spread first.0 people first.2)
]

spread_sublist : (some people : List Person) → IsSublist some (map spread people) → (those : List Person) × (some ≡ map spread those) × IsSublist those people
spread_sublist some [] part = ([], part, refl)
spread_sublist some (person ∷ people) part = elim part [
  | inl rest ↦ let found = spread_sublist some people rest in (found.0, found.1, inl found.2)
  | inr first ↦
      let found = spread_sublist first.0 people first.2 in
      (person ∷ found.0, first.1 ∙ ap (λ (l : List Person). spread person ∷ l) found.1, inr (found.0, refl, found.2))
]

one_or_rest : (b : Bool) (person : Person) (people rest others : List Person) → rest ≡ map spread others → (if b then map spread people else spread person ∷ rest) ≡ map spread (if b then people else person ∷ others)
one_or_rest true person people rest others same = refl
one_or_rest false person people rest others same = ap (λ (l : List Person). spread person ∷ l) same

without_spread : (cand : CandId) (people : List Person) → without cand (map spread people) ≡ map spread (without cand people)
without_spread cand [] = refl
without_spread cand (person ∷ people) = one_or_rest (person.id.0 == cand.0) person people (without cand (map spread people)) (without cand people) (without_spread cand people)

-- ---- placements look at ids and traits alone

any_spread : (pair : Pair) (people : List Person) → AnyByRecursion (Fills pair) people → AnyByRecursion (Fills pair) (map spread people)
any_spread pair [] any = any
any_spread pair (person ∷ people) any = elim any [ inl here ↦ inl here | inr later ↦ inr (any_spread pair people later) ]

spread_any : (pair : Pair) (people : List Person) → AnyByRecursion (Fills pair) (map spread people) → AnyByRecursion (Fills pair) people
spread_any pair [] any = any
spread_any pair (person ∷ people) any = elim any [ inl here ↦ inl here | inr later ↦ inr (spread_any pair people later) ]

placement_spread : (protections : Protections) (people : List Person) (pairs : List Pair) → IsPlacement protections people pairs → IsPlacement protections (map spread people) pairs
placement_spread protections people pairs placed = record {
  held = all_weaker (λ pair. AnyByRecursion (Fills pair) people) (λ pair. AnyByRecursion (Fills pair) (map spread people)) (λ pair any. any_spread pair people any) pairs placed.held;
  once = placed.once;
  within = placed.within;
}

spread_placement : (protections : Protections) (people : List Person) (pairs : List Pair) → IsPlacement protections (map spread people) pairs → IsPlacement protections people pairs
spread_placement protections people pairs placed = record {
  held = all_weaker (λ pair. AnyByRecursion (Fills pair) (map spread people)) (λ pair. AnyByRecursion (Fills pair) people) (λ pair any. spread_any pair people any) pairs placed.held;
  once = placed.once;
  within = placed.within;
}

honoured_spread : (protections : Protections) (people : List Person) (n : ℕ) → IsHonoured protections people n → IsHonoured protections (map spread people) n
honoured_spread protections people n its = record {
  reached = (its.reached.0, placement_spread protections people its.reached.0 its.reached.1, its.reached.2);
  most = λ pairs placed. its.most pairs (spread_placement protections people pairs placed);
}

spread_honoured : (protections : Protections) (people : List Person) (n : ℕ) → IsHonoured protections (map spread people) n → IsHonoured protections people n
spread_honoured protections people n its = record {
  reached = (its.reached.0, spread_placement protections people its.reached.0 its.reached.1, its.reached.2);
  most = λ pairs placed. its.most pairs (placement_spread protections people pairs placed);
}

-- ---- a step

abbrev pub spread_step : Step → Step
spread_step step = record { list = step.list; seats = step.seats; protections = step.protections; people = map spread step.people }

ranked_spread : (list : ListId) (people : List Person) → AreRanked list people → AreRanked list (map spread people)
ranked_spread list people ranked = record {
  traits = all_spread (λ (person : Person). IsTraitSet person.traits) (λ (person : Person). IsTraitSet person.traits) (λ person small. small) people ranked.traits;
  placed = all_spread (λ person. IsSome (number_in list person)) (λ person. IsSome (number_in list person))
      (λ person some. subst IsSome (sym (number_spread list person)) (some_spread (number_in list person) some)) people ranked.placed;
  in_order = pairs_spread (IsBetter list) (IsBetter list) (better_spread list) people ranked.in_order;
  distinct = pairs_spread (λ (a b : Person). a.id ≢ b.id) (λ (a b : Person). a.id ≢ b.id) (λ a b apart. apart) people ranked.distinct;
}

is_step_spread : (step : Step) → IsStep step → IsStep (spread_step step)
is_step_spread step ok = record { list = ok.list; people = ranked_spread step.list step.people ok.people; protections = ok.protections }

no_worse_spread : (list : ListId) (people others : List Person) → IsNoWorse list people others → IsNoWorse list (map spread people) (map spread others)
no_worse_spread list people [] no_worse = tt
no_worse_spread list [] (other ∷ others) no_worse = no_worse
no_worse_spread list (person ∷ people) (other ∷ others) no_worse =
    (elim no_worse.0 [ inl same ↦ inl (ap spread same) | inr better ↦ inr (better_spread list person other better) ], no_worse_spread list people others no_worse.1)

-- it admits the same persons
pub choice_spread : (step : Step) (chosen : List Person) → IsStepChoice step chosen → IsStepChoice (spread_step step) (map spread chosen)
choice_spread step chosen choice = record {
  may = record {
    people = sublist_spread chosen step.people choice.may.people;
    seats = subst (λ n. n ≤ step.seats) (sym (length-map chosen spread)) choice.may.seats;
  };
  most = λ other m n may its mine.
      let found = spread_sublist other step.people may.people in
      choice.most found.0 m n (may_admit found.0 found.2 (subst (λ (l : List Person). length l ≤ step.seats) found.1 may.seats))
      (spread_honoured step.protections found.0 m (subst (λ (l : List Person). IsHonoured step.protections l m) found.1 its)) (spread_honoured step.protections chosen n mine);
  best = λ other m may its mine.
      let found = spread_sublist other step.people may.people in
      subst (IsNoWorse step.list (map spread chosen)) (sym found.1)
      (no_worse_spread step.list chosen found.0 (choice.best found.0 m (may_admit found.0 found.2 (subst (λ (l : List Person). length l ≤ step.seats) found.1 may.seats))
      (spread_honoured step.protections found.0 m (subst (λ (l : List Person). IsHonoured step.protections l m) found.1 its)) (spread_honoured step.protections chosen m mine)));
}
  where
    may_admit : (other : List Person) → IsSublist other step.people → length (map spread other) ≤ step.seats → MayAdmit step other
    may_admit other part few = record { people = part; seats = subst (λ n. n ≤ step.seats) (length-map other spread) few }

pub eased_spread : (step later : Step) → IsEased step later → IsEased (spread_step step) (spread_step later)
eased_spread step later eased = record {
  is_step = is_step_spread step eased.is_step;
  later_is_step = is_step_spread later eased.later_is_step;
  list = eased.list;
  protections = eased.protections;
  seats = eased.seats;
  people = are_among (map spread later.people) (map spread step.people) (λ one here.
      let found = spread_among one later.people here in
      subst (λ p. IsAmong p (map spread step.people)) (sym found.2) (among_spread found.0 step.people (widen found.0 later.people step.people eased.people found.1)));
}

-- ---- its cutoffs

abbrev pub spread_kept : StepKept → StepKept
spread_kept kept = record { list = kept.list; seats = kept.seats; protections = kept.protections; held = map spread kept.held }

abbrev pub spread_cutoff : Cutoff → Cutoff
spread_cutoff Nobody = Nobody
spread_cutoff (UpTo last) = UpTo (last + last + 1)
spread_cutoff Anybody = Anybody

kept_spread : (kept : StepKept) → IsStepKept kept → IsStepKept (spread_kept kept)
kept_spread kept ok = record {
  list = ok.list;
  ranked = ranked_spread kept.list kept.held ok.ranked;
  few = subst (λ n. n ≤ kept.seats) (sym (length-map kept.held spread)) ok.few;
  protections = ok.protections;
}

module _ (kept : StepKept) (person : Person) where
  can_spread : (out : Person) → CanTakePlaceOf kept person out → CanTakePlaceOf (spread_kept kept) (spread person) (spread out)
  can_spread out can n mine = subst (λ (rest : List Person). IsHonoured kept.protections (spread person ∷ rest) n) (sym (without_spread out.id kept.held))
      (honoured_spread kept.protections (person ∷ without out.id kept.held) n (can n (spread_honoured kept.protections kept.held n mine)))

  spread_can : (out : Person) → CanTakePlaceOf (spread_kept kept) (spread person) (spread out) → CanTakePlaceOf kept person out
  spread_can out can n mine = spread_honoured kept.protections (person ∷ without out.id kept.held) n
      (subst (λ (rest : List Person). IsHonoured kept.protections (spread person ∷ rest) n) (without_spread out.id kept.held) (can n (honoured_spread kept.protections kept.held n mine)))

  full_spread : IsFullFor kept person → IsFullFor (spread_kept kept) (spread person)
  full_spread full = record {
    full = length-map kept.held spread ∙ full.full;
    no_more = λ n mine. honoured_spread kept.protections (person ∷ kept.held) n (full.no_more n (spread_honoured kept.protections kept.held n mine));
  }

  cutoff_for_spread : (cutoff : Cutoff) → IsCutoffFor kept person cutoff → IsCutoffFor (spread_kept kept) (spread person) (spread_cutoff cutoff)
  cutoff_for_spread Nobody cut = (
    full_spread cut.0,
    (λ one here can.
        let found = spread_among one kept.held here in
        cut.1 found.0 found.1 (spread_can found.0 (subst (CanTakePlaceOf (spread_kept kept) (spread person)) found.2 can))),
  )
  cutoff_for_spread (UpTo last) cut = (
    full_spread cut.0,
    spread cut.1,
    among_spread cut.1 kept.held cut.2,
    can_spread cut.1 cut.3,
    number_spread kept.list cut.1 ∙ ap spread_number cut.4,
    (λ one here can worse.
        let found = spread_among one kept.held here in
        cut.5 found.0 found.1 (spread_can found.0 (subst (CanTakePlaceOf (spread_kept kept) (spread person)) found.2 can))
        (spread_better kept.list cut.1 found.0 (subst (IsBetter kept.list (spread cut.1)) found.2 worse))),
  )
  cutoff_for_spread Anybody cut = elim cut [
    | inl less ↦ inl (subst (λ n. n < kept.seats) (sym (length-map kept.held spread)) less)
    | inr raise ↦ inr (λ n mine. honoured_spread kept.protections (person ∷ kept.held) (suc n) (raise n (spread_honoured kept.protections kept.held n mine)))
  ]

odd_apart : (list : ListId) (person other : Person) → number_in list person ≢ number_in list other → number_in list (spread person) ≢ number_in list (spread other)
odd_apart list person other apart same = apart (one_number (number_in list person) (number_in list other) (sym (number_spread list person) ∙ (same ∙ number_spread list other)))
  where
    half : (m n : ℕ) → Some (m + m + 1) ≡ Some (n + n + 1) → m ≡ n
    half m n e = (let f : m + m + 1 ≡ n + n + 1 = cc (e) in omega (arith, f))

    one_number : (m n : Option ℕ) → spread_number m ≡ spread_number n → m ≡ n
    one_number None None e = refl
    one_number None (Some n) e = absurd (cc)
    one_number (Some m) None e = absurd (cc)
    one_number (Some m) (Some n) e = ap Some (half m n e)

new_spread : (list : ListId) (people : List Person) (person : Person) → IsNewTo list people person → IsNewTo list (map spread people) (spread person)
new_spread list people person new = record {
  traits = new.traits;
  placed = subst IsSome (sym (number_spread list person)) (some_spread (number_in list person) new.placed);
  distinct = all_spread (λ (other : Person). person.id ≢ other.id) (λ (other : Person). person.id ≢ other.id) (λ other apart. apart) people new.distinct;
  numbers = all_spread (λ other. number_in list person ≢ number_in list other) (λ other. number_in list (spread person) ≢ number_in list other) (λ other apart. odd_apart list person other apart) people new.numbers;
}

pub cutoff_spread : CutoffIsOfTraits → (kept : StepKept) (traits : TraitSet) (cutoff : Cutoff) → IsStepKept kept → IsTraitSet traits → IsCutoff kept traits cutoff
    → IsCutoff (spread_kept kept) traits (spread_cutoff cutoff)
cutoff_spread alone kept traits cutoff ok small cut =
    let one = newcomer kept.list kept.held traits ok.list small in
    subst (λ (set : TraitSet). IsCutoff (spread_kept kept) set (spread_cutoff cutoff)) one.2
    (alone (spread_kept kept) (spread one.0) (spread_cutoff cutoff) (kept_spread kept ok) (new_spread kept.list kept.held one.0 one.1) (cutoff_for_spread kept one.0 cutoff (cut one.0 one.1 one.2)))

-- ---- free places

-- if each even place within one spread cutoff is within another, the first is no wider
pub no_wider_by : (cutoff wider : Cutoff) → ((k : ℕ) → IsWithin (spread_cutoff cutoff) (Some (k + k)) → IsWithin (spread_cutoff wider) (Some (k + k))) → IsNoWider cutoff wider
no_wider_by Nobody wider on = tt
no_wider_by (UpTo last) Nobody on = on last (omega arith)
no_wider_by (UpTo last) (UpTo other) on = (let most = on last (omega arith) in omega (arith, most))
no_wider_by (UpTo last) Anybody on = tt
no_wider_by Anybody Nobody on = on 0 refl
no_wider_by Anybody (UpTo other) on = absurd (let most = on (other + 1) refl in omega (arith, most))
no_wider_by Anybody Anybody on = tt
