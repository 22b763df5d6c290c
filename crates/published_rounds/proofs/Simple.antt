-- Where nobody holds two protected traits, the best holders of each trait are those whom a person marks by hand.
use Rattle.std.proofs.Common.{◌≡◌, ◌≢◌, ◌<◌, ◌≤◌, ◌⊎◌, inl, inr, ℕ, zero, suc, min, Bool, true, false, List, [], ◌∷◌, Some, length, arith, refl, sym, ap, ◌∙◌, subst, if◌then◌else◌, ◌==◌}
use Rattle.std.specs.Prelude.{IsTrue, slice_get}
use Rattle.std.specs.List.{AllByRecursion}
use Rattle.std.proofs.lemmas.Bool.{cases_Bool, cases_lt, eq-eqb, eqb-true}
use Rattle.office_base.specs.Lists.{AnyByRecursion, IsAmong}
use Rattle.office_base.proofs.Lists.{all-get, all_from, all_weaker, at_among}
use Rattle.office_base.specs.Person.{has_trait}
use Rattle.office_base.specs.Placement.{Fills, IsHonoured, IsPlacement, placed_on, protected}
use Rattle.office_base.specs.declared.person.CandId.{CandId}
use Rattle.office_base.specs.declared.person.Person.{Person}
use Rattle.office_base.specs.declared.step.Pair.{Pair}
use Rattle.office_base.specs.declared.step.Protections.{Protections}
use Rattle.placements.specs.Ranks.{AreAmong, AreDistinct, CanBePlaced}
use Rattle.placements.proofs.Exchange.{Leaves, Stands, all_leaves, finds, placed_on_leaves, stands_or, stands_same}
use Rattle.placements.proofs.Greatest.{honoured-one}
use Rattle.placements.proofs.Ranks.{all_both, among_itself, any_all, everybody_stands, one_person, refused, widen}
use Rattle.merit_choice.specs.Laws.{ByHand}
use Rattle.merit_choice.specs.Marks.{AreMarkedByHand}
use Rattle.merit_choice.proofs.ByHand.{honoured_placed}
use Rattle.published_rounds.specs.Simple.{AreBestHolders, HoldOneAtMost, IsOneOfTheBest, TheSimpleRule, holders_of}

-- ---- holders of a trait and pairs on it

-- 1 where the test holds
abbrev pub one_if : Bool → ℕ
one_if b = if b then 1 else 0

-- every pair of this candidate is on the trait
abbrev OnlyOn : ℕ → CandId → List Pair → Type 0
OnlyOn t cand pairs = AllByRecursion (λ pair. pair.cand ≡ cand → pair.slot ≡ t) pairs

-- where a pair was that was taken out
left_at : (x : Pair) (xs rest : List Pair) → Leaves x xs rest → (i : ℕ) × (slice_get xs i ≡ Some x)
left_at x [] rest h = absurd h
left_at x (y ∷ ys) rest h = elim h [ inl e ↦ (0, ap Some (sym e.0)) | inr s ↦ let more = left_at x ys s.0 s.2 in (suc more.0, more.1) ]

-- holders of a trait who are all placed, on this trait alone, are no more than the pairs on it
holders_placed : (t : ℕ) (people : List Person) (pairs : List Pair) → AreDistinct people
    → AllByRecursion (λ person. IsTrue (has_trait person.traits t) → Stands person.id pairs × OnlyOn t person.id pairs) people → holders_of t people ≤ placed_on t pairs
holders_placed t [] pairs distinct each = omega arith
holders_placed t (person ∷ people) pairs distinct each = elim (cases_Bool (has_trait person.traits t)) [
  | inl holds ↦ by_pair (λ some theirs. holders_placed t people some distinct.1 theirs) (each.0 holds) (finds person.id pairs) holds
  | inr not ↦
      let rest = holders_placed t people pairs distinct.1 each.1 in
      let none : one_if (has_trait person.traits t) ≡ 0 = ap one_if not in
      omega (arith, rest, none)
]
  where
    still : (pair : Pair) (rest : List Pair) → Leaves pair pairs rest → pair.cand ≡ person.id → (more : List Person) → AllByRecursion (λ other. person.id ≢ other.id) more
        → AllByRecursion (λ other. IsTrue (has_trait other.traits t) → Stands other.id pairs × OnlyOn t other.id pairs) more
        → AllByRecursion (λ other. IsTrue (has_trait other.traits t) → Stands other.id rest × OnlyOn t other.id rest) more
    still pair rest leaves is [] apart theirs = tt
    still pair rest leaves is (other ∷ more) apart theirs = (
      (λ has.
          let was = theirs.0 has in
          let on_rest = (all_leaves (λ (p : Pair). p.cand ≡ other.id → p.slot ≡ t) pair pairs rest leaves was.1).1 in
          elim (stands_or pair pairs rest leaves other.id was.0) [
            | inl same ↦ absurd (apart.0 (sym is ∙ sym same))
            | inr stands ↦ (stands, on_rest)
          ]),
      still pair rest leaves is more apart.1 theirs.1,
    )

    by_pair : ((some : List Pair) → AllByRecursion (λ other. IsTrue (has_trait other.traits t) → Stands other.id some × OnlyOn t other.id some) people → holders_of t people ≤ placed_on t some)
        → Stands person.id pairs × OnlyOn t person.id pairs
        → ((x : Pair) × (rest : List Pair) × Leaves x pairs rest × (x.cand ≡ person.id)) ⊎ AllByRecursion (λ pair. person.id ≢ pair.cand) pairs
        → has_trait person.traits t ≡ true → holders_of t (person ∷ people) ≤ placed_on t pairs
    by_pair others_placed own (inl found) holds =
        let pair = found.0 in
        let on : pair.slot ≡ t = (all_leaves (λ (p : Pair). p.cand ≡ person.id → p.slot ≡ t) pair pairs found.1 found.2 own.1).0 found.3 in
        let counts = placed_on_leaves t pair pairs found.1 found.2 in
        let others = others_placed found.1 (still pair found.1 found.2 found.3 people distinct.0 each.1) in
        let mine : one_if (has_trait person.traits t) ≡ 1 = ap one_if holds in
        omega (arith, counts, stands_same t pair on, others, mine)
    by_pair others_placed own (inr none) holds = absurd (let at = any_all (λ (p : Pair). person.id ≡ p.cand) (λ (p : Pair). person.id ≢ p.cand) pairs own.0 none in at.2 at.1)

-- ---- the best holders so far

-- What holds of those who were marked, with the better people among whom they are.
record AreMarked (protections : Protections) (better chosen : List Person) : Type 0 where
  pub distinct : AreDistinct chosen
  pub pairs : List Pair
  pub placed : IsPlacement protections chosen pairs
  pub all : length pairs ≡ length chosen
  pub few : (t : ℕ) → placed_on t pairs ≤ holders_of t better
  pub enough : (t : ℕ) → 0 < protected protections t → min (holders_of t better) (protected protections t) ≤ holders_of t chosen

-- nobody is in a pair twice
apart_pairs : (person : Person) (chosen : List Person) (pairs : List Pair) → AllByRecursion (λ one. person.id ≢ one.id) chosen
    → AllByRecursion (λ pair. AnyByRecursion (Fills pair) chosen) pairs → AllByRecursion (λ (other : Pair). person.id ≢ other.cand) pairs
apart_pairs person chosen pairs apart held =
    all_weaker (λ pair. AnyByRecursion (Fills pair) chosen) (λ (other : Pair). person.id ≢ other.cand)
    (λ pair by same. let who = any_all (Fills pair) (λ one. person.id ≢ one.id) chosen by apart in who.2 (same ∙ who.1.0)) pairs held

-- a pair is on the trait or on another one
pub on_or_off : (a t : ℕ) → ((a ≡ t) × (one_if (a == t) ≡ 1)) ⊎ (one_if (a == t) ≡ 0)
on_or_off a t = elim (cases_Bool (a == t)) [ inl on ↦ inl (eqb-true a t on, ap one_if on) | inr off ↦ inr (ap one_if off) ]

module _ (protections : Protections) where
  -- one of the best holders is marked
  take : (person : Person) (better chosen : List Person) → AreMarked protections better chosen → AllByRecursion (λ one. person.id ≢ one.id) chosen → IsOneOfTheBest protections better person
      → AreMarked protections (person ∷ better) (person ∷ chosen)
  take person better chosen are apart best = record {
    distinct = (apart, are.distinct);
    pairs = record { cand = person.id; slot = s } ∷ are.pairs;
    placed = record {
      held = (inl (refl, best.1), all_weaker (λ pair. AnyByRecursion (Fills pair) chosen) (λ pair. AnyByRecursion (Fills pair) (person ∷ chosen)) (λ pair a. inr a) are.pairs are.placed.held);
      once = (apart_pairs person chosen are.pairs apart are.placed.held, are.placed.once);
      within = λ t. elim (on_or_off s t) [
        | inl on ↦ let few = subst (λ z. placed_on z are.pairs < protected protections z) on.0 room in let one = on.1 in omega (arith, few, one)
        | inr off ↦ let was = are.placed.within t in omega (arith, was, off)
      ];
    };
    all = let was = are.all in omega (arith, was);
    few = λ t. elim (on_or_off s t) [
      | inl on ↦
          let was = are.few t in
          let holds : one_if (has_trait person.traits t) ≡ 1 = ap one_if (subst (λ z. IsTrue (has_trait person.traits z)) on.0 best.1) in
          omega (arith, was, on.1, holds)
      | inr off ↦ let was = are.few t in omega (arith, was, off)
    ];
    enough = λ t some. let was = are.enough t some in omega (arith, was);
  }
    where
      s : ℕ
      s = best.0

      room : placed_on s are.pairs < protected protections s
      room = let few = are.few s in let less = best.2 in omega (arith, few, less)

  -- nobody else is
  leave : (person : Person) (better chosen : List Person) → AreMarked protections better chosen → (IsOneOfTheBest protections better person → ⊥) → AreMarked protections (person ∷ better) chosen
  leave person better chosen are not = record {
    distinct = are.distinct;
    pairs = are.pairs;
    placed = are.placed;
    all = are.all;
    few = λ t. let was = are.few t in omega (arith, was);
    enough = λ t some. let was = are.enough t some in elim (cases_Bool (has_trait person.traits t)) [
      | inl holds ↦ elim (cases_lt (holders_of t better) (protected protections t)) [
        | inl less ↦ absurd (not (t, holds, less))
        | inr past ↦ let one : one_if (has_trait person.traits t) ≡ 1 = ap one_if holds in omega (arith, was, past, one)
      ]
      | inr without ↦ let none : one_if (has_trait person.traits t) ≡ 0 = ap one_if without in omega (arith, was, none)
    ];
  }

  -- who is not one of them cannot be placed too

  counted_pair : (pairs : List Pair) (i : ℕ) (pair : Pair) → slice_get pairs i ≡ Some pair → 0 < placed_on pair.slot pairs
  counted_pair [] i pair at = absurd (cc)
  counted_pair (first ∷ pairs) zero pair at =
      let same : first ≡ pair = cc in
      let on : one_if (first.slot == pair.slot) ≡ 1 = ap one_if (eq-eqb first.slot pair.slot (ap (λ (p : Pair). p.slot) same)) in
      omega (arith, on)
  counted_pair (first ∷ pairs) (suc i) pair at = let rest = counted_pair pairs i pair at in omega (arith, rest)

  module _ (all : List Person) (one : HoldOneAtMost protections all) (people : List Person) (pairs : List Pair) (among : AreAmong people all) (distinct : AreDistinct people)
      (placed : IsPlacement protections people pairs) where
    -- the trait of a pair is protected, and the person of the pair holds it
    pair_holds : (i : ℕ) (pair : Pair) (person : Person) → slice_get pairs i ≡ Some pair → IsAmong person people → pair.cand ≡ person.id
        → IsTrue (has_trait person.traits pair.slot) × (0 < protected protections pair.slot)
    pair_holds i pair person at here same =
        let by = all-get (λ (p : Pair). AnyByRecursion (Fills p) people) pairs i pair placed.held at in
        let who = any_all (Fills pair) (λ p. IsAmong p people) people by (among_itself people) in
        let is : who.0 ≡ person = one_person people distinct who.0 person who.2 here (sym who.1.0 ∙ same) in
        (subst (λ (p : Person). IsTrue (has_trait p.traits pair.slot)) is who.1.1, omega (arith, counted_pair pairs i pair at, placed.within pair.slot))

    only_on : (t : ℕ) (person : Person) → IsAmong person people → IsTrue (has_trait person.traits t) → 0 < protected protections t → OnlyOn t person.id pairs
    only_on t person here holds some =
        all_from (λ (pair : Pair). pair.cand ≡ person.id → pair.slot ≡ t) pairs
        (λ i pair at same. let its = pair_holds i pair person at here same in one person pair.slot t (widen person people all among here) its.0 holds its.1 some)

  cannot : (all : List Person) (person : Person) (better chosen : List Person) → HoldOneAtMost protections all → AreMarked protections better chosen
      → AllByRecursion (λ one. person.id ≢ one.id) chosen → AreAmong (person ∷ chosen) all → (IsOneOfTheBest protections better person → ⊥) → CanBePlaced protections (person ∷ chosen) → ⊥
  cannot all person better chosen one are apart among not can = elim (finds person.id can.0) [
    | inl found ↦ by_pair found
    | inr none ↦ let at = any_all (λ (p : Pair). person.id ≡ p.cand) (λ (p : Pair). person.id ≢ p.cand) can.0 stands.0 none in at.2 at.1
  ]
    where
      people : List Person
      people = person ∷ chosen

      distinct : AreDistinct (person ∷ chosen)
      distinct = (apart, are.distinct)

      stands : AllByRecursion (λ p. Stands p.id can.0) (person ∷ chosen)
      stands = everybody_stands protections (person ∷ chosen) can.0 can.1 can.2

      by_pair : (x : Pair) × (rest : List Pair) × Leaves x can.0 rest × (x.cand ≡ person.id) → ⊥
      by_pair found =
          let at = left_at found.0 can.0 found.1 found.2 in
          let its = pair_holds all one (person ∷ chosen) can.0 among distinct can.1 at.0 found.0 person at.1 (inl refl) found.3 in
          let t = found.0.slot in
          let full : protected protections t ≤ holders_of t better = elim (cases_lt (holders_of t better) (protected protections t)) [ inl less ↦ absurd (not (t, its.0, less)) | inr past ↦ past ] in
          let mine : one_if (has_trait person.traits t) ≡ 1 = ap one_if its.0 in
          let counted = holders_placed t (person ∷ chosen) can.0 distinct
          (all_from (λ (q : Person). IsTrue (has_trait q.traits t) → Stands q.id can.0 × OnlyOn t q.id can.0) (person ∷ chosen)
          (λ i q there holds.
          let here = at_among (person ∷ chosen) i q there in
          (all-get (λ (p : Person). Stands p.id can.0) (person ∷ chosen) i q stands there, only_on all one (person ∷ chosen) can.0 among distinct can.1 t q here holds its.1))) in
          absurd (omega (arith, full, are.enough t its.1, mine, can.1.within t, counted))

  -- ---- down the merit order

  by_hand_too : (all : List Person) → HoldOneAtMost protections all → (better chosen people : List Person) (marks : List Bool) → AreMarked protections better chosen → AreDistinct people
      → AllByRecursion (λ person. AllByRecursion (λ other. person.id ≢ other.id) chosen) people → AreAmong chosen all → AreAmong people all → AreBestHolders protections better people marks
      → AreMarkedByHand protections chosen people marks
  by_hand_too all one better chosen [] [] are distinct apart among more told = tt
  by_hand_too all one better chosen (person ∷ people) (true ∷ marks) are distinct apart among more told =
      let best = told.0.0 refl in
      let now = take person better chosen are apart.0 best in
      let can : CanBePlaced protections chosen = (are.pairs, are.placed, are.all) in
      let can' : CanBePlaced protections (person ∷ chosen) = (now.pairs, now.placed, now.all) in (
        (λ n h.
            let same = honoured-one protections chosen n (length chosen) h (honoured_placed protections chosen can) in
            subst (λ m. IsHonoured protections (person ∷ chosen) (suc m)) (sym same) (honoured_placed protections (person ∷ chosen) can')),
        by_hand_too all one (person ∷ better) (person ∷ chosen) people marks now distinct.1
            (all_both (λ (other : Person). person.id ≢ other.id) (λ (other : Person). AllByRecursion (λ one. other.id ≢ one.id) chosen)
            (λ (other : Person). AllByRecursion (λ one. other.id ≢ one.id) (person ∷ chosen)) (λ other d rest. ((λ e. d (sym e)), rest)) people distinct.0 apart.1)
            (more.0, among) more.1 told.1,
      )
  by_hand_too all one better chosen (person ∷ people) (false ∷ marks) are distinct apart among more told =
      let not : IsOneOfTheBest protections better person → ⊥ = λ best. absurd (let e = told.0.1 best in cc e) in
      let can : CanBePlaced protections chosen = (are.pairs, are.placed, are.all) in (
        (λ n h.
            let same = honoured-one protections chosen n (length chosen) h (honoured_placed protections chosen can) in
            subst (λ m. IsHonoured protections (person ∷ chosen) m) (sym same)
            (refused protections person chosen chosen (apart.0, are.distinct) (among_itself chosen) can (honoured_placed protections chosen can)
            (cannot all person better chosen one are apart.0 (more.0, among) not))),
        by_hand_too all one (person ∷ better) chosen people marks (leave person better chosen are not) distinct.1 apart.1 among more.1 told.1,
      )
  by_hand_too all one better chosen people marks are distinct apart among more told = absurd told

nobody_marked : (protections : Protections) → AreMarked protections [] []
nobody_marked protections = record {
  distinct = tt;
  pairs = [];
  placed = record { held = tt; once = tt; within = λ t. omega arith };
  all = refl;
  few = λ t. omega arith;
  enough = λ t some. omega arith;
}

pub apart_from_nobody : (people : List Person) → AllByRecursion (λ (person : Person). AllByRecursion (λ (other : Person). person.id ≢ other.id) []) people
apart_from_nobody [] = tt
apart_from_nobody (person ∷ people) = (tt, apart_from_nobody people)

pub the_simple_rule : ByHand → TheSimpleRule
the_simple_rule by_hand step marks ok one told =
    by_hand step marks ok
    (by_hand_too step.protections step.people one [] [] step.people marks (nobody_marked step.protections) ok.people.distinct (apart_from_nobody step.people) tt (among_itself step.people) told)
