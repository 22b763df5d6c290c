-- The exchange law of placements: a longer one has a person who can join a shorter one.
use Rattle.std.proofs.Common.{◌≡◌, ◌∙◌, ◌≢◌, ◌<◌, ◌+◌, ◌⊎◌, ℕ, zero, suc, List, [], ◌∷◌, ◌++◌, length, eqb, cond, Bool, false, refl, ap, sym, subst, inl, inr, arith}
use Rattle.std.proofs.lemmas.Bool.{eqb-true, eqb-false, cases_Bool, eq-eqb}
use Rattle.std.specs.List.{AllByRecursion}
use Rattle.office_base.specs.Lists.{AnyByRecursion, Pairwise}
use Rattle.office_base.specs.Placement.{IsPlacement, Fills, placed_on, protected}
use Rattle.office_base.specs.declared.person.CandId.{CandId}
use Rattle.office_base.specs.declared.person.Person.{Person}
use Rattle.office_base.specs.declared.step.Pair.{Pair}
use Rattle.office_base.specs.declared.step.Protections.{Protections}
use Rattle.office_base.proofs.Lists.{all_weaker, all_left, all_joined}

-- ---- one element taken out of a list

-- x is in the list, and these are left without it
abbrev pub Leaves : {X : Type 0} → X → List X → List X → Type 0
Leaves x [] rest = ⊥
Leaves {X} x (y ∷ ys) rest = ((x ≡ y) × (rest ≡ ys)) ⊎ ((others : List X) × (rest ≡ y ∷ others) × Leaves x ys others)

-- what holds of each element holds of the one taken out and of those left
pub all_leaves : {X : Type 0} (P : X → Type 0) (x : X) (xs rest : List X) → Leaves x xs rest → AllByRecursion P xs → P x × AllByRecursion P rest
all_leaves P x [] rest h all = absurd h
all_leaves P x (y ∷ ys) rest h all = elim h [
  | inl e ↦ (subst P (sym e.0) all.0, subst (AllByRecursion P) (sym e.1) all.1)
  | inr s ↦ let r = all_leaves P x ys s.0 s.2 all.1 in (r.0, subst (AllByRecursion P) (sym s.1) (all.0, r.1))
]

-- what holds of the one taken out and of those left holds of each element
pub all_rejoined : {X : Type 0} (P : X → Type 0) (x : X) (xs rest : List X) → Leaves x xs rest → P x → AllByRecursion P rest → AllByRecursion P xs
all_rejoined P x [] rest h p all = tt
all_rejoined P x (y ∷ ys) rest h p all = elim h [
  | inl e ↦ (subst P e.0 p, subst (AllByRecursion P) e.1 all)
  | inr s ↦ let both : AllByRecursion P (y ∷ s.0) = subst (AllByRecursion P) s.1 all in (both.0, all_rejoined P x ys s.0 s.2 p both.1)
]

-- there was one more
pub length_leaves : {X : Type 0} (x : X) (xs rest : List X) → Leaves x xs rest → length xs ≡ suc (length rest)
length_leaves x [] rest h = absurd h
length_leaves x (y ∷ ys) rest h = elim h [
  | inl e ↦ ap (λ l. suc (length l)) (sym e.1)
  | inr s ↦ ap suc (length_leaves x ys s.0 s.2) ∙ ap (λ l. suc (length l)) (sym s.1)
]

-- behind a list that stays
pub leaves_behind : {X : Type 0} (x : X) (front xs rest : List X) → Leaves x xs rest → Leaves x (front ++ xs) (front ++ rest)
leaves_behind x [] xs rest h = h
leaves_behind x (y ∷ front) xs rest h = inr (front ++ rest, refl, leaves_behind x front xs rest h)

-- R goes both ways: it holds between the one taken out and each left, and between those left
pub pairwise_leaves : {X : Type 0} (R : X → X → Type 0) → ((a b : X) → R a b → R b a) → (x : X) (xs rest : List X) → Leaves x xs rest → Pairwise R xs
    → AllByRecursion (R x) rest × Pairwise R rest
pairwise_leaves R both x [] rest h p = absurd h
pairwise_leaves R both x (y ∷ ys) rest h p = elim h [
  | inl e ↦ (subst (λ z. AllByRecursion (R z) rest) (sym e.0) (subst (AllByRecursion (R y)) (sym e.1) p.0), subst (Pairwise R) (sym e.1) p.1)
  | inr s ↦
      let deeper = pairwise_leaves R both x ys s.0 s.2 p.1 in
      let front = all_leaves (R y) x ys s.0 s.2 p.0 in
      (subst (AllByRecursion (R x)) (sym s.1) (both y x front.0, deeper.0), subst (Pairwise R) (sym s.1) (front.1, deeper.1))
]

-- ---- placements, whatever the order of their pairs

-- the two pairs are of different candidates
abbrev pub Apart : Pair → Pair → Type 0
Apart a b = a.cand ≢ b.cand

-- 1 if the pair is on the trait
abbrev pub stands_on : ℕ → Pair → ℕ
stands_on t pair = cond (eqb pair.slot t) 1 0

-- a pair on another trait counts nothing, and one on the trait counts one
pub stands_other : (t : ℕ) (p : Pair) → eqb p.slot t ≡ false → stands_on t p ≡ 0
stands_other t p other = let pick : Bool → ℕ = λ b. cond b 1 0 in ap pick other

pub stands_same : (t : ℕ) (p : Pair) → p.slot ≡ t → stands_on t p ≡ 1
stands_same t p same = let pick : Bool → ℕ = λ b. cond b 1 0 in ap pick (eq-eqb p.slot t same)

-- two pairs on one trait count alike
pub stands_alike : (t : ℕ) (p q : Pair) → p.slot ≡ q.slot → stands_on t p ≡ stands_on t q
stands_alike t p q same = let pick : ℕ → ℕ = λ n. cond (eqb n t) 1 0 in ap pick same

-- the counts of a trait, with one pair taken out
pub placed_on_leaves : (t : ℕ) (x : Pair) (xs rest : List Pair) → Leaves x xs rest → placed_on t xs ≡ stands_on t x + placed_on t rest
placed_on_leaves t x [] rest h = absurd h
placed_on_leaves t x (y ∷ ys) rest h = elim h [
  | inl e ↦ let a = ap (stands_on t) e.0 in let b = ap (placed_on t) e.1 in omega arith
  | inr s ↦ let a = placed_on_leaves t x ys s.0 s.2 in let b = ap (placed_on t) s.1 in omega arith
]

-- the counts of a trait, of two lists joined
pub placed_on-append : (t : ℕ) (xs ys : List Pair) → placed_on t (xs ++ ys) ≡ placed_on t xs + placed_on t ys
placed_on-append t [] ys = omega arith
placed_on-append t (x ∷ xs) ys = let a = placed_on-append t xs ys in omega arith

-- apart is apart the other way
pub apart_back : (a b : Pair) → Apart a b → Apart b a
apart_back a b h e = h (sym e)

-- a placement without one of its pairs
pub fewer : (protections : Protections) (people : List Person) (x : Pair) (xs rest : List Pair) → Leaves x xs rest
    → IsPlacement protections people xs → IsPlacement protections people rest
fewer protections people x xs rest h p = record {
  held = (all_leaves (λ pair. AnyByRecursion (Fills pair) people) x xs rest h p.held).1;
  once = (pairwise_leaves Apart apart_back x xs rest h p.once).1;
  within = λ t. let a = placed_on_leaves t x xs rest h in let b = p.within t in omega arith;
}

-- a placement with one of its pairs moved to the front
pub told_first : (protections : Protections) (people : List Person) (x : Pair) (xs rest : List Pair) → Leaves x xs rest
    → IsPlacement protections people xs → IsPlacement protections people (x ∷ rest)
told_first protections people x xs rest h p = record {
  held = all_leaves (λ pair. AnyByRecursion (Fills pair) people) x xs rest h p.held;
  once = pairwise_leaves Apart apart_back x xs rest h p.once;
  within = λ t. let a = placed_on_leaves t x xs rest h in let b = p.within t in omega arith;
}

-- a pair of somebody else joins where its trait has room
pub joined : (protections : Protections) (people : List Person) (x : Pair) (xs : List Pair) → IsPlacement protections people xs
    → AnyByRecursion (Fills x) people → AllByRecursion (Apart x) xs → placed_on x.slot xs < protected protections x.slot
    → IsPlacement protections people (x ∷ xs)
joined protections people x xs p held apart room = record {
  held = (held, p.held);
  once = (apart, p.once);
  within = λ t. elim (cases_Bool (eqb x.slot t)) [
    | inl same_slot ↦
        let same = eqb-true x.slot t same_slot in
        let here : placed_on t xs < protected protections t = subst (λ n. placed_on n xs < protected protections n) same room in
        let count = stands_same t x same in omega arith
    | inr other_slot ↦ let count = stands_other t x other_slot in let b = p.within t in omega arith
  ];
}

-- if none of the others is on a trait, nor this one, none is
none_more : (t : ℕ) (p : Pair) (ps : List Pair) → eqb p.slot t ≡ false → placed_on t ps ≡ 0 → placed_on t (p ∷ ps) ≡ 0
none_more t p ps other none = let count = stands_other t p other in omega arith

-- a pair on a trait, or none there
pub finds_on : (t : ℕ) (ps : List Pair) → ((p : Pair) × (rest : List Pair) × Leaves p ps rest × (p.slot ≡ t)) ⊎ (placed_on t ps ≡ 0)
finds_on t [] = inr refl
finds_on t (p ∷ ps) = elim (cases_Bool (eqb p.slot t)) [
  | inl same ↦ inl (p, ps, inl (refl, refl), eqb-true p.slot t same)
  | inr other ↦ elim (finds_on t ps) [
    | inl found ↦ inl (found.0, p ∷ found.1, inr (found.1, refl, found.2), found.3)
    | inr none ↦ inr (none_more t p ps other none)
  ]
]

-- of two lists, a longer one has a pair on a trait on which it has more pairs than the other
pub crowded : (xs ys : List Pair) → length xs < length ys
    → (x : Pair) × ((rest : List Pair) × Leaves x ys rest) × (placed_on x.slot xs < placed_on x.slot ys)
crowded xs [] less = absurd (omega arith)
crowded xs (y ∷ ys) less = elim (finds_on y.slot xs) [
  | inl found ↦
      let shorter = length_leaves found.0 xs found.1 found.2 in
      let deeper = crowded found.1 ys (omega arith) in
      let count = placed_on_leaves deeper.0.slot found.0 xs found.1 found.2 in
      let same = stands_alike deeper.0.slot found.0 y found.3 in
      (deeper.0, (y ∷ deeper.1.0, inr (deeper.1.0, refl, deeper.1.1)), omega arith)
  | inr none ↦
      let here = stands_same y.slot y refl in
      (y, (ys, inl (refl, refl)), omega arith)
]

-- ---- the exchange law

-- the candidate is in one of the pairs
abbrev pub Stands : CandId → List Pair → Type 0
Stands cand pairs = AnyByRecursion (λ pair. cand ≡ pair.cand) pairs

-- each candidate of the first pairs is in one of the second
abbrev pub AllStand : List Pair → List Pair → Type 0
AllStand some all = AllByRecursion (λ pair. Stands pair.cand all) some

-- a candidate of the pairs, or not
pub finds : (cand : CandId) (pairs : List Pair)
    → ((x : Pair) × (rest : List Pair) × Leaves x pairs rest × (x.cand ≡ cand)) ⊎ AllByRecursion (λ pair. cand ≢ pair.cand) pairs
finds cand [] = inr tt
finds cand (pair ∷ pairs) = elim (cases_Bool (eqb pair.cand.0 cand.0)) [
  | inl same ↦ inl (pair, pairs, inl (refl, refl), ap (λ (n : ℕ). let c : CandId = record { 0 = n } in c) (eqb-true pair.cand.0 cand.0 same))
  | inr other ↦ elim (finds cand pairs) [
    | inl found ↦ inl (found.0, pair ∷ found.1, inr (found.1, refl, found.2), found.3)
    | inr none ↦ inr ((λ e. eqb-false pair.cand.0 cand.0 other (ap (λ (c : CandId). c.0) (sym e))), none)
  ]
]

-- one of the first pairs is one of the second
pub stands_at : (x : Pair) (xs rest : List Pair) → Leaves x xs rest → Stands x.cand xs
stands_at x [] rest h = absurd h
stands_at x (y ∷ ys) rest h = elim h [ inl e ↦ inl (ap (λ (p : Pair). p.cand) e.0) | inr s ↦ inr (stands_at x ys s.0 s.2) ]

-- a candidate who is in some pairs is still there with one pair more
pub stands_still : (x : Pair) (xs rest : List Pair) → Leaves x xs rest → (cand : CandId) → Stands cand rest → Stands cand xs
stands_still x [] rest h cand s = absurd h
stands_still x (y ∷ ys) rest h cand s = elim h [
  | inl e ↦ inr (subst (Stands cand) e.1 s)
  | inr d ↦ elim (subst (Stands cand) d.1 s) [ inl here ↦ inl here | inr later ↦ inr (stands_still x ys d.0 d.2 cand later) ]
]

-- a candidate who is in some pairs is that of the pair taken out, or is in one of those left
pub stands_or : (x : Pair) (xs rest : List Pair) → Leaves x xs rest → (cand : CandId) → Stands cand xs → (cand ≡ x.cand) ⊎ Stands cand rest
stands_or x [] rest h cand s = absurd h
stands_or x (y ∷ ys) rest h cand s = elim h [
  | inl e ↦ elim s [
    | inl here ↦ inl (here ∙ sym (ap (λ (p : Pair). p.cand) e.0))
    | inr later ↦ inr (subst (Stands cand) (sym e.1) later)
  ]
  | inr d ↦ elim s [
    | inl here ↦ inr (subst (Stands cand) (sym d.1) (inl here))
    | inr later ↦ elim (stands_or x ys d.0 d.2 cand later) [
      | inl same ↦ inl same
      | inr still ↦ inr (subst (Stands cand) (sym d.1) (inr still))
    ]
  ]
]

-- what holds of all holds of each candidate who is there, if it speaks of candidates alone
pub at_standing : (P : CandId → Type 0) (cand : CandId) (pairs : List Pair) → Stands cand pairs → AllByRecursion (λ pair. P pair.cand) pairs → P cand
at_standing P cand [] s all = absurd s
at_standing P cand (pair ∷ pairs) s all = elim s [ inl e ↦ subst P (sym e) all.0 | inr later ↦ at_standing P cand pairs later all.1 ]

-- the candidate of each of some pairs is among them
pub all_stand_same : (pairs : List Pair) → AllStand pairs pairs
all_stand_same [] = tt
all_stand_same (pair ∷ pairs) =
    (inl refl, all_weaker (λ p. Stands p.cand pairs) (λ p. Stands p.cand (pair ∷ pairs)) (λ p s. inr s) pairs (all_stand_same pairs))

-- One of ys joins xs: its candidate is nowhere in xs, and some placement has just the candidates of xs and this one.
pub record Joins (protections : Protections) (people : List Person) (xs ys : List Pair) : Type 0 where
  pub who : Pair
  pub of : Stands who.cand ys
  pub new : AllByRecursion (λ pair. who.cand ≢ pair.cand) xs
  pub after : List Pair
  pub placed : IsPlacement protections people after
  pub longer : length after ≡ suc (length xs)
  pub all : AllStand (who ∷ xs) after
  pub only : AllStand after (who ∷ xs)

-- a pair is one of the people's, where it is one of a placement's
pub held_at : (protections : Protections) (people : List Person) (x : Pair) (xs rest : List Pair) → Leaves x xs rest
    → IsPlacement protections people xs → AnyByRecursion (Fills x) people
held_at protections people x xs rest h p = (all_leaves (λ pair. AnyByRecursion (Fills pair) people) x xs rest h p.held).0

-- where a pair takes the place of another of the same candidate, who joins the one joins the other
pub joins_moved : (protections : Protections) (people : List Person) (x y : Pair) (xs rest ys more : List Pair) → Leaves y xs rest → y.cand ≡ x.cand
    → ((cand : CandId) → Stands cand ys → Stands cand more) → Joins protections people (x ∷ rest) ys → Joins protections people xs more
joins_moved protections people x y xs rest ys more leaves same wider j = record {
  who = j.who;
  of = wider j.who.cand j.of;
  new = all_rejoined (λ pair. j.who.cand ≢ pair.cand) y xs rest leaves (λ e. j.new.0 (e ∙ same)) j.new.1;
  after = j.after;
  placed = j.placed;
  longer = j.longer ∙ ap suc (sym (length_leaves y xs rest leaves));
  all = (j.all.0, all_rejoined (λ pair. Stands pair.cand j.after) y xs rest leaves (subst (λ cand. Stands cand j.after) (sym same) j.all.1.0) j.all.1.1);
  only = all_weaker (λ p. Stands p.cand (j.who ∷ x ∷ rest)) (λ p. Stands p.cand (j.who ∷ xs)) (λ p s. elim s [
    | inl here ↦ inl here
    | inr later ↦ elim later [
      | inl moved ↦ inr (subst (λ cand. Stands cand xs) (sym (moved ∙ sym same)) (stands_at y xs rest leaves))
      | inr still ↦ inr (stands_still y xs rest leaves p.cand still)
    ]
  ]) j.after j.only;
}

-- One step of the law, for two placements that agree on the pairs of both: a pair joins, or moves, so that they agree on one more.
exchange_step : (protections : Protections) (people : List Person) (both xs ys : List Pair) → length xs < length ys
    → IsPlacement protections people (both ++ xs) → IsPlacement protections people (both ++ ys)
    → ((same some more : List Pair) → suc (length some) ≡ length xs → length some < length more
    → IsPlacement protections people (same ++ some) → IsPlacement protections people (same ++ more) → Joins protections people (same ++ some) more)
    → Joins protections people (both ++ xs) ys
exchange_step protections people both xs ys less px py smaller =
    let more = crowded xs ys less in
    let x : Pair = more.0 in
    let rest : List Pair = more.1.0 in
    let leaves : Leaves x ys rest = more.1.1 in
    let from_ys : Leaves x (both ++ ys) (both ++ rest) = leaves_behind x both ys rest leaves in
    let room : placed_on x.slot (both ++ xs) < protected protections x.slot =
    (let a = placed_on-append x.slot both xs in let b = placed_on-append x.slot both ys in let c = py.within x.slot in let d = more.2 in omega arith) in
    let held = held_at protections people x (both ++ ys) (both ++ rest) from_ys py in
    let apart : AllByRecursion (Apart x) both = all_left (Apart x) both rest (pairwise_leaves Apart apart_back x (both ++ ys) (both ++ rest) from_ys py.once).0 in
    elim (finds x.cand xs) [
      | inl found ↦
          let y : Pair = found.0 in
          let left : List Pair = found.1 in
          let from_xs : Leaves y (both ++ xs) (both ++ left) = leaves_behind y both xs left found.2 in
          let without = fewer protections people y (both ++ xs) (both ++ left) from_xs px in
          let away : AllByRecursion (Apart x) (both ++ left) =
          subst (λ cand. AllByRecursion (λ (p : Pair). cand ≢ p.cand) (both ++ left)) found.3
          (pairwise_leaves Apart apart_back y (both ++ xs) (both ++ left) from_xs px.once).0 in
          let count = placed_on_leaves x.slot y (both ++ xs) (both ++ left) from_xs in
          let now = joined protections people x (both ++ left) without held away (omega arith) in
          let then' = told_first protections people x (both ++ ys) (both ++ rest) from_ys py in
          let shorter = length_leaves y xs left found.2 in
          let shorter_too = length_leaves x ys rest leaves in
          joins_moved protections people x y (both ++ xs) (both ++ left) rest ys from_xs found.3 (stands_still x ys rest leaves)
          (smaller (x ∷ both) left rest (sym shorter) (omega arith) now then')
      | inr none ↦
          let none_at_all : AllByRecursion (λ pair. x.cand ≢ pair.cand) (both ++ xs) = all_joined (λ pair. x.cand ≢ pair.cand) both xs apart none in
          record {
            who = x;
            of = stands_at x ys rest leaves;
            new = none_at_all;
            after = x ∷ (both ++ xs);
            placed = joined protections people x (both ++ xs) px held none_at_all room;
            longer = refl;
            all = all_stand_same (x ∷ (both ++ xs));
            only = all_stand_same (x ∷ (both ++ xs));
          }
    ]

-- the law, by the number of pairs on which the two placements may differ
exchange_from : (n : ℕ) (protections : Protections) (people : List Person) (both xs ys : List Pair) → length xs ≡ n → length xs < length ys
    → IsPlacement protections people (both ++ xs) → IsPlacement protections people (both ++ ys) → Joins protections people (both ++ xs) ys
exchange_from zero protections people both xs ys len less px py =
    exchange_step protections people both xs ys less px py (λ same some more shorter. absurd (omega arith))
exchange_from (suc n) protections people both xs ys len less px py =
    exchange_step protections people both xs ys less px py (λ same some more shorter. exchange_from n protections people same some more (omega arith))

-- The exchange law: of two placements of the people, a longer one has a candidate who joins the shorter one.
pub exchange_pairs : (protections : Protections) (people : List Person) (xs ys : List Pair) → length xs < length ys
    → IsPlacement protections people xs → IsPlacement protections people ys → Joins protections people xs ys
exchange_pairs protections people xs ys less px py = exchange_from (length xs) protections people [] xs ys refl less px py
