-- Registers in the same order, candidate by candidate: each id is renamed to that of the partner, and then only the numbers differ.
use Rattle.std.proofs.Common.{◌≡◌, ◌≢◌, ◌+◌, ◌<◌, ◌==◌, inl, inr, ℕ, zero, suc, Bool, List, [], ◌∷◌, Some, map, arith, refl, sym, ap, ◌∙◌, subst, if◌then◌else◌}
use Rattle.std.specs.Prelude.{◌↔◌, ◌⊎◌, slice_get}
use Rattle.std.proofs.lemmas.Bool.{cases_eq, eq-eqb, ne_eqb}
use Rattle.std.proofs.lemmas.List.{length-map}
use Rattle.office_base.specs.Lists.{Pairwise}
use Rattle.office_base.proofs.Lists.{all-get}
use Rattle.office_base.specs.Person.{IsBetter}
use Rattle.office_base.specs.declared.person.CandId.{CandId}
use Rattle.office_base.specs.declared.person.Person.{Person}
use Rattle.rounds.specs.Rule.{AreEntrants}
use Rattle.placements.proofs.Convert.{same_cand}
use Rattle.published_rounds.specs.Order.{KeepsOrder, OnlyTheOrderCounts}
use Rattle.published_rounds.specs.Registers.{TheSameOrderGivesTheSameSeats, without_numbers}
use Rattle.published_rounds.proofs.MovingUp.{AreRenumbered, renumbered_give_the_same}
use Rattle.published_rounds.proofs.Numbered.{entrants_by, map_back}
use Rattle.published_rounds.proofs.Numbers.{one_of_parts}

-- ---- ids

-- distinct people have their ids at one place
one_place : (people : List Person) (i j : ℕ) (a b : Person) → Pairwise (λ (a b : Person). a.id ≢ b.id) people → slice_get people i ≡ Some a → slice_get people j ≡ Some b → a.id ≡ b.id → i ≡ j
one_place [] i j a b apart at at' e = absurd (cc)
one_place (p ∷ people) zero zero a b apart at at' e = refl
one_place (p ∷ people) zero (suc j) a b apart at at' e =
    let same : p ≡ a = cc in
    absurd (all-get (λ (q : Person). p.id ≢ q.id) people j b apart.0 at' (ap (λ (q : Person). q.id) same ∙ e))
one_place (p ∷ people) (suc i) zero a b apart at at' e =
    let same : p ≡ b = cc in
    absurd (all-get (λ (q : Person). p.id ≢ q.id) people i a apart.0 at (ap (λ (q : Person). q.id) same ∙ sym e))
one_place (p ∷ people) (suc i) (suc j) a b apart at at' e = ap (λ (n : ℕ). suc n) (one_place people i j a b apart.1 at at' e)

-- ---- the partner of an id

-- a number above all ids
abbrev above : List Person → ℕ
above [] = 1
above (b ∷ others) = b.id.0 + above others

below_above : (others : List Person) (i : ℕ) (b : Person) → slice_get others i ≡ Some b → b.id.0 < above others
below_above [] i b at = absurd (cc)
below_above (c ∷ others) zero b at =
    let same : c.id.0 ≡ b.id.0 = cc in
    omega (arith, same, least others)
  where
    least : (more : List Person) → 0 < above more
    least [] = omega arith
    least (d ∷ more) = let rest = least more in omega (arith, rest)
below_above (c ∷ others) (suc i) b at = let rest = below_above others i b at in omega (arith, rest)

-- the id of the person of the second register at the place of this id in the first; of any other id, one past all of them
abbrev partner : ℕ → List Person → List Person → CandId → CandId
partner far [] others id = record { 0 = id.0 + far }
partner far (a ∷ people) [] id = record { 0 = id.0 + far }
partner far (a ∷ people) (b ∷ others) id = if a.id.0 == id.0 then b.id else partner far people others id

-- the id is that of a pair, or of nobody
record IsOfPair (people others : List Person) (id found : CandId) : Type 0 where
  at : ℕ
  a : Person
  b : Person
  there : slice_get people at ≡ Some a
  partner_there : slice_get others at ≡ Some b
  is : id.0 ≡ a.id.0
  gives : found ≡ b.id

pair_or_none : (far : ℕ) (people others : List Person) (id : CandId) → IsOfPair people others id (partner far people others id) ⊎ ((partner far people others id).0 ≡ id.0 + far)
pair_or_none far (a ∷ people) (b ∷ others) id = by (cases_eq a.id.0 id.0) (pair_or_none far people others id)
  where
    rest : IsOfPair people others id (partner far people others id) ⊎ ((partner far people others id).0 ≡ id.0 + far)
        → IsOfPair (a ∷ people) (b ∷ others) id (partner far people others id) ⊎ ((partner far people others id).0 ≡ id.0 + far)
    rest (inl pair) = inl (record { at = suc pair.at; a = pair.a; b = pair.b; there = pair.there; partner_there = pair.partner_there; is = pair.is; gives = pair.gives })
    rest (inr none) = inr none

    Here : Bool → Type 0
    Here t = IsOfPair (a ∷ people) (b ∷ others) id (if t then b.id else partner far people others id) ⊎ ((if t then b.id else partner far people others id).0 ≡ id.0 + far)

    by : (a.id.0 ≡ id.0) ⊎ (a.id.0 ≡ id.0 → ⊥) → IsOfPair people others id (partner far people others id) ⊎ ((partner far people others id).0 ≡ id.0 + far) → Here (a.id.0 == id.0)
    by (inl same) later =
        subst Here (sym (eq-eqb a.id.0 id.0 same)) (inl (record { at = 0; a = a; b = b; there = refl; partner_there = refl; is = sym same; gives = refl }))
    by (inr other) later = subst Here (sym (ne_eqb a.id.0 id.0 other)) (rest later)
pair_or_none far people others id = inr refl

-- a person of the first register has the partner's id
partner_at : (far : ℕ) (people others : List Person) (i : ℕ) (a b : Person) → Pairwise (λ (a b : Person). a.id ≢ b.id) people → slice_get people i ≡ Some a → slice_get others i ≡ Some b
    → partner far people others a.id ≡ b.id
partner_at far (p ∷ people) (q ∷ others) zero a b apart at at' =
    let mine : p.id.0 ≡ a.id.0 = cc in
    let its : q.id ≡ b.id = cc in
    ap (λ (z : Bool). if z then q.id else partner far people others a.id) (eq-eqb p.id.0 a.id.0 mine) ∙ its
partner_at far (p ∷ people) (q ∷ others) (suc i) a b apart at at' =
    ap (λ (z : Bool). if z then q.id else partner far people others a.id)
    (ne_eqb p.id.0 a.id.0 (λ e. all-get (λ (other : Person). p.id ≢ other.id) people i a apart.0 at (same_cand p.id a.id e)))
    ∙ partner_at far people others i a b apart.1 at at'
partner_at far people others i a b apart at at' = absurd (cc)

-- a renaming that keeps ids apart
partners_apart : (people others : List Person) → Pairwise (λ (a b : Person). a.id ≢ b.id) others → (x y : CandId)
    → partner (above others) people others x ≡ partner (above others) people others y → x ≡ y
partners_apart people others apart x y e = by (pair_or_none (above others) people others x) (pair_or_none (above others) people others y)
  where
    far : ℕ
    far = above others

    same : (partner (above others) people others x).0 ≡ (partner (above others) people others y).0
    same = ap (λ (c : CandId). c.0) e

    never : (z : CandId) (pair : IsOfPair people others z (partner (above others) people others z)) (n : ℕ) → (partner (above others) people others z).0 ≡ n + above others → ⊥
    never z pair n none =
        let less = below_above others pair.at pair.b pair.partner_there in
        let gives = ap (λ (c : CandId). c.0) pair.gives in
        omega (arith, less, gives, none)

    by : IsOfPair people others x (partner (above others) people others x) ⊎ ((partner (above others) people others x).0 ≡ x.0 + above others)
        → IsOfPair people others y (partner (above others) people others y) ⊎ ((partner (above others) people others y).0 ≡ y.0 + above others) → x ≡ y
    by (inl p) (inl q) =
        let place = one_place others p.at q.at p.b q.b apart p.partner_there q.partner_there (sym p.gives ∙ (e ∙ q.gives)) in
        let there = subst (λ (n : ℕ). slice_get people n ≡ Some p.a) place p.there in
        let person : p.a ≡ q.a = (let both = sym there ∙ q.there in cc) in
        same_cand x y (p.is ∙ (ap (λ (a : Person). a.id.0) person ∙ sym q.is))
    by (inl p) (inr none) = absurd (never x p y.0 (same ∙ none))
    by (inr none) (inl q) = absurd (never y q x.0 (sym same ∙ none))
    by (inr first) (inr second) = same_cand x y (let s = same in omega (arith, s, first, second))

-- ---- the first register with the ids of the second

abbrev with_id : (CandId → CandId) → Person → Person
with_id rename person = record person { id = rename person.id }

keeps_order : (rename : CandId → CandId) → ((a b : CandId) → rename a ≡ rename b → a ≡ b) → KeepsOrder rename (with_id rename)
keeps_order rename apart = record {
  id = λ a. refl;
  ids_apart = apart;
  traits = λ a. refl;
  category = λ a. refl;
  common = λ list a. refl;
  better = λ list a b. refl;
  apart = λ a b e.
      one_of_parts a b (apart a.id b.id (ap (λ (p : Person). p.id) e)) (ap (λ (p : Person). p.category) e) (ap (λ (p : Person). p.traits) e) (ap (λ (p : Person). p.places) e);
}

-- ---- the same order

pub the_same_order_gives_the_same_seats : OnlyTheOrderCounts → TheSameOrderGivesTheSameSeats
the_same_order_gives_the_same_seats order version table people others lists seeks seats ok enter enter' pairs =
    let first = order version table people rename (with_id rename) lists seeks seats ok (keeps_order rename apart) enter between in
    let second = renumbered_give_the_same order version table named others lists seeks seats ok between enter' alike in
    (λ best. second.0 (first.0 best), λ best. first.1 (second.1 best))
  where
    rename : CandId → CandId
    rename = partner (above others) people others

    apart : (a b : CandId) → rename a ≡ rename b → a ≡ b
    apart = partners_apart people others enter'.distinct

    named : List Person
    named = map (with_id rename) people

    between : AreEntrants table named lists
    between = entrants_by rename (with_id rename) (keeps_order rename apart) (λ list a some. some) (λ list n a b e e'. (n, e, e')) table people lists enter

    alike : AreRenumbered named others
    alike = record {
      full = pairs.full ∙ sym (length-map people (with_id rename));
      same = λ i c b at at'.
          let p = map_back (with_id rename) people i c at in
          let id : b.id ≡ rename p.0.id = sym (partner_at (above others) people others i p.0 b enter.distinct p.1 at') in
          pairs.same i p.0 b p.1 at' ∙ (ap (λ (z : CandId). without_numbers (record p.0 { id = z })) id ∙ ap without_numbers (sym p.2));
      order = λ list i j a b c d at at' there there'.
          let p = map_back (with_id rename) people i a at in
          let q = map_back (with_id rename) people j b at' in
          subst (λ (z : Person). IsBetter list c d ↔ IsBetter list z b) (sym p.2) (subst (λ (z : Person). IsBetter list c d ↔ IsBetter list (with_id rename p.0) z) (sym q.2)
          (pairs.order list i j p.0 q.0 c d p.1 q.1 there there'));
    }
