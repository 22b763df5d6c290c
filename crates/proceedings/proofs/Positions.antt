-- What is at the position of a person.
use Rattle.std.proofs.Common.{◌≡◌, ◌<◌, inl, inr, ℕ, zero, suc, Bool, true, false, List, [], ◌∷◌, Option, Some, None, length, map, arith, refl, sym, ap, ◌∙◌, ◌==◌, if◌then◌else◌}
use Rattle.std.specs.Prelude.{slice_get, option_map}
use Rattle.std.proofs.lemmas.Bool.{eq-eqb, eqb-false, eqb-true, ne_eqb}
use Rattle.std.proofs.lemmas.Option.{slice_get-map}
use Rattle.office_base.specs.Person.{at_person}
use Rattle.office_base.specs.declared.person.Person.{Person}
use Rattle.rank_lists.specs.Register.{row_of}
use Rattle.rank_lists.proofs.Known.{row_cases}

-- the person of this id is at this position
pub record Stands (id : ℕ) (people : List Person) (at : ℕ) : Type 0 where
  pub person : Person
  pub there : slice_get people at ≡ Some person
  pub mine : person.id.0 ≡ id

pub stands : (id : ℕ) (people : List Person) (at : ℕ) → row_of id people ≡ Some at → Stands id people at
stands id [] at e = absurd (cc)
stands id (p ∷ people) at e = elim (row_cases (id == p.id.0) (row_of id people) at e) [
  | inl h ↦ record { person = p; there = rw h.1 refl; mine = sym (eqb-true id p.id.0 h.0) }
  | inr h ↦ let rest = stands id people h.0 h.2 in record { person = rest.person; there = rw h.3 rest.there; mine = rest.mine }
]

pub place_when : {X : Type 0} (b : Bool) (x : X) (rest : Option X) (xs : List X) (at : ℕ) → b ≡ true → at ≡ 0 → (if b then Some x else rest) ≡ slice_get (x ∷ xs) at
place_when true x rest xs at e same = rw same refl
place_when false x rest xs at e same = absurd (cc)

pub place_later : {X : Type 0} (b : Bool) (x : X) (rest : Option X) (xs : List X) (at n : ℕ) → b ≡ false → at ≡ suc n → rest ≡ slice_get xs n → (if b then Some x else rest) ≡ slice_get (x ∷ xs) at
place_later true x rest xs at n e same later = absurd (cc)
place_later false x rest xs at n e same later = rw same later

-- two numbers that are not equal are not so the other way round
pub other_way : (m n : ℕ) → (m == n) ≡ false → (n == m) ≡ false
other_way m n e = ne_eqb n m (λ same. eqb-false m n e (sym same))

-- what goes along with the people has at the position what it has for the person
pub at_position : {X : Type 0} (id : ℕ) (people : List Person) (xs : List X) (at : ℕ) → row_of id people ≡ Some at → length xs ≡ length people → at_person id people xs ≡ slice_get xs at
at_position id [] xs at e full = absurd (cc)
at_position id (p ∷ people) [] at e full = absurd (omega (arith, full))
at_position id (p ∷ people) (x ∷ xs) at e full = elim (row_cases (id == p.id.0) (row_of id people) at e) [
  | inl h ↦ place_when (p.id.0 == id) x (at_person id people xs) xs at (eq-eqb p.id.0 id (sym (eqb-true id p.id.0 h.0))) h.1
  | inr h ↦ place_later (p.id.0 == id) x (at_person id people xs) xs at h.0 (other_way id p.id.0 h.1) h.3 (at_position id people xs h.0 h.2 (omega (arith, full)))
]

-- what a look-up by position tells is so of the person there
pub told : {X : Type 0} (f : Person → X) (people : List Person) (at : ℕ) (person : Person) (x : X) → option_map f (slice_get people at) ≡ Some x → slice_get people at ≡ Some person → x ≡ f person
told f people at person x e there =
    let same : Some (f person) ≡ Some x = ap (option_map f) (sym there) ∙ e in
    cc

-- a look-up at the position of a person, in what lies along the people, and the same by another function
pub through : {X Y Z : Type 0} (f : Y → X) (g : X → Z) (h : Y → Z) (ys : List Y) (xs : List X) (at : ℕ) (z : Z) → xs ≡ map f ys → ((y : Y) → h y ≡ g (f y)) → option_map g (slice_get xs at) ≡ Some z
    → option_map h (slice_get ys at) ≡ Some z
through {X} f g h ys xs at z e same told = via f g h (slice_get ys at) z same (ap (option_map g) (sym (slice_get-map f ys at) ∙ ap (λ (list : List X). slice_get list at) (sym e)) ∙ told)
  where
    via : {X Y Z : Type 0} (f : Y → X) (g : X → Z) (h : Y → Z) (o : Option Y) (z : Z) → ((y : Y) → h y ≡ g (f y)) → option_map g (option_map f o) ≡ Some z → option_map h o ≡ Some z
    via f g h None z same told = told
    via f g h (Some y) z same told = ap Some (same y) ∙ told

-- what is so of everybody is so at each position
pub everywhere : {Y Z : Type 0} (h : Y → Z) (ys : List Y) (at : ℕ) (z : Z) → at < length ys → ((y : Y) → h y ≡ z) → option_map h (slice_get ys at) ≡ Some z
everywhere h [] at z less same = absurd (omega (arith, less))
everywhere h (y ∷ ys) zero z less same = ap Some (same y)
everywhere h (y ∷ ys) (suc at) z less same = everywhere h ys at z (omega (arith, less)) same

-- what follows for the person at a position from what is known at the same position
pub follow : {X Y Z : Type 0} (f : Y → X) (h : Y → Z) (o : Option Y) (x : X) (z : Z) → option_map f o ≡ Some x → ((y : Y) → f y ≡ x → h y ≡ z) → option_map h o ≡ Some z
follow f h None x z first next = absurd (cc)
follow f h (Some y) x z first next = ap Some (next y (let same : Some (f y) ≡ Some x = first in cc))

pub both_follow : {W X Y Z : Type 0} (f : Y → X) (g : Y → W) (h : Y → Z) (o : Option Y) (x : X) (w : W) (z : Z) → option_map f o ≡ Some x → option_map g o ≡ Some w
    → ((y : Y) → f y ≡ x → g y ≡ w → h y ≡ z) → option_map h o ≡ Some z
both_follow f g h None x w z first other next = absurd (cc)
both_follow f g h (Some y) x w z first other next = ap Some (next y (let same : Some (f y) ≡ Some x = first in cc) (let same : Some (g y) ≡ Some w = other in cc))

-- what holds of the person at a position holds there
pub there_at : {Y Z : Type 0} (h : Y → Z) (ys : List Y) (at : ℕ) (z : Z) → at < length ys → ((y : Y) → slice_get ys at ≡ Some y → h y ≡ z) → option_map h (slice_get ys at) ≡ Some z
there_at h [] at z less same = absurd (omega (arith, less))
there_at h (y ∷ ys) zero z less same = ap Some (same y refl)
there_at h (y ∷ ys) (suc at) z less same = there_at h ys at z (omega (arith, less)) same
