-- Lists along the people of a register.
use Rattle.std.proofs.Common.{◌≡◌, ◌<◌, ◌≤◌, ◌+◌, ℕ, zero, suc, List, [], ◌∷◌, ◌++◌, Option, Some, length, map, take, get_or, slice_set, arith, refl, sym, ap, ◌∙◌}
use Rattle.std.specs.Prelude.{option_map, slice_get}
use Rattle.std.proofs.lemmas.List.{take_all, take_more}
use Rattle.std.proofs.lemmas.Option.{get_or_from_slice_get, slice_get-get_or, slice_get-map}
use Rattle.office_base.proofs.Lists.{all-get}
use Rattle.office_base.specs.Lists.{Pairwise}
use Rattle.office_base.specs.declared.person.Person.{Person}

-- the ids of the people rise
abbrev pub AreRising : List Person → Type 0
AreRising people = Pairwise (λ (a b : Person). a.id.0 < b.id.0) people

map_at : {X : Type 0} (f : Person → X) (people : List Person) (at : ℕ) (person : Person) → slice_get people at ≡ Some person → slice_get (map f people) at ≡ Some (f person)
map_at f people at person there = slice_get-map f people at ∙ ap (λ (o : Option Person). option_map f o) there

-- what is at a place
pub read_at : {X : Type 0} (f : Person → X) (people : List Person) (xs : List X) (at : ℕ) (d : X) (e : Person) → xs ≡ map f people → at < length people → get_or xs at d ≡ f (get_or people at e)
read_at f people xs at d e same less =
    get_or_from_slice_get xs at (f (get_or people at e)) d (ap (λ z. slice_get z at) same ∙ map_at f people at (get_or people at e) (slice_get-get_or people at e less))

-- one more of them
pub map_more : {X : Type 0} (f : Person → X) (people : List Person) (done new : List X) (at : ℕ) (e : Person) (x : X) → at < length people → done ≡ map f (take at people) → x ≡ f (get_or people at e)
    → new ≡ done ++ x ∷ [] → new ≡ map f (take (at + 1) people)
map_more {X} f people done new at e x less so is made =
    made ∙ (ap (λ (z : List X). z ++ x ∷ []) so ∙ (ap (λ (z : X). map f (take at people) ++ z ∷ []) is
    ∙ (sym (map_append (take at people) (get_or people at e)) ∙ ap (map f) (sym (take_more people at e less)))))
  where
    map_append : (xs : List Person) (y : Person) → map f (xs ++ y ∷ []) ≡ map f xs ++ f y ∷ []
    map_append [] y = refl
    map_append (z ∷ xs) y = ap (λ (l : List X). f z ∷ l) (map_append xs y)

pub map_whole : {X : Type 0} (f : Person → X) (people : List Person) (done : List X) (at : ℕ) → length people ≤ at → done ≡ map f (take at people) → done ≡ map f people
map_whole f people done at end so = so ∙ ap (map f) (take_all at people end)

-- people all of whom have other ids
pub same_map : {X : Type 0} (f g : Person → X) (people : List Person) → ((i : ℕ) (p : Person) → slice_get people i ≡ Some p → g p ≡ f p) → map f people ≡ map g people
same_map f g [] same = refl
same_map {X} f g (p ∷ people) same = ap (λ (z : X). z ∷ map f people) (sym (same 0 p refl)) ∙ ap (λ (l : List X). g p ∷ l) (same_map f g people (λ i. same (suc i)))

-- If the value of one person changes, the list changes at this person's place.
pub set_along : {X : Type 0} (f g : Person → X) (people : List Person) (at : ℕ) (person : Person) → AreRising people → slice_get people at ≡ Some person
    → ((p : Person) → (p.id.0 ≡ person.id.0 → ⊥) → g p ≡ f p) → slice_set (map f people) at (g person) ≡ map g people
set_along f g [] at person rising there same = absurd (cc)
set_along {X} f g (p ∷ people) zero person rising there same =
    let first : p ≡ person = cc in
    let rest = same_map f g people (λ i q at'. same q (λ e.
    let less = all-get (λ (b : Person). p.id.0 < b.id.0) people i q rising.0 at' in
    let number = ap (λ (z : Person). z.id.0) first in
    omega (arith, less, number, e))) in
    ap (λ (z : X). z ∷ map f people) (ap g (sym first)) ∙ ap (λ (l : List X). g p ∷ l) rest
set_along {X} f g (p ∷ people) (suc at) person rising there same =
    let less = all-get (λ (b : Person). p.id.0 < b.id.0) people at person rising.0 there in
    let here : g p ≡ f p = same p (λ e. omega (arith, less, e)) in
    ap (λ (z : X). z ∷ slice_set (map f people) at (g person)) (sym here) ∙ ap (λ (l : List X). g p ∷ l) (set_along f g people at person rising.1 there same)
