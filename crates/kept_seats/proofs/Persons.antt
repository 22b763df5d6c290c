-- Whether two persons are one, and whether a person is one of some people.
use Rattle.std.proofs.Common.{◌≡◌, ◌⊎◌, inl, inr, ℕ, zero, suc, List, [], ◌∷◌, refl, sym, ap, ◌∙◌}
use Rattle.std.proofs.lemmas.Bool.{cases_eq}
use Rattle.office_base.specs.Lists.{IsAmong}
use Rattle.office_base.specs.declared.person.Category.{Category}
use Rattle.office_base.specs.declared.person.Category.TheVariants.{Gen, Ews, Obc, Sc, St}
use Rattle.office_base.specs.declared.person.Person.{Person}
use Rattle.office_base.specs.declared.person.Place.{Place}
use Rattle.office_base.specs.declared.person.Place.TheVariants.{Absent, Common, Relaxed}

-- equal or not
abbrev pub Same : {X : Type 0} → X → X → Type 0
Same x y = (x ≡ y) ⊎ (x ≡ y → ⊥)

abbrev place_number : Place → ℕ
place_number Absent = 0
place_number (Common n) = n
place_number (Relaxed n) = n

same_place : (a b : Place) → Same a b
same_place Absent Absent = inl refl
same_place Absent (Common n) = inr (λ e. cc)
same_place Absent (Relaxed n) = inr (λ e. cc)
same_place (Common m) Absent = inr (λ e. cc)
same_place (Common m) (Common n) = elim (cases_eq m n) [ inl e ↦ inl (ap (λ k. Common k) e) | inr apart ↦ inr (λ e. apart (ap place_number e)) ]
same_place (Common m) (Relaxed n) = inr (λ e. cc)
same_place (Relaxed m) Absent = inr (λ e. cc)
same_place (Relaxed m) (Common n) = inr (λ e. cc)
same_place (Relaxed m) (Relaxed n) = elim (cases_eq m n) [ inl e ↦ inl (ap (λ k. Relaxed k) e) | inr apart ↦ inr (λ e. apart (ap place_number e)) ]

same_places : (xs ys : List Place) → Same xs ys
same_places [] [] = inl refl
same_places [] (y ∷ ys) = inr (λ e. cc)
same_places (x ∷ xs) [] = inr (λ e. cc)
same_places (x ∷ xs) (y ∷ ys) = elim (same_place x y) [
  | inl here ↦ elim (same_places xs ys) [
    | inl rest ↦ inl (ap (λ z. z ∷ xs) here ∙ ap (λ zs. y ∷ zs) rest)
    | inr apart ↦ inr (λ e. apart (cc))
  ]
  | inr apart ↦ inr (λ e. apart (cc))
]

abbrev category_at : ℕ → Category
category_at zero = Gen
category_at (suc zero) = Ews
category_at (suc (suc zero)) = Obc
category_at (suc (suc (suc zero))) = Sc
category_at (suc (suc (suc (suc n)))) = St

abbrev number_at : Category → ℕ
number_at Gen = 0
number_at Ews = 1
number_at Obc = 2
number_at Sc = 3
number_at St = 4

back : (a : Category) → category_at (number_at a) ≡ a
back Gen = refl
back a = refl

same_category : (a b : Category) → Same a b
same_category a b = elim (cases_eq (number_at a) (number_at b)) [
  | inl e ↦ inl (sym (back a) ∙ (ap category_at e ∙ back b))
  | inr apart ↦ inr (λ e. apart (ap number_at e))
]

abbrev person_of : ℕ → Category → ℕ → List Place → Person
person_of id category traits places = record { id = record { 0 = id }; category = category; traits = record { 0 = traits }; places = places }

pub same_person : (a b : Person) → Same a b
same_person a b = elim (cases_eq a.id.0 b.id.0) [
  | inl id ↦ elim (same_category a.category b.category) [
    | inl category ↦ elim (cases_eq a.traits.0 b.traits.0) [
      | inl traits ↦ elim (same_places a.places b.places) [
        | inl places ↦ inl (ap (λ z. person_of z a.category a.traits.0 a.places) id ∙ (ap (λ z. person_of b.id.0 z a.traits.0 a.places) category
            ∙ (ap (λ z. person_of b.id.0 b.category z a.places) traits ∙ ap (λ z. person_of b.id.0 b.category b.traits.0 z) places)))
        | inr apart ↦ inr (λ e. apart (ap (λ (z : Person). z.places) e))
      ]
      | inr apart ↦ inr (λ e. apart (ap (λ (z : Person). z.traits.0) e))
    ]
    | inr apart ↦ inr (λ e. apart (ap (λ (z : Person). z.category) e))
  ]
  | inr apart ↦ inr (λ e. apart (ap (λ (z : Person). z.id.0) e))
]

pub is_among : (x : Person) (people : List Person) → IsAmong x people ⊎ (IsAmong x people → ⊥)
is_among x [] = inr (λ h. h)
is_among x (y ∷ people) = elim (same_person x y) [
  | inl e ↦ inl (inl e)
  | inr apart ↦ elim (is_among x people) [
    | inl later ↦ inl (inr later)
    | inr none ↦ inr (λ h. elim h [ inl e ↦ apart e | inr later ↦ none later ])
  ]
]
