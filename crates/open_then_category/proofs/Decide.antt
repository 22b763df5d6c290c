-- A person is one of the people or is not.
use Rattle.std.proofs.Common.{◌≡◌, ◌⊎◌, ℕ, true, List, [], ◌∷◌, refl, ap, ◌∙◌, subst, inl, inr}
use Rattle.std.proofs.lemmas.Bool.{both_ways, cases_Bool, cases_eq}
use Rattle.office_base.specs.Lists.{IsAmong}
use Rattle.office_base.specs.declared.person.Category.{Category}
use Rattle.office_base.specs.declared.person.Person.{Person}
use Rattle.office_base.specs.declared.person.Place.{Place}
use Rattle.office_base.specs.declared.person.Place.TheVariants.{Absent, Common, Relaxed}
use Rattle.programme_lists.specs.Programme.{is_same}
use Rattle.programme_lists.proofs.Categories.{same_itself}
use Rattle.programme_lists.proofs.Walk.{same_category}

-- a statement holds or does not
abbrev pub Decided : Type 0 → Type 0
Decided P = P ⊎ (P → ⊥)

-- the number of a place, where it has one
abbrev place_number : Place → ℕ
place_number Absent = 0
place_number (Common n) = n
place_number (Relaxed n) = n

-- two places are one or are not
one_place : (a b : Place) → Decided (a ≡ b)
one_place Absent Absent = inl refl
one_place Absent (Common n) = inr (λ e. cc e)
one_place Absent (Relaxed n) = inr (λ e. cc e)
one_place (Common m) Absent = inr (λ e. cc e)
one_place (Common m) (Common n) = elim (cases_eq m n) [ inl same ↦ inl (ap (λ (k : ℕ). Common k) same) | inr differs ↦ inr (λ e. differs (ap place_number e)) ]
one_place (Common m) (Relaxed n) = inr (λ e. cc e)
one_place (Relaxed m) Absent = inr (λ e. cc e)
one_place (Relaxed m) (Common n) = inr (λ e. cc e)
one_place (Relaxed m) (Relaxed n) = elim (cases_eq m n) [ inl same ↦ inl (ap (λ (k : ℕ). Relaxed k) same) | inr differs ↦ inr (λ e. differs (ap place_number e)) ]

-- the first place and the rest of some
abbrev head : List Place → Place
head [] = Absent
head (place ∷ places) = place

abbrev tail : List Place → List Place
tail [] = []
tail (place ∷ places) = places

one_places : (a b : List Place) → Decided (a ≡ b)
one_places [] [] = inl refl
one_places [] (place ∷ places) = inr (λ e. cc e)
one_places (place ∷ places) [] = inr (λ e. cc e)
one_places (a ∷ more) (b ∷ others) = elim (one_place a b) [
  | inl first ↦ elim (one_places more others) [
    | inl rest ↦ inl (ap (λ (place : Place). place ∷ more) first ∙ ap (λ (places : List Place). b ∷ places) rest)
    | inr differ ↦ inr (λ e. differ (ap tail e))
  ]
  | inr differs ↦ inr (λ e. differs (ap head e))
]

one_category : (a b : Category) → Decided (a ≡ b)
one_category a b = elim (cases_Bool (is_same a b)) [
  | inl holds ↦ inl (same_category a b holds)
  | inr fails ↦ inr (λ e. both_ways (is_same a b) fails (subst (λ (c : Category). is_same a c ≡ true) e (same_itself a)))
]

abbrev made_of : ℕ → Category → ℕ → List Place → Person
made_of id category traits places = record { id = record { 0 = id }; category = category; traits = record { 0 = traits }; places = places }

one_person_or_not : (a b : Person) → Decided (a ≡ b)
one_person_or_not a b = elim (cases_eq a.id.0 b.id.0) [
  | inr differs ↦ inr (λ e. differs (ap (λ (p : Person). p.id.0) e))
  | inl ids ↦ elim (one_category a.category b.category) [
    | inr differs ↦ inr (λ e. differs (ap (λ (p : Person). p.category) e))
    | inl categories ↦ elim (cases_eq a.traits.0 b.traits.0) [
      | inr differs ↦ inr (λ e. differs (ap (λ (p : Person). p.traits.0) e))
      | inl traits ↦ elim (one_places a.places b.places) [
        | inr differs ↦ inr (λ e. differs (ap (λ (p : Person). p.places) e))
        | inl places ↦ inl (
            ap (λ (n : ℕ). made_of n a.category a.traits.0 a.places) ids
            ∙ ap (λ (c : Category). made_of b.id.0 c a.traits.0 a.places) categories
            ∙ ap (λ (n : ℕ). made_of b.id.0 b.category n a.places) traits
            ∙ ap (λ (l : List Place). made_of b.id.0 b.category b.traits.0 l) places
            )
      ]
    ]
  ]
]

-- a person is one of the people or is not
pub is_among_or_not : (person : Person) (people : List Person) → Decided (IsAmong person people)
is_among_or_not person [] = inr (λ h. h)
is_among_or_not person (other ∷ people) = elim (one_person_or_not person other) [
  | inl same ↦ inl (inl same)
  | inr differs ↦ elim (is_among_or_not person people) [
    | inl later ↦ inl (inr later)
    | inr gone ↦ inr (λ h. elim h [ inl here ↦ differs here | inr there ↦ gone there ])
  ]
]
