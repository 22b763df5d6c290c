-- Numbers that rise with the old ones keep the order.
use Rattle.std.proofs.Common.{◌≡◌, ◌<◌, ◌≤◌, ◌-◌, inl, inr, ℕ, zero, suc, List, [], ◌∷◌, nat_lt, arith, refl, sym, ap, ◌∙◌}
use Rattle.std.specs.Prelude.{slice_index_or}
use Rattle.std.proofs.lemmas.Bool.{cases_eq, cases_lt, le-ltb, lt-ltb}
use Rattle.office_base.specs.Merit.{is_ahead}
use Rattle.office_base.specs.Person.{is_common_place, number_of}
use Rattle.office_base.specs.declared.person.Category.{Category}
use Rattle.office_base.specs.declared.person.CandId.{CandId}
use Rattle.office_base.specs.declared.person.Person.{Person}
use Rattle.office_base.specs.declared.person.Place.{Place}
use Rattle.office_base.specs.declared.person.Place.TheVariants.{Absent, Common, Relaxed}
use Rattle.office_base.specs.declared.person.TraitSet.{TraitSet}
use Rattle.published_rounds.specs.Numbers.{RisingNumbersKeepOrder, place_with, places_with}

-- ---- one number

module _ (number : ℕ → ℕ) (rises : (m n : ℕ) → m < n → number m < number n) where
  still_behind : (m n : ℕ) → n ≤ m → number n ≤ number m
  still_behind m n le = elim (cases_eq n m) [
    | inl same ↦ let e = ap number same in omega (arith, e)
    | inr apart ↦ let less = rises n m (omega (arith, le, apart)) in omega (arith, less)
  ]

  same_test : (m n : ℕ) → nat_lt (number m) (number n) ≡ nat_lt m n
  same_test m n = elim (cases_lt m n) [
    | inl less ↦ lt-ltb (number m) (number n) (rises m n less) ∙ sym (lt-ltb m n less)
    | inr past ↦ le-ltb (number m) (number n) (still_behind m n past) ∙ sym (le-ltb m n past)
  ]

  pub one_number : (m n : ℕ) → number m ≡ number n → m ≡ n
  one_number m n e = elim (cases_lt m n) [
    | inl less ↦ absurd (let more = rises m n less in omega (arith, more, e))
    | inr past ↦ elim (cases_lt n m) [ inl less ↦ absurd (let more = rises n m less in omega (arith, more, e)) | inr le ↦ omega (arith, past, le) ]
  ]

  same_common : (p : Place) → is_common_place (place_with number p) ≡ is_common_place p
  same_common Absent = refl
  same_common (Common n) = refl
  same_common (Relaxed n) = refl

  same_ahead : (p q : Place) → is_ahead (number_of (place_with number p)) (number_of (place_with number q)) ≡ is_ahead (number_of p) (number_of q)
  same_ahead (Common m) (Common n) = same_test m n
  same_ahead (Common m) (Relaxed n) = same_test m n
  same_ahead (Relaxed m) (Common n) = same_test m n
  same_ahead (Relaxed m) (Relaxed n) = same_test m n
  same_ahead p q = refl

  one_place : (p q : Place) → place_with number p ≡ place_with number q → p ≡ q
  one_place Absent Absent e = refl
  one_place (Common m) (Common n) e = let same : number m ≡ number n = cc in ap (λ k. Common k) (one_number m n same)
  one_place (Relaxed m) (Relaxed n) e = let same : number m ≡ number n = cc in ap (λ k. Relaxed k) (one_number m n same)
  one_place p q e = absurd (cc)

-- ---- all lists

pub place_there : (numbers : ℕ → ℕ → ℕ) (places : List Place) (i : ℕ) → slice_index_or (places_with numbers places) i Absent ≡ place_with (numbers i) (slice_index_or places i Absent)
place_there numbers [] i = refl
place_there numbers (p ∷ places) zero = refl
place_there numbers (p ∷ places) (suc i) = place_there (λ j. numbers (suc j)) places i

one_places : (numbers : ℕ → ℕ → ℕ) → ((list m n : ℕ) → m < n → numbers list m < numbers list n) → (ps qs : List Place) → places_with numbers ps ≡ places_with numbers qs → ps ≡ qs
one_places numbers rises [] [] e = refl
one_places numbers rises (p ∷ ps) (q ∷ qs) e =
    let first : place_with (numbers 0) p ≡ place_with (numbers 0) q = cc in
    let rest : places_with (λ i. numbers (suc i)) ps ≡ places_with (λ i. numbers (suc i)) qs = cc in
    ap (λ z. z ∷ ps) (one_place (numbers 0) (rises 0) p q first) ∙ ap (λ l. q ∷ l) (one_places (λ i. numbers (suc i)) (λ list. rises (suc list)) ps qs rest)
one_places numbers rises ps qs e = absurd (cc)

-- a person is what their parts are
pub one_of_parts : (a b : Person) → a.id ≡ b.id → a.category ≡ b.category → a.traits ≡ b.traits → a.places ≡ b.places → a ≡ b
one_of_parts a b id category traits places =
    ap (λ (x : CandId). record a { id = x }) id
    ∙ (ap (λ (x : Category). record a { id = b.id; category = x }) category
    ∙ (ap (λ (x : TraitSet). record a { id = b.id; category = b.category; traits = x }) traits
    ∙ ap (λ (x : List Place). record b { places = x }) places))

pub rising_numbers_keep_order : RisingNumbersKeepOrder
rising_numbers_keep_order numbers rises = record {
  id = λ a. refl;
  ids_apart = λ a b e. e;
  traits = λ a. refl;
  category = λ a. refl;
  common = λ list a.
      let i = list.0 - 1 in
      ap is_common_place (place_there numbers a.places i) ∙ same_common (numbers i) (rises i) (slice_index_or a.places i Absent);
  better = λ list a b.
      let i = list.0 - 1 in
      ap (λ p. is_ahead (number_of p) (number_of (slice_index_or (places_with numbers b.places) i Absent))) (place_there numbers a.places i)
      ∙ (ap (λ q. is_ahead (number_of (place_with (numbers i) (slice_index_or a.places i Absent))) (number_of q)) (place_there numbers b.places i)
      ∙ same_ahead (numbers i) (rises i) (slice_index_or a.places i Absent) (slice_index_or b.places i Absent));
  apart = λ a b e.
      one_of_parts a b (ap (λ (p : Person). p.id) e) (ap (λ (p : Person). p.category) e) (ap (λ (p : Person). p.traits) e)
      (one_places numbers rises a.places b.places (ap (λ (p : Person). p.places) e));
}
