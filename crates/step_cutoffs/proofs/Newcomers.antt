-- There is a newcomer with any traits: someone with a number and a place behind all others.
use Rattle.std.proofs.Common.{◌≡◌, ◌≢◌, ◌∙◌, ℕ, zero, suc, ◌≤◌, ◌<◌, ◌+◌, ◌-◌, List, [], ◌∷◌, Option, Some, None, arith, refl, sym, ap}
use Rattle.std.specs.Prelude.{slice_index_or}
use Rattle.std.specs.List.{AllByRecursion}
use Rattle.office_base.specs.Merit.{IsNewTo}
use Rattle.office_base.specs.Person.{IsList, IsTraitSet, number_in, number_of}
use Rattle.office_base.specs.declared.person.CandId.{CandId}
use Rattle.office_base.specs.declared.person.Category.TheVariants.{Gen}
use Rattle.office_base.specs.declared.person.ListId.{ListId}
use Rattle.office_base.specs.declared.person.Person.{Person}
use Rattle.office_base.specs.declared.person.Place.{Place}
use Rattle.office_base.specs.declared.person.Place.TheVariants.{Absent, Common}
use Rattle.office_base.specs.declared.person.TraitSet.{TraitSet}
use Rattle.office_base.proofs.Lists.{all_weaker}
use Rattle.office_base.proofs.Options.{is_some_from}

-- a number above those of all people
above : (of : Person → ℕ) (people : List Person) → (bound : ℕ) × AllByRecursion (λ other. of other < bound) people
above of [] = (0, tt)
above of (person ∷ people) =
    let rest = above of people in (
      suc (of person) + rest.0,
      (omega arith, all_weaker (λ other. of other < rest.0) (λ other. of other < suc (of person) + rest.0) (λ other less. omega (arith, less)) people rest.1),
    )

-- the place as a number
abbrev placed_at : Option ℕ → ℕ
placed_at None = 0
placed_at (Some n) = n

-- one place in each of the lists
abbrev places : ℕ → List Place
places n = Common n ∷ Common n ∷ Common n ∷ Common n ∷ []

place_there : (n at : ℕ) → 1 ≤ at → at ≤ 4 → number_of (slice_index_or (places n) (at - 1) Absent) ≡ Some n
place_there n zero low high = absurd (omega (arith, low))
place_there n (suc zero) low high = refl
place_there n (suc (suc zero)) low high = refl
place_there n (suc (suc (suc zero))) low high = refl
place_there n (suc (suc (suc (suc zero)))) low high = refl
place_there n (suc (suc (suc (suc (suc at))))) low high = absurd (omega (arith, high))

abbrev with_traits : TraitSet → ℕ → ℕ → Person
with_traits traits id place = record { id = record { 0 = id }; category = Gen; traits = traits; places = places place }

-- someone with these traits at a place that nobody has
pub newcomer_at : (list : ListId) (people : List Person) (traits : TraitSet) (place : ℕ) → IsList list → IsTraitSet traits → AllByRecursion (λ other. Some place ≢ number_in list other) people
    → (person : Person) × IsNewTo list people person × (person.traits ≡ traits) × (number_in list person ≡ Some place)
newcomer_at list people traits place is_list small free =
    let ids = above (λ (p : Person). p.id.0) people in
    let person = with_traits traits ids.0 place in
    let there : number_in list person ≡ Some place = place_there place list.0 is_list.0 is_list.1 in (
      person,
      record {
        traits = small;
        placed = is_some_from (number_in list person) place there;
        distinct = all_weaker (λ (other : Person). other.id.0 < ids.0) (λ other. person.id ≢ other.id) (λ other less same. let e : ids.0 ≡ other.id.0 = ap (λ (c : CandId). c.0) same in omega (arith, less, e)) people ids.1;
        numbers = all_weaker (λ other. Some place ≢ number_in list other) (λ other. number_in list person ≢ number_in list other) (λ other apart same. apart (sym there ∙ same)) people free;
      },
      refl,
      there,
    )

-- or behind all others
pub newcomer : (list : ListId) (people : List Person) (traits : TraitSet) → IsList list → IsTraitSet traits → (person : Person) × IsNewTo list people person × (person.traits ≡ traits)
newcomer list people traits is_list small =
    let numbers = above (λ p. placed_at (number_in list p)) people in
    let one = newcomer_at list people traits numbers.0 is_list small
    (all_weaker (λ other. placed_at (number_in list other) < numbers.0) (λ other. Some numbers.0 ≢ number_in list other)
    (λ other less same. let e : numbers.0 ≡ placed_at (number_in list other) = ap placed_at same in omega (arith, less, e)) people numbers.1) in
    (one.0, one.1, one.2)
