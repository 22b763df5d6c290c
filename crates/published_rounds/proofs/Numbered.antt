-- A register with other numbers: its people, what stays of them, and that it is a register still.
use Rattle.std.proofs.Common.{◌≡◌, ◌≢◌, ◌-◌, ◌<◌, ℕ, suc, List, [], ◌∷◌, Option, Some, None, map, arith, refl, sym, ap, ◌∙◌, subst}
use Rattle.std.specs.Prelude.{IsSome, slice_get, slice_index_or, option_map}
use Rattle.std.proofs.lemmas.List.{length-map}
use Rattle.std.proofs.lemmas.Option.{slice_get_within}
use Rattle.office_base.proofs.Lists.{all_weaker, there_is}
use Rattle.office_base.specs.Person.{IsTraitSet, number_in, number_of}
use Rattle.office_base.specs.declared.person.CandId.{CandId}
use Rattle.office_base.specs.declared.person.ListId.{ListId}
use Rattle.office_base.specs.declared.person.Person.{Person}
use Rattle.office_base.specs.declared.person.TraitSet.{TraitSet}
use Rattle.office_base.specs.declared.person.Place.{Place}
use Rattle.office_base.specs.declared.person.Place.TheVariants.{Absent, Common, Relaxed}
use Rattle.office_base.specs.declared.person.ProgId.{ProgId}
use Rattle.seat_matrix.specs.Matrix.{SeatTable, list_in}
use Rattle.rounds.specs.Rule.{AreEntrants}
use Rattle.history_laws.proofs.Fits.{map_at}
use Rattle.published_rounds.specs.Numbers.{place_with, places_with, with_numbers}
use Rattle.published_rounds.specs.Order.{KeepsOrder}
use Rattle.published_rounds.specs.Registers.{without_numbers}
use Rattle.published_rounds.proofs.Choices.{all_map, pairwise_map}
use Rattle.published_rounds.proofs.Numbers.{one_number, one_of_parts, place_there, rising_numbers_keep_order}
use Rattle.published_rounds.proofs.Reach.{number_at}

-- ---- one person

number_with : (number : ℕ → ℕ) (p : Place) → number_of (place_with number p) ≡ option_map number (number_of p)
number_with number Absent = refl
number_with number (Common n) = refl
number_with number (Relaxed n) = refl

-- the other number in a list
pub number_is : (numbers : ℕ → ℕ → ℕ) (k : ℕ) (a : Person) → number_at k (with_numbers numbers a) ≡ option_map (numbers k) (number_at k a)
number_is numbers k a = ap number_of (place_there numbers a.places k) ∙ number_with (numbers k) (slice_index_or a.places k Absent)

one_place : (u v : ℕ → ℕ) (p q : Place) → place_with (λ n. 0) q ≡ place_with (λ n. 0) p → ((x y : ℕ) → number_of p ≡ Some x → number_of q ≡ Some y → u x ≡ v y)
    → place_with u p ≡ place_with v q
one_place u v Absent Absent e h = refl
one_place u v (Common m) (Common n) e h = ap (λ k. Common k) (h m n refl refl)
one_place u v (Relaxed m) (Relaxed n) e h = ap (λ k. Relaxed k) (h m n refl refl)
one_place u v p q e h = absurd (cc)

all_places : (u v : ℕ → ℕ → ℕ) (ps qs : List Place) → places_with (λ list n. 0) qs ≡ places_with (λ list n. 0) ps
    → ((k x y : ℕ) → number_of (slice_index_or ps k Absent) ≡ Some x → number_of (slice_index_or qs k Absent) ≡ Some y → u k x ≡ v k y) → places_with u ps ≡ places_with v qs
all_places u v [] [] e h = refl
all_places u v (p ∷ ps) (q ∷ qs) e h =
    let first : place_with (λ n. 0) q ≡ place_with (λ n. 0) p = cc in
    let rest : places_with (λ list n. 0) qs ≡ places_with (λ list n. 0) ps = cc in
    ap (λ z. z ∷ places_with (λ i. u (suc i)) ps) (one_place (u 0) (v 0) p q first (h 0))
    ∙ ap (λ l. place_with (v 0) q ∷ l) (all_places (λ i. u (suc i)) (λ i. v (suc i)) ps qs rest (λ k. h (suc k)))
all_places u v ps qs e h = absurd (cc)

-- two persons who are the same apart from the numbers are one with numbers that agree
pub one_person : (u v : ℕ → ℕ → ℕ) (a b : Person) → without_numbers b ≡ without_numbers a
    → ((k x y : ℕ) → number_at k a ≡ Some x → number_at k b ≡ Some y → u k x ≡ v k y) → with_numbers u a ≡ with_numbers v b
one_person u v a b same agree =
    one_of_parts (with_numbers u a) (with_numbers v b) (ap (λ (p : Person). p.id) (sym same)) (ap (λ (p : Person). p.category) (sym same)) (ap (λ (p : Person). p.traits) (sym same))
    (all_places u v a.places b.places (ap (λ (p : Person). p.places) same) agree)

-- ---- all people

-- what an element of a list was made of
pub map_back : {X Y : Type 0} (g : X → Y) (xs : List X) (i : ℕ) (y : Y) → slice_get (map g xs) i ≡ Some y → (x : X) × (slice_get xs i ≡ Some x) × (y ≡ g x)
map_back g xs i y at =
    let x = there_is xs i (omega (arith, slice_get_within (map g xs) i y at, length-map xs g)) in
    let there = map_at g xs i x.0 x.1 in
    (x.0, x.1, (let same : Some y ≡ Some (g x.0) = sym at ∙ there in cc))

-- People with other ids and numbers are a register, if ids and the numbers of a list stay apart.
pub entrants_by : (g : CandId → CandId) (f : Person → Person) → KeepsOrder g f → ((list : ListId) (a : Person) → IsSome (number_in list a) → IsSome (number_in list (f a)))
    → ((list : ListId) (n : ℕ) (a b : Person) → number_in list (f a) ≡ Some n → number_in list (f b) ≡ Some n → (x : ℕ) × (number_in list a ≡ Some x) × (number_in list b ≡ Some x))
    → (table : SeatTable) (people : List Person) (lists : List (List ProgId)) → AreEntrants table people lists → AreEntrants table (map f people) lists
entrants_by g f keeps placed one table people lists enter = record {
  traits = all_map f (λ (p : Person). IsTraitSet p.traits) (λ (p : Person). IsTraitSet p.traits) (λ a h. subst (λ (t : TraitSet). IsTraitSet t) (sym (keeps.traits a)) h) people enter.traits;
  distinct = pairwise_map f (λ (a : Person) (b : Person). a.id ≢ b.id) (λ (a : Person) (b : Person). a.id ≢ b.id)
      (λ a b apart e. apart (keeps.ids_apart a.id b.id (sym (keeps.id a) ∙ (e ∙ keeps.id b)))) people enter.distinct;
  apart = λ list i j n a b is at at' e e'.
      let p = map_back f people i a at in
      let q = map_back f people j b at' in
      let x = one list n p.0 q.0 (ap (λ (z : Person). number_in list z) (sym p.2) ∙ e) (ap (λ (z : Person). number_in list z) (sym q.2) ∙ e') in
      enter.apart list i j x.0 p.0 q.0 is p.1 q.1 x.1 x.2;
  full = enter.full ∙ sym (length-map people f);
  own = λ i person list at at'.
      let p = map_back f people i person at in
      let own = enter.own i p.0 list p.1 at' in
      record {
        below = own.below;
        distinct = own.distinct;
        placed = all_weaker (λ (prog : ProgId). IsSome (number_in (list_in table prog.0) p.0)) (λ (prog : ProgId). IsSome (number_in (list_in table prog.0) person))
            (λ prog some. subst (λ (z : Person). IsSome (number_in (list_in table prog.0) z)) (sym p.2) (placed (list_in table prog.0) p.0 some)) list own.placed;
      };
}

module _ (numbers : ℕ → ℕ → ℕ) (rises : (list m n : ℕ) → m < n → numbers list m < numbers list n) where
  some_stays : (k : ℕ) (o : Option ℕ) → IsSome o → IsSome (option_map (numbers k) o)
  some_stays k None h = absurd (cc)
  some_stays k (Some n) h = refl

  number_apart : (k n : ℕ) (m o : Option ℕ) → option_map (numbers k) m ≡ Some n → option_map (numbers k) o ≡ Some n → (x : ℕ) × (m ≡ Some x) × (o ≡ Some x)
  number_apart k n (Some x) (Some y) e e' = (x, refl, (let same : numbers k y ≡ numbers k x = cc in ap Some (one_number (numbers k) (rises k) y x same)))
  number_apart k n m o e e' = absurd (cc)

  -- a register with other numbers is one
  pub entrants_with : (table : SeatTable) (people : List Person) (lists : List (List ProgId)) → AreEntrants table people lists → AreEntrants table (map (with_numbers numbers) people) lists
  entrants_with = entrants_by (λ id. id) (with_numbers numbers) (rising_numbers_keep_order numbers rises)
      (λ list a some. subst (λ o. IsSome o) (sym (number_is numbers (list.0 - 1) a)) (some_stays (list.0 - 1) (number_at (list.0 - 1) a) some))
      (λ list n a b e e'.
      let k = list.0 - 1 in
      number_apart k n (number_at k a) (number_at k b) (sym (number_is numbers k a) ∙ e) (sym (number_is numbers k b) ∙ e'))
