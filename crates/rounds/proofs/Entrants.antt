-- Those who enter a round are a market, in which all who want a programme may apply to it together.
use Rattle.std.proofs.Common.{◌≡◌, ◌≢◌, ◌<◌, ◌+◌, inl, inr, ℕ, zero, suc, Bool, true, false, List, [], ◌∷◌, Some, length, arith, refl, sym, ap, ◌∙◌, subst, ◌==◌, if◌then◌else◌}
use Rattle.std.specs.Prelude.{slice_get, IsSome}
use Rattle.std.specs.List.{AllByRecursion}
use Rattle.std.proofs.lemmas.Bool.{cases_Bool, eq-eqb, eqb-true, ltb-true}
use Rattle.office_base.proofs.Lists.{all-get}
use Rattle.office_base.specs.Lists.{IsSublist, Pairwise}
use Rattle.office_base.specs.Merit.{CanBeRanked}
use Rattle.office_base.specs.Person.{IsList, IsTraitSet, number_in}
use Rattle.office_base.specs.declared.person.Person.{Person}
use Rattle.office_base.specs.declared.person.ProgId.{ProgId}
use Rattle.office_base.proofs.Options.{some_value}
use Rattle.placements.proofs.Sublists.{AllByRecursion-sublist}
use Rattle.placements.proofs.Ranks.{pairwise_sublist}
use Rattle.allocations.specs.Fair.{IsMarket}
use Rattle.allocations.specs.Market.{Seeker, place_of, wants, those, wanting}
use Rattle.allocations.proofs.Places.{place_read}
use Rattle.seat_matrix.specs.Matrix.{AreSeats, SeatTable, list_in}
use Rattle.seeks.specs.Seek.{is_left, left_from, seek_leaves}
use Rattle.seeks.specs.declared.seek.Seek.{Seek}
use Rattle.rounds.specs.Rule.{AreEntrants, IsOwnList, MayApplyIn, seekers_of}

-- ---- what a seek leaves

sublist_when : {X : Type 0} (b : Bool) (x : X) (xs ys : List X) → IsSublist xs ys → IsSublist (if b then x ∷ xs else xs) (x ∷ ys)
sublist_when true x xs ys h = inr (xs, refl, h)
sublist_when false x xs ys h = inl h

left_sublist : (table : SeatTable) (seek : Seek) (progs : List ProgId) (place : ℕ) (rest : List ProgId) → IsSublist (left_from table seek progs place rest) rest
left_sublist table seek progs place [] = refl
left_sublist table seek progs place (prog ∷ rest) = sublist_when (is_left table seek progs place prog) prog _ _ (left_sublist table seek progs (place + 1) rest)

-- a seek leaves a part of the list, in its order
pub leaves_sublist : (table : SeatTable) (seek : Seek) (progs : List ProgId) → IsSublist (seek_leaves table seek progs) progs
leaves_sublist table seek progs = left_sublist table seek progs 0 progs

pub leaves_own : (table : SeatTable) (seek : Seek) (person : Person) (progs : List ProgId) → IsOwnList table person progs → IsOwnList table person (seek_leaves table seek progs)
leaves_own table seek person progs own = record {
  below = AllByRecursion-sublist _ _ _ (leaves_sublist table seek progs) own.below;
  distinct = pairwise_sublist _ _ _ (leaves_sublist table seek progs) own.distinct;
  placed = AllByRecursion-sublist _ _ _ (leaves_sublist table seek progs) own.placed;
}

-- ---- places

place_next : (b : Bool) (k n : ℕ) → b ≡ false → n ≡ k → (if b then 0 else n + 1) ≡ suc k
place_next true k n e same = absurd (cc)
place_next false k n e same = omega (arith, same)

place_first : (b : Bool) (n : ℕ) → b ≡ true → (if b then 0 else n + 1) ≡ 0
place_first true n e = refl
place_first false n e = absurd (cc)

-- a programme of a list of distinct ones is at its place
pub place_at : (list : List ProgId) (k : ℕ) (q : ProgId) → Pairwise (λ (a b : ProgId). a.0 ≢ b.0) list → slice_get list k ≡ Some q → place_of list q.0 ≡ k
place_at [] k q distinct at = absurd (cc)
place_at (x ∷ list) zero q distinct at = place_first (x.0 == q.0) (place_of list q.0) (let same : x ≡ q = cc in eq-eqb x.0 q.0 (ap (λ (z : ProgId). z.0) same))
place_at (x ∷ list) (suc k) q distinct at =
    let apart = all-get (λ (b : ProgId). x.0 ≢ b.0) list k q distinct.0 at in
    let other : (x.0 == q.0) ≡ false = elim (cases_Bool (x.0 == q.0)) [ inl e ↦ absurd (apart (eqb-true x.0 q.0 e)) | inr e ↦ e ] in
    place_next (x.0 == q.0) k (place_of list q.0) other (place_at list k q distinct.1 at)

-- ---- seekers

-- a seeker is a person with what the seek leaves of the list
pub record Entered (table : SeatTable) (people : List Person) (lists : List (List ProgId)) (seeks : List Seek) (i : ℕ) (s : Seeker) : Type 0 where
  pub list : List ProgId
  pub seek : Seek
  pub person_at : slice_get people i ≡ Some s.person
  pub list_at : slice_get lists i ≡ Some list
  pub seek_at : slice_get seeks i ≡ Some seek
  pub leaves : s.list ≡ seek_leaves table seek list

pub entered : (table : SeatTable) (people : List Person) (lists : List (List ProgId)) (seeks : List Seek) (i : ℕ) (s : Seeker) → slice_get (seekers_of table people lists seeks) i ≡ Some s
    → Entered table people lists seeks i s
entered table [] lists seeks i s at = absurd (cc)
entered table (person ∷ people) [] seeks i s at = absurd (cc)
entered table (person ∷ people) (list ∷ lists) [] i s at = absurd (cc)
entered table (person ∷ people) (list ∷ lists) (seek ∷ seeks) zero s at =
    let made : Seeker = record { person = person; list = seek_leaves table seek list } in
    let same : made ≡ s = cc in
    record {
      list = list;
      seek = seek;
      person_at = ap (λ (z : Seeker). Some z.person) same;
      list_at = refl;
      seek_at = refl;
      leaves = ap (λ (z : Seeker). z.list) (sym same);
    }
entered table (person ∷ people) (list ∷ lists) (seek ∷ seeks) (suc i) s at =
    let rest = entered table people lists seeks i s at in
    record { list = rest.list; seek = rest.seek; person_at = rest.person_at; list_at = rest.list_at; seek_at = rest.seek_at; leaves = rest.leaves }

pub length_seekers : (table : SeatTable) (people : List Person) (lists : List (List ProgId)) (seeks : List Seek) → length lists ≡ length people → length seeks ≡ length lists
    → length (seekers_of table people lists seeks) ≡ length people
length_seekers table [] lists seeks first second = refl
length_seekers table (person ∷ people) [] seeks first second = absurd (omega (arith, first))
length_seekers table (person ∷ people) (list ∷ lists) [] first second = absurd (omega (arith, second))
length_seekers table (person ∷ people) (list ∷ lists) (seek ∷ seeks) first second = ap suc (length_seekers table people lists seeks (omega (arith, first)) (omega (arith, second)))

all_seekers : (P : Person → Type 0) (table : SeatTable) (people : List Person) (lists : List (List ProgId)) (seeks : List Seek) → AllByRecursion P people
    → AllByRecursion (λ (s : Seeker). P s.person) (seekers_of table people lists seeks)
all_seekers P table [] lists seeks all = tt
all_seekers P table (person ∷ people) [] seeks all = tt
all_seekers P table (person ∷ people) (list ∷ lists) [] all = tt
all_seekers P table (person ∷ people) (list ∷ lists) (seek ∷ seeks) all = (all.0, all_seekers P table people lists seeks all.1)

distinct_seekers : (table : SeatTable) (people : List Person) (lists : List (List ProgId)) (seeks : List Seek) → Pairwise (λ (a b : Person). a.id ≢ b.id) people
    → Pairwise (λ (a b : Seeker). a.person.id ≢ b.person.id) (seekers_of table people lists seeks)
distinct_seekers table [] lists seeks distinct = tt
distinct_seekers table (person ∷ people) [] seeks distinct = tt
distinct_seekers table (person ∷ people) (list ∷ lists) [] distinct = tt
distinct_seekers table (person ∷ people) (list ∷ lists) (seek ∷ seeks) distinct =
    (all_seekers (λ other. person.id ≢ other.id) table people lists seeks distinct.0, distinct_seekers table people lists seeks distinct.1)

-- ---- those who pass a test

pub all_when : (P : Person → Type 0) (b : Bool) (x : Person) (xs : List Person) → (b ≡ true → P x) → AllByRecursion P xs → AllByRecursion P (if b then x ∷ xs else xs)
all_when P true x xs here rest = (here refl, rest)
all_when P false x xs here rest = rest

all_those : {X : Type 0} (P : Person → Type 0) (f : Seeker → X → Bool) (ss : List Seeker) (xs : List X)
    → ((i : ℕ) (s : Seeker) (x : X) → slice_get ss i ≡ Some s → slice_get xs i ≡ Some x → f s x ≡ true → P s.person) → AllByRecursion P (those f ss xs)
all_those P f [] xs h = tt
all_those P f (s ∷ ss) [] h = tt
all_those P f (s ∷ ss) (x ∷ xs) h = all_when P (f s x) s.person _ (h 0 s x refl refl) (all_those P f ss xs (λ i. h (suc i)))

pairwise_when : (R : Person → Person → Type 0) (b : Bool) (x : Person) (xs : List Person) → (b ≡ true → AllByRecursion (R x) xs) → Pairwise R xs → Pairwise R (if b then x ∷ xs else xs)
pairwise_when R true x xs here rest = (here refl, rest)
pairwise_when R false x xs here rest = rest

pairwise_those : {X : Type 0} (R : Person → Person → Type 0) (f : Seeker → X → Bool) (ss : List Seeker) (xs : List X)
    → ((i j : ℕ) (s t : Seeker) (x y : X) → i < j → slice_get ss i ≡ Some s → slice_get ss j ≡ Some t → slice_get xs i ≡ Some x → slice_get xs j ≡ Some y
    → f s x ≡ true → f t y ≡ true → R s.person t.person)
    → Pairwise R (those f ss xs)
pairwise_those R f [] xs h = tt
pairwise_those R f (s ∷ ss) [] h = tt
pairwise_those R f (s ∷ ss) (x ∷ xs) h =
    pairwise_when R (f s x) s.person _ (λ passes. all_those (R s.person) f ss xs (λ j t y there at passes'. h 0 (suc j) s t x y (omega arith) refl there refl at passes passes'))
    (pairwise_those R f ss xs (λ i j s' t y z less. h (suc i) (suc j) s' t y z (omega (arith, less))))

-- ---- the market

placed_there : (table : SeatTable) (people : List Person) (lists : List (List ProgId)) (seeks : List Seek) (p i : ℕ) (s : Seeker) → AreEntrants table people lists
    → slice_get (seekers_of table people lists seeks) i ≡ Some s → place_of s.list p < length s.list → IsSome (number_in (list_in table p) s.person)
placed_there table people lists seeks p i s entrants there less =
    let e = entered table people lists seeks i s there in
    let own = leaves_own table e.seek s.person e.list (entrants.own i s.person e.list e.person_at e.list_at) in
    let less' : place_of (seek_leaves table e.seek e.list) p < length (seek_leaves table e.seek e.list) = subst (λ l. place_of l p < length l) e.leaves less in
    let read = place_read (seek_leaves table e.seek e.list) p less' in
    let placed = all-get (λ (prog : ProgId). IsSome (number_in (list_in table prog.0) s.person)) _ _ read.0 own.placed read.1 in
    subst (λ q. IsSome (number_in (list_in table q) s.person)) read.2 placed

-- all who want a programme may apply to it together
wanting_may : (table : SeatTable) (people : List Person) (lists : List (List ProgId)) (seeks : List Seek) (p : ℕ) → IsList (list_in table p) → AreEntrants table people lists
    → CanBeRanked (list_in table p) (wanting p (seekers_of table people lists seeks))
wanting_may table people lists seeks p is_list entrants =
    let seekers = seekers_of table people lists seeks in
    record {
      traits = all_those (λ person. IsTraitSet person.traits) (λ s other. wants p s.list) seekers seekers
          (λ i s x there at passes. let e = entered table people lists seeks i s there in all-get (λ (person : Person). IsTraitSet person.traits) people i s.person entrants.traits e.person_at);
      placed = all_those (λ person. IsSome (number_in (list_in table p) person)) (λ s other. wants p s.list) seekers seekers
          (λ i s x there at passes. placed_there table people lists seeks p i s entrants there (ltb-true _ _ passes));
      numbers = pairwise_those (λ a b. number_in (list_in table p) a ≢ number_in (list_in table p) b) (λ s other. wants p s.list) seekers seekers
          (λ i j s t x y less there there' at at' passes passes' same.
          let first = entered table people lists seeks i s there in
          let second = entered table people lists seeks j t there' in
          let n = some_value _ (placed_there table people lists seeks p i s entrants there (ltb-true _ _ passes)) in
          let one = entrants.apart (list_in table p) i j n.0 s.person t.person is_list first.person_at second.person_at n.1 (sym same ∙ n.1) in
          omega (arith, one, less));
      distinct = pairwise_those (λ a b. a.id ≢ b.id) (λ s other. wants p s.list) seekers seekers
          (λ i j s t x y less there there' at at' passes passes'. apart_at seekers i j s t (distinct_seekers table people lists seeks entrants.distinct) less there there');
    }
  where
    apart_at : (ss : List Seeker) (i j : ℕ) (s t : Seeker) → Pairwise (λ (a b : Seeker). a.person.id ≢ b.person.id) ss → i < j → slice_get ss i ≡ Some s → slice_get ss j ≡ Some t
        → s.person.id ≢ t.person.id
    apart_at [] i j s t distinct less there there' = absurd (cc)
    apart_at (x ∷ ss) i zero s t distinct less there there' = absurd (omega (arith, less))
    apart_at (x ∷ ss) zero (suc j) s t distinct less there there' =
        let first : x ≡ s = cc in
        let apart = all-get (λ (b : Seeker). x.person.id ≢ b.person.id) ss j t distinct.0 there' in
        λ e. apart (ap (λ (z : Seeker). z.person.id) first ∙ e)
    apart_at (x ∷ ss) (suc i) (suc j) s t distinct less there there' = apart_at ss i j s t distinct.1 (omega (arith, less)) there there'

-- Those who enter a round are a market.
pub market : (table : SeatTable) (people : List Person) (lists : List (List ProgId)) (seeks : List Seek) → AreSeats table → AreEntrants table people lists
    → IsMarket (MayApplyIn table) (length table.programmes) (seekers_of table people lists seeks)
market table people lists seeks seats entrants = record {
  ids = distinct_seekers table people lists seeks entrants.distinct;
  below = λ i k s q there at.
      let e = entered table people lists seeks i s there in
      let own = leaves_own table e.seek s.person e.list (entrants.own i s.person e.list e.person_at e.list_at) in
      all-get (λ (prog : ProgId). prog.0 < length table.programmes) _ k q own.below (subst (λ l. slice_get l k ≡ Some q) e.leaves at);
  distinct = λ i k s q there at.
      let e = entered table people lists seeks i s there in
      let own = leaves_own table e.seek s.person e.list (entrants.own i s.person e.list e.person_at e.list_at) in
      let found = place_at (seek_leaves table e.seek e.list) k q own.distinct (subst (λ l. slice_get l k ≡ Some q) e.leaves at) in
      subst (λ l. place_of l q.0 ≡ k) (sym e.leaves) found;
  may_apply = λ p below. wanting_may table people lists seeks p (seats.sound p below).list entrants;
}
