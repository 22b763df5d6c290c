-- No list that a seeker submits in place of their own gives a better seat.
use Rattle.std.proofs.Common.{◌≡◌, ◌≢◌, ◌<◌, ◌≤◌, ◌+◌, inl, inr, ℕ, zero, suc, min, Bool, true, false, List, [], ◌∷◌, Option, Some, None, length, slice_set, take, arith, refl, sym, ap, ◌∙◌, subst, ◌==◌, if◌then◌else◌, length-set, length-take}
use Rattle.std.specs.Prelude.{slice_get}
use Rattle.std.specs.List.{AllByRecursion}
use Rattle.std.proofs.lemmas.Bool.{cases_lt, cases_eq, eq-eqb, eqb-true, lt-ltb, ltb-true}
use Rattle.std.proofs.lemmas.Option.{slice_get_within}
use Rattle.office_base.specs.Lists.{IsAmong, IsSublist, Pairwise}
use Rattle.office_base.specs.declared.seat.Seat.{Seat}
use Rattle.office_base.specs.declared.person.Person.{Person}
use Rattle.office_base.specs.declared.person.ProgId.{ProgId}
use Rattle.office_base.proofs.Lists.{get_set_other}
use Rattle.allocations.specs.Fair.{IsMarket, IsOwn, IsFair, IsBest}
use Rattle.allocations.specs.Market.{Seeker, place_of, rank_of, wants, applies, is_of, applicants, wanting}
use Rattle.allocations.specs.Compared.{TellsAnother, TruthIsBest, AllOfTheFrontIsBest}
use Rattle.allocations.specs.Rule.{Rule, ChoosesWell, AdmitsNoFewer}
use Rattle.allocations.proofs.Best.{best_there}
use Rattle.allocations.proofs.Claims.{applicants_may, outside_refused}
use Rattle.allocations.proofs.Course.{get_set_same}
use Rattle.allocations.proofs.Places.{applies_true, applies_means, holder_applies, place_read, rank_within}
use Rattle.allocations.proofs.Seated.{fair_alike}
use Rattle.allocations.proofs.Those.{those_has, those_sublist, value_at}

-- ---- the front of a list

front_step : (b : Bool) (a c n : ℕ) → a ≡ min c n → (if b then 0 else a + 1) ≡ min (if b then 0 else c + 1) (suc n)
front_step true a c n e = omega arith
front_step false a c n e = omega (arith, e)

-- a programme has the same place in the front of a list as in the list, or comes after the front
pub front_place : (n : ℕ) (list : List ProgId) (p : ℕ) → place_of (take n list) p ≡ min (place_of list p) n
front_place zero list p = omega arith
front_place (suc n) [] p = omega arith
front_place (suc n) (q ∷ list) p = front_step (q.0 == p) _ _ n (front_place n list p)

within_step : (b : Bool) (a n : ℕ) → a ≤ n → (if b then 0 else a + 1) ≤ suc n
within_step true a n h = omega arith
within_step false a n h = omega (arith, h)

place_within : (list : List ProgId) (p : ℕ) → place_of list p ≤ length list
place_within [] p = omega arith
place_within (q ∷ list) p = within_step (q.0 == p) _ _ (place_within list p)

-- what is in the front is in the list
record Front (n k : ℕ) (list : List ProgId) (q : ProgId) : Type 0 where
  pub at : slice_get list k ≡ Some q
  pub less : k < n

front_get : (n k : ℕ) (list : List ProgId) (q : ProgId) → slice_get (take n list) k ≡ Some q → Front n k list q
front_get zero k list q at = absurd (cc)
front_get (suc n) k [] q at = absurd (cc)
front_get (suc n) zero (x ∷ list) q at = record { at = at; less = omega arith }
front_get (suc n) (suc k) (x ∷ list) q at = let rest = front_get n k list q at in let less = rest.less in record { at = rest.at; less = omega (arith, less) }

pub front_distinct : (n : ℕ) (list : List ProgId) → ((k : ℕ) (q : ProgId) → slice_get list k ≡ Some q → place_of list q.0 ≡ k)
    → (k : ℕ) (q : ProgId) → slice_get (take n list) k ≡ Some q → place_of (take n list) q.0 ≡ k
front_distinct n list distinct k q at =
    let found = front_get n k list q at in
    let place = distinct k q found.at in
    let front = front_place n list q.0 in
    let less = found.less in
    omega (arith, place, front, less)

-- ---- a list of one programme

one_step : (b : Bool) → (if b then 0 else 0 + 1) < 1 → b ≡ true
one_step true less = refl
one_step false less = absurd (omega (arith, less))

pub alone_wants : (q : ProgId) (p : ℕ) → place_of (q ∷ []) p < 1 → q.0 ≡ p
alone_wants q p less = eqb-true q.0 p (one_step (q.0 == p) less)

alone_at : (b : Bool) → b ≡ true → (if b then 0 else 0 + 1) ≡ 0
alone_at true e = refl
alone_at false e = absurd (cc)

pub alone_place : (q : ProgId) → place_of (q ∷ []) q.0 ≡ 0
alone_place q = alone_at (q.0 == q.0) (eq-eqb q.0 q.0 refl)

pub alone_distinct : (x : ProgId) (k : ℕ) (q : ProgId) → slice_get (x ∷ []) k ≡ Some q → place_of (x ∷ []) q.0 ≡ k
alone_distinct x zero q at = let same : x ≡ q = cc in subst (λ (z : ProgId). place_of (x ∷ []) z.0 ≡ 0) same (alone_place x)
alone_distinct x (suc k) q at = absurd (cc)

-- ---- seekers of whom one submits another list

-- the seeker with another list
abbrev pub with_list : Seeker → List ProgId → Seeker
with_list s list = record { person = s.person; list = list }

tells_back : (i : ℕ) (seekers told : List Seeker) → TellsAnother i seekers told → TellsAnother i told seekers
tells_back i seekers told h = record {
  same = sym h.same;
  others = λ j apart. sym (h.others j apart);
  person = λ s t there there'. sym (h.person t s there' there);
}

tells_on : (i : ℕ) (seekers told again : List Seeker) → TellsAnother i seekers told → TellsAnother i told again → TellsAnother i seekers again
tells_on i seekers told again first second = record {
  same = second.same ∙ first.same;
  others = λ j apart. second.others j apart ∙ first.others j apart;
  person = λ s t there there'.
      let middle = value_at seekers told i s first.same there in
      first.person s middle.0 there middle.1 ∙ second.person middle.0 t middle.1 there';
}

set_tells : (i : ℕ) (seekers : List Seeker) (s : Seeker) (list : List ProgId) → slice_get seekers i ≡ Some s → TellsAnother i seekers (slice_set seekers i (with_list s list))
set_tells i seekers s list there = record {
  same = length-set seekers i (with_list s list);
  others = λ j apart. get_set_other seekers i j (with_list s list) apart;
  person = λ a b at at'.
      let here = get_set_same seekers i (with_list s list) s there in
      let first : a ≡ s = cc in
      let second : with_list s list ≡ b = cc in
      ap (λ (z : Seeker). z.person) first ∙ ap (λ (z : Seeker). z.person) second;
}

-- what holds of the one and what holds of all others holds at each place
at_each : (P : ℕ → Seeker → Seeker → Type 0) (i : ℕ) (seekers told : List Seeker) (s t : Seeker) → TellsAnother i seekers told → slice_get seekers i ≡ Some s → slice_get told i ≡ Some t
    → P i s t → ((j : ℕ) (a : Seeker) → slice_get seekers j ≡ Some a → P j a a) → (j : ℕ) (a b : Seeker) → slice_get seekers j ≡ Some a → slice_get told j ≡ Some b → P j a b
at_each P i seekers told s t tells there there' here others j a b at at' = elim (cases_eq j i) [
  | inl same ↦
      let at_i : slice_get seekers i ≡ Some a = subst (λ k. slice_get seekers k ≡ Some a) same at in
      let at_i' : slice_get told i ≡ Some b = subst (λ k. slice_get told k ≡ Some b) same at' in
      let first : s ≡ a = cc in
      let second : t ≡ b = cc in
      subst (λ k. P k a b) (sym same) (subst (λ z. P i a z) second (subst (λ z. P i z t) first here))
  | inr apart ↦
      let other = tells.others j apart in
      let same : a ≡ b = cc in
      subst (λ z. P j a z) same (others j a at)
]

-- ---- a market that is narrowed

-- The same persons seek, by lists of distinct programmes, each of which was in the list before.
pub record Narrows (seekers next : List Seeker) : Type 0 where
  pub same : length next ≡ length seekers
  pub persons : (j : ℕ) (s t : Seeker) → slice_get seekers j ≡ Some s → slice_get next j ≡ Some t → s.person ≡ t.person
  pub distinct : (j k : ℕ) (t : Seeker) (q : ProgId) → slice_get next j ≡ Some t → slice_get t.list k ≡ Some q → place_of t.list q.0 ≡ k
  pub narrowed : (p j : ℕ) (s t : Seeker) → slice_get seekers j ≡ Some s → slice_get next j ≡ Some t → place_of t.list p < length t.list → place_of s.list p < length s.list

same_ids : (seekers next : List Seeker) → length next ≡ length seekers → ((j : ℕ) (s t : Seeker) → slice_get seekers j ≡ Some s → slice_get next j ≡ Some t → s.person ≡ t.person)
    → Pairwise (λ (a b : Seeker). a.person.id ≢ b.person.id) seekers → Pairwise (λ (a b : Seeker). a.person.id ≢ b.person.id) next
same_ids [] [] full persons ids = tt
same_ids [] (t ∷ next) full persons ids = absurd (omega (arith, full))
same_ids (s ∷ seekers) [] full persons ids = tt
same_ids (s ∷ seekers) (t ∷ next) full persons ids =
    (all_apart seekers next (omega (arith, full)) (λ j. persons (suc j)) ids.0, same_ids seekers next (omega (arith, full)) (λ j. persons (suc j)) ids.1)
  where
    same : s.person ≡ t.person
    same = persons 0 s t refl refl

    all_apart : (ss ts : List Seeker) → length ts ≡ length ss → ((j : ℕ) (a b : Seeker) → slice_get ss j ≡ Some a → slice_get ts j ≡ Some b → a.person ≡ b.person)
        → AllByRecursion (λ (b : Seeker). s.person.id ≢ b.person.id) ss → AllByRecursion (λ (b : Seeker). t.person.id ≢ b.person.id) ts
    all_apart [] [] full each apart = tt
    all_apart [] (b ∷ ts) full each apart = absurd (omega (arith, full))
    all_apart (a ∷ ss) [] full each apart = tt
    all_apart (a ∷ ss) (b ∷ ts) full each apart = (
      λ e. apart.0 (ap (λ (z : Person). z.id) same ∙ (e ∙ ap (λ (z : Person). z.id) (sym (each 0 a b refl refl)))),
      all_apart ss ts (omega (arith, full)) (λ j. each (suc j)) apart.1,
    )

module _ (rule : Rule) (MayApply : ℕ → List Person → Type 0) (well : ChoosesWell rule MayApply) (count : ℕ) (seekers next : List Seeker) (market : IsMarket MayApply count seekers) where
  -- Those who narrow what they want are a market still.
  pub narrows_market : Narrows seekers next → IsMarket MayApply count next
  narrows_market narrows = record {
    ids = same_ids seekers next narrows.same narrows.persons market.ids;
    below = λ j k t q there' at.
        let s = value_at next seekers j t (sym narrows.same) there' in
        let place = narrows.distinct j k t q there' at in
        let less = slice_get_within t.list k q at in
        let wanted = narrows.narrowed q.0 j s.0 t s.1 there' (omega (arith, place, less)) in
        let read = place_read s.0.list q.0 wanted in
        subst (λ n. n < count) read.2 (market.below j (place_of s.0.list q.0) s.0 read.0 s.1 read.1);
    distinct = λ j k t q there' at. narrows.distinct j k t q there' at;
    may_apply = λ p below. well.part p (wanting p next) (wanting p seekers) (market.may_apply p below)
        (those_sublist (λ s other. wants p s.list) (λ s other. wants p s.list) next seekers next seekers (record {
          seekers = sym narrows.same;
          values = sym narrows.same;
          persons = λ j t s there' there. sym (narrows.persons j s t there there');
          passes = λ j t s x y there' there at' at h. lt-ltb _ _ (narrows.narrowed p j s t there there' (ltb-true _ _ h));
        }));
  }

  -- Where nobody applies to more, and each seat is one of the new list, a fair allocation is fair still.
  pub still_fair : (seats : List (Option Seat)) → length next ≡ length seekers
      → ((j : ℕ) (s t : Seeker) → slice_get seekers j ≡ Some s → slice_get next j ≡ Some t → s.person ≡ t.person)
      → ((j : ℕ) (s t : Seeker) → slice_get seekers j ≡ Some s → slice_get next j ≡ Some t → (seat : Option Seat) → slice_get seats j ≡ Some seat → IsOwn t.list seat)
      → ((j : ℕ) (s t : Seeker) → slice_get seekers j ≡ Some s → slice_get next j ≡ Some t → (p : ℕ) (seat : Option Seat) → slice_get seats j ≡ Some seat
      → applies p t.list seat ≡ true → applies p s.list seat ≡ true)
      → IsFair rule count seekers seats → IsFair rule count next seats
  still_fair seats same persons own narrow fair =
      let full : length seats ≡ length next = fair.allocation.full ∙ sym same in
      record {
        allocation = record {
          full = full;
          own = λ j t seat there' has. let s = value_at next seekers j t (sym same) there' in own j s.0 t s.1 there' seat has;
        };
        agrees = λ p j t kind below there'.
            let s = value_at next seekers j t (sym same) there' in
            let person = persons j s.0 t s.1 there' in
            let may = applicants_may rule MayApply count p seekers seats market well below fair.allocation.full in
            let chosen = well.without p (applicants p next seats) (applicants p seekers seats) may (fewer p)
            (outside_refused rule count p seekers seats (applicants p next seats) below fair (holds p)) t.person kind in
            let agreed = fair.agrees p j s.0 kind below s.1 in (
              λ admits. agreed.0 (subst (λ z. rule p (applicants p seekers seats) z kind) (sym person) (chosen.0 admits)),
              λ has. chosen.1 (subst (λ z. rule p (applicants p seekers seats) z kind) person (agreed.1 has)),
            );
      }
    where
      fewer : (p : ℕ) → IsSublist (applicants p next seats) (applicants p seekers seats)
      fewer p = those_sublist (λ s seat. applies p s.list seat) (λ s seat. applies p s.list seat) next seekers seats seats (record {
        seekers = sym same;
        values = refl;
        persons = λ j t s there' there. sym (persons j s t there there');
        passes = λ j t s x y there' there has has' h.
            let one : x ≡ y = cc in
            subst (λ z. applies p s.list z ≡ true) one (narrow j s t there there' p x has h);
      })

      holds : (p j : ℕ) (s : Seeker) (seat : Option Seat) → slice_get seekers j ≡ Some s → slice_get seats j ≡ Some seat → is_of p seat ≡ true → IsAmong s.person (applicants p next seats)
      holds p j s seat there has is_seat =
          let t = value_at seekers next j s same there in
          let applied = holder_applies p t.0.list seat (own j s t.0 there t.1 seat has) is_seat in
          subst (λ z. IsAmong z (applicants p next seats)) (sym (persons j s t.0 there t.1)) (those_has (λ s seat. applies p s.list seat) next seats j t.0 seat t.1 has applied)

-- one seeker submits another list, of distinct programmes of the list before
one_narrows : (MayApply : ℕ → List Person → Type 0) (count i : ℕ) (seekers next : List Seeker) (s t : Seeker) → IsMarket MayApply count seekers → TellsAnother i seekers next
    → slice_get seekers i ≡ Some s → slice_get next i ≡ Some t → ((k : ℕ) (q : ProgId) → slice_get t.list k ≡ Some q → place_of t.list q.0 ≡ k)
    → ((p : ℕ) → place_of t.list p < length t.list → place_of s.list p < length s.list) → Narrows seekers next
one_narrows MayApply count i seekers next s t market tells there there' distinct narrowed = record {
  same = tells.same;
  persons = at_each (λ j a b. a.person ≡ b.person) i seekers next s t tells there there' (tells.person s t there there') (λ j a at. refl);
  distinct = λ j k b q at'.
      let a = value_at next seekers j b (sym tells.same) at' in
      at_each (λ j a b. (k : ℕ) (q : ProgId) → slice_get b.list k ≡ Some q → place_of b.list q.0 ≡ k) i seekers next s t tells there there' distinct
      (λ j a at k q. market.distinct j k a q at) j a.0 b a.1 at' k q;
  narrowed = λ p j a b at at'.
      at_each (λ j a b. place_of b.list p < length b.list → place_of a.list p < length a.list) i seekers next s t tells there there' (narrowed p) (λ j a at h. h) j a b at at';
}

-- a fair allocation is fair still if one seeker submits another list that holds their seat, and by which that seeker
-- applies to no more
one_fair : (rule : Rule) (MayApply : ℕ → List Person → Type 0) (count i : ℕ) (seekers next : List Seeker) (seats : List (Option Seat)) (s t : Seeker) (seat : Option Seat)
    → ChoosesWell rule MayApply → IsMarket MayApply count seekers → TellsAnother i seekers next → slice_get seekers i ≡ Some s → slice_get next i ≡ Some t → slice_get seats i ≡ Some seat
    → IsOwn t.list seat → ((p : ℕ) → applies p t.list seat ≡ true → applies p s.list seat ≡ true) → IsFair rule count seekers seats → IsFair rule count next seats
one_fair rule MayApply count i seekers next seats s t seat well market tells there there' has own narrow fair =
    still_fair rule MayApply well count seekers next market seats tells.same
    (at_each (λ j a b. a.person ≡ b.person) i seekers next s t tells there there' (tells.person s t there there') (λ j a at. refl))
    (at_each (λ j a b. (x : Option Seat) → slice_get seats j ≡ Some x → IsOwn b.list x) i seekers next s t tells there there'
    (λ x at. let same : seat ≡ x = cc in subst (λ z. IsOwn t.list z) same own)
    (λ j a at x has'. fair.allocation.own j a x at has'))
    (at_each (λ j a b. (p : ℕ) (x : Option Seat) → slice_get seats j ≡ Some x → applies p b.list x ≡ true → applies p a.list x ≡ true) i seekers next s t tells there there'
    (λ p x at. let same : seat ≡ x = cc in subst (λ z. applies p t.list z ≡ true → applies p s.list z ≡ true) same (narrow p))
    (λ j a at p x has' h. h))
    fair

-- ---- no list is better than the seeker's own

module _ (rule : Rule) (MayApply : ℕ → List Person → Type 0) (well : ChoosesWell rule MayApply) (no_fewer : AdmitsNoFewer rule MayApply) (count i : ℕ) (seekers told : List Seeker)
    (seats others : List (Option Seat)) (s : Seeker) (seat : Option Seat) (x : Seat) (market : IsMarket MayApply count seekers) (market' : IsMarket MayApply count told)
    (tells : TellsAnother i seekers told) (best : IsBest rule count seekers seats) (fair : IsFair rule count told others) (there : slice_get seekers i ≡ Some s)
    (has : slice_get seats i ≡ Some seat) (has' : slice_get others i ≡ Some (Some x)) (better : place_of s.list x.prog.0 < rank_of s.list seat) where
  -- the seat is on the seeker's own list
  wanted : place_of s.list x.prog.0 < length s.list
  wanted = let short = rank_within s.list seat (best.fair.allocation.own i s seat there has) in omega (arith, short, better)

  -- the seekers when the one submits its programme alone, and when the one submits the front of their list that ends
  -- with it
  abbrev only : List ProgId
  only = x.prog ∷ []

  abbrev front : List ProgId
  front = take (place_of s.list x.prog.0 + 1) s.list

  abbrev alone : List Seeker
  alone = slice_set seekers i (with_list s only)

  abbrev fronted : List Seeker
  fronted = slice_set seekers i (with_list s front)

  alone_tells : TellsAnother i seekers alone
  alone_tells = set_tells i seekers s only there

  alone_there : slice_get alone i ≡ Some (with_list s only)
  alone_there = get_set_same seekers i (with_list s only) s there

  front_tells : TellsAnother i seekers fronted
  front_tells = set_tells i seekers s front there

  front_there : slice_get fronted i ≡ Some (with_list s front)
  front_there = get_set_same seekers i (with_list s front) s there

  front_at : (q : ℕ) → place_of front q ≡ min (place_of s.list q) (place_of s.list x.prog.0 + 1)
  front_at q = front_place (place_of s.list x.prog.0 + 1) s.list q

  front_length : length front ≡ place_of s.list x.prog.0 + 1
  front_length = let size = length-take (place_of s.list x.prog.0 + 1) s.list in let less = wanted in omega (arith, size, less)

  alone_market : IsMarket MayApply count alone
  alone_market =
      narrows_market rule MayApply well count seekers alone market
      (one_narrows MayApply count i seekers alone s (with_list s only) market alone_tells there alone_there (alone_distinct x.prog)
      (λ q less. let same = alone_wants x.prog q less in subst (λ n. place_of s.list n < length s.list) same wanted))

  front_market : IsMarket MayApply count fronted
  front_market =
      narrows_market rule MayApply well count seekers fronted market
      (one_narrows MayApply count i seekers fronted s (with_list s front) market front_tells there front_there
      (front_distinct (place_of s.list x.prog.0 + 1) s.list (λ k q at. market.distinct i k s q there at))
      (λ q less. let e = front_at q in let size = front_length in let ends = wanted in omega (arith, less, e, size, ends)))

  -- with its programme alone on the list the seat is had in a fair allocation still
  alone_fair : IsFair rule count alone others
  alone_fair =
      let t = value_at seekers told i s tells.same there in
      let own : place_of t.0.list x.prog.0 < length t.0.list = fair.allocation.own i t.0 (Some x) t.1 has' in
      one_fair rule MayApply count i told alone others t.0 (with_list s only) (Some x) well market' (tells_on i told seekers alone (tells_back i seekers told tells) alone_tells)
      t.1 alone_there has' (let place = alone_place x.prog in omega (arith, place))
      (λ q h.
      let a = applies_means q only (Some x) h in
      let same = alone_wants x.prog q a.wants in
      subst (λ n. applies n t.0.list (Some x) ≡ true) same (applies_true x.prog.0 t.0.list (Some x) own (omega arith)))
      fair

  -- a seat by the front of the list would be had in a fair allocation by the whole list, and be better than the best
  no_seat : (front_seats : List (Option Seat)) (y : Option Seat) → IsFair rule count fronted front_seats → slice_get front_seats i ≡ Some y → y ≡ None
  no_seat front_seats None fair' at = refl
  no_seat front_seats (Some y) fair' at = absurd (
      let own : place_of front y.prog.0 < length front = fair'.allocation.own i (with_list s front) (Some y) front_there at in
      let e = front_at y.prog.0 in
      let size = front_length in
      let ends = wanted in
      let whole = one_fair rule MayApply count i fronted seekers front_seats (with_list s front) s (Some y) well front_market (tells_back i seekers fronted front_tells)
      front_there there at (omega (arith, own, e, size, ends))
      (λ q h.
      let a = applies_means q s.list (Some y) h in
      let first = a.wants in
      let second : place_of s.list q ≤ place_of s.list y.prog.0 = a.within in
      let e' = front_at q in
      applies_true q front (Some y) (omega (arith, own, e, e', size, second)) (omega (arith, own, e, e', size, second)))
      fair' in
      let no_worse : rank_of s.list seat ≤ place_of s.list y.prog.0 = best.best front_seats whole i s seat (Some y) there has at in
      omega (arith, no_worse, better, own, e, size))

  -- a seeker who has no seat by the front of the list has none by the last programme of it alone
  none_fair : (front_seats : List (Option Seat)) → IsFair rule count fronted front_seats → slice_get front_seats i ≡ Some None → IsFair rule count alone front_seats
  none_fair front_seats fair' none =
      one_fair rule MayApply count i fronted alone front_seats (with_list s front) (with_list s only) None well front_market
      (tells_on i fronted seekers alone (tells_back i seekers fronted front_tells) alone_tells) front_there alone_there none tt
      (λ q h.
      let a = applies_means q only None h in
      let same = alone_wants x.prog q a.wants in
      let e = front_at x.prog.0 in
      let size = front_length in
      subst (λ n. applies n front None ≡ true) same (applies_true x.prog.0 front None (omega (arith, e, size)) (omega (arith, e, size))))
      fair'

  pub no_better : ⊥
  no_better =
      let first = best_there rule MayApply count fronted front_market well in
      let y = value_at fronted first.0 i (with_list s front) first.1.fair.allocation.full front_there in
      let none : slice_get first.0 i ≡ Some None = y.1 ∙ ap Some (no_seat first.0 y.0 first.1.fair y.1) in
      let alike = fair_alike rule MayApply well no_fewer count alone alone_market first.0 others (none_fair first.0 first.1.fair none) alone_fair in
      let none' = (alike.unseated i).0 none in
      cc

-- The seeker's own list gives the best seat.
pub truth_is_best : (rule : Rule) (MayApply : ℕ → List Person → Type 0) → ChoosesWell rule MayApply → AdmitsNoFewer rule MayApply → TruthIsBest rule MayApply
truth_is_best rule MayApply well no_fewer count i seekers told seats others s seat None market market' tells best fair there has has' =
    rank_within s.list seat (best.fair.allocation.own i s seat there has)
truth_is_best rule MayApply well no_fewer count i seekers told seats others s seat (Some x) market market' tells best fair there has has' =
    elim (cases_lt (place_of s.list x.prog.0) (rank_of s.list seat)) [
      | inl better ↦ absurd (no_better rule MayApply well no_fewer count i seekers told seats others s seat x market market' tells best fair there has has' better)
      | inr past ↦ past
    ]

-- Of the front of a list, all in their order give the best seat by the list.
pub all_of_the_front_is_best : (rule : Rule) (MayApply : ℕ → List Person → Type 0) → ChoosesWell rule MayApply → AdmitsNoFewer rule MayApply → AllOfTheFrontIsBest rule MayApply
all_of_the_front_is_best rule MayApply well no_fewer count i n seekers told seats others s t list seat other market market' tells best fair there there' front within has has' =
    let no_worse = truth_is_best rule MayApply well no_fewer count i seekers told seats others s seat other market market' tells best fair there has has' in
    by_place seat other (best.fair.allocation.own i s seat there has) (fair.allocation.own i t other there' has') no_worse
  where
    place : (q : ℕ) → place_of s.list q ≡ min (place_of list q) n
    place q = ap (λ l. place_of l q) front ∙ front_place n list q

    size : length s.list ≡ min n (length list)
    size = ap length front ∙ length-take n list

    by_place : (seat other : Option Seat) → IsOwn s.list seat → IsOwn t.list other → rank_of s.list seat ≤ rank_of s.list other → rank_of list seat ≤ rank_of list other
    by_place None None own own' less = omega arith
    by_place None (Some y) own own' less = absurd (let stands = within y.prog.0 own' in omega (arith, stands, less))
    by_place (Some x) None own own' less = place_within list x.prog.0
    by_place (Some x) (Some y) own own' less =
        let stands = within y.prog.0 own' in
        let first = place x.prog.0 in
        let second = place y.prog.0 in
        omega (arith, stands, first, second, size, own, less)
