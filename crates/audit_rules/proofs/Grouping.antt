-- Who applies to a programme, by places in the register.
use Rattle.std.proofs.Common.{◌≡◌, ◌<◌, ◌≤◌, ◌+◌, ◌⊎◌, inl, inr, ℕ, zero, suc, add-one, Bool, true, false, List, [], ◌∷◌, ◌++◌, Option, Some, None, length, take, get_or, slice_set, arith, refl, sym, ap, ◌∙◌, nat_lt, if◌then◌else◌, append-nil}
use Rattle.std.specs.Prelude.{replicate, slice_get}
use Rattle.std.proofs.lemmas.Bool.{cases_eq, eq-eqb, eqb-true}
use Rattle.std.proofs.lemmas.Bool.Decides.{nat_tests}
use Rattle.std.proofs.lemmas.List.{length-set, take_all, take_more, length-take-le}
use Rattle.std.proofs.lemmas.Option.{get_or_from_slice_get, same_Some, slice_get_within}
use Rattle.office_base.specs.declared.seat.Seat.{Seat}
use Rattle.office_base.specs.declared.person.Person.{Person}
use Rattle.office_base.specs.declared.person.ProgId.{ProgId}
use Rattle.office_base.proofs.Lists.{get_set_here, get_set_other}
use Rattle.allocations.proofs.Places.{place_read}
use Rattle.allocations.specs.Market.{Seeker, applies, is_of, place_of, rank_of, those}
use Rattle.audit_rules.specs.Groups.{AreGroups, picked, places_from, with_one}

-- ---- one candidate

-- the programme is among the first `i` of the list
abbrev early : List ProgId → ℕ → ℕ → Bool
early list p i = nat_lt (place_of list p) i

abbrev here_if : Bool → ℕ → List ℕ
here_if b at = if b then at ∷ [] else []

-- The place was put into the groups of the first programmes; none of these is the seat's.
pub record Applying (old new : List (List ℕ)) (sought : List ProgId) (seat : Option Seat) (at i : ℕ) : Type 0 where
  pub full : length new ≡ length old
  pub each : (p : ℕ) (group : List ℕ) → slice_get old p ≡ Some group → slice_get new p ≡ Some (group ++ here_if (early sought p i) at)
  pub later : i ≤ rank_of sought seat

same_early : (list : List ProgId) (p i : ℕ) → (place_of list p ≡ i → ⊥) → early list p i ≡ early list p (i + 1)
same_early list p i other = grind (arith, nat_tests)

was_not : (list : List ProgId) (p i : ℕ) → place_of list p ≡ i → early list p i ≡ false
was_not list p i e = grind (arith, nat_tests)

is_now : (list : List ProgId) (p i : ℕ) → place_of list p ≡ i → early list p (i + 1) ≡ true
is_now list p i e = grind (arith, nat_tests)

not_place : (list : List ProgId) (p i : ℕ) (prog : ProgId) → slice_get list i ≡ Some prog → (p ≡ prog.0 → ⊥) → place_of list p ≡ i → ⊥
not_place list p i prog there other e =
    let less = slice_get_within list i prog there in
    let read = place_read list p (omega (arith, e, less)) in
    let same : read.0 ≡ prog = same_Some read.0 prog (sym read.1 ∙ (ap (slice_get list) e ∙ there)) in
    other (sym read.2 ∙ ap (λ (q : ProgId). q.0) same)

-- the groups with the next programme's
pub record IsPut (old new : List (List ℕ)) (p at : ℕ) : Type 0 where
  pub full : length new ≡ length old
  pub here : (group : List ℕ) → slice_get old p ≡ Some group → slice_get new p ≡ Some (group ++ at ∷ [])
  pub elsewhere : (q : ℕ) → (q ≡ p → ⊥) → slice_get new q ≡ slice_get old q

pub put_is : (old : List (List ℕ)) (i p at : ℕ) (value d : List ℕ) → i ≡ p → p < length old → value ≡ get_or old i d ++ at ∷ [] → IsPut old (slice_set old i value) p at
put_is old i p at value d same less made = record {
  full = length-set old i value;
  here = λ group there.
      let mine : get_or old i d ≡ group = get_or_from_slice_get old i group d (ap (slice_get old) same ∙ there) in
      ap (slice_get (slice_set old i value)) (sym same) ∙ (get_set_here old i value (omega (arith, same, less)) ∙ ap Some (made ∙ ap (λ (z : List ℕ). z ++ at ∷ []) mine));
  elsewhere = λ q other. get_set_other old i q value (λ e. other (e ∙ same));
}

put_more : (first old new : List (List ℕ)) (sought : List ProgId) (seat : Option Seat) (at i : ℕ) (prog : ProgId) → Applying first old sought seat at i → slice_get sought i ≡ Some prog
    → place_of sought prog.0 ≡ i → IsPut old new prog.0 at
    → (p : ℕ) (group : List ℕ) → slice_get first p ≡ Some group → slice_get new p ≡ Some (group ++ here_if (early sought p (i + 1)) at)
put_more first old new sought seat at i prog a there place put p group known = elim (cases_eq p prog.0) [
  | inl same ↦
      let place' : place_of sought p ≡ i = ap (place_of sought) same ∙ place in
      let before : slice_get old p ≡ Some group =
      a.each p group known ∙ ap Some (ap (λ (b : Bool). group ++ here_if b at) (was_not sought p i place') ∙ append-nil group) in
      ap (slice_get new) same ∙ (put.here group (ap (slice_get old) (sym same) ∙ before) ∙ ap (λ (b : Bool). Some (group ++ here_if b at)) (sym (is_now sought p i place')))
  | inr other ↦
      put.elsewhere p other ∙ (a.each p group known ∙ ap (λ (b : Bool). Some (group ++ here_if b at)) (same_early sought p i (not_place sought p i prog there other)))
]

-- ---- when all are put

-- up to the seat
applies_seat : (list : List ProgId) (seat : Option Seat) (p i : ℕ) → i < length list → rank_of list seat ≡ i → applies p list seat ≡ early list p (i + 1)
applies_seat list seat p i less rank = grind (arith, nat_tests)

seat_rank : (list : List ProgId) (seat : Option Seat) (p : ℕ) → is_of p seat ≡ true → rank_of list seat ≡ place_of list p
seat_rank list None p e = absurd (cc)
seat_rank list (Some seat) p e = ap (place_of list) (eqb-true seat.prog.0 p e)

-- a seat of another programme is later in the list, or not in it
later_rank : (list : List ProgId) (seat : Option Seat) (i : ℕ) (prog : ProgId) → slice_get list i ≡ Some prog → i ≤ rank_of list seat → is_of prog.0 seat ≡ false → i + 1 ≤ rank_of list seat
later_rank list None i prog there late e = let less = slice_get_within list i prog there in omega (arith, less)
later_rank list (Some seat) i prog there late e =
    let other : (place_of list seat.prog.0 ≡ i → ⊥) = not_place list seat.prog.0 i prog there (λ same. let wrong = eq-eqb seat.prog.0 prog.0 same in absurd (cc)) in
    by (cases_eq (place_of list seat.prog.0) i) other
  where
    by : ((place_of list seat.prog.0 ≡ i) ⊎ (place_of list seat.prog.0 ≡ i → ⊥)) → (place_of list seat.prog.0 ≡ i → ⊥) → i + 1 ≤ place_of list seat.prog.0
    by (inl same) other = absurd (other same)
    by (inr apart) other = omega (arith, late, apart)

pub applying_next : (first old new : List (List ℕ)) (sought : List ProgId) (seat : Option Seat) (at i : ℕ) (prog : ProgId) → Applying first old sought seat at i → slice_get sought i ≡ Some prog
    → place_of sought prog.0 ≡ i → length new ≡ length old → ((group : List ℕ) → slice_get old prog.0 ≡ Some group → slice_get new prog.0 ≡ Some (group ++ at ∷ []))
    → ((q : ℕ) → (q ≡ prog.0 → ⊥) → slice_get new q ≡ slice_get old q) → is_of prog.0 seat ≡ false → Applying first new sought seat at (i + 1)
applying_next first old new sought seat at i prog a there place full here elsewhere other = record {
  full = full ∙ a.full;
  each = put_more first old new sought seat at i prog a there place (record { full = full; here = here; elsewhere = elsewhere });
  later = later_rank sought seat i prog there a.later other;
}

pub applied_seat : (first old new : List (List ℕ)) (sought : List ProgId) (seat : Option Seat) (at i : ℕ) (prog : ProgId) → Applying first old sought seat at i → slice_get sought i ≡ Some prog
    → place_of sought prog.0 ≡ i → length new ≡ length old → ((group : List ℕ) → slice_get old prog.0 ≡ Some group → slice_get new prog.0 ≡ Some (group ++ at ∷ []))
    → ((q : ℕ) → (q ≡ prog.0 → ⊥) → slice_get new q ≡ slice_get old q) → is_of prog.0 seat ≡ true
    → (p : ℕ) (group : List ℕ) → slice_get first p ≡ Some group → slice_get new p ≡ Some (group ++ here_if (applies p sought seat) at)
applied_seat first old new sought seat at i prog a there place full here elsewhere own p group known =
    let rank : rank_of sought seat ≡ i = seat_rank sought seat prog.0 own ∙ place in
    put_more first old new sought seat at i prog a there place (record { full = full; here = here; elsewhere = elsewhere }) p group known
    ∙ ap (λ (b : Bool). Some (group ++ here_if b at)) (sym (applies_seat sought seat p i (slice_get_within sought i prog there) rank))

-- ---- all candidates

places_append : (p at : ℕ) (ss : List Seeker) (xs : List (Option Seat)) (s : Seeker) (x : Option Seat) → length xs ≡ length ss
    → places_from p at (ss ++ s ∷ []) (xs ++ x ∷ []) ≡ places_from p at ss xs ++ here_if (applies p s.list x) (at + length ss)
places_append p at [] [] s x full = ap (λ (n : ℕ). here_if (applies p s.list x) n) (let e : at ≡ at + 0 = omega arith in e)
places_append p at [] (y ∷ xs) s x full = absurd (omega (arith, full))
places_append p at (t ∷ ss) [] s x full = absurd (omega (arith, full))
places_append p at (t ∷ ss) (y ∷ xs) s x full =
    let rest = places_append p (suc at) ss xs s x (omega (arith, full)) in
    let number : suc at + length ss ≡ at + suc (length ss) = omega arith in
    ap (λ (z : List ℕ). if applies p t.list y then at ∷ z else z) (rest ∙ ap (λ (n : ℕ). places_from p (suc at) ss xs ++ here_if (applies p s.list x) n) number)
    ∙ by (applies p t.list y) (places_from p (suc at) ss xs) (here_if (applies p s.list x) (at + suc (length ss)))
  where
    by : (b : Bool) (xs ys : List ℕ) → (if b then at ∷ (xs ++ ys) else xs ++ ys) ≡ (if b then at ∷ xs else xs) ++ ys
    by true xs ys = refl
    by false xs ys = refl

-- the groups of the first candidates, so many
pub record Grouping (count k : ℕ) (seekers : List Seeker) (seats : List (Option Seat)) (groups : List (List ℕ)) : Type 0 where
  pub full : length groups ≡ count
  pub each : (p : ℕ) → p < count → slice_get groups p ≡ Some (places_from p 0 (take k seekers) (take k seats))

replicate_more : {X : Type 0} (x : X) (n : ℕ) → replicate (n + 1) x ≡ replicate n x ++ x ∷ []
replicate_more {X} x n = ap (λ (k : ℕ). replicate k x) (add-one n) ∙ at_end n
  where
    at_end : (n : ℕ) → replicate (suc n) x ≡ replicate n x ++ x ∷ []
    at_end zero = refl
    at_end (suc n) = ap (λ (z : List X). x ∷ z) (at_end n)

-- one more of the same
pub one_more : {X : Type 0} (x : X) (n : ℕ) (old new : List X) → old ≡ replicate n x → new ≡ old ++ x ∷ [] → new ≡ replicate (n + 1) x
one_more {X} x n old new so made = made ∙ (ap (λ (z : List X). z ++ x ∷ []) so ∙ sym (replicate_more x n))

pub grouping_next : (count k : ℕ) (seekers : List Seeker) (seats : List (Option Seat)) (old new : List (List ℕ)) (s : Seeker) (seat : Option Seat) → length seats ≡ length seekers
    → Grouping count k seekers seats old → slice_get seekers k ≡ Some s → slice_get seats k ≡ Some seat → length new ≡ length old
    → ((p : ℕ) (group : List ℕ) → slice_get old p ≡ Some group → slice_get new p ≡ Some (group ++ (if applies p s.list seat then k ∷ [] else []))) → Grouping count (k + 1) seekers seats new
grouping_next count k seekers seats old new s seat long g there has full each = record {
  full = full ∙ g.full;
  each = λ p less.
      let inside = slice_get_within seekers k s there in
      let first : take (k + 1) seekers ≡ take k seekers ++ s ∷ [] =
      take_more seekers k s inside ∙ ap (λ (z : Seeker). take k seekers ++ z ∷ []) (get_or_from_slice_get seekers k s s there) in
      let second : take (k + 1) seats ≡ take k seats ++ seat ∷ [] =
      take_more seats k seat (slice_get_within seats k seat has) ∙ ap (λ (z : Option Seat). take k seats ++ z ∷ []) (get_or_from_slice_get seats k seat seat has) in
      let a = length-take-le k seekers (omega (arith, inside)) in
      let b = length-take-le k seats (omega (arith, inside, long)) in
      let more = places_append p 0 (take k seekers) (take k seats) s seat (b ∙ sym a) in
      let number : 0 + length (take k seekers) ≡ k = omega (arith, a) in
      each p (places_from p 0 (take k seekers) (take k seats)) (g.each p less)
      ∙ ap Some (ap (λ (n : ℕ). places_from p 0 (take k seekers) (take k seats) ++ here_if (applies p s.list seat) n) (sym number)
      ∙ (sym more ∙ (ap (λ (z : List Seeker). places_from p 0 z (take k seats ++ seat ∷ [])) (sym first) ∙ ap (λ (z : List (Option Seat)). places_from p 0 (take (k + 1) seekers) z) (sym second))));
}

pub grouping_whole : (count k : ℕ) (seekers : List Seeker) (seats : List (Option Seat)) (groups : List (List ℕ)) → length seats ≡ length seekers → length seekers ≤ k → Grouping count k seekers seats groups
    → AreGroups count seekers seats groups
grouping_whole count k seekers seats groups long end g = record {
  full = g.full;
  each = λ p group there.
      let less = slice_get_within groups p group there in
      let full = g.full in
      same_Some group (places_from p 0 seekers seats) (sym there ∙ (g.each p (omega (arith, less, full))
      ∙ ap Some (ap (λ (z : List Seeker). places_from p 0 z (take k seats)) (take_all k seekers end) ∙ ap (λ (z : List (Option Seat)). places_from p 0 seekers z) (take_all k seats (omega (arith, end, long))))));
}

-- ---- the people of a group

-- each seeker is at the place of the person
abbrev pub Stand : List Person → ℕ → List Seeker → Type 0
Stand people at seekers = (i : ℕ) (s : Seeker) → slice_get seekers i ≡ Some s → slice_get people (at + i) ≡ Some s.person

pub picked_those : (people : List Person) (p at : ℕ) (seekers : List Seeker) (seats : List (Option Seat)) → Stand people at seekers
    → picked people (places_from p at seekers seats) ≡ those (λ s seat. applies p s.list seat) seekers seats
picked_those people p at [] seats stand = refl
picked_those people p at (s ∷ seekers) [] stand = refl
picked_those people p at (s ∷ seekers) (seat ∷ seats) stand =
    let number : at ≡ at + 0 = omega arith in
    let here : slice_get people at ≡ Some s.person = ap (slice_get people) number ∙ stand 0 s refl in
    let rest = picked_those people p (suc at) seekers seats (λ i t there. let same : suc at + i ≡ at + suc i = omega arith in ap (slice_get people) same ∙ stand (suc i) t there) in
    by (applies p s.list seat) (places_from p (suc at) seekers seats) (those (λ s seat. applies p s.list seat) seekers seats) here rest
  where
    by : (b : Bool) (places : List ℕ) (people' : List Person) → slice_get people at ≡ Some s.person → picked people places ≡ people'
        → picked people (if b then at ∷ places else places) ≡ (if b then s.person ∷ people' else people')
    by true places people' here rest = ap (λ (o : Option Person). with_one o (picked people places)) here ∙ ap (λ (z : List Person). s.person ∷ z) rest
    by false places people' here rest = rest

pub picked_append : (people : List Person) (places : List ℕ) (at : ℕ) → picked people (places ++ at ∷ []) ≡ picked people places ++ with_one (slice_get people at) []
picked_append people [] at = refl
picked_append people (k ∷ places) at = ap (with_one (slice_get people k)) (picked_append people places at) ∙ by (slice_get people k)
  where
    by : (o : Option Person) → with_one o (picked people places ++ with_one (slice_get people at) []) ≡ with_one o (picked people places) ++ with_one (slice_get people at) []
    by None = refl
    by (Some q) = refl

-- one more
pub picked_more : (people : List Person) (places : List ℕ) (i d : ℕ) (old new : List Person) → i < length places → old ≡ picked people (take i places)
    → new ≡ old ++ with_one (slice_get people (get_or places i d)) [] → new ≡ picked people (take (i + 1) places)
picked_more people places i d old new less so made =
    made ∙ (ap (λ (z : List Person). z ++ with_one (slice_get people (get_or places i d)) []) so
    ∙ (sym (picked_append people (take i places) (get_or places i d)) ∙ ap (picked people) (sym (take_more places i d less))))
