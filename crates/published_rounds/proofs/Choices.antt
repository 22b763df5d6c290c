-- With other numbers in the same order a programme chooses the same persons.
use Rattle.std.proofs.Common.{◌≡◌, ◌≢◌, ◌+◌, ◌≤◌, inl, inr, ℕ, Bool, true, false, List, [], ◌∷◌, Option, Some, None, length, take, map, refl, sym, ap, ◌∙◌, subst, not, ◌==◌, if◌then◌else◌}
use Rattle.std.specs.Prelude.{◌↔◌, ◌||◌, IsTrue}
use Rattle.std.specs.List.{AllByRecursion, filter}
use Rattle.std.proofs.lemmas.Bool.{eq-eqb, lt-ltb, ltb-true, ne_eqb}
use Rattle.std.proofs.lemmas.List.{length-map, take-map}
use Rattle.office_base.specs.CategorySteps.{own_steps, row_of}
use Rattle.office_base.specs.Lists.{AnyByRecursion, IsAmong, IsSublist, Pairwise}
use Rattle.office_base.specs.Merit.{in_merit, is_ahead, is_better, with_person}
use Rattle.office_base.specs.Person.{IsAhead, IsBetter, has_trait, is_common, number_in}
use Rattle.office_base.specs.Placement.{Fills, IsHonoured, IsPlacement, placed_on, protected}
use Rattle.office_base.specs.StepChoice.{IsNoWorse, IsStepChoice, MayAdmit}
use Rattle.office_base.specs.declared.category_steps.CategoryStep.{CategoryStep}
use Rattle.office_base.specs.declared.step.Pair.{Pair}
use Rattle.office_base.specs.declared.person.CandId.{CandId}
use Rattle.office_base.specs.declared.person.ListId.{ListId}
use Rattle.office_base.specs.declared.person.Person.{Person}
use Rattle.office_base.specs.declared.person.TraitSet.{TraitSet}
use Rattle.office_base.specs.declared.step.Protections.{Protections}
use Rattle.office_base.specs.declared.step.StepKind.{StepKind}
use Rattle.office_base.specs.declared.step.StepKind.TheVariants.{Open, Dereserved}
use Rattle.placements.proofs.Convert.{same_cand as one_cand}
use Rattle.placements.proofs.Ranks.{same_cand}
use Rattle.seat_matrix.specs.Seats.{AreProgrammeSeats, seats_of}
use Rattle.seat_matrix.specs.Unfilled.{left_unfilled}
use Rattle.seat_matrix.specs.declared.seats.ProgrammeSeats.{ProgrammeSeats}
use Rattle.seat_matrix.specs.declared.seats.Seating.{Seating}
use Rattle.programme_lists.specs.Chosen.{AdmitsUnder, AreApplicants, ChoosesFrom}
use Rattle.programme_lists.specs.Programme.{Admissions, IsProgrammeChoice, admitted_by, is_of, is_same, is_taken, left_by, left_over, members_by, people_of, step_with, unfilled, without}
use Rattle.open_then_category.specs.Laws.{OneProgrammeChoice, ProgrammeChoiceExists}
use Rattle.published_rounds.specs.Order.{KeepsOrder}

-- ---- lists

pub all_map : {X Y : Type 0} (f : X → Y) (P : X → Type 0) (Q : Y → Type 0) → ((x : X) → P x → Q (f x)) → (xs : List X) → AllByRecursion P xs → AllByRecursion Q (map f xs)
all_map f P Q each [] h = tt
all_map f P Q each (x ∷ xs) h = (each x h.0, all_map f P Q each xs h.1)

pub pairwise_map : {X Y : Type 0} (f : X → Y) (R : X → X → Type 0) (S : Y → Y → Type 0) → ((x y : X) → R x y → S (f x) (f y)) → (xs : List X) → Pairwise R xs → Pairwise S (map f xs)
pairwise_map f R S each [] h = tt
pairwise_map f R S each (x ∷ xs) h = (all_map f (R x) (S (f x)) (each x) xs h.0, pairwise_map f R S each xs h.1)

sublist_map : (f : Person → Person) (xs ys : List Person) → IsSublist xs ys → IsSublist (map f xs) (map f ys)
sublist_map f xs [] h = ap (λ l. map f l) h
sublist_map f xs (y ∷ ys) h = elim h [
  | inl rest ↦ inl (sublist_map f xs ys rest)
  | inr first ↦ inr (map f first.0, ap (λ l. map f l) first.1, sublist_map f first.0 ys first.2)
]

sublist_of_map : (f : Person → Person) (xs ys : List Person) → IsSublist xs (map f ys) → (zs : List Person) × (xs ≡ map f zs) × IsSublist zs ys
sublist_of_map f xs [] h = ([], h, refl)
sublist_of_map f xs (y ∷ ys) h = elim h [
  | inl rest ↦ let found = sublist_of_map f xs ys rest in (found.0, found.1, inl found.2)
  | inr first ↦
      let found = sublist_of_map f first.0 ys first.2 in
      (y ∷ found.0, first.1 ∙ ap (λ l. f y ∷ l) found.1, inr (found.0, refl, found.2))
]

among_map : (f : Person → Person) (x : Person) (xs : List Person) → IsAmong x xs → IsAmong (f x) (map f xs)
among_map f x [] h = absurd h
among_map f x (y ∷ xs) h = elim h [ inl here ↦ inl (ap f here) | inr later ↦ inr (among_map f x xs later) ]

among_of_map : (f : Person → Person) → ((a b : Person) → f a ≡ f b → a ≡ b) → (x : Person) (xs : List Person) → IsAmong (f x) (map f xs) → IsAmong x xs
among_of_map f apart x [] h = absurd h
among_of_map f apart x (y ∷ xs) h = elim h [ inl here ↦ inl (apart x y here) | inr later ↦ inr (among_of_map f apart x xs later) ]

pub filter_if : (f : Person → Person) (b c : Bool) (x : Person) (xs ys : List Person) → b ≡ c → xs ≡ map f ys → (if b then f x ∷ xs else xs) ≡ map f (if c then x ∷ ys else ys)
filter_if f true true x xs ys e h = ap (λ l. f x ∷ l) h
filter_if f false false x xs ys e h = h
filter_if f b c x xs ys e h = absurd (cc)

filter_map : (f : Person → Person) (p q : Person → Bool) (xs : List Person) → ((x : Person) → p (f x) ≡ q x) → filter p (map f xs) ≡ map f (filter q xs)
filter_map f p q [] same = refl
filter_map f p q (x ∷ xs) same = filter_if f (p (f x)) (q x) x (filter p (map f xs)) (filter q xs) (same x) (filter_map f p q xs same)

with_if : (f : Person → Person) (b c : Bool) (x o : Person) (ps ws vs : List Person) → b ≡ c → ws ≡ map f vs
    → (if b then f x ∷ f o ∷ map f ps else f o ∷ ws) ≡ map f (if c then x ∷ o ∷ ps else o ∷ vs)
with_if f true true x o ps ws vs e h = refl
with_if f false false x o ps ws vs e h = ap (λ l. f o ∷ l) h
with_if f b c x o ps ws vs e h = absurd (cc)

-- the test of two numbers
ahead_tells : (m n : Option ℕ) → IsAhead m n ↔ (is_ahead m n ≡ true)
ahead_tells (Some m) (Some n) = (λ h. lt-ltb m n h, λ e. ltb-true m n e)
ahead_tells m n = (λ h. absurd h, λ e. absurd (cc))

module _ (g : CandId → CandId) (f : Person → Person) (keeps : KeepsOrder g f) where
  -- ---- the order

  with_map : (list : ListId) (x : Person) (ps : List Person) → with_person list (f x) (map f ps) ≡ map f (with_person list x ps)
  with_map list x [] = refl
  with_map list x (o ∷ ps) =
      with_if f (is_better list (f x) (f o)) (is_better list x o) x o ps (with_person list (f x) (map f ps)) (with_person list x ps) (keeps.better list x o) (with_map list x ps)

  merit_map : (list : ListId) (ps : List Person) → in_merit list (map f ps) ≡ map f (in_merit list ps)
  merit_map list [] = refl
  merit_map list (x ∷ ps) = ap (λ l. with_person list (f x) l) (merit_map list ps) ∙ with_map list x (in_merit list ps)

  better_map : (list : ListId) (a b : Person) → IsBetter list a b → IsBetter list (f a) (f b)
  better_map list a b h = (ahead_tells (number_in list (f a)) (number_in list (f b))).1 (keeps.better list a b ∙ (ahead_tells (number_in list a) (number_in list b)).0 h)

  no_worse_map : (list : ListId) (xs ys : List Person) → IsNoWorse list xs ys → IsNoWorse list (map f xs) (map f ys)
  no_worse_map list xs [] h = tt
  no_worse_map list (x ∷ xs) (y ∷ ys) h = (elim h.0 [ inl same ↦ inl (ap f same) | inr better ↦ inr (better_map list x y better) ], no_worse_map list xs ys h.1)
  no_worse_map list xs ys h = absurd h

  -- ---- placements

  -- the pair of the same person by the other id
  abbrev renamed : Pair → Pair
  renamed pair = record { cand = g pair.cand; slot = pair.slot }

  fills_map : (pair : Pair) (x : Person) → Fills pair x → Fills (renamed pair) (f x)
  fills_map pair x h = (ap g h.0 ∙ sym (keeps.id x), subst (λ (t : TraitSet). IsTrue (has_trait t pair.slot)) (sym (keeps.traits x)) h.1)

  any_map : (pair : Pair) (xs : List Person) → AnyByRecursion (Fills pair) xs → AnyByRecursion (Fills (renamed pair)) (map f xs)
  any_map pair [] h = absurd h
  any_map pair (x ∷ xs) h = elim h [ inl here ↦ inl (fills_map pair x here) | inr later ↦ inr (any_map pair xs later) ]

  placed_map : (t : ℕ) (pairs : List Pair) → placed_on t (map renamed pairs) ≡ placed_on t pairs
  placed_map t [] = refl
  placed_map t (pair ∷ pairs) = ap (λ n. (if pair.slot == t then 1 else 0) + n) (placed_map t pairs)

  placement_map : (protections : Protections) (xs : List Person) (pairs : List Pair) → IsPlacement protections xs pairs → IsPlacement protections (map f xs) (map renamed pairs)
  placement_map protections xs pairs h = record {
    held = all_map renamed (λ pair. AnyByRecursion (Fills pair) xs) (λ pair. AnyByRecursion (Fills pair) (map f xs)) (λ pair. any_map pair xs) pairs h.held;
    once = pairwise_map renamed (λ (a : Pair) (b : Pair). a.cand ≢ b.cand) (λ (a : Pair) (b : Pair). a.cand ≢ b.cand) (λ a b apart e. apart (keeps.ids_apart a.cand b.cand e)) pairs h.once;
    within = λ t. subst (λ n. n ≤ protected protections t) (sym (placed_map t pairs)) (h.within t);
  }

  -- a pair of one of the renamed is the pair of a person by the other id
  pair_back : (pair : Pair) (xs : List Person) → AnyByRecursion (Fills pair) (map f xs) → (own : Pair) × (pair ≡ renamed own) × AnyByRecursion (Fills own) xs
  pair_back pair [] h = absurd h
  pair_back pair (x ∷ xs) h = elim h [
    | inl here ↦ (
      record { cand = x.id; slot = pair.slot },
      ap (λ (c : CandId). record { cand = c; slot = pair.slot }) (here.0 ∙ keeps.id x),
      inl (refl, subst (λ (t : TraitSet). IsTrue (has_trait t pair.slot)) (keeps.traits x) here.1),
    )
    | inr later ↦ let found = pair_back pair xs later in (found.0, found.1, inr found.2)
  ]

  pairs_back : (xs : List Person) (pairs : List Pair) → AllByRecursion (λ pair. AnyByRecursion (Fills pair) (map f xs)) pairs
      → (own : List Pair) × (pairs ≡ map renamed own) × AllByRecursion (λ pair. AnyByRecursion (Fills pair) xs) own
  pairs_back xs [] h = ([], refl, tt)
  pairs_back xs (pair ∷ pairs) h =
      let first = pair_back pair xs h.0 in
      let rest = pairs_back xs pairs h.1 in
      (first.0 ∷ rest.0, ap (λ z. z ∷ pairs) first.1 ∙ ap (λ l. renamed first.0 ∷ l) rest.1, (first.2, rest.2))

  apart_back : (pair : Pair) (pairs : List Pair) → AllByRecursion (λ (other : Pair). g pair.cand ≢ other.cand) (map renamed pairs) → AllByRecursion (λ (other : Pair). pair.cand ≢ other.cand) pairs
  apart_back pair [] h = tt
  apart_back pair (other ∷ pairs) h = ((λ e. h.0 (ap g e)), apart_back pair pairs h.1)

  once_back : (pairs : List Pair) → Pairwise (λ a b. a.cand ≢ b.cand) (map renamed pairs) → Pairwise (λ a b. a.cand ≢ b.cand) pairs
  once_back [] h = tt
  once_back (pair ∷ pairs) h = (apart_back pair pairs h.0, once_back pairs h.1)

  map_placement : (protections : Protections) (xs : List Person) (pairs : List Pair) → IsPlacement protections (map f xs) pairs
      → (own : List Pair) × IsPlacement protections xs own × (length own ≡ length pairs)
  map_placement protections xs pairs h =
      let back = pairs_back xs pairs h.held in (
        back.0,
        record {
          held = back.2;
          once = once_back back.0 (subst (λ l. Pairwise (λ (a : Pair) (b : Pair). a.cand ≢ b.cand) l) back.1 h.once);
          within = λ t. subst (λ n. n ≤ protected protections t) (placed_map t back.0) (subst (λ l. placed_on t l ≤ protected protections t) back.1 (h.within t));
        },
        sym (ap (λ l. length l) back.1 ∙ length-map back.0 renamed),
      )

  map_honoured : (protections : Protections) (xs : List Person) (n : ℕ) → IsHonoured protections (map f xs) n → IsHonoured protections xs n
  map_honoured protections xs n h =
      let back = map_placement protections xs h.reached.0 h.reached.1 in
      record {
        reached = (back.0, back.1, back.2 ∙ h.reached.2);
        most = λ pairs placed. subst (λ m. m ≤ n) (length-map pairs renamed) (h.most (map renamed pairs) (placement_map protections xs pairs placed));
      }

  -- ---- a step

  step_map : (list : ListId) (seating : Seating) (people chosen : List Person) → IsStepChoice (step_with list seating people) chosen
      → IsStepChoice (step_with list seating (map f people)) (map f chosen)
  step_map list seating people chosen choice = record {
    may = record {
      people = sublist_map f chosen people choice.may.people;
      seats = subst (λ n. n ≤ seating.seats) (sym (length-map chosen f)) choice.may.seats;
    };
    most = λ other m n may mine his.
        let found = sublist_of_map f other people may.people in
        choice.most found.0 m n (as_may found.0 (subst (λ (l : List Person). length l ≤ seating.seats) found.1 may.seats) found.2)
        (map_honoured seating.protections found.0 m (subst (λ l. IsHonoured seating.protections l m) found.1 mine)) (map_honoured seating.protections chosen n his);
    best = λ other m may mine his.
        let found = sublist_of_map f other people may.people in
        subst (λ l. IsNoWorse list (map f chosen) l) (sym found.1)
        (no_worse_map list chosen found.0 (choice.best found.0 m (as_may found.0 (subst (λ (l : List Person). length l ≤ seating.seats) found.1 may.seats) found.2)
        (map_honoured seating.protections found.0 m (subst (λ l. IsHonoured seating.protections l m) found.1 mine)) (map_honoured seating.protections chosen m his)));
  }
    where
      as_may : (other : List Person) → length (map f other) ≤ seating.seats → IsSublist other people → MayAdmit (step_with list seating people) other
      as_may other few part = record { people = part; seats = subst (λ n. n ≤ seating.seats) (length-map other f) few }

  -- ---- a programme

  same_ids : (a b : CandId) → ((g a).0 == (g b).0) ≡ (a.0 == b.0)
  same_ids a b = elim (same_cand a b) [
    | inl same ↦ eq-eqb (g a).0 (g b).0 (ap (λ (c : CandId). (g c).0) same) ∙ sym (eq-eqb a.0 b.0 (ap (λ (c : CandId). c.0) same))
    | inr apart ↦ ne_eqb (g a).0 (g b).0 (λ e. apart (keeps.ids_apart a b (one_cand (g a) (g b) e))) ∙ sym (ne_eqb a.0 b.0 (λ e. apart (one_cand a b e)))
  ]

  taken_map : (taken : List Person) (x : Person) → is_taken (map f taken) (f x) ≡ is_taken taken x
  taken_map [] x = refl
  taken_map (o ∷ taken) x =
      let same = ap (λ (i : CandId). i.0 == (f x).id.0) (keeps.id o) ∙ (ap (λ (i : CandId). (g o.id).0 == i.0) (keeps.id x) ∙ same_ids o.id x.id) in
      ap (λ z. z || is_taken (map f taken) (f x)) same ∙ ap (λ z. (o.id.0 == x.id.0) || z) (taken_map taken x)

  without_map : (people taken : List Person) → without (map f people) (map f taken) ≡ map f (without people taken)
  without_map people taken = filter_map f (λ person. not (is_taken (map f taken) person)) (λ person. not (is_taken taken person)) people (λ x. ap not (taken_map taken x))

  -- the admissions of the same persons
  abbrev pub admissions_map : Admissions → Admissions
  admissions_map a = λ kind. map f (a kind)

  members_map : (row : Option CategoryStep) (applicants taken : List Person) → members_by row (without (map f applicants) (map f taken)) ≡ map f (members_by row (without applicants taken))
  members_map None applicants taken = refl
  members_map (Some row) applicants taken =
      ap (λ l. filter (is_of row.category) l) (without_map applicants taken)
      ∙ filter_map f (is_of row.category) (is_of row.category) (without applicants taken) (λ x. ap (λ c. is_same row.category c) (keeps.category x))

  left_map : (kinds : List StepKind) (applicants : List Person) (a : Admissions) → left_by kinds (map f applicants) (admissions_map a) ≡ map f (left_by kinds applicants a)
  left_map [] applicants a = refl
  left_map (kind ∷ kinds) applicants a = ap (λ l. left_by kinds l (admissions_map a)) (without_map applicants (a kind)) ∙ left_map kinds (without applicants (a kind)) a

  people_map : (list : ListId) (applicants : List Person) (a : Admissions) (kind : StepKind) → people_of list (map f applicants) (admissions_map a) kind ≡ map f (people_of list applicants a kind)
  people_map list applicants a Open = filter_map f (is_common list) (is_common list) applicants (keeps.common list)
  people_map list applicants a Dereserved = ap (λ l. filter (is_common list) l) (left_map own_steps applicants a) ∙ filter_map f (is_common list) (is_common list) (left_over applicants a) (keeps.common list)
  people_map list applicants a kind = members_map (row_of kind) applicants (a Open)

  choice_map : (version : ℕ) (seats : ProgrammeSeats) (applicants : List Person) (a : Admissions) → IsProgrammeChoice version seats applicants a
      → IsProgrammeChoice version seats (map f applicants) (admissions_map a)
  choice_map version seats applicants a choice = record {
    own = λ kind own. subst (λ l. IsStepChoice (step_with seats.list (seats_of seats kind) l) (map f (a kind))) (sym (people_map seats.list applicants a kind))
        (step_map seats.list (seats_of seats kind) (people_of seats.list applicants a kind) (a kind) (choice.own kind own));
    dereserved =
        let n = unfilled version seats a in
        let people = people_of seats.list applicants a Dereserved in
        let few : unfilled version seats (admissions_map a) ≡ n = ap (λ held. left_unfilled version (λ kind. (seats_of seats kind).seats) held) (λ i kind. length-map (a kind) f i) in
        let left = people_map seats.list applicants a Dereserved in
        ap (λ l. map f l) choice.dereserved
        ∙ (sym (take-map f n people) ∙ (ap (λ l. take n l) (sym left) ∙ ap (λ k. take k (people_of seats.list (map f applicants) (admissions_map a) Dereserved)) (sym few)));
  }

  chooses_map : (version : ℕ) (seats : ProgrammeSeats) (people : List Person) (a : Admissions) → ChoosesFrom version seats people a → ChoosesFrom version seats (map f people) (admissions_map a)
  chooses_map version seats people a choice =
      subst (λ l. IsProgrammeChoice version seats l (admissions_map a)) (sym (merit_map seats.list people)) (choice_map version seats (in_merit seats.list people) a choice)

  -- so the programme admits the same persons under the same steps
  pub admits_map : ProgrammeChoiceExists → OneProgrammeChoice → (version : ℕ) (seats : ProgrammeSeats) (people : List Person) (x : Person) (kind : StepKind) → AreProgrammeSeats seats
      → AreApplicants seats.list people → AreApplicants seats.list (map f people) → AdmitsUnder version seats people x kind ↔ AdmitsUnder version seats (map f people) (f x) kind
  admits_map exists one version seats people x kind ok may may' = (
    λ admits. (
      admissions_map admits.0,
      chooses_map version seats people admits.0 admits.1,
      among_map f x (admitted_by admits.0 kind) admits.2,
    ),
    λ admits.
        let found = exists version seats people ok may in
        let same = one version seats (map f people) admits.0 (admissions_map found.0) ok may' admits.1 (chooses_map version seats people found.0 found.1) in
        let here = subst (λ (a : Admissions). IsAmong (f x) (admitted_by a kind)) same admits.2 in
        (found.0, found.1, among_of_map f keeps.apart x (admitted_by found.0 kind) here),
  )
