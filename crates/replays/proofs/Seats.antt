-- Kept seats, by the people and by the rows of a round.
use Rattle.std.proofs.Common.{◌≡◌, ◌≢◌, ◌<◌, inl, inr, ℕ, zero, suc, Bool, true, false, List, [], ◌∷◌, Option, Some, None, length, slice_set, arith, refl, sym, ap, ◌∙◌, subst, ◌==◌, if◌then◌else◌}
use Rattle.std.specs.Prelude.{slice_get, option_map, replicate, ◌&&◌}
use Rattle.std.specs.Option.{option_and_then}
use Rattle.std.proofs.lemmas.Bool.{cases_lt, eq-eqb, eqb-true}
use Rattle.office_base.specs.Lists.{Pairwise}
use Rattle.office_base.specs.Person.{at_person}
use Rattle.office_base.specs.declared.seat.Seat.{Seat}
use Rattle.office_base.specs.declared.person.CandId.{CandId}
use Rattle.office_base.specs.declared.person.Person.{Person}
use Rattle.office_base.proofs.Lists.{all-get}
use Rattle.office_base.proofs.People.{at_person-get}
use Rattle.kept_rows.specs.declared.rows.AllotRow.{AllotRow}
use Rattle.rank_lists.specs.Register.{row_of}
use Rattle.rank_lists.proofs.Known.{none_when}
use Rattle.office_moves.specs.Moves.{row_before, rows_along}
use Rattle.office_moves.specs.Stands.{first_allot}
use Rattle.proceedings.proofs.Positions.{Stands, other_way, stands}
use Rattle.replays.specs.Differences.{AreFound, IsComparison, IsComparisonOf, IsFirstPlace, IsOfNobody, IsOfPeople, IsStranger, seat_along, seat_or}
use Rattle.replays.specs.declared.compare.Difference.{Difference}

-- the ids of the people rise
abbrev pub AreRising : List Person → Type 0
AreRising people = Pairwise (λ a b. a.id.0 < b.id.0) people

-- ---- places of people

pub not_there : (id : ℕ) (people : List Person) (at : ℕ) (p : Person) → row_of id people ≡ None → slice_get people at ≡ Some p → p.id.0 ≡ id → ⊥
not_there id [] zero p none there mine = cc
not_there id [] (suc at) p none there mine = cc
not_there id (first ∷ people) zero p none there mine =
    let apart = none_when (id == first.id.0) (row_of id people) none in
    let same : first ≡ p = cc in
    let test = eq-eqb id first.id.0 (sym (ap (λ (q : Person). q.id.0) same ∙ mine)) in
    absurd (let f = apart.0 in cc)
not_there id (first ∷ people) (suc at) p none there mine = not_there id people at p (none_when (id == first.id.0) (row_of id people) none).1 there mine

no_seat : {X : Type 0} (id : ℕ) (people : List Person) (xs : List X) → row_of id people ≡ None → at_person id people xs ≡ None
no_seat id [] xs none = refl
no_seat id (p ∷ people) [] none = refl
no_seat id (p ∷ people) (x ∷ xs) none = let apart = none_when (id == p.id.0) (row_of id people) none in step (p.id.0 == id) x (at_person id people xs) (other_way id p.id.0 apart.0) (no_seat id people xs apart.1)
  where
    step : {X : Type 0} (b : Bool) (x : X) (rest : Option X) → b ≡ false → rest ≡ None → (if b then Some x else rest) ≡ None
    step true x rest e f = absurd (cc)
    step false x rest e f = f

-- ids rise with places
rising_at : (people : List Person) (i j : ℕ) (p q : Person) → AreRising people → slice_get people i ≡ Some p → slice_get people j ≡ Some q → i < j → p.id.0 < q.id.0
rising_at [] zero j p q rising a b less = absurd (cc)
rising_at [] (suc i) j p q rising a b less = absurd (cc)
rising_at (first ∷ people) i zero p q rising a b less = absurd (omega arith)
rising_at (first ∷ people) zero (suc j) p q rising a b less =
    let same : first ≡ p = cc in
    subst (λ (r : Person). r.id.0 < q.id.0) same (all-get (λ (r : Person). first.id.0 < r.id.0) people j q rising.0 b)
rising_at (first ∷ people) (suc i) (suc j) p q rising a b less = rising_at people i j p q rising.1 a b (omega arith)

pub one_place : (people : List Person) (i j : ℕ) (p q : Person) → AreRising people → slice_get people i ≡ Some p → slice_get people j ≡ Some q → p.id.0 ≡ q.id.0 → i ≡ j
one_place people i j p q rising a b same = elim (cases_lt i j) [
  | inl less ↦ absurd (let up = rising_at people i j p q rising a b less in omega (arith, up, same))
  | inr more ↦ elim (cases_lt j i) [
    | inl less ↦ absurd (let up = rising_at people j i q p rising b a less in omega (arith, up, same))
    | inr less ↦ omega (arith, more, less)
  ]
]

-- ---- rows

skip_if : (a b : Bool) (x y : Option Seat) → (a ≡ true → b ≡ true → ⊥) → (if a && b then x else y) ≡ y
skip_if true true x y never = absurd (never refl refl)
skip_if true false x y never = refl
skip_if false b x y never = refl

here_if : (a b : Bool) (x y : Option Seat) → a ≡ true → b ≡ true → (if a && b then x else y) ≡ x
here_if true true x y e f = refl
here_if true false x y e f = absurd (cc)
here_if false b x y e f = absurd (cc)

pub row_skips : (number id : ℕ) (row : AllotRow) (rest : List AllotRow) → (row.round ≡ number → row.cand.0 ≡ id → ⊥) → first_allot number id (row ∷ rest) ≡ first_allot number id rest
row_skips number id row rest never =
    skip_if (row.round == number) (row.cand.0 == id) (Some (record { prog = row.prog; step = row.step })) (first_allot number id rest)
    (λ a b. never (eqb-true row.round number a) (eqb-true row.cand.0 id b))

pub row_hits : (number id : ℕ) (row : AllotRow) (rest : List AllotRow) → row.round ≡ number → row.cand.0 ≡ id → first_allot number id (row ∷ rest) ≡ Some (record { prog = row.prog; step = row.step })
row_hits number id row rest a b =
    here_if (row.round == number) (row.cand.0 == id) (Some (record { prog = row.prog; step = row.step })) (first_allot number id rest) (eq-eqb row.round number a) (eq-eqb row.cand.0 id b)

-- ---- seats that are found

or_skips : (seat one other : Option Seat) → (seat ≡ None → one ≡ other) → seat_or seat one ≡ seat_or seat other
or_skips None one other same = same refl
or_skips (Some s) one other same = refl

-- a row that gives nobody a seat who has none yet
pub found_skips : (number : ℕ) (people : List Person) (rows rest : List AllotRow) (row : AllotRow) (found : List (Option Seat))
    → ((at : ℕ) (p : Person) → slice_get people at ≡ Some p → slice_get found at ≡ Some None → row.round ≡ number → row.cand.0 ≡ p.id.0 → ⊥)
    → AreFound number people rows (row ∷ rest) found → AreFound number people rows rest found
found_skips number people rows rest row found never so = record {
  full = so.full;
  first = λ at p seat there has.
      sym (or_skips seat (first_allot number p.id.0 (row ∷ rest)) (first_allot number p.id.0 rest)
      (λ none. row_skips number p.id.0 row rest (λ a b. never at p there (has ∙ ap Some none) a b))) ∙ so.first at p seat there has;
}

get_set : {X : Type 0} (xs : List X) (k : ℕ) (x : X) → k < length xs → slice_get (slice_set xs k x) k ≡ Some x
get_set [] k x less = absurd (omega arith)
get_set (y ∷ xs) zero x less = refl
get_set (y ∷ xs) (suc k) x less = get_set xs k x (omega arith)

get_beside : {X : Type 0} (xs : List X) (k at : ℕ) (x : X) → at ≢ k → slice_get (slice_set xs k x) at ≡ slice_get xs at
get_beside [] k at x apart = refl
get_beside (y ∷ xs) zero zero x apart = absurd (apart refl)
get_beside (y ∷ xs) zero (suc at) x apart = refl
get_beside (y ∷ xs) (suc k) zero x apart = refl
get_beside (y ∷ xs) (suc k) (suc at) x apart = get_beside xs k at x (λ e. apart (omega (arith, e)))

length_set : {X : Type 0} (xs : List X) (k : ℕ) (x : X) → length (slice_set xs k x) ≡ length xs
length_set [] k x = refl
length_set (y ∷ xs) zero x = refl
length_set (y ∷ xs) (suc k) x = let e = length_set xs k x in omega (arith, e)

within : {X : Type 0} (xs : List X) (k : ℕ) (x : X) → slice_get xs k ≡ Some x → k < length xs
within [] zero x e = absurd (cc)
within [] (suc k) x e = absurd (cc)
within (y ∷ xs) zero x e = omega arith
within (y ∷ xs) (suc k) x e = let less = within xs k x e in omega (arith, less)

-- the seat of a row
abbrev pub seat_in_row : AllotRow → Seat
seat_in_row row = record { prog = row.prog; step = row.step }

-- a row that gives a seat to one of the people who has none yet
pub found_more : (number : ℕ) (people : List Person) (rows rest : List AllotRow) (row : AllotRow) (found : List (Option Seat)) (k : ℕ) → AreRising people → row.round ≡ number
    → row_of row.cand.0 people ≡ Some k → slice_get found k ≡ Some None → AreFound number people rows (row ∷ rest) found
    → AreFound number people rows rest (slice_set found k (Some (seat_in_row row)))
found_more number people rows rest row found k rising here place empty so = record {
  full = length_set found k (Some (seat_in_row row)) ∙ so.full;
  first = λ at p seat there has. elim (cases_lt at k) [
    | inl less ↦ beside at p seat (λ e. absurd (omega (arith, e, less))) there has
    | inr more ↦ elim (cases_lt k at) [
      | inl less ↦ beside at p seat (λ e. absurd (omega (arith, e, less))) there has
      | inr less ↦ own at p seat (omega (arith, more, less)) there has
    ]
  ];
}
  where
    own : (at : ℕ) (p : Person) (seat : Option Seat) → at ≡ k → slice_get people at ≡ Some p → slice_get (slice_set found k (Some (seat_in_row row))) at ≡ Some seat
        → seat_or seat (first_allot number p.id.0 rest) ≡ first_allot number p.id.0 rows
    own at p seat same there has =
        let s = stands row.cand.0 people k place in
        let mine : p ≡ s.person = (let e : Some p ≡ Some s.person = sym there ∙ (ap (λ n. slice_get people n) same ∙ s.there) in cc) in
        let id : row.cand.0 ≡ p.id.0 = sym (ap (λ (q : Person). q.id.0) mine ∙ s.mine) in
        let put : seat ≡ Some (seat_in_row row) = (let e : Some seat ≡ Some (Some (seat_in_row row)) = sym has ∙ (ap (λ n. slice_get (slice_set found k (Some (seat_in_row row))) n) same ∙ get_set found k (Some (seat_in_row row)) (within found k None empty)) in cc) in
        let before : first_allot number p.id.0 (row ∷ rest) ≡ first_allot number p.id.0 rows = so.first at p None there (ap (λ n. slice_get found n) same ∙ empty) in
        ap (λ (z : Option Seat). seat_or z (first_allot number p.id.0 rest)) put ∙ (sym (row_hits number p.id.0 row rest here id) ∙ before)

    beside : (at : ℕ) (p : Person) (seat : Option Seat) → at ≢ k → slice_get people at ≡ Some p → slice_get (slice_set found k (Some (seat_in_row row))) at ≡ Some seat
        → seat_or seat (first_allot number p.id.0 rest) ≡ first_allot number p.id.0 rows
    beside at p seat apart there has =
        let s = stands row.cand.0 people k place in
        let before : slice_get found at ≡ Some seat = sym (get_beside found k at (Some (seat_in_row row)) apart) ∙ has in
        let skips = row_skips number p.id.0 row rest (λ a b. apart (one_place people at k p s.person rising there s.there (sym b ∙ sym s.mine))) in
        sym (ap (λ (z : Option Seat). seat_or seat z) skips) ∙ so.first at p seat there before

-- ---- the first difference

pub nobody_seated : (people : List Person) (seats : List (Option Seat)) (id : ℕ) → IsOfNobody people id → seat_along people seats id ≡ None
nobody_seated people seats id nobody = ap (λ (o : Option (Option Seat)). option_and_then (λ seat. seat) o) (no_seat id people seats nobody)

seated : (people : List Person) (seats : List (Option Seat)) (at : ℕ) (p : Person) (seat : Option Seat) → AreRising people → slice_get people at ≡ Some p → slice_get seats at ≡ Some seat
    → seat_along people seats p.id.0 ≡ seat
seated people seats at p seat rising there has = ap (λ (o : Option (Option Seat)). option_and_then (λ s. s) o) (at_person-get people seats at p rising there ∙ has)

or_none : (seat : Option Seat) → seat_or seat None ≡ seat
or_none None = refl
or_none (Some seat) = refl

-- what is at a place is there
record At {X : Type 0} (xs : List X) (at : ℕ) : Type 0 where
  it : X
  there : slice_get xs at ≡ Some it

get_within : {X : Type 0} (xs : List X) (at : ℕ) → at < length xs → At xs at
get_within [] at less = absurd (omega arith)
get_within (x ∷ xs) zero less = record { it = x; there = refl }
get_within (x ∷ xs) (suc at) less = let rest = get_within xs at (omega arith) in record { it = rest.it; there = rest.there }

allot_at : (number : ℕ) (people : List Person) (rows : List AllotRow) (kept : List (Option Seat)) (at : ℕ) (p : Person) (seat : Option Seat) → AreFound number people rows [] kept
    → slice_get people at ≡ Some p → slice_get kept at ≡ Some seat → first_allot number p.id.0 rows ≡ seat
allot_at number people rows kept at p seat found there has = sym (found.first at p seat there has) ∙ or_none seat

-- somebody of the register is at a place
someone : (id : ℕ) (people : List Person) → IsOfPeople people id → (at : ℕ) × (row_of id people ≡ Some at)
someone id people is = step (row_of id people) refl
  where
    step : (o : Option ℕ) → row_of id people ≡ o → (at : ℕ) × (row_of id people ≡ Some at)
    step None e = absurd (is e)
    step (Some at) e = (at, e)

one_of_people : (people : List Person) (at : ℕ) (p : Person) → slice_get people at ≡ Some p → IsOfPeople people p.id.0
one_of_people people at p there = λ none. not_there p.id.0 people at p none there refl

-- the two say the same of somebody at whose place the lists are the same
same_at : (number : ℕ) (people : List Person) (rows : List AllotRow) (kept computed : List (Option Seat)) (id at : ℕ) → AreRising people → length computed ≡ length people
    → AreFound number people rows [] kept → row_of id people ≡ Some at → (at < length kept → slice_get kept at ≡ slice_get computed at) → first_allot number id rows ≡ seat_along people computed id
same_at number people rows kept computed id at rising full found place same =
    let s = stands id people at place in
    let less : at < length kept = (let w = within people at s.person s.there in let f = found.full in omega (arith, w, f)) in
    let here = get_within kept at less in
    let one = allot_at number people rows kept at s.person here.it found s.there here.there in
    let other = seated people computed at s.person here.it rising s.there (sym (same less) ∙ here.there) in
    subst (λ n. first_allot number n rows ≡ seat_along people computed n) s.mine (one ∙ sym other)

lower_place : (people : List Person) (at : ℕ) (p : Person) (id k : ℕ) → AreRising people → slice_get people at ≡ Some p → Stands id people k → id < p.id.0 → k < at
lower_place people at p id k rising there s less = elim (cases_lt k at) [
  | inl before ↦ before
  | inr after ↦ elim (cases_lt at k) [
    | inl past ↦ absurd (let up = rising_at people at k p s.person rising there s.there past in let mine = s.mine in omega (arith, up, mine, less))
    | inr few ↦
        let same : k ≡ at = omega (arith, after, few) in
        let one : s.person ≡ p = (let e : Some s.person ≡ Some p = sym s.there ∙ (ap (λ n. slice_get people n) same ∙ there) in cc) in
        let ids : s.person.id.0 ≡ p.id.0 = ap (λ (q : Person). q.id.0) one in
        let mine = s.mine in
        absurd (omega (arith, ids, mine, less))
  ]
]

pub inside_none : (number : ℕ) (people : List Person) (rows : List AllotRow) (kept computed : List (Option Seat)) → AreRising people → length computed ≡ length people
    → AreFound number people rows [] kept → IsFirstPlace kept computed None → IsComparisonOf (IsOfPeople people) (λ id. first_allot number id rows) (seat_along people computed) None
inside_none number people rows kept computed rising full found same =
    λ id is. let place = someone id people is in same_at number people rows kept computed id place.0 rising full found place.1 (λ less. same place.0 less)

pub inside_some : (number : ℕ) (people : List Person) (rows : List AllotRow) (kept computed : List (Option Seat)) (at : ℕ) (p : Person) (one other : Option Seat) → AreRising people
    → length computed ≡ length people → AreFound number people rows [] kept → IsFirstPlace kept computed (Some at) → slice_get people at ≡ Some p → slice_get kept at ≡ Some one
    → slice_get computed at ≡ Some other
    → IsComparisonOf (IsOfPeople people) (λ id. first_allot number id rows) (seat_along people computed) (Some (record { cand = p.id; kept = one; computed = other }))
inside_some number people rows kept computed at p one other rising full found place there has made = (
  one_of_people people at p there,
  allot_at number people rows kept at p one found there has,
  seated people computed at p other rising there made,
  λ same. place.1 (has ∙ (ap Some same ∙ sym made)),
  λ id less is.
      let spot = someone id people is in
      same_at number people rows kept computed id spot.0 rising full found spot.1 (λ w. place.2 spot.0 (lower_place people at p id spot.0 rising there (stands id people spot.0 spot.1) less)),
)

pub outside_none : (number : ℕ) (people : List Person) (rows : List AllotRow) (seats : List (Option Seat)) → IsStranger number people rows [] None
    → IsComparisonOf (IsOfNobody people) (λ id. first_allot number id rows) (seat_along people seats) None
outside_none number people rows seats none = λ id nobody. none id nobody ∙ sym (nobody_seated people seats id nobody)

pub outside_some : (number : ℕ) (people : List Person) (rows : List AllotRow) (seats : List (Option Seat)) (row : AllotRow) → IsStranger number people rows [] (Some row)
    → IsComparisonOf (IsOfNobody people) (λ id. first_allot number id rows) (seat_along people seats)
    (Some (record { cand = row.cand; kept = Some (record { prog = row.prog; step = row.step }); computed = None }))
outside_some number people rows seats row is = (
  is.0,
  is.1,
  nobody_seated people seats row.cand.0 is.0,
  λ same. cc,
  λ id less nobody. is.2 id less nobody ∙ sym (nobody_seated people seats id nobody),
)

-- ---- seats along the people, and rows

pub nobody_along : (people : List Person) (n id : ℕ) → seat_along people (replicate n None) id ≡ None
nobody_along [] n id = refl
nobody_along (p ∷ people) zero id = refl
nobody_along (p ∷ people) (suc n) id = step (p.id.0 == id) (nobody_along people n id)
  where
    step : (b : Bool) → option_and_then (λ seat. seat) (at_person id people (replicate n (let none : Option Seat = None in none))) ≡ None
        → option_and_then (λ seat. seat) (if b then Some (let none : Option Seat = None in none) else at_person id people (replicate n None)) ≡ None
    step true rest = refl
    step false rest = rest

pub found_along : (number : ℕ) (people : List Person) (rows : List AllotRow) (found : List (Option Seat)) → AreRising people → AreFound number people rows [] found
    → ((id : ℕ) → IsOfNobody people id → first_allot number id rows ≡ None) → (id : ℕ) → seat_along people found id ≡ first_allot number id rows
found_along number people rows found rising are strangers id = step (row_of id people) refl
  where
    step : (o : Option ℕ) → row_of id people ≡ o → seat_along people found id ≡ first_allot number id rows
    step None e = nobody_seated people found id e ∙ sym (strangers id e)
    step (Some at) e =
        let s = stands id people at e in
        let here = get_within found at (let w = within people at s.person s.there in let f = are.full in omega (arith, w, f)) in
        let one = allot_at number people rows found at s.person here.it are s.there here.there in
        let other = seated people found at s.person here.it rising s.there here.there in
        subst (λ n. seat_along people found n ≡ first_allot number n rows) s.mine (other ∙ sym one)

row_outside : (number other id : ℕ) (cand : CandId) (seat : Option Seat) (rows : List AllotRow) → (cand.0 ≡ id → ⊥) → first_allot other id (row_before number cand seat rows) ≡ first_allot other id rows
row_outside number other id cand None rows apart = refl
row_outside number other id cand (Some seat) rows apart = row_skips other id (record { round = number; cand = cand; prog = seat.prog; step = seat.step }) rows (λ a b. apart b)

-- rows along the people are of nobody else
pub rows_outside : (number other id : ℕ) (seat : ℕ → Option Seat) (people : List Person) → IsOfNobody people id → first_allot other id (rows_along number seat people) ≡ None
rows_outside number other id seat [] nobody = refl
rows_outside number other id seat (p ∷ people) nobody =
    let apart = none_when (id == p.id.0) (row_of id people) nobody in
    row_outside number other id p.id (seat p.id.0) (rows_along number seat people) (λ same. let f = eq-eqb id p.id.0 (sym same) in let g = apart.0 in cc)
    ∙ rows_outside number other id seat people apart.1

-- a comparison with seats that are said otherwise
pub compared : (people others : List Person) (rows more : List AllotRow) (number : ℕ) (seats : List (Option Seat)) (third : ℕ → Option Seat) (found : Option Difference) → people ≡ others → rows ≡ more
    → IsComparison (λ id. first_allot number id rows) (seat_along people seats) found → ((id : ℕ) → seat_along others seats id ≡ third id) → IsComparison (λ id. first_allot number id more) third found
compared people others rows more number seats third None same is so said = λ id.
    ap (λ (r : List AllotRow). first_allot number id r) (sym is) ∙ (so id ∙ (ap (λ (p : List Person). seat_along p seats id) same ∙ said id))
compared people others rows more number seats third (Some found) same is so said =
    let second : (id : ℕ) → seat_along people seats id ≡ third id = λ id. ap (λ (p : List Person). seat_along p seats id) same ∙ said id in
    let first : (id : ℕ) → first_allot number id more ≡ first_allot number id rows = λ id. ap (λ (r : List AllotRow). first_allot number id r) (sym is) in
    record {
      found = first found.cand.0 ∙ so.found;
      made = sym (second found.cand.0) ∙ so.made;
      apart = so.apart;
      before = λ lower less. first lower ∙ (so.before lower less ∙ second lower);
    }

-- the person at a place has the id that is read there
pub inside_at : (number : ℕ) (people : List Person) (rows : List AllotRow) (kept computed : List (Option Seat)) (at : ℕ) (id : CandId) (one other : Option Seat) → AreRising people
    → length computed ≡ length people → AreFound number people rows [] kept → IsFirstPlace kept computed (Some at) → option_map (λ (p : Person). p.id) (slice_get people at) ≡ Some id
    → slice_get kept at ≡ Some one → slice_get computed at ≡ Some other
    → IsComparisonOf (IsOfPeople people) (λ id. first_allot number id rows) (seat_along people computed) (Some (record { cand = id; kept = one; computed = other }))
inside_at number people rows kept computed at id one other rising full found place told has made = step (slice_get people at) refl told
  where
    step : (o : Option Person) → slice_get people at ≡ o → option_map (λ (p : Person). p.id) o ≡ Some id
        → IsComparisonOf (IsOfPeople people) (λ id. first_allot number id rows) (seat_along people computed) (Some (record { cand = id; kept = one; computed = other }))
    step None there e = absurd (cc)
    step (Some p) there e =
        let same : p.id ≡ id = cc in
        subst (λ (cand : CandId). IsComparisonOf (IsOfPeople people) (λ id. first_allot number id rows) (seat_along people computed) (Some (record { cand = cand; kept = one; computed = other }))) same
        (inside_some number people rows kept computed at p one other rising full found place there has made)
