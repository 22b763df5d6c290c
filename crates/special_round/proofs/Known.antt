-- The final rows of a season are of people in rising order of id, each at a programme in whose merit list the person has a place; so their persons can be put
-- in merit order.
use Rattle.std.proofs.Common.{◌≡◌, ◌≢◌, ◌<◌, ◌+◌, ◌-◌, inl, inr, ℕ, zero, suc, Bool, true, false, List, [], ◌∷◌, Option, Some, None, length, arith, refl, sym, ap, ◌∙◌, subst, ◌==◌, if◌then◌else◌}
use Rattle.std.specs.Prelude.{slice_get, IsSome}
use Rattle.std.specs.List.{AllByRecursion}
use Rattle.std.proofs.lemmas.Bool.{and_parts, cases_Bool, cond-true, cond-false, eqb-true}
use Rattle.office_base.proofs.Lists.{all-get}
use Rattle.office_base.specs.Lists.{Pairwise}
use Rattle.office_base.specs.Merit.{CanBeRanked}
use Rattle.office_base.specs.Person.{IsTraitSet, number_in}
use Rattle.office_base.specs.SeatKinds.{seat_kind_number}
use Rattle.office_base.specs.StepNumbers.{step_number}
use Rattle.office_base.specs.declared.seat.Seat.{Seat}
use Rattle.office_base.specs.declared.person.CandId.{CandId}
use Rattle.office_base.specs.declared.person.ListId.{ListId}
use Rattle.office_base.specs.declared.person.Person.{Person}
use Rattle.office_base.specs.declared.person.ProgId.{ProgId}
use Rattle.office_base.specs.declared.step.StepKind.{StepKind}
use Rattle.office_base.proofs.Options.{some_value}
use Rattle.kept_rows.specs.declared.rows.AllotRow.{AllotRow}
use Rattle.rank_lists.specs.Register.{AreRanks, Ranks, find_person}
use Rattle.rank_lists.proofs.Known.{found_id}
use Rattle.seat_matrix.specs.Matrix.{SeatTable, list_in}
use Rattle.seat_matrix.specs.declared.entry.Home.{Home}
use Rattle.round_laws.proofs.People.{found_at}
use Rattle.round_options.specs.Options.{holds}
use Rattle.office_moves.specs.Facts.{IsSound, SeasonFacts}
use Rattle.office_moves.specs.Moves.{row_before, rows_along}
use Rattle.office_moves.specs.Promise.{kept_to_the_end, standing_then}
use Rattle.office_moves.specs.Raised.{matrix_at}
use Rattle.office_moves.specs.State.{State, seat_in}
use Rattle.history_laws.specs.Orderly.{IsOrderly}
use Rattle.history_laws.proofs.Fits.{SeatOf, seat_is}
use Rattle.special_round.specs.Laws.{FinalsAreKnown}
use Rattle.special_round.specs.Remaining.{AreFinals}
use Rattle.special_round.specs.Rows.{before_those, finals_of, is_row_of}

-- ---- rows along the people

-- the row of a seat
abbrev row_of_seat : ℕ → Person → Seat → AllotRow
row_of_seat number person seat = record { round = number; cand = person.id; prog = seat.prog; step = seat.step }

all_before : (P : AllotRow → Type 0) (number : ℕ) (person : Person) (given : Option Seat) (rows : List AllotRow) → ((seat : Seat) → given ≡ Some seat → P (row_of_seat number person seat))
    → AllByRecursion P rows → AllByRecursion P (row_before number person.id given rows)
all_before P number person None rows here rest = rest
all_before P number person (Some seat) rows here rest = (here seat refl, rest)

rows_all : (P : AllotRow → Type 0) (number : ℕ) (given : ℕ → Option Seat) (people : List Person)
    → ((i : ℕ) (person : Person) (seat : Seat) → slice_get people i ≡ Some person → given person.id.0 ≡ Some seat → P (row_of_seat number person seat))
    → AllByRecursion P (rows_along number given people)
rows_all P number given [] each = tt
rows_all P number given (person ∷ people) each =
    all_before P number person (given person.id.0) _ (λ seat e. each 0 person seat refl e) (rows_all P number given people (λ i. each (suc i)))

rising_before : (number : ℕ) (person : Person) (given : Option Seat) (rows : List AllotRow) → AllByRecursion (λ (row : AllotRow). person.id.0 < row.cand.0) rows
    → Pairwise (λ (a b : AllotRow). a.cand.0 < b.cand.0) rows → Pairwise (λ (a b : AllotRow). a.cand.0 < b.cand.0) (row_before number person.id given rows)
rising_before number person None rows less rest = rest
rising_before number person (Some seat) rows less rest = (less, rest)

rows_rise : (number : ℕ) (given : ℕ → Option Seat) (people : List Person) → Pairwise (λ (a b : Person). a.id.0 < b.id.0) people
    → Pairwise (λ (a b : AllotRow). a.cand.0 < b.cand.0) (rows_along number given people)
rows_rise number given [] rising = tt
rows_rise number given (person ∷ people) rising =
    rising_before number person (given person.id.0) _
    (rows_all (λ row. person.id.0 < row.cand.0) number given people (λ i other seat at e. all-get (λ (b : Person). person.id.0 < b.id.0) people i other rising.0 at))
    (rows_rise number given people rising.1)

-- ---- the final rows of a season

-- a candidate who ends with a seat has that of the last round
kept_is : (facts : SeasonFacts) (state : State) (id : ℕ) (seat : Seat) → kept_to_the_end facts state id ≡ Some seat → seat_in facts state.rounds facts.rounds id ≡ Some seat
kept_is facts state id seat e = elim (cases_Bool (holds (standing_then facts state facts.rounds id))) [
  | inl stays ↦ sym (cond-true (holds (standing_then facts state facts.rounds id)) (seat_in facts state.rounds facts.rounds id) None stays) ∙ e
  | inr away ↦ absurd (let none : None ≡ Some seat = sym (cond-false (holds (standing_then facts state facts.rounds id)) (seat_in facts state.rounds facts.rounds id) None away) ∙ e in cc)
]

-- the last round is the one after some cut
last_seat : (facts : SeasonFacts) (state : State) (id : ℕ) (seat : Seat) → IsSound facts → IsOrderly facts state → seat_in facts state.rounds facts.rounds id ≡ Some seat
    → (before : ℕ) × SeatOf facts state before id seat
last_seat facts state id seat sound orderly e = go facts.rounds refl
  where
    go : (n : ℕ) → facts.rounds ≡ n → (before : ℕ) × SeatOf facts state before id seat
    go zero number = absurd (let some = sound.rounds.0 in omega (arith, some, number))
    go (suc before) number = (before, seat_is facts state before id seat sound orderly.course (subst (λ n. seat_in facts state.rounds n id ≡ Some seat) number e))

some_person : (a b : Person) → Some a ≡ Some b → a ≡ b
some_person a b e = cc

list_same : (table more : SeatTable) (p : ℕ) → more.programmes ≡ table.programmes → list_in more p ≡ list_in table p
list_same table more p same = ap (λ (programmes : List (List ℕ × Home)). list_in (record { programmes = programmes; steps = table.steps }) p) same

pub finals_are_known : FinalsAreKnown
finals_are_known facts state rows sound orderly finals =
    let same = orderly.programmes in
    let people = facts.people in
    let is = orderly.course.finals rows finals in
    subst (λ (l : List AllotRow). AreFinals people (matrix_at facts state) l) (sym is) (record {
      rising = rows_rise (facts.rounds + 1) (kept_to_the_end facts state) people sound.ranks.rising;
      below = rows_all (λ row. row.prog.0 < length (matrix_at facts state).programmes) (facts.rounds + 1) (kept_to_the_end facts state) people
          (λ i person seat at e.
          let (before, known) = last_seat facts state person.id.0 seat sound orderly (kept_is facts state person.id.0 seat e) in
          let below = all-get (λ (prog : ProgId). prog.0 < length facts.matrix.programmes) _ _ seat.prog known.own.below known.at.there in
          subst (λ l. seat.prog.0 < length l) (sym same) below);
      placed = rows_all (λ row. (person : Person) × (find_person row.cand.0 people ≡ Some person) × IsSome (number_in (list_in (matrix_at facts state) row.prog.0) person))
          (facts.rounds + 1) (kept_to_the_end facts state) people
          (λ i person seat at e.
          let (before, known) = last_seat facts state person.id.0 seat sound orderly (kept_is facts state person.id.0 seat e) in
          let placed = all-get (λ (prog : ProgId). IsSome (number_in (list_in facts.matrix prog.0) known.s.person)) _ _ seat.prog known.own.placed known.at.there in
          let found = found_at people known.place known.s.person sound.ranks.rising known.person_at in (
            known.s.person,
            subst (λ n. find_person n people ≡ Some known.s.person) known.id_is found,
            subst (λ (l : ListId). IsSome (number_in l known.s.person)) (sym (list_same facts.matrix (matrix_at facts state) seat.prog.0 same)) placed,
          ));
    })

-- ---- the persons of some rows

all_those : (P : Person → Type 0) (b : Bool) (found : Option Person) (persons : List Person) → (b ≡ true → (person : Person) → found ≡ Some person → P person) → AllByRecursion P persons
    → AllByRecursion P (if b then before_those found persons else persons)
all_those P true None persons here rest = rest
all_those P true (Some person) persons here rest = (here refl person refl, rest)
all_those P false found persons here rest = rest

all_finals : (P : Person → Type 0) (people : List Person) (rows : List AllotRow) (prog : ℕ) (step : StepKind)
    → AllByRecursion (λ (row : AllotRow). is_row_of prog step row ≡ true → (person : Person) → find_person row.cand.0 people ≡ Some person → P person) rows
    → AllByRecursion P (finals_of people rows prog step)
all_finals P people [] prog step all = tt
all_finals P people (row ∷ rows) prog step all =
    all_those P (is_row_of prog step row) (find_person row.cand.0 people) (finals_of people rows prog step) all.0 (all_finals P people rows prog step all.1)

pairs_those : (R : Person → Person → Type 0) (b : Bool) (found : Option Person) (persons : List Person)
    → (b ≡ true → (person : Person) → found ≡ Some person → AllByRecursion (R person) persons) → Pairwise R persons → Pairwise R (if b then before_those found persons else persons)
pairs_those R true None persons here rest = rest
pairs_those R true (Some person) persons here rest = (here refl person refl, rest)
pairs_those R false found persons here rest = rest

each_later : (R : Person → Person → Type 0) (people : List Person) (row : AllotRow) (x : Person) (rows : List AllotRow) (prog : ℕ) (step : StepKind)
    → AllByRecursion (λ (later : AllotRow). row.cand.0 < later.cand.0) rows → find_person row.cand.0 people ≡ Some x
    → ((a b : ℕ) (x y : Person) → a < b → find_person a people ≡ Some x → find_person b people ≡ Some y → R x y)
    → AllByRecursion (λ (later : AllotRow). is_row_of prog step later ≡ true → (y : Person) → find_person later.cand.0 people ≡ Some y → R x y) rows
each_later R people row x [] prog step less found between = tt
each_later R people row x (later ∷ rows) prog step less found between =
    ((λ passes y found'. between row.cand.0 later.cand.0 x y less.0 found found'), each_later R people row x rows prog step less.1 found between)

-- what any two persons of the register have between them, the one with the smaller id first
pub pairs_finals : (R : Person → Person → Type 0) (people : List Person) (rows : List AllotRow) (prog : ℕ) (step : StepKind) → Pairwise (λ (a b : AllotRow). a.cand.0 < b.cand.0) rows
    → ((a b : ℕ) (x y : Person) → a < b → find_person a people ≡ Some x → find_person b people ≡ Some y → R x y) → Pairwise R (finals_of people rows prog step)
pairs_finals R people [] prog step rising between = tt
pairs_finals R people (row ∷ rows) prog step rising between =
    pairs_those R (is_row_of prog step row) (find_person row.cand.0 people) (finals_of people rows prog step)
    (λ passes x found. all_finals (R x) people rows prog step (each_later R people row x rows prog step rising.0 found between))
    (pairs_finals R people rows prog step rising.1 between)

-- what holds of each from what was known of all rows
known_rows : (Q : AllotRow → Type 0) (P : Person → Type 0) (people : List Person) (rows : List AllotRow) (prog : ℕ) (step : StepKind) → AllByRecursion Q rows
    → ((row : AllotRow) (person : Person) → Q row → is_row_of prog step row ≡ true → find_person row.cand.0 people ≡ Some person → P person)
    → AllByRecursion (λ (row : AllotRow). is_row_of prog step row ≡ true → (person : Person) → find_person row.cand.0 people ≡ Some person → P person) rows
known_rows Q P people [] prog step all each = tt
known_rows Q P people (row ∷ rows) prog step all each = ((λ passes person found. each row person all.0 passes found), known_rows Q P people rows prog step all.1 each)

all_when_placed : (P : Person → Type 0) (R : Person → Person → Type 0) (x : Person) (xs : List Person) → P x → AllByRecursion (λ (y : Person). P x → R x y) xs → AllByRecursion (R x) xs
all_when_placed P R x [] here all = tt
all_when_placed P R x (y ∷ xs) here all = (all.0 here, all_when_placed P R x xs here all.1)

pairs_when_placed : (P : Person → Type 0) (R : Person → Person → Type 0) (xs : List Person) → AllByRecursion P xs → Pairwise (λ (x y : Person). P x → R x y) xs → Pairwise R xs
pairs_when_placed P R [] all pairs = tt
pairs_when_placed P R (x ∷ xs) all pairs = (all_when_placed P R x xs all.0 pairs.0, pairs_when_placed P R xs all.1 pairs.1)

-- the final persons of a step can be put in merit order
pub finals_can_be_ranked : (ranks : Ranks) (table : SeatTable) (rows : List AllotRow) (prog : ℕ) (step : StepKind) → AreRanks ranks → AreFinals ranks.people table rows
    → CanBeRanked (list_in table prog) (finals_of ranks.people rows prog step)
finals_can_be_ranked ranks table rows prog step sound finals =
    let list = list_in table prog in
    let people = ranks.people in
    let Placed : Person → Type 0 = λ person. IsSome (number_in list person) in
    let placed : AllByRecursion Placed (finals_of people rows prog step) =
    all_finals Placed people rows prog step (known_rows _ Placed people rows prog step finals.placed
    (λ row person known passes found.
    let same = some_person known.0 person (sym known.1 ∙ found) in
    let there : row.prog.0 ≡ prog = eqb-true row.prog.0 prog (and_parts (row.prog.0 == prog) (seat_kind_number row.step == step_number step) passes).0 in
    subst (λ n. IsSome (number_in (list_in table n) person)) there (subst (λ (p : Person). IsSome (number_in (list_in table row.prog.0) p)) same known.2))) in
    record {
      traits = all_finals (λ person. IsTraitSet person.traits) people rows prog step (known_rows _ _ people rows prog step finals.placed
          (λ row person known passes found. (sound.registered row.cand.0 person found).traits));
      placed = placed;
      numbers = pairs_when_placed Placed (λ x y. number_in list x ≢ number_in list y) (finals_of people rows prog step) placed
          (pairs_finals (λ x y. Placed x → number_in list x ≢ number_in list y) people rows prog step finals.rising
          (λ a b x y less found found' some same.
          let (n, is) = some_value (number_in list x) some in
          let one : a ≡ b = sound.apart a b (list.0 - 1) n x y found found' is (sym same ∙ is) in
          omega (arith, less, one)));
      distinct = pairs_finals (λ x y. x.id ≢ y.id) people rows prog step finals.rising
          (λ a b x y less found found' same.
          let first = found_id a people x found in
          let second = found_id b people y found' in
          let one = ap (λ (c : CandId). c.0) same in
          omega (arith, less, first, second, one));
    }
