-- Tables that represent a state still represent it with what is accepted.
use Rattle.std.proofs.Common.{◌≡◌, ◌+◌, ◌⊎◌, inl, inr, ℕ, zero, suc, Bool, true, false, List, [], ◌∷◌, ◌++◌, Option, Some, None, refl, sym, ap, ◌∙◌, subst, ◌==◌, if◌then◌else◌}
use Rattle.std.specs.Prelude.{◌&&◌}
use Rattle.std.proofs.lemmas.Bool.{cases_Bool, eq-eqb, eqb-true}
use Rattle.std.specs.Option.{option_and_then}
use Rattle.office_base.specs.Person.{at_person}
use Rattle.office_base.specs.declared.seat.Seat.{Seat}
use Rattle.office_base.specs.declared.person.CandId.{CandId}
use Rattle.office_base.specs.declared.person.Person.{Person}
use Rattle.kept_rows.specs.Tables.{AreTold, IsFound, IsTold, Tables, Untold, NoSeason, Records, opening_records, still, with_answer, with_cut, with_raise, with_season}
use Rattle.kept_rows.specs.declared.rows.Kept.{Kept}
use Rattle.kept_rows.specs.declared.rows.AllotRow.{AllotRow}
use Rattle.kept_rows.specs.declared.rows.AnswerRow.{AnswerRow}
use Rattle.kept_rows.specs.declared.rows.RaiseRow.{RaiseRow}
use Rattle.rounds.specs.declared.round.Round.{Round}
use Rattle.office_moves.specs.Facts.{SeasonFacts}
use Rattle.office_moves.specs.Moves.{allot_rows, row_before, rows_along}
use Rattle.office_moves.specs.Stands.{AreRecordsOf, Stand, first_allot, published_seat, raises_in}
use Rattle.office_moves.specs.State.{State, in_window, opening, round_at, seat_of, with_raise as state_with_raise, with_row}
use Rattle.history_laws.proofs.Rows.{window_append}

-- ---- what is visible

pub stand_told : (facts : SeasonFacts) (state : State) (expected told : Tables) → AreTold expected told → Stand facts state expected → Stand facts state told
stand_told facts state expected Untold same stands = tt
stand_told facts state expected NoSeason same stands = subst (λ t. Stand facts state t) same stands
stand_told facts state expected (Records kept) same stands = subst (λ t. Stand facts state t) same stands

pub found_told : (found : Bool) (expected told : Tables) → AreTold expected told → IsFound found expected → IsFound found told
found_told found expected Untold same is = tt
found_told found expected NoSeason same is = subst (λ t. IsFound found t) same is
found_told found expected (Records kept) same is = subst (λ t. IsFound found t) same is

pub told_on : (first second third : Tables) → AreTold first second → AreTold second third → AreTold first third
told_on first second Untold one two = tt
told_on first second NoSeason one two = subst (λ t. AreTold first t) two one
told_on first second (Records kept) one two = subst (λ t. AreTold first t) two one

-- if tables are visible after a call, they were visible before it
pub was_told : (expected told : Tables) → AreTold expected told → IsTold told → IsTold expected
was_told expected Untold same is = absurd is
was_told expected NoSeason same is = subst (λ t. IsTold t) (sym same) tt
was_told expected (Records kept) same is = subst (λ t. IsTold t) (sym same) tt

pub season_was : (text : List ℕ) (tables : Tables) → IsTold (with_season text tables) → IsTold tables
season_was text Untold is = is
season_was text NoSeason is = tt
season_was text (Records kept) is = tt

pub answer_was : (row : AnswerRow) (tables : Tables) → IsTold (with_answer row tables) → IsTold tables
answer_was row Untold is = is
answer_was row NoSeason is = tt
answer_was row (Records kept) is = tt

pub raise_was : (row : RaiseRow) (tables : Tables) → IsTold (with_raise row tables) → IsTold tables
raise_was row Untold is = is
raise_was row NoSeason is = tt
raise_was row (Records kept) is = tt

pub cut_was : (rows : List AllotRow) (tables : Tables) → IsTold (with_cut rows tables) → IsTold tables
cut_was rows Untold is = is
cut_was rows NoSeason is = tt
cut_was rows (Records kept) is = tt

-- if the tables are visible after a season was put, the keeper held none before
none_before : (before mid : Tables) → AreTold before mid → IsFound false mid → IsTold mid → IsFound false before
none_before before Untold told none is = absurd is
none_before before NoSeason told none is = subst (λ s. IsFound false s) (sym told) none
none_before before (Records kept) told none is = subst (λ s. IsFound false s) (sym told) none

pub begun_empty : (before mid after : Tables) → AreTold before mid → IsFound false mid → (IsTold after → IsTold mid) → IsFound false (still before after)
begun_empty before mid Untold told none was = tt
begun_empty before mid NoSeason told none was = none_before before mid told none (was tt)
begun_empty before mid (Records kept) told none was = none_before before mid told none (was tt)

-- visible tables are records that represent the state
pub stand_records : (facts : SeasonFacts) (state : State) (tables : Tables) → Stand facts state tables → IsTold tables → (records : Kept) × (tables ≡ Records records) × AreRecordsOf facts state records
stand_records facts state Untold stands is = absurd is
stand_records facts state NoSeason stands is = absurd stands
stand_records facts state (Records kept) stands is = (kept, refl, stands)

-- the same facts and the same state
pub stand_moved : (facts other : SeasonFacts) (state next : State) (tables : Tables) → other ≡ facts → next ≡ state → Stand facts state tables → Stand other next tables
stand_moved facts other state next tables same is stands = subst (λ f. Stand f next tables) (sym same) (subst (λ s. Stand facts s tables) (sym is) stands)

-- ---- lists

window_goes : (window : ℕ) (rows others : List AnswerRow) (row : AnswerRow) → in_window window rows ≡ in_window window others → in_window window (rows ++ row ∷ []) ≡ in_window window (others ++ row ∷ [])
window_goes window rows others row same =
    window_append window rows (row ∷ []) ∙ (ap (λ z. z ++ in_window window (row ∷ [])) same ∙ sym (window_append window others (row ∷ [])))

raises_append : (window : ℕ) (rows more : List RaiseRow) → raises_in window (rows ++ more) ≡ raises_in window rows ++ raises_in window more
raises_append window [] more = refl
raises_append window (row ∷ rows) more = step (row.window == window) (raises_in window (rows ++ more)) (raises_in window rows) (raises_append window rows more)
  where
    step : (b : Bool) (whole rest : List RaiseRow) → whole ≡ rest ++ raises_in window more → (if b then row ∷ whole else whole) ≡ (if b then row ∷ rest else rest) ++ raises_in window more
    step true whole rest e = ap (λ z. row ∷ z) e
    step false whole rest e = e

raises_go : (window : ℕ) (rows others : List RaiseRow) (row : RaiseRow) → raises_in window rows ≡ raises_in window others → raises_in window (rows ++ row ∷ []) ≡ raises_in window (others ++ row ∷ [])
raises_go window rows others row same =
    raises_append window rows (row ∷ []) ∙ (ap (λ z. z ++ raises_in window (row ∷ [])) same ∙ sym (raises_append window others (row ∷ [])))

-- ---- the season, an answer, a raise

round_of_none : (number : ℕ) → round_at [] number ≡ None
round_of_none zero = refl
round_of_none (suc before) = refl

no_seat : (facts : SeasonFacts) (number id : ℕ) → published_seat facts opening number id ≡ None
no_seat facts number id = step (number == facts.rounds + 1) (ap (λ r. seat_of facts r id) (round_of_none number))
  where
    step : (b : Bool) {seat : Option Seat} → seat ≡ None → (if b then None else seat) ≡ None
    step true e = refl
    step false e = e

begun : (facts : SeasonFacts) → AreRecordsOf facts opening (opening_records facts.text)
begun facts = record {
  season = refl;
  raises = λ window. refl;
  answers = λ window. refl;
  cuts = refl;
  allots = λ number id. sym (no_seat facts number id);
}

pub stand_begun : (facts : SeasonFacts) (before told : Tables) → IsFound false before → AreTold (with_season facts.text before) told → Stand facts opening told
stand_begun facts Untold told none same = stand_told facts opening Untold told same tt
stand_begun facts NoSeason told none same = stand_told facts opening (Records (opening_records facts.text)) told same (begun facts)
stand_begun facts (Records kept) told none same = absurd (cc)

pub stand_answer : (facts : SeasonFacts) (state : State) (row : AnswerRow) (tables : Tables) → Stand facts state tables → Stand facts (with_row state row) (with_answer row tables)
stand_answer facts state row Untold stands = tt
stand_answer facts state row NoSeason stands = absurd stands
stand_answer facts state row (Records kept) stands = record {
  season = stands.season;
  raises = stands.raises;
  answers = λ window. window_goes window kept.answers state.answers row (stands.answers window);
  cuts = stands.cuts;
  allots = stands.allots;
}

pub stand_raise : (facts : SeasonFacts) (state : State) (row : RaiseRow) (tables : Tables) → Stand facts state tables → Stand facts (state_with_raise state row) (with_raise row tables)
stand_raise facts state row Untold stands = tt
stand_raise facts state row NoSeason stands = absurd stands
stand_raise facts state row (Records kept) stands = record {
  season = stands.season;
  raises = λ window. raises_go window kept.raises state.raises row (stands.raises window);
  answers = stands.answers;
  cuts = stands.cuts;
  allots = stands.allots;
}

-- ---- allots

abbrev pub or_else : Option Seat → Option Seat → Option Seat
or_else None other = other
or_else (Some seat) other = Some seat

pub or_none : (seat : Option Seat) → or_else seat None ≡ seat
or_none None = refl
or_none (Some seat) = refl

pub first_append : (number id : ℕ) (rows more : List AllotRow) → first_allot number id (rows ++ more) ≡ or_else (first_allot number id rows) (first_allot number id more)
first_append number id [] more = refl
first_append number id (row ∷ rows) more = step (row.round == number && row.cand.0 == id) (first_allot number id (rows ++ more)) (first_allot number id rows) (first_append number id rows more)
  where
    step : (b : Bool) (whole first : Option Seat) → whole ≡ or_else first (first_allot number id more)
        → (if b then Some (record { prog = row.prog; step = row.step }) else whole) ≡ or_else (if b then Some (record { prog = row.prog; step = row.step }) else first) (first_allot number id more)
    step true whole first e = refl
    step false whole first e = e

-- the rows of a round say nothing of other rounds
other_row : (number other id : ℕ) (cand : CandId) (seat : Option Seat) (rows : List AllotRow) → number == other ≡ false → first_allot other id rows ≡ None
    → first_allot other id (row_before number cand seat rows) ≡ None
other_row number other id cand None rows apart none = none
other_row number other id cand (Some seat) rows apart none = step (number == other) (cand.0 == id) apart none
  where
    step : (a b : Bool) {rest : Option Seat} → a ≡ false → rest ≡ None → (if a && b then Some (record { prog = seat.prog; step = seat.step }) else rest) ≡ None
    step true b apart none = absurd (cc)
    step false b apart none = none

pub other_rows : (number other id : ℕ) (seat : ℕ → Option Seat) (people : List Person) → number == other ≡ false → first_allot other id (rows_along number seat people) ≡ None
other_rows number other id seat [] apart = refl
other_rows number other id seat (person ∷ people) apart = other_row number other id person.id (seat person.id.0) (rows_along number seat people) apart (other_rows number other id seat people apart)

-- the rows of a round have the seat of each of the people, and of nobody else
own_row : (number id : ℕ) (cand : CandId) (seat : Option Seat) (rows : List AllotRow) (own : Option Seat) → cand.0 == id ≡ true → seat ≡ own
    → (first_allot number id rows ≡ own) ⊎ (first_allot number id rows ≡ None) → first_allot number id (row_before number cand seat rows) ≡ own
own_row number id cand None rows own same e (inl rest) = rest
own_row number id cand None rows own same e (inr rest) = rest ∙ e
own_row number id cand (Some seat) rows own same e rest = step (number == number) (cand.0 == id) (eq-eqb number number refl) same ∙ e
  where
    step : (a b : Bool) → a ≡ true → b ≡ true → (if a && b then Some (record { prog = seat.prog; step = seat.step }) else first_allot number id rows) ≡ Some seat
    step true true first second = refl
    step true false first second = absurd (cc)
    step false b first second = absurd (cc)

other_person : (number id : ℕ) (cand : CandId) (seat : Option Seat) (rows : List AllotRow) → cand.0 == id ≡ false → first_allot number id (row_before number cand seat rows) ≡ first_allot number id rows
other_person number id cand None rows apart = refl
other_person number id cand (Some seat) rows apart = step (number == number) (cand.0 == id) apart
  where
    step : (a b : Bool) → b ≡ false → (if a && b then Some (record { prog = seat.prog; step = seat.step }) else first_allot number id rows) ≡ first_allot number id rows
    step true true apart = absurd (cc)
    step true false apart = refl
    step false b apart = refl

-- one of the people has the id
abbrev is_among : ℕ → List Person → Bool
is_among id [] = false
is_among id (person ∷ people) = if person.id.0 == id then true else is_among id people

rows_tell : (number id : ℕ) (seat : ℕ → Option Seat) (people : List Person)
    → ((is_among id people ≡ true) × (first_allot number id (rows_along number seat people) ≡ seat id)) ⊎ ((is_among id people ≡ false) × (first_allot number id (rows_along number seat people) ≡ None))
rows_tell number id seat [] = inr (refl, refl)
rows_tell number id seat (person ∷ people) = elim (cases_Bool (person.id.0 == id)) [
  | inl same ↦ inl (
    among_if (person.id.0 == id) (is_among id people) same,
    own_row number id person.id (seat person.id.0) (rows_along number seat people) (seat id) same (ap seat (eqb-true person.id.0 id same)) (rest (rows_tell number id seat people)),
  )
  | inr apart ↦ onward apart (rows_tell number id seat people)
]
  where
    among_if : (a b : Bool) → a ≡ true → (if a then true else b) ≡ true
    among_if true b e = refl
    among_if false b e = absurd (cc)

    among_else : (a b : Bool) → a ≡ false → (if a then true else b) ≡ b
    among_else true b e = absurd (cc)
    among_else false b e = refl

    rest : {among : Bool} {found : Option Seat} → ((among ≡ true) × (found ≡ seat id)) ⊎ ((among ≡ false) × (found ≡ None)) → (found ≡ seat id) ⊎ (found ≡ None)
    rest (inl found) = inl found.1
    rest (inr found) = inr found.1

    onward : person.id.0 == id ≡ false
        → ((is_among id people ≡ true) × (first_allot number id (rows_along number seat people) ≡ seat id)) ⊎ ((is_among id people ≡ false) × (first_allot number id (rows_along number seat people) ≡ None))
        → ((is_among id (person ∷ people) ≡ true) × (first_allot number id (rows_along number seat (person ∷ people)) ≡ seat id)) ⊎ ((is_among id (person ∷ people) ≡ false) × (first_allot number id (rows_along number seat (person ∷ people)) ≡ None))
    onward apart (inl found) =
        inl (among_else (person.id.0 == id) (is_among id people) apart ∙ found.0, other_person number id person.id (seat person.id.0) (rows_along number seat people) apart ∙ found.1)
    onward apart (inr found) =
        inr (among_else (person.id.0 == id) (is_among id people) apart ∙ found.0, other_person number id person.id (seat person.id.0) (rows_along number seat people) apart ∙ found.1)

not_among : {X : Type 0} (id : ℕ) (people : List Person) (xs : List X) → is_among id people ≡ false → at_person id people xs ≡ None
not_among id [] xs e = refl
not_among id (person ∷ people) [] e = refl
not_among id (person ∷ people) (x ∷ xs) e = step x (at_person id people xs) (person.id.0 == id) (is_among id people) e (not_among id people xs)
  where
    step : {X : Type 0} (x : X) (found : Option X) (a b : Bool) → (if a then true else b) ≡ false → (b ≡ false → found ≡ None) → (if a then Some x else found) ≡ None
    step x found true b e rest = absurd (cc)
    step x found false b e rest = rest e

-- the first allot of a round that is made of its rows is the seat
pub rows_seat : (facts : SeasonFacts) (round : Round) (id : ℕ) → first_allot round.number id (allot_rows facts round) ≡ seat_of facts (Some round) id
rows_seat facts round id = step (rows_tell round.number id (seat_of facts (Some round)) facts.people)
  where
    step : ((is_among id facts.people ≡ true) × (first_allot round.number id (allot_rows facts round) ≡ seat_of facts (Some round) id))
        ⊎ ((is_among id facts.people ≡ false) × (first_allot round.number id (allot_rows facts round) ≡ None)) → first_allot round.number id (allot_rows facts round) ≡ seat_of facts (Some round) id
    step (inl found) = found.1
    step (inr found) = found.1 ∙ sym (ap (λ (s : Option (Option Seat)). option_and_then (λ seat. seat) s) (not_among id facts.people round.seats found.0))
