-- Tables that represent a state represent the next one when a cut is kept.
use Rattle.std.proofs.Common.{◌≡◌, ◌<◌, ◌+◌, inl, inr, ℕ, zero, suc, Bool, true, false, List, [], ◌∷◌, ◌++◌, Option, Some, None, length, arith, refl, sym, ap, ◌∙◌, subst, ◌==◌, if◌then◌else◌, add-one}
use Rattle.std.specs.Prelude.{slice_get}
use Rattle.std.proofs.lemmas.Bool.{cases_Bool, eqb-false, eqb-true, ne_eqb}
use Rattle.std.proofs.lemmas.Option.{slice_get_past}
use Rattle.office_base.specs.declared.seat.Seat.{Seat}
use Rattle.office_base.proofs.Lists.{get-after}
use Rattle.kept_rows.specs.Tables.{Tables, Untold, NoSeason, Records, with_cut}
use Rattle.kept_rows.specs.declared.rows.AllotRow.{AllotRow}
use Rattle.rounds.specs.declared.round.Round.{Round}
use Rattle.office_moves.specs.Facts.{SeasonFacts}
use Rattle.office_moves.specs.Moves.{allot_rows, final_rows, final_seat}
use Rattle.office_moves.specs.Stands.{Stand, first_allot, published_seat, seat_in_finals}
use Rattle.office_moves.specs.State.{State, round_at, seat_in, seat_of, with_finals, with_round}
use Rattle.round_cut.proofs.Standing.{first_append, or_else, or_none, other_rows, rows_seat}

-- ---- the round of a number, with one more

beside_end : {X : Type 0} (xs : List X) (x : X) (k : ℕ) → (k ≡ length xs → ⊥) → slice_get (xs ++ x ∷ []) k ≡ slice_get xs k
beside_end [] x zero apart = absurd (apart refl)
beside_end [] x (suc k) apart = refl
beside_end (y ∷ xs) x zero apart = refl
beside_end (y ∷ xs) x (suc k) apart = beside_end xs x k (λ e. apart (omega (arith, e)))

last_round : (rounds : List Round) (round : Round) (number : ℕ) → number ≡ length rounds + 1 → round_at (rounds ++ round ∷ []) number ≡ Some round
last_round rounds round number e =
    subst (λ n. round_at (rounds ++ round ∷ []) n ≡ Some round) (sym (e ∙ add-one (length rounds))) (get-after rounds round [])

no_round : (rounds : List Round) (number : ℕ) → number ≡ length rounds + 1 → round_at rounds number ≡ None
no_round rounds number e = subst (λ n. round_at rounds n ≡ None) (sym (e ∙ add-one (length rounds))) (slice_get_past rounds (length rounds) (omega arith))

other_round : (rounds : List Round) (round : Round) (number : ℕ) → (number ≡ length rounds + 1 → ⊥) → round_at (rounds ++ round ∷ []) number ≡ round_at rounds number
other_round rounds round zero apart = refl
other_round rounds round (suc before) apart = beside_end rounds round before (λ e. apart (omega (arith, e)))

-- ---- a round

with_rows : (b : Bool) (finals before after rows : Option Seat) → (b ≡ true → rows ≡ None) → (b ≡ false → or_else before rows ≡ after)
    → or_else (if b then finals else before) rows ≡ (if b then finals else after)
with_rows true finals before after rows first second = ap (λ r. or_else finals r) (first refl) ∙ or_none finals
with_rows false finals before after rows first second = second refl

round_seats : (facts : SeasonFacts) (state : State) (round : Round) (number id : ℕ) → length state.rounds ≡ state.now → round.number ≡ state.now + 1
    → or_else (seat_in facts state.rounds number id) (first_allot number id (allot_rows facts round)) ≡ seat_in facts (state.rounds ++ round ∷ []) number id
round_seats facts state round number id order e = elim (cases_Bool (round.number == number)) [
  | inl same ↦
      let here = eqb-true round.number number same in
      let at : number ≡ length state.rounds + 1 = omega (arith, here, e, order) in
      let before : seat_in facts state.rounds number id ≡ None = ap (λ r. seat_of facts r id) (no_round state.rounds number at) in
      let after : seat_in facts (state.rounds ++ round ∷ []) number id ≡ seat_of facts (Some round) id = ap (λ r. seat_of facts r id) (last_round state.rounds round number at) in
      let rows : first_allot number id (allot_rows facts round) ≡ seat_of facts (Some round) id =
      subst (λ n. first_allot n id (allot_rows facts round) ≡ seat_of facts (Some round) id) here (rows_seat facts round id) in
      ap (λ s. or_else s (first_allot number id (allot_rows facts round))) before ∙ (rows ∙ sym after)
  | inr apart ↦
      let none : first_allot number id (allot_rows facts round) ≡ None = other_rows round.number number id (seat_of facts (Some round)) facts.people apart in
      let not_last : number ≡ length state.rounds + 1 → ⊥ = λ at. eqb-false round.number number apart (omega (arith, at, e, order)) in
      let same : seat_in facts (state.rounds ++ round ∷ []) number id ≡ seat_in facts state.rounds number id = ap (λ r. seat_of facts r id) (other_round state.rounds round number not_last) in
      ap (λ r. or_else (seat_in facts state.rounds number id) r) none ∙ (or_none (seat_in facts state.rounds number id) ∙ sym same)
]

published_next : (facts : SeasonFacts) (state : State) (round : Round) (number id : ℕ) → length state.rounds ≡ state.now → state.now < facts.rounds → round.number ≡ state.now + 1
    → or_else (published_seat facts state number id) (first_allot number id (allot_rows facts round)) ≡ published_seat facts (with_round state round) number id
published_next facts state round number id order less e =
    with_rows (number == facts.rounds + 1) (seat_in_finals state.finals number id) (seat_in facts state.rounds number id) (seat_in facts (state.rounds ++ round ∷ []) number id)
    (first_allot number id (allot_rows facts round))
    (λ last. other_rows round.number number id (seat_of facts (Some round)) facts.people
    (ne_eqb round.number number (λ same. let f = eqb-true number (facts.rounds + 1) last in absurd (omega (arith, f, same, e, less)))))
    (λ not_last. round_seats facts state round number id order e)

pub stand_round : (facts : SeasonFacts) (state : State) (round : Round) (tables : Tables) → length state.rounds ≡ state.now → state.now < facts.rounds → round.number ≡ state.now + 1
    → Stand facts state tables → Stand facts (with_round state round) (with_cut (allot_rows facts round) tables)
stand_round facts state round Untold order less e stands = tt
stand_round facts state round NoSeason order less e stands = absurd stands
stand_round facts state round (Records kept) order less e stands = record {
  season = stands.season;
  raises = stands.raises;
  answers = stands.answers;
  cuts = ap (λ n. n + 1) stands.cuts;
  allots = λ number id.
      first_append number id kept.allots (allot_rows facts round)
      ∙ (ap (λ s. or_else s (first_allot number id (allot_rows facts round))) (stands.allots number id) ∙ published_next facts state round number id order less e);
}

-- ---- the final rows

with_last : (b : Bool) (olds news before rows : Option Seat) → (b ≡ true → or_else olds rows ≡ news) → (b ≡ false → rows ≡ None)
    → or_else (if b then olds else before) rows ≡ (if b then news else before)
with_last true olds news before rows first second = first refl
with_last false olds news before rows first second = ap (λ r. or_else before r) (second refl) ∙ or_none before

published_last : (facts : SeasonFacts) (state : State) (number id : ℕ) → state.finals ≡ None
    → or_else (published_seat facts state number id) (first_allot number id (final_rows facts state)) ≡ published_seat facts (with_finals state (final_rows facts state)) number id
published_last facts state number id none =
    with_last (number == facts.rounds + 1) (seat_in_finals state.finals number id) (first_allot number id (final_rows facts state)) (seat_in facts state.rounds number id)
    (first_allot number id (final_rows facts state))
    (λ last. ap (λ (f : Option (List AllotRow)). or_else (seat_in_finals f number id) (first_allot number id (final_rows facts state))) none)
    (λ not_last. other_rows (facts.rounds + 1) number id (final_seat facts state) facts.people
    (ne_eqb (facts.rounds + 1) number (λ same. eqb-false number (facts.rounds + 1) not_last (sym same))))

pub stand_finals : (facts : SeasonFacts) (state : State) (tables : Tables) → state.finals ≡ None → Stand facts state tables
    → Stand facts (with_finals state (final_rows facts state)) (with_cut (final_rows facts state) tables)
stand_finals facts state Untold none stands = tt
stand_finals facts state NoSeason none stands = absurd stands
stand_finals facts state (Records kept) none stands = record {
  season = stands.season;
  raises = stands.raises;
  answers = stands.answers;
  cuts = ap (λ n. n + 1) stands.cuts;
  allots = λ number id.
      first_append number id kept.allots (final_rows facts state)
      ∙ (ap (λ s. or_else s (first_allot number id (final_rows facts state))) (stands.allots number id) ∙ published_last facts state number id none);
}
