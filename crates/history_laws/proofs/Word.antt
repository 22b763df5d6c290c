-- Over a course of a season the office keeps its word.
use Rattle.std.proofs.Common.{◌≡◌, ◌⊎◌, inl, inr, ℕ, suc, true, List, [], ◌∷◌, Some, None, length, arith, refl, sym, ap, ◌∙◌, subst}
use Rattle.std.specs.Prelude.{slice_get, IsSome}
use Rattle.allocations.specs.Market.{applicants}
use Rattle.allocations.proofs.Claims.{fair_justified}
use Rattle.rounds.specs.Rule.{AreSeeks, MayApplyIn, ProgrammesChooseWell, ProgrammesGrow, StepsChooseWell, nobody, rule_of, seekers_of}
use Rattle.rounds.specs.declared.round.Round.{Round}
use Rattle.rounds.proofs.Entrants.{market}
use Rattle.seat_matrix.specs.Matrix.{seats_in}
use Rattle.programme_lists.specs.Chosen.{ShowsFrom}
use Rattle.round_options.specs.Options.{holds}
use Rattle.office_moves.specs.Facts.{IsSound, SeasonFacts, lists_in_order}
use Rattle.office_moves.specs.State.{State, last_seat, seat_in, seat_of}
use Rattle.office_moves.specs.Raised.{matrix_of_round}
use Rattle.office_moves.specs.Moves.{next_seeks}
use Rattle.office_moves.specs.Promise.{IsJust, KeepsItsWord, standing_then}
use Rattle.history_laws.specs.Course.{IsCourse, left_then, seeks_then}
use Rattle.history_laws.proofs.Alone.{made_alone}
use Rattle.history_laws.proofs.Entering.{entrants}
use Rattle.history_laws.proofs.Fits.{full_seekers, held_before, held_over, seekers_then, seeks_within}
use Rattle.history_laws.proofs.Falls.{holder_seated, holds_on}

-- every round is just
just : (facts : SeasonFacts) (state : State) (before : ℕ) (round : Round) → IsSound facts → ProgrammesChooseWell → ProgrammesGrow → StepsChooseWell → IsCourse facts state
    → slice_get state.rounds before ≡ Some round → IsJust facts (matrix_of_round facts state (suc before)) round
just facts state before round sound well grow steps course is =
    let table = matrix_of_round facts state (suc before) in
    let made = made_alone facts state sound well grow steps course before round is in
    let of_table = entrants facts table sound (course.programmes (suc before)) in
    let justified = fair_justified (rule_of facts.version nobody table) (MayApplyIn table) (length table.programmes) (seekers_then facts state before) round.seats
    (market table facts.people (lists_in_order facts) (seeks_then facts state before) (course.seats (suc before)) of_table) (well facts.version nobody table (course.seats (suc before))) made.best.fair in
    record {
      count = made.count;
      shown = λ p programme at. subst (λ seeks. ShowsFrom facts.version (seats_in table p) (applicants p (seekers_of table facts.people (lists_in_order facts) seeks) round.seats) programme) (sym made.sought)
          (made.shown p programme at);
      no_claim = rw made.sought justified.no_claim;
      best = rw made.sought made.best;
    }

-- and so does what everybody seeks by the standings now and the seats of the last round, also after the last cut
pub seeks_now_fit : (facts : SeasonFacts) (state : State) → IsSound facts → IsCourse facts state → AreSeeks (lists_in_order facts) (next_seeks facts state)
seeks_now_fit facts state sound course = seeks_within facts state (λ id. standing_then facts state state.now id) (length state.rounds) sound course

-- a candidate who keeps a seat has one
pub holders_seated : (facts : SeasonFacts) (state : State) → IsSound facts → ProgrammesChooseWell → ProgrammesGrow → IsCourse facts state → (id : ℕ)
    → holds (standing_then facts state (length state.rounds) id) ≡ true → IsSome (seat_in facts state.rounds (length state.rounds) id)
holders_seated facts state sound well grow course id keeps = holder_seated facts state (length state.rounds) id sound well grow course (omega arith) keeps

-- there is no round after the last
no_round : (rounds : List Round) → slice_get rounds (length rounds) ≡ None
no_round [] = refl
no_round (round ∷ rounds) = no_round rounds

-- after a cut that publishes no round, a candidate who keeps a seat has one in the last round
pub still_seated : (facts : SeasonFacts) (state : State) → IsSound facts → ProgrammesChooseWell → ProgrammesGrow → IsCourse facts state → (id : ℕ)
    → holds (standing_then facts state (suc (length state.rounds)) id) ≡ true → IsSome (seat_in facts state.rounds (length state.rounds) id)
still_seated facts state sound well grow course id keeps =
    let count = length state.rounds in
    let seat = seat_in facts state.rounds (suc count) id in
    let none : seat ≡ None = ap (λ o. seat_of facts o id) (no_round state.rounds) in
    let left = held_before (left_then facts state (suc count) id) (standing_then facts state (suc count) id) seat (course.answers (suc count) id) none keeps in
    holders_seated facts state sound well grow course id (held_over (standing_then facts state count id) seat left)

-- a candidate who keeps a seat now has one in the last round
pub seated_now : (facts : SeasonFacts) (state : State) → IsSound facts → ProgrammesChooseWell → ProgrammesGrow → IsCourse facts state
    → (state.now ≡ length state.rounds) ⊎ (state.now ≡ suc (length state.rounds)) → (id : ℕ) → holds (standing_then facts state state.now id) ≡ true → IsSome (last_seat facts state.rounds id)
seated_now facts state sound well grow course (inl now) id keeps =
    holders_seated facts state sound well grow course id (subst (λ n. holds (standing_then facts state n id) ≡ true) now keeps)
seated_now facts state sound well grow course (inr now) id keeps =
    still_seated facts state sound well grow course id (subst (λ n. holds (standing_then facts state n id) ≡ true) now keeps)

-- a round has a seat entry for each of the people
pub entries_full : (facts : SeasonFacts) (state : State) (before : ℕ) (round : Round) → IsSound facts → IsCourse facts state → slice_get state.rounds before ≡ Some round
    → length round.seats ≡ length facts.people
entries_full facts state before round sound course is = (course.made before round is).best.fair.allocation.full ∙ full_seekers facts state before sound

-- The office keeps its word.
pub keeps_its_word : (facts : SeasonFacts) (state : State) → IsSound facts → ProgrammesChooseWell → ProgrammesGrow → StepsChooseWell → IsCourse facts state → KeepsItsWord facts state
keeps_its_word facts state sound well grow steps course = record {
  rounds = λ before round is. just facts state before round sound well grow steps course is;
  sought = λ before round is. ((course.made before round is).number, (course.made before round is).sought);
  nobody_falls = λ window id less. holds_on facts state window id sound well grow course less;
  finals = course.finals;
  admitted = λ rows id is keeps.
      let all : length state.rounds ≡ facts.rounds = course.last (rw is refl) in
      holder_seated facts state facts.rounds id sound well grow course (omega (arith, all)) keeps;
}
