-- The seats and the lists of the rounds of a state in which all is in order can be shown.
use Rattle.std.proofs.lemmas.Option.{slice_get_within}
use Rattle.std.proofs.Common.{◌≡◌, ◌<◌, ◌+◌, ℕ, zero, suc, Bool, true, false, List, [], ◌∷◌, Option, Some, None, length, arith, refl, sym, ap, subst, if◌then◌else◌}
use Rattle.std.specs.Prelude.{slice_get, IfSome}
use Rattle.std.specs.List.{AllByRecursion}
use Rattle.std.specs.Option.{unwrap_or}
use Rattle.allocations.specs.Market.{applicants}
use Rattle.allocations.proofs.Claims.{applicants_may}
use Rattle.allocations.proofs.Places.{place_read}
use Rattle.office_base.specs.declared.seat.Seat.{Seat}
use Rattle.office_base.specs.declared.person.Person.{Person}
use Rattle.office_base.proofs.Lists.{all_from, there_is}
use Rattle.kept_rows.specs.declared.rows.AllotRow.{AllotRow}
use Rattle.programme_lists.specs.declared.programme.Programme.{Programme}
use Rattle.open_then_category.specs.Laws.{SlotsAreTraits}
use Rattle.seat_matrix.specs.Matrix.{seats_in}
use Rattle.rounds.specs.Rule.{MayApplyIn, ProgrammesChooseWell, nobody, rule_of, seekers_of}
use Rattle.rounds.specs.declared.round.Round.{Round}
use Rattle.rounds.proofs.Entrants.{market}
use Rattle.round_options.specs.Options.{holds}
use Rattle.office_moves.specs.Facts.{IsSound, SeasonFacts, lists_in_order}
use Rattle.office_moves.specs.Moves.{row_before, rows_along}
use Rattle.office_moves.specs.Promise.{kept_to_the_end, standing_then}
use Rattle.office_moves.specs.Raised.{matrix_of_round}
use Rattle.office_moves.specs.State.{State, round_at, seat_in}
use Rattle.published_texts.specs.Texts.{IsSeatOf}
use Rattle.reply_texts.specs.Replies.{HasTraitSlots, IsRoundOf}
use Rattle.history_laws.specs.Course.{seeks_then}
use Rattle.history_laws.specs.Orderly.{IsOrderly}
use Rattle.history_laws.proofs.Entering.{entrants}
use Rattle.history_laws.proofs.Fits.{is_seated}
use Rattle.shown_replies.specs.Shown.{rows_shown}

-- the laws on which it rests
pub record ChooseWell : Type 0 where
  pub well : ProgrammesChooseWell
  pub slots : SlotsAreTraits

-- a round that can be shown, with its programmes
pub record IsShown (facts : SeasonFacts) (round : Round) : Type 0 where
  pub entries : length round.seats ≡ length facts.people
  pub seats : (i : ℕ) (seat : Seat) → slice_get round.seats i ≡ Some (Some seat) → seat.prog.0 < length facts.matrix.programmes
  pub slots : (p : ℕ) (programme : Programme) → slice_get round.programmes p ≡ Some programme → HasTraitSlots programme

pub round_shows : (facts : SeasonFacts) (state : State) (before : ℕ) (round : Round) → ChooseWell → IsSound facts → IsOrderly facts state → slice_get state.rounds before ≡ Some round
    → IsShown facts round
round_shows facts state before round laws sound orderly at =
    let table = matrix_of_round facts state (suc before) in
    let same = orderly.course.programmes (suc before) in
    let sound_seats = orderly.course.seats (suc before) in
    let seekers = seekers_of table facts.people (lists_in_order facts) (seeks_then facts state before) in
    let seek = market table facts.people (lists_in_order facts) (seeks_then facts state before) sound_seats (entrants facts table sound same) in
    let made = orderly.alone before round at in
    let allocation = made.best.fair.allocation in
    record {
      entries = orderly.entries before round at;
      seats = λ i seat has.
          let below = slice_get_within round.seats i (Some seat) has in
          let full = allocation.full in
          let found = there_is seekers i (omega (arith, below, full)) in
          let read = place_read found.0.list seat.prog.0 (allocation.own i found.0 (Some seat) found.1 has) in
          let less = seek.below i _ found.0 read.0 found.1 read.1 in
          let many : length table.programmes ≡ length facts.matrix.programmes = ap (λ ps. length ps) same in
          let is = read.2 in
          omega (arith, less, many, is);
      slots = λ p programme shows.
          let below = slice_get_within round.programmes p programme shows in
          let count = made.count in
          let less : p < length table.programmes = omega (arith, below, count) in
          let may = applicants_may (rule_of facts.version nobody table) (MayApplyIn table) (length table.programmes) p seekers round.seats seek (laws.well facts.version nobody table sound_seats) less allocation.full in
          laws.slots facts.version (seats_in table p) (applicants p seekers round.seats) programme (sound_seats.sound p less) may (made.shown p programme shows);
    }

seat_of_all : (facts : SeasonFacts) (seat : Option Seat) → ((s : Seat) → seat ≡ Some s → s.prog.0 < length facts.matrix.programmes) → IsSeatOf facts.matrix seat
seat_of_all facts None below = tt
seat_of_all facts (Some seat) below = below seat refl

pub is_round_of : (facts : SeasonFacts) (round : Round) → IsShown facts round → IsRoundOf facts.matrix facts.people round
is_round_of facts round shows = record {
  entries = shows.entries;
  programmes = all_from (IsSeatOf facts.matrix) round.seats
      (λ i seat at. seat_of_all facts seat (λ s e. shows.seats i s (subst (λ o. slice_get round.seats i ≡ Some o) e at)));
}

-- the round of this number can be shown, if there is one
pub round_at_shows : (facts : SeasonFacts) (state : State) (number : ℕ) (round : Round) → ChooseWell → IsSound facts → IsOrderly facts state → round_at state.rounds number ≡ Some round
    → IsShown facts round
round_at_shows facts state zero round laws sound orderly at = absurd (cc)
round_at_shows facts state (suc before) round laws sound orderly at = round_shows facts state before round laws sound orderly at

pub is_round_shown : (facts : SeasonFacts) (state : State) (number : ℕ) → ChooseWell → IsSound facts → IsOrderly facts state
    → IfSome (round_at state.rounds number) (IsRoundOf facts.matrix facts.people)
is_round_shown facts state number laws sound orderly = go (round_at state.rounds number) refl
  where
    go : (o : Option Round) → round_at state.rounds number ≡ o → IfSome o (IsRoundOf facts.matrix facts.people)
    go None is = tt
    go (Some round) is = is_round_of facts round (round_at_shows facts state number round laws sound orderly is)

-- the seat of a candidate in a round is of the matrix
pub seat_shows : (facts : SeasonFacts) (state : State) (number id : ℕ) → ChooseWell → IsSound facts → IsOrderly facts state → IsSeatOf facts.matrix (seat_in facts state.rounds number id)
seat_shows facts state zero id laws sound orderly = tt
seat_shows facts state (suc before) id laws sound orderly = seat_of_all facts (seat_in facts state.rounds (suc before) id) (λ seat e.
    let seated = is_seated facts state.rounds before id seat e in
    (round_shows facts state before seated.round laws sound orderly seated.is).seats seated.stands.place seat seated.stands.at)

-- ---- the final rows

rows_show : (facts : SeasonFacts) (number : ℕ) (seat : ℕ → Option Seat) (people : List Person) → ((id : ℕ) → IsSeatOf facts.matrix (seat id))
    → AllByRecursion (λ (row : AllotRow). row.prog.0 < length facts.matrix.programmes) (rows_along number seat people)
rows_show facts number seat [] each = tt
rows_show facts number seat (person ∷ people) each = first (seat person.id.0) (each person.id.0) _ (rows_show facts number seat people each)
  where
    first : (o : Option Seat) → IsSeatOf facts.matrix o → (rows : List AllotRow) → AllByRecursion (λ (row : AllotRow). row.prog.0 < length facts.matrix.programmes) rows
        → AllByRecursion (λ (row : AllotRow). row.prog.0 < length facts.matrix.programmes) (row_before number person.id o rows)
    first None here rows rest = rest
    first (Some s) here rows rest = (here, rest)

kept_shows : (facts : SeasonFacts) (state : State) (id : ℕ) → ChooseWell → IsSound facts → IsOrderly facts state → IsSeatOf facts.matrix (kept_to_the_end facts state id)
kept_shows facts state id laws sound orderly = when (holds (standing_then facts state facts.rounds id)) _ (seat_shows facts state facts.rounds id laws sound orderly)
  where
    when : (b : Bool) (seat : Option Seat) → IsSeatOf facts.matrix seat → IsSeatOf facts.matrix (if b then seat else None)
    when true seat h = h
    when false seat h = tt

pub finals_show : (facts : SeasonFacts) (state : State) → ChooseWell → IsSound facts → IsOrderly facts state
    → AllByRecursion (λ (row : AllotRow). row.prog.0 < length facts.matrix.programmes) (rows_shown state)
finals_show facts state laws sound orderly = go state.finals refl
  where
    go : (o : Option (List AllotRow)) → state.finals ≡ o → AllByRecursion (λ (row : AllotRow). row.prog.0 < length facts.matrix.programmes) (unwrap_or o [])
    go None is = tt
    go (Some rows) is =
        subst (λ rs. AllByRecursion (λ (row : AllotRow). row.prog.0 < length facts.matrix.programmes) rs) (sym (orderly.word.finals rows is))
        (rows_show facts (facts.rounds + 1) (kept_to_the_end facts state) facts.people (λ id. kept_shows facts state id laws sound orderly))
