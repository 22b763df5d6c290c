-- Without orders nothing changes: the round with guarantees is the round in which nobody is guaranteed a seat.
use Rattle.std.proofs.Common.{◌≡◌, ◌<◌, ◌≤◌, ◌+◌, ℕ, zero, suc, Bool, true, false, List, Option, Some, None, length, arith, refl, sym, ap, ◌∙◌, subst, if◌then◌else◌}
use Rattle.std.specs.Prelude.{slice_get, option_map, IsSome}
use Rattle.std.specs.Option.{unwrap_or}
use Rattle.std.proofs.lemmas.Bool.{eqb-true}
use Rattle.std.proofs.lemmas.Option.{slice_get_within}
use Rattle.office_base.proofs.Lists.{there_is}
use Rattle.office_base.proofs.People.{at_person-get}
use Rattle.office_base.specs.declared.person.ListId.{ListId}
use Rattle.office_base.specs.declared.person.Person.{Person}
use Rattle.office_base.specs.declared.person.ProgId.{ProgId}
use Rattle.office_base.specs.declared.seat.Seat.{Seat}
use Rattle.office_base.specs.declared.seat.SeatKind.TheVariants.{Under}
use Rattle.allocations.specs.Fair.{IsBest, IsFair, IsMarket, IsNextMarket}
use Rattle.allocations.specs.Market.{Seeker, seat_at, wanting}
use Rattle.allocations.specs.Rule.{Grows}
use Rattle.allocations.proofs.Best.{best_there}
use Rattle.allocations.proofs.Claims.{one_best}
use Rattle.allocations.proofs.Those.{value_at}
use Rattle.kept_seats.specs.Kept.{Guarantees, GuaranteesHeld, NobodyNeeds, alone}
use Rattle.kept_seats.proofs.Today.{nobody_needs}
use Rattle.kept_seats.proofs.Worth.{nothing_changes_without_need}
use Rattle.programme_lists.specs.Chosen.{AreApplicants}
use Rattle.rounds.specs.Round.{IsRound}
use Rattle.rounds.specs.Rule.{IsRaised, MayApplyIn, ProgrammesChooseWell, ProgrammesGrow, StepsChooseWell, guarantees, is_programme, nobody, rule_of, seekers_of, steps_of}
use Rattle.rounds.specs.declared.round.Round.{Round}
use Rattle.rounds.proofs.Entrants.{market}
use Rattle.rounds.proofs.Nobody.{best_alone, fair_alone, is_under}
use Rattle.seat_matrix.specs.Matrix.{AreSeats, SeatTable, first_list, list_in}
use Rattle.seat_matrix.specs.declared.entry.Home.{Home}
use Rattle.round_options.specs.Options.{holds}
use Rattle.office_moves.specs.Facts.{IsSound, SeasonFacts, lists_in_order}
use Rattle.office_moves.specs.State.{State, seat_in}
use Rattle.office_moves.specs.Raised.{matrix_at, matrix_of_round}
use Rattle.office_moves.specs.Moves.{IsNextRound, guaranteed_next, next_seeks}
use Rattle.seeks.specs.declared.seek.Seek.{Seek}
use Rattle.office_moves.specs.Promise.{kept_then, standing_then}
use Rattle.history_laws.specs.Course.{IsCourse, guaranteed_then, kept_programmes_then, seeks_then}
use Rattle.history_laws.proofs.Entering.{entrants}
use Rattle.history_laws.proofs.Falls.{fit_all, next_market}
use Rattle.history_laws.proofs.Made.{kept_next, seeks_next}
use Rattle.history_laws.proofs.Fits.{enters, full_seekers, map_at, seat_there, seekers_then}

-- ---- who is guaranteed a seat

-- a programme that stands for a seat is the one of the seat
of_seat : (p : ℕ) (o : Option Seat) → is_programme p (Some (option_map (λ (seat : Seat). seat.prog) o)) ≡ true → (seat : Seat) × (o ≡ Some seat) × (seat.prog.0 ≡ p)
of_seat p None h = absurd (cc)
of_seat p (Some seat) h = (seat, refl, eqb-true seat.prog.0 p h)

kept_means : (keeps : Bool) (o : Option Seat) (seat : Seat) → (if keeps then o else None) ≡ Some seat → (keeps ≡ true) × (o ≡ Some seat)
kept_means true o seat e = (refl, e)
kept_means false o seat e = absurd (cc)

-- one of the people who is guaranteed a seat of a programme had one of it, and kept it
pub sure_then : (facts : SeasonFacts) (state : State) (window p i : ℕ) (person : Person) → IsSound facts → slice_get facts.people i ≡ Some person
    → guaranteed_then facts state window p person ≡ true
    → (seat : Seat) × (holds (standing_then facts state window person.id.0) ≡ true) × (seat_in facts state.rounds window person.id.0 ≡ Some seat) × (seat.prog.0 ≡ p)
sure_then facts state window p i person sound there sure =
    let at = at_person-get facts.people (kept_programmes_then facts state window) i person sound.ranks.rising there in
    let mapped = map_at (λ (person : Person). option_map (λ (seat : Seat). seat.prog) (kept_then facts state window person.id.0)) facts.people i person there in
    let found = of_seat p (kept_then facts state window person.id.0) (subst (λ (o : Option (Option ProgId)). is_programme p o ≡ true) (at ∙ mapped) sure) in
    let kept = kept_means (holds (standing_then facts state window person.id.0)) (seat_in facts state.rounds window person.id.0) found.0 found.1 in
    (found.0, kept.0, kept.1, found.2)

-- who is guaranteed a seat at a cut had it in the round before
held : (facts : SeasonFacts) (state : State) (before : ℕ) (round : Round) → IsSound facts → IsCourse facts state → slice_get state.rounds before ≡ Some round
    → GuaranteesHeld (guaranteed_then facts state (suc before)) (seekers_then facts state before) round.seats
held facts state before round sound course is p i s there sure =
    let entry = enters facts state before i s sound there in
    let found = sure_then facts state (suc before) p i s.person sound entry.person_at sure in
    let full = (course.made before round is).best.fair.allocation.full in
    let seat = value_at (seekers_then facts state before) round.seats i s full there in
    let mine = seat_there facts state.rounds before i round s.person seat.0 sound is entry.person_at seat.1 in
    let same : seat.0 ≡ Some found.0 = sym mine ∙ found.2 in
    (found.0.step, seat.1 ∙ (ap Some same ∙ ap (λ (n : ℕ). Some (Some (seat_at n found.0.step))) found.3))

-- ---- one round

-- Where nobody needs a guarantee, the best allocation with guarantees is the one without.
same_best : (version : ℕ) (guaranteed : Guarantees) (table : SeatTable) (seekers : List Seeker) (seats : List (Option Seat)) → ProgrammesChooseWell → StepsChooseWell → AreSeats table
    → IsMarket (MayApplyIn table) (length table.programmes) seekers
    → ((others : List (Option Seat)) → IsFair (alone (steps_of version table)) (length table.programmes) seekers others → NobodyNeeds guaranteed seekers others)
    → IsBest (rule_of version guaranteed table) (length table.programmes) seekers seats → IsBest (rule_of version nobody table) (length table.programmes) seekers seats
same_best version guaranteed table seekers seats well steps sound in_market needless best =
    let count = length table.programmes in
    let plain = best_there (rule_of version nobody table) (MayApplyIn table) count seekers in_market (well version nobody table sound) in
    let by_steps = best_alone version count table seekers plain.0 plain.1 in
    let again = nothing_changes_without_need guaranteed (steps_of version table) (MayApplyIn table) (steps version table sound) count seekers plain.0 in_market by_steps (needless plain.0 by_steps.fair) in
    let same = one_best (rule_of version guaranteed table) (MayApplyIn table) count seekers plain.0 seats in_market (well version guaranteed table sound) again best in
    subst (λ (z : List (Option Seat)). IsBest (rule_of version nobody table) count seekers z) same plain.1

-- steps grow with their seats
steps_grow : (version : ℕ) (table more : SeatTable) → ProgrammesGrow → AreSeats table → AreSeats more → IsRaised table more → Grows (steps_of version table) (steps_of version more) (MayApplyIn table)
steps_grow version table more grow sound sound' raised p people x may picked =
    let admitted = grow version nobody nobody table more (λ p person sure. sure) sound sound' raised p people x may (Under picked.0, picked.1) in
    let under = is_under version more p people x admitted.0 admitted.1 in
    (under.step, under.chosen)

-- a market by one matrix is a market by another one of the same programmes
same_market : (table more : SeatTable) (seekers : List Seeker) → more.programmes ≡ table.programmes → IsMarket (MayApplyIn more) (length more.programmes) seekers
    → IsMarket (MayApplyIn table) (length table.programmes) seekers
same_market table more seekers same here = record {
  ids = here.ids;
  below = λ i k s q there at. subst (λ (n : ℕ). q.0 < n) (ap (λ l. length l) same) (here.below i k s q there at);
  distinct = here.distinct;
  may_apply = λ p below. subst (λ (l : ListId). AreApplicants l (wanting p seekers)) (same_list p) (here.may_apply p (subst (λ (n : ℕ). p < n) (sym (ap (λ l. length l) same)) below));
}
  where
    same_list : (p : ℕ) → list_in more p ≡ list_in table p
    same_list p = ap (λ (ps : List (List ℕ × Home)). unwrap_or (option_map (λ (held : List ℕ × Home). held.1.list) (slice_get ps p)) first_list) same

-- ---- the rounds of a season

module _ (facts : SeasonFacts) (state : State) (sound : IsSound facts) (well : ProgrammesChooseWell) (grow : ProgrammesGrow) (steps : StepsChooseWell) (course : IsCourse facts state) where
  -- the matrix of the cut of a window
  abbrev table_then : ℕ → SeatTable
  table_then window = matrix_of_round facts state (suc window)

  -- the seats are the best ones at the cut of a window, with these guarantees
  abbrev AreBestThen : Guarantees → ℕ → List (Option Seat) → Type 0
  AreBestThen guaranteed window seats = IsBest (rule_of facts.version guaranteed (table_then window)) (length (table_then window).programmes) (seekers_then facts state window) seats

  market_then : (window : ℕ) → IsMarket (MayApplyIn (table_then window)) (length (table_then window).programmes) (seekers_then facts state window)
  market_then window =
      market (table_then window) facts.people (lists_in_order facts) (seeks_then facts state window) (course.seats (suc window)) (entrants facts (table_then window) sound (course.programmes (suc window)))

  -- before the first round nobody has a seat that could be guaranteed
  none_first : (others : List (Option Seat)) → NobodyNeeds (guaranteed_then facts state 0) (seekers_then facts state 0) others
  none_first others p i s seat there has sure listed =
      let entry = enters facts state 0 i s sound there in
      let found = sure_then facts state 0 p i s.person sound entry.person_at sure in
      absurd (let e : None ≡ Some found.0 = found.2 in cc)

  -- where the seats of the round before are fair without guarantees, nobody needs one
  none_later : (before : ℕ) (round : Round) → slice_get state.rounds before ≡ Some round → before < length state.rounds → AreBestThen nobody before round.seats → (others : List (Option Seat))
      → IsFair (alone (steps_of facts.version (table_then (suc before)))) (length (table_then (suc before)).programmes) (seekers_then facts state (suc before)) others
      → NobodyNeeds (guaranteed_then facts state (suc before)) (seekers_then facts state (suc before)) others
  none_later before round is less best others fair =
      let table = table_then before in
      let more = table_then (suc before) in
      let raised = course.raised (suc before) in
      let count = length table.programmes in
      nobody_needs (steps_of facts.version table) (steps_of facts.version more) (MayApplyIn table) (guaranteed_then facts state (suc before)) count (seekers_then facts state before)
      (seekers_then facts state (suc before)) round.seats others (steps facts.version table (course.seats (suc before)))
      (steps_grow facts.version table more grow (course.seats (suc before)) (course.seats (suc (suc before))) raised) (market_then before)
      (same_market table more (seekers_then facts state (suc before)) raised.programmes (market_then (suc before)))
      (next_market facts state before round sound course (fit_all facts state before sound well grow course less) is) (held facts state before round sound course is)
      (fair_alone facts.version count table (seekers_then facts state before) round.seats best.fair)
      (subst (λ (n : ℕ). IsFair (alone (steps_of facts.version more)) n (seekers_then facts state (suc before)) others) (ap (λ l. length l) raised.programmes) fair)

  best_then : (window : ℕ) (seats : List (Option Seat)) → window ≤ length state.rounds → AreBestThen (guaranteed_then facts state window) window seats → AreBestThen nobody window seats
  best_then zero seats few best =
      same_best facts.version (guaranteed_then facts state 0) (table_then 0) (seekers_then facts state 0) seats well steps (course.seats 1) (market_then 0) (λ others fair. none_first others) best
  best_then (suc before) seats few best =
      let less : before < length state.rounds = omega (arith, few) in
      let round = there_is state.rounds before less in
      let earlier = best_then before round.0.seats (omega (arith, less)) (course.made before round.0 round.1).best in
      same_best facts.version (guaranteed_then facts state (suc before)) (table_then (suc before)) (seekers_then facts state (suc before)) seats well steps (course.seats (suc (suc before)))
      (market_then (suc before)) (none_later before round.0 round.1 less earlier) best

  -- A published round is the one in which nobody is guaranteed a seat.
  pub made_alone : (before : ℕ) (round : Round) → slice_get state.rounds before ≡ Some round
      → IsRound facts.version nobody (table_then before) facts.people (lists_in_order facts) (before + 1) (seeks_then facts state before) round
  made_alone before round is =
      let made = course.made before round is in
      let less = slice_get_within state.rounds before round is in
      record { number = made.number; sought = made.sought; best = best_then before round.seats (omega (arith, less)) made.best; count = made.count; shown = made.shown }

  -- And so is the next one.
  pub next_is_alone : matrix_at facts state ≡ matrix_of_round facts state (suc state.now) → state.now < facts.rounds → (round : Round) → IsNextRound facts state round
      → IsRound facts.version nobody (matrix_at facts state) facts.people (lists_in_order facts) (state.now + 1) (next_seeks facts state) round
  next_is_alone matrix early round next =
      let same = course.order (omega (arith, early)) in
      let seeks = seeks_next facts state same in
      let sure = kept_next facts state same in
      let IsBestBy : Guarantees → SeatTable → List Seek → Type 0 = λ guaranteed table seeks. IsBest (rule_of facts.version guaranteed table) (length table.programmes) (seekers_of table facts.people (lists_in_order facts) seeks) round.seats in
      let here : AreBestThen (guaranteed_then facts state state.now) state.now round.seats =
      subst (λ (kept : List (Option ProgId)). IsBestBy (guarantees facts.people kept) (table_then state.now) (seeks_then facts state state.now)) (sym sure)
      (subst (λ (q : List Seek). IsBestBy (guaranteed_next facts state) (table_then state.now) q) (sym seeks)
      (subst (λ (m : SeatTable). IsBestBy (guaranteed_next facts state) m (next_seeks facts state)) matrix next.best)) in
      let best = best_then state.now round.seats (omega (arith, same)) here in
      record {
        number = next.number;
        sought = next.sought;
        best = subst (λ (m : SeatTable). IsBestBy nobody m (next_seeks facts state)) (sym matrix)
            (subst (λ (q : List Seek). IsBestBy nobody (table_then state.now) q) seeks best);
        count = next.count;
        shown = next.shown;
      }
