-- What holds of fair seats holds of a published round.
use Rattle.std.proofs.Common.{◌≡◌, ◌<◌, ℕ, suc, true, List, Option, Some, length, arith, sym, ap, subst}
use Rattle.std.specs.Prelude.{slice_get, option_map}
use Rattle.std.specs.Option.{unwrap_or}
use Rattle.std.proofs.lemmas.Option.{slice_get_within}
use Rattle.office_base.specs.Person.{IsBetter}
use Rattle.office_base.specs.declared.seat.Seat.{Seat}
use Rattle.office_base.specs.declared.person.ListId.{ListId}
use Rattle.office_base.specs.declared.person.Person.{Person}
use Rattle.office_base.specs.declared.person.ProgId.{ProgId}
use Rattle.allocations.specs.Fair.{IsNextMarket}
use Rattle.allocations.specs.Market.{Seeker, wants}
use Rattle.programme_laws.specs.Laws.{MayStandFor}
use Rattle.seat_matrix.specs.Matrix.{SeatTable, first_list, list_in}
use Rattle.seat_matrix.specs.declared.entry.Home.{Home}
use Rattle.rounds.specs.Rule.{ProgrammesChooseWell, ProgrammesGrow}
use Rattle.rounds.specs.declared.round.Round.{Round}
use Rattle.rounds.proofs.Entrants.{market}
use Rattle.office_moves.specs.Facts.{IsSound, SeasonFacts, lists_in_order}
use Rattle.office_moves.specs.Promise.{all_sought_then}
use Rattle.office_moves.specs.State.{State, seat_of}
use Rattle.history_laws.proofs.Falls.{fit_all, next_market}
use Rattle.history_laws.specs.Orderly.{IsOrderly}
use Rattle.published_rounds.specs.Published.{IsThatOrEarlier, market_then, matrix_then, wanted_then}
use Rattle.published_rounds.proofs.Places.{AreOrderly, order_of, in_round, made_then, may_enter, place_among}
use Rattle.published_rounds.specs.Fair.{AreFairOver}
use Rattle.published_rounds.specs.People.{IsDecidedFor, IsOpenFor, PublishedRoundsAreJustified}
use Rattle.published_rounds.specs.Laws.{NobodyIsEnvied, SeatsAreWithin}
use Rattle.published_rounds.specs.FairLaws.{FewNewHolders, FewNewlySeated, NoSeatIsWasted, NoVacancyFillsByItself, SeatsAreWithinWhereFair}
use Rattle.published_rounds.specs.FairThen.{ClosingPlacesDecideThen, FewNewHoldersThen, FewNewlySeatedThen, IsDecidedThen, IsOpenThen, NoSeatIsWastedThen, NoVacancyFillsByItselfThen}

module _ (facts : SeasonFacts) (state : State) (window : ℕ) (round : Round) (sound : IsSound facts) (order : IsOrderly facts state) (is : slice_get state.rounds window ≡ Some round) where
  abbrev table : SeatTable
  table = matrix_then facts state window

  abbrev seekers : List Seeker
  seekers = market_then facts state window

  -- the seats of the round are fair over its matrix
  pub fair_over : AreFairOver facts.version table seekers round.seats
  fair_over = record {
    are_seats = order.course.seats (suc window);
    market = market table facts.people (lists_in_order facts) (all_sought_then facts state window) (order.course.seats (suc window)) (may_enter facts state window sound order);
    fair = (made_then facts state window round order is).best.fair;
  }

  pub same_list : (p : ℕ) → list_in table p ≡ list_in facts.matrix p
  same_list p = ap (λ programmes. unwrap_or (option_map (λ (held : List ℕ × Home). held.1.list) (slice_get programmes p)) first_list) (order.course.programmes (suc window))

  abbrev got : ℕ → Option Seat
  got = seat_of facts (Some round)

  -- a programme is open by the season's matrix exactly where it is by that of the round
  opens : (p : ℕ) (person : Person) → IsOpenThen facts round p person → IsOpenFor table facts.people got p person
  opens p person o = record {
    holder = o.holder;
    among = o.among;
    step = o.step;
    holds = o.holds;
    may = subst (λ (l : ListId). MayStandFor l o.step person) (sym (same_list p)) o.may;
    traits = o.traits;
    not_better = subst (λ (l : ListId). IsBetter l o.holder person → ⊥) (sym (same_list p)) o.not_better;
  }

  opened : (p : ℕ) (person : Person) → IsOpenFor table facts.people got p person → IsOpenThen facts round p person
  opened p person o = record {
    holder = o.holder;
    among = o.among;
    step = o.step;
    holds = o.holds;
    may = subst (λ (l : ListId). MayStandFor l o.step person) (same_list p) o.may;
    traits = o.traits;
    not_better = subst (λ (l : ListId). IsBetter l o.holder person → ⊥) (same_list p) o.not_better;
  }

  decided_then : (person : Person) → IsDecidedFor table facts.people (wanted_then facts state window person.id.0) got person → IsDecidedThen facts state window round person
  decided_then person d = record {
    seated = λ p. (
      λ of_it.
          let f = (d.seated p).0 of_it in
          record { wanted = f.wants_it; is_open = opened p person f.is_open; none_before = λ other less o. f.none_before other less (opens other person o) },
      λ f. (d.seated p).1 (record { wants_it = f.wanted; is_open = opens p person f.is_open; none_before = λ other less o. f.none_before other less (opened other person o) }),
    );
    unseated = (λ none p wanted o. d.unseated.0 none p wanted (opens p person o), λ none. d.unseated.1 (λ p wanted o. none p wanted (opened p person o)));
  }

pub nobody_is_envied : AreOrderly → ((facts : SeasonFacts) → PublishedRoundsAreJustified facts) → (facts : SeasonFacts) → NobodyIsEnvied facts
nobody_is_envied orderly justified facts entries state window round better worse seat step published here here' has under wanted ahead may holds =
    let lists = sym (same_list facts state window round published.sound (order_of orderly facts entries state window round published) published.there seat.prog.0) in
    (justified facts entries state window round published).nobody_is_envied better worse seat step here here' has under wanted
    (subst (λ (l : ListId). IsBetter l better worse) lists ahead) (subst (λ (l : ListId). MayStandFor l step better) lists may) holds

pub seats_are_within : AreOrderly → SeatsAreWithinWhereFair → (facts : SeasonFacts) → SeatsAreWithin facts
seats_are_within orderly within facts entries state window round prog published below =
    let order = order_of orderly facts entries state window round published in
    let same = ap length (order.course.programmes (suc window)) in
    within facts.version (matrix_then facts state window) (market_then facts state window) round.seats prog (fair_over facts state window round published.sound order published.there)
    (omega (arith, below, same))

pub no_seat_is_wasted_then : AreOrderly → NoSeatIsWasted → (facts : SeasonFacts) → NoSeatIsWastedThen facts
no_seat_is_wasted_then orderly none facts entries state window round person prog step published left among wanted may =
    let order = order_of orderly facts entries state window round published in
    let at = place_among facts.people person among in
    let mine = in_round facts state window at.0 round person published.sound order published.there at.1 in
    let over = fair_over facts state window round published.sound order published.there in
    let lists = same_list facts state window round published.sound order published.there prog in
    let got = none facts.version (matrix_then facts state window) (market_then facts state window) round.seats prog at.0 step mine.s mine.seat over left mine.there mine.has
    (subst (λ (l : List ProgId). wants prog l ≡ true) (sym mine.list_is) wanted)
    (subst (λ (h : Person). MayStandFor (list_in (matrix_then facts state window) prog) step h) (sym mine.person_is)
    (subst (λ (l : ListId). MayStandFor l step person) (sym lists) may)) in
    subst (λ (o : Option Seat). IsThatOrEarlier (wanted_then facts state window person.id.0) prog o) (sym mine.seat_is)
    (subst (λ (l : List ProgId). IsThatOrEarlier l prog mine.seat) mine.list_is got)

pub closing_places_decide_then : AreOrderly → ((facts : SeasonFacts) → PublishedRoundsAreJustified facts) → (facts : SeasonFacts) → ClosingPlacesDecideThen facts
closing_places_decide_then orderly justified facts entries state window round person published among =
    decided_then facts state window round published.sound (order_of orderly facts entries state window round published) published.there person
    ((justified facts entries state window round published).closing_places_decide person among)

-- two rounds that follow each other
record FollowEachOther (facts : SeasonFacts) (state : State) (window : ℕ) (round next : Round) (prog : ℕ) : Type 0 where
  pub over : AreFairOver facts.version (matrix_then facts state window) (market_then facts state window) round.seats
  pub next_over : AreFairOver facts.version (matrix_then facts state (suc window)) (market_then facts state (suc window)) next.seats
  pub narrows : IsNextMarket (market_then facts state window) round.seats (market_then facts state (suc window))
  pub below : prog < length (matrix_then facts state window).programmes
  pub next_below : prog < length (matrix_then facts state (suc window)).programmes

follow : (facts : SeasonFacts) (state : State) (window : ℕ) (round next : Round) (prog : ℕ) → ProgrammesChooseWell → ProgrammesGrow → IsSound facts → IsOrderly facts state
    → slice_get state.rounds window ≡ Some round → slice_get state.rounds (suc window) ≡ Some next → prog < length facts.matrix.programmes → FollowEachOther facts state window round next prog
follow facts state window round next prog well grows sound order is again below =
    let fit = fit_all facts state window sound well grows order.course (slice_get_within state.rounds window round is) in
    let count = ap (λ l. length l) (order.course.programmes (suc window)) in
    let count' = ap (λ l. length l) (order.course.programmes (suc (suc window))) in
    record {
      over = fair_over facts state window round sound order is;
      next_over = fair_over facts state (suc window) next sound order again;
      narrows = next_market facts state window round sound order.course fit is;
      below = omega (arith, below, count);
      next_below = omega (arith, below, count');
    }

pub no_vacancy_fills_by_itself_then : AreOrderly → ProgrammesChooseWell → ProgrammesGrow → NoVacancyFillsByItself → (facts : SeasonFacts) → NoVacancyFillsByItselfThen facts
no_vacancy_fills_by_itself_then orderly well grows none facts entries state window round next prog published again below same =
    let f = follow facts state window round next prog well grows published.sound (order_of orderly facts entries state window round published) published.there again below in
    none facts.version (matrix_then facts state window) (matrix_then facts state (suc window)) (market_then facts state window) (market_then facts state (suc window)) round.seats next.seats
    prog f.over f.next_over f.narrows f.below f.next_below same

pub few_new_holders_then : AreOrderly → ProgrammesChooseWell → ProgrammesGrow → FewNewHolders → (facts : SeasonFacts) → FewNewHoldersThen facts
few_new_holders_then orderly well grows few facts entries state window round next prog published again below =
    let order = order_of orderly facts entries state window round published in
    let f = follow facts state window round next prog well grows published.sound order published.there again below in
    few facts.version (matrix_then facts state window) (matrix_then facts state (suc window)) (market_then facts state window) (market_then facts state (suc window)) round.seats next.seats
    prog f.over f.next_over f.narrows f.below f.next_below ((order.course.raised (suc window)).seats prog)

pub few_newly_seated_then : AreOrderly → ProgrammesChooseWell → ProgrammesGrow → FewNewlySeated → (facts : SeasonFacts) → FewNewlySeatedThen facts
few_newly_seated_then orderly well grows few facts entries state window round next prog published again below =
    let order = order_of orderly facts entries state window round published in
    let f = follow facts state window round next prog well grows published.sound order published.there again below in
    few facts.version (matrix_then facts state window) (matrix_then facts state (suc window)) (market_then facts state window) (market_then facts state (suc window)) round.seats next.seats
    prog f.over f.next_over f.narrows f.below f.next_below ((order.course.raised (suc window)).seats prog)
