-- Round after round those who apply to a programme are some of those before, and it has no fewer seats. So its cutoffs only widen.
use Rattle.std.proofs.Common.{◌≡◌, ◌<◌, ◌+◌, ◌-◌, ℕ, zero, suc, List, Some, length, arith, sym, ap, ◌∙◌, subst}
use Rattle.std.specs.Prelude.{slice_get}
use Rattle.std.proofs.lemmas.Option.{slice_get_within}
use Rattle.office_base.specs.Lists.{IsAmong}
use Rattle.office_base.specs.Person.{IsTraitSet}
use Rattle.office_base.specs.declared.person.Person.{Person}
use Rattle.office_base.specs.declared.step.StepKind.{StepKind}
use Rattle.office_base.proofs.Lists.{there_is}
use Rattle.placements.specs.Ranks.{AreAmong}
use Rattle.placements.proofs.Ranks.{are_among}
use Rattle.allocations.specs.Market.{applicants, applies}
use Rattle.allocations.proofs.Claims.{applicants_may}
use Rattle.allocations.proofs.Places.{applies_means}
use Rattle.allocations.proofs.Those.{of_those, those_has}
use Rattle.seat_matrix.specs.Matrix.{SeatTable, seats_in}
use Rattle.programme_lists.specs.Chosen.{ChoosesFrom}
use Rattle.programme_lists.specs.Programme.{Admissions}
use Rattle.open_then_category.specs.Laws.{OneProgrammeChoice}
use Rattle.programme_cutoffs.specs.Cutoffs.{MeetsCutoff}
use Rattle.programme_cutoffs.specs.Laws.{LinesTellCutoffs, WhoMeetsStillMeets}
use Rattle.rounds.specs.Rule.{MayApplyIn, ProgrammesChooseWell, ProgrammesGrow, nobody, rule_of}
use Rattle.rounds.specs.declared.round.Round.{Round}
use Rattle.office_moves.specs.Facts.{IsSound, SeasonFacts}
use Rattle.office_moves.specs.State.{State}
use Rattle.history_laws.specs.Orderly.{IsOrderly}
use Rattle.history_laws.proofs.Falls.{fit_all, next_market}
use Rattle.published_rounds.specs.Published.{market_then, matrix_then}
use Rattle.published_rounds.proofs.Places.{AreOrderly, order_of, made_then}
use Rattle.published_rounds.specs.CutoffLaws.{LaterCutoffsAreWider}
use Rattle.published_rounds.proofs.FairThen.{fair_over}
use Rattle.published_rounds.proofs.OutsideCutoffs.{shown_by, told}

module _ (orderly : AreOrderly) (well : ProgrammesChooseWell) (grow : ProgrammesGrow) (still_meets : WhoMeetsStillMeets) (one : OneProgrammeChoice) (facts : SeasonFacts) (state : State) (sound : IsSound facts)
    (order : IsOrderly facts state) (prog : ℕ) (person : Person) (small : IsTraitSet person.traits) (kind : StepKind) where
  abbrev table : ℕ → SeatTable
  table window = matrix_then facts state window

  -- those who apply to the programme in a round
  abbrev people : ℕ → Round → List Person
  people window round = applicants prog (market_then facts state window) round.seats

  -- The person meets the cutoff of the step in the round of a window.
  record Would (window : ℕ) : Type 0 where
    pub round : Round
    pub is : slice_get state.rounds window ≡ Some round
    pub admissions : Admissions
    pub choice : ChoosesFrom facts.version (seats_in (table window) prog) (people window round) admissions
    pub meets : MeetsCutoff facts.version (seats_in (table window) prog) admissions person kind

  may : (window : ℕ) (round : Round) → slice_get state.rounds window ≡ Some round → prog < length (table window).programmes → MayApplyIn (table window) prog (people window round)
  may window round is below =
      let fair = (made_then facts state window round order is).best.fair in
      applicants_may (rule_of facts.version nobody (table window)) (MayApplyIn (table window)) (length (table window).programmes) prog (market_then facts state window) round.seats
      (fair_over facts state window round sound order is).market (well facts.version nobody (table window) (order.course.seats (suc window))) below fair.allocation.full

  same_programmes : (window : ℕ) → length (table (suc window)).programmes ≡ length (table window).programmes
  same_programmes window = ap length (order.course.raised (suc window)).programmes

  -- who applies in the next round applied in this one
  fewer : (window : ℕ) (round next : Round) → slice_get state.rounds window ≡ Some round → slice_get state.rounds (suc window) ≡ Some next → AreAmong (people (suc window) next) (people window round)
  fewer window round next is next_is =
      let less = slice_get_within state.rounds window round is in
      let narrows = next_market facts state window round sound order.course (fit_all facts state window sound well grow order.course less) is in
      let full = (made_then facts state window round order is).best.fair.allocation.full in
      are_among (people (suc window) next) (people window round) (λ other here.
      (let found = of_those (λ s seat. applies prog s.list seat) (market_then facts state (suc window)) next.seats other here in
      let inside = slice_get_within (market_then facts state (suc window)) found.place found.s found.there in
      let s = there_is (market_then facts state window) found.place (let size = narrows.same in omega (arith, inside, size)) in
      let seat = there_is round.seats found.place (let size = narrows.same in omega (arith, inside, size, full)) in
      let wanted = (applies_means prog found.s.list found.value found.passes).wants in
      let applied = narrows.narrowed prog found.place s.0 found.s seat.0 s.1 found.there seat.1 wanted in
      let there = those_has (λ s' o. applies prog s'.list o) (market_then facts state window) round.seats found.place s.0 seat.0 s.1 seat.1 applied in
      subst (λ p. IsAmong p (people window round)) (narrows.persons found.place s.0 found.s s.1 found.there ∙ sym found.person_is) there))

  -- from one round to the next
  would_still : (window : ℕ) → prog < length (table window).programmes → Would window → suc window < length state.rounds → Would (suc window)
  would_still window below would less =
      let next = there_is state.rounds (suc window) less in
      let made = made_then facts state (suc window) next.0 order next.1 in
      let size = same_programmes window in
      let below' : prog < length (table (suc window)).programmes = omega (arith, below, size) in
      let programme = there_is next.0.programmes prog (let count = made.count in omega (arith, below', count)) in
      let shown = made.shown prog programme.0 programme.1 in
      let first = may window would.round would.is below in
      let second = may (suc window) next.0 next.1 below' in
      let part = fewer window would.round next.0 would.is next.1 in
      let result = still_meets facts.version (seats_in (table window) prog) (seats_in (table (suc window)) prog) (people window would.round) (people (suc window) next.0) would.admissions shown.0 person kind
      (record {
        are_seats = (order.course.seats (suc window)).sound prog below;
        more_are_seats = (order.course.seats (suc (suc window))).sound prog below';
        more_seats = (order.course.raised (suc window)).seats prog;
        distinct = second.distinct;
        part = part;
        choice = would.choice;
        later_choice = shown.1;
      })
      first small would.meets in
      record {
        round = next.0;
        is = next.1;
        admissions = shown.0;
        choice = shown.1;
        meets = result;
      }

  -- and so on
  would_later : (window n : ℕ) → prog < length (table window).programmes → Would window → window + n < length state.rounds → Would (window + n)
  would_later window zero below would less = subst Would (omega arith) would
  would_later window (suc n) below would less =
      let still = would_still window below would (omega (arith, less)) in
      subst Would (omega arith) (would_later (suc window) n (omega (arith, below, same_programmes window)) still (omega (arith, less)))

pub later_cutoffs_are_wider : AreOrderly → ProgrammesChooseWell → ProgrammesGrow → WhoMeetsStillMeets → LinesTellCutoffs → OneProgrammeChoice → (facts : SeasonFacts) → LaterCutoffsAreWider facts
later_cutoffs_are_wider orderly well grow still_meets tell one facts entries state window next round later cutoffs others prog programme person kind published published' most are are' there small within =
    let sound = published.sound in
    let order = order_of orderly facts entries state window round published in
    let shown = shown_by well facts state window round sound order published.there prog programme there in
    let made' = made_then facts state next later order published'.there in
    let size = ap length (order.course.programmes (suc window)) in
    let size' = ap length (order.course.programmes (suc next)) in
    let below = shown.below in
    let programme' = there_is later.programmes prog (let count = made'.count in omega (arith, below, count, size, size')) in
    let shown' = shown_by well facts state next later sound order published'.there prog programme'.0 programme'.1 in
    let meets = (told well facts state window round sound order published.there tell prog programme shown (cutoffs prog) person kind small (are prog programme there)).1 within in
    let would : Would orderly well grow still_meets one facts state sound order prog person small kind window =
    record { round = round; is = published.there; admissions = shown.admissions; choice = shown.choice; meets = meets } in
    let last = slice_get_within state.rounds next later published'.there in
    let reached = would_later orderly well grow still_meets one facts state sound order prog person small kind window (next - window) below would (omega (arith, most, last)) in
    let then : Would orderly well grow still_meets one facts state sound order prog person small kind next =
    subst (Would orderly well grow still_meets one facts state sound order prog person small kind) (omega (arith, most)) reached in
    let same : then.round ≡ later = (let a = then.is in let b = published'.there in cc) in
    let people' = applicants prog (market_then facts state next) later.seats in
    let its : ChoosesFrom facts.version (seats_in (matrix_then facts state next) prog) people' then.admissions =
    subst (λ (r : Round). ChoosesFrom facts.version (seats_in (matrix_then facts state next) prog) (applicants prog (market_then facts state next) r.seats) then.admissions) same then.choice in
    let equal : then.admissions ≡ shown'.admissions =
    one facts.version (seats_in (matrix_then facts state next) prog) people' then.admissions shown'.admissions ((order.course.seats (suc next)).sound prog shown'.below) shown'.may its shown'.choice in
    (told well facts state next later sound order published'.there tell prog programme'.0 shown' (others prog) person kind small (are' prog programme'.0 programme'.1)).0
    (subst (λ (admissions : Admissions). MeetsCutoff facts.version (seats_in (matrix_then facts state next) prog) admissions person kind) equal then.meets)
