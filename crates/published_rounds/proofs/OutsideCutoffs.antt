-- Who sought a programme more than their seat applied to it, and it refused them: so they are within none of its lines. The programme of a seat admits its holder
-- under the first step of whose lines they are within one.
use Rattle.std.proofs.Common.{◌≡◌, ◌<◌, inl, inr, ℕ, suc, List, Some, length, arith, refl, sym, ap, ◌∙◌, subst}
use Rattle.std.specs.Prelude.{◌↔◌, slice_get}
use Rattle.std.proofs.lemmas.Bool.{cases_lt, ltb-true}
use Rattle.std.proofs.lemmas.Option.{slice_get_within}
use Rattle.office_base.specs.Lists.{IsAmong}
use Rattle.office_base.specs.Merit.{in_merit}
use Rattle.office_base.specs.Person.{IsTraitSet}
use Rattle.office_base.specs.declared.seat.Seat.{Seat}
use Rattle.office_base.specs.declared.person.ListId.{ListId}
use Rattle.office_base.specs.declared.person.Person.{Person}
use Rattle.office_base.specs.declared.person.ProgId.{ProgId}
use Rattle.office_base.specs.declared.seat.SeatKind.TheVariants.{Under}
use Rattle.office_base.specs.declared.step.StepKind.{StepKind}
use Rattle.office_base.proofs.Lists.{all_among, there_is}
use Rattle.placements.proofs.Ranks.{among_itself}
use Rattle.allocations.specs.Market.{Seeker, applicants, applies, place_of, rank_of, seat_at}
use Rattle.allocations.proofs.Claims.{applicants_may}
use Rattle.allocations.proofs.Places.{applies_true, place_read, seat_same}
use Rattle.allocations.proofs.Those.{those_has}
use Rattle.seat_matrix.specs.Matrix.{SeatTable, list_in, seats_in}
use Rattle.programme_lists.specs.Chosen.{AdmitsUnder, AreApplicants, ChoosesFrom, IsRefused}
use Rattle.programme_lists.specs.Listing.{ShowsSteps}
use Rattle.programme_lists.specs.Programme.{Admissions, admitted_by}
use Rattle.programme_lists.specs.declared.programme.Programme.{Programme}
use Rattle.open_then_category.specs.Laws.{OneProgrammeChoice}
use Rattle.list_cutoffs.specs.Cutoffs.{AreCutoffsIn}
use Rattle.list_cutoffs.specs.declared.cutoffs.StepCutoff.{StepCutoff}
use Rattle.programme_cutoffs.specs.Cutoffs.{MeetsCutoff}
use Rattle.programme_cutoffs.specs.Laws.{CutoffsDecideAdmissions, CutoffsDecideSteps, IsJoinedBy, LinesTellCutoffs}
use Rattle.programme_cutoffs.specs.Reading.{IsWithinFirst, IsWithinLines, IsWithinStep}
use Rattle.rounds.specs.Rule.{MayApplyIn, ProgrammesChooseWell, nobody, rule_of}
use Rattle.rounds.proofs.Nobody.{is_under}
use Rattle.rounds.specs.declared.round.Round.{Round}
use Rattle.office_moves.specs.Facts.{IsSound, SeasonFacts}
use Rattle.office_moves.specs.State.{State, seat_of}
use Rattle.history_laws.specs.Orderly.{IsOrderly}
use Rattle.published_rounds.specs.Published.{market_then, matrix_then, wanted_then}
use Rattle.published_rounds.proofs.Places.{AreOrderly, InRound, order_of, in_round, made_then, may_enter, place_among, seat_there_is}
use Rattle.published_rounds.specs.CutoffLaws.{RefusalsAreOutside, SeatsAreTheFirst, WithinCutoffsIsSeated}
use Rattle.published_rounds.specs.Cutoffs.{AreCutoffsThen, IsSeatOfFirst}
use Rattle.published_rounds.proofs.RaisedCutoffs.{more_cutoffs, raised_by}
use Rattle.published_rounds.proofs.FairThen.{fair_over}
use Rattle.published_rounds.proofs.FirstWithin.{first_along, of_some_step}

module _ (well : ProgrammesChooseWell) (facts : SeasonFacts) (state : State) (window : ℕ) (round : Round) (sound : IsSound facts) (order : IsOrderly facts state)
    (is : slice_get state.rounds window ≡ Some round) where
  abbrev table : SeatTable
  table = matrix_then facts state window

  abbrev seekers : List Seeker
  seekers = market_then facts state window

  -- what the lists of a programme show
  pub record Shown (prog : ℕ) (programme : Programme) : Type 0 where
    pub admissions : Admissions
    pub below : prog < length table.programmes
    pub may : AreApplicants (list_in table prog) (applicants prog seekers round.seats)
    pub choice : ChoosesFrom facts.version (seats_in table prog) (applicants prog seekers round.seats) admissions
    pub shows : ShowsSteps facts.version (seats_in table prog) (in_merit (seats_in table prog).list (applicants prog seekers round.seats)) admissions programme

  pub shown_by : (prog : ℕ) (programme : Programme) → slice_get round.programmes prog ≡ Some programme → Shown prog programme
  shown_by prog programme there =
      let made = made_then facts state window round order is in
      let inside = slice_get_within round.programmes prog programme there in
      let count = made.count in
      let below : prog < length table.programmes = omega (arith, inside, count) in
      let shown = made.shown prog programme there in
      record {
        admissions = shown.0;
        below = below;
        may = applicants_may (rule_of facts.version nobody table) (MayApplyIn table) (length table.programmes) prog seekers round.seats (fair_over facts state window round sound order is).market (well facts.version nobody table (order.course.seats (suc window)))
            below made.best.fair.allocation.full;
        choice = shown.1;
        shows = shown.2;
      }

  -- the lines of a programme tell the cutoffs of its steps
  pub told : LinesTellCutoffs → (prog : ℕ) (programme : Programme) (shown : Shown prog programme) (lines : List StepCutoff) (person : Person) (kind : StepKind) → IsTraitSet person.traits
      → AreCutoffsIn (seats_in facts.matrix prog) programme.steps lines
      → MeetsCutoff facts.version (seats_in table prog) shown.admissions person kind ↔ IsWithinStep (list_in facts.matrix prog) person kind lines
  told tell prog programme shown lines person kind small are =
      let raise = raised_by facts state order.course prog (suc window) in
      let both = tell facts.version (seats_in table prog) (applicants prog seekers round.seats) shown.admissions programme lines person kind ((order.course.seats (suc window)).sound prog shown.below)
      shown.may shown.choice shown.shows (more_cutoffs (seats_in facts.matrix prog) (seats_in table prog) raise programme.steps lines are) small in
      subst (λ (l : ListId). MeetsCutoff facts.version (seats_in table prog) shown.admissions person kind ↔ IsWithinStep l person kind lines) raise.list both

  -- who sought a programme more than their seat applied to it
  applied_to : (i prog : ℕ) (person : Person) (b : InRound facts state window i round person) → place_of b.s.list prog < length b.s.list → place_of b.s.list prog < rank_of b.s.list b.seat
      → IsAmong person (applicants prog seekers round.seats)
  applied_to i prog person b less later =
      subst (λ p. IsAmong p (applicants prog seekers round.seats)) b.person_is
      (those_has (λ s o. applies prog s.list o) seekers round.seats i b.s b.seat b.there b.has (applies_true prog b.s.list b.seat less (omega (arith, later))))

  -- and it refused them
  refused_by : (i prog : ℕ) (person : Person) (programme : Programme) (shown : Shown prog programme) (b : InRound facts state window i round person)
      → place_of b.s.list prog < rank_of b.s.list b.seat → IsRefused shown.admissions person
  refused_by i prog person programme shown b later kind taken =
      let fair = (made_then facts state window round order is).best.fair in
      let under : AdmitsUnder facts.version (seats_in table prog) (applicants prog seekers round.seats) b.s.person kind =
      (shown.admissions, shown.choice, subst (λ p. IsAmong p (admitted_by shown.admissions kind)) (sym b.person_is) taken) in
      let got = (fair.agrees prog i b.s (Under kind) shown.below b.there).0 under in
      let mine : b.seat ≡ Some (seat_at prog (Under kind)) = (let e = b.has in cc) in
      let rank : rank_of b.s.list b.seat ≡ place_of b.s.list prog = ap (λ z. rank_of b.s.list z) mine in
      omega (arith, later, rank)

  -- the same people again
  again : (prog : ℕ) (programme : Programme) (shown : Shown prog programme) (person : Person) → IsAmong person (applicants prog seekers round.seats)
      → IsJoinedBy facts.version (seats_in table prog) (applicants prog seekers round.seats) (applicants prog seekers round.seats) shown.admissions shown.admissions person
  again prog programme shown person here = record {
    both = record {
      are_seats = (order.course.seats (suc window)).sound prog shown.below;
      distinct = shown.may.distinct;
      may = shown.may;
      part = among_itself (applicants prog seekers round.seats);
      choice = shown.choice;
      more_choice = shown.choice;
    };
    there = here;
    nobody_else = λ other is_one. inl is_one;
  }

  -- each programme that somebody sought is one of the round's
  sought_there : (i prog : ℕ) (person : Person) (b : InRound facts state window i round person) → place_of b.s.list prog < length b.s.list
      → (programme : Programme) × (slice_get round.programmes prog ≡ Some programme)
  sought_there i prog person b less =
      let made = made_then facts state window round order is in
      let read = place_read b.s.list prog less in
      let below : prog < length table.programmes = subst (λ n. n < length table.programmes) read.2 ((fair_over facts state window round sound order is).market.below i (place_of b.s.list prog) b.s read.0 b.there read.1) in
      there_is round.programmes prog (let count = made.count in omega (arith, below, count))

  pub outside : CutoffsDecideAdmissions → LinesTellCutoffs → (i prog : ℕ) (person : Person) (cutoffs : ℕ → List StepCutoff) → IsTraitSet person.traits → AreCutoffsThen facts round cutoffs
      → (b : InRound facts state window i round person) → place_of b.s.list prog < length b.s.list → place_of b.s.list prog < rank_of b.s.list b.seat
      → IsWithinLines (list_in facts.matrix prog) person (cutoffs prog) → ⊥
  outside decide tell i prog person cutoffs small are b less later within =
      let programme = sought_there i prog person b less in
      let shown = shown_by prog programme.0 programme.1 in
      let people = applicants prog seekers round.seats in
      let refused = refused_by i prog person programme.0 shown b later in
      let step = of_some_step (list_in facts.matrix prog) person (cutoffs prog) within in
      let met = (told tell prog programme.0 shown (cutoffs prog) person step.0 small (are prog programme.0 programme.1)).1 step.1 in
      let admitted = (decide facts.version (seats_in table prog) people people shown.admissions shown.admissions person (again prog programme.0 shown person (applied_to i prog person b less later))).1
      (step.0, met) in
      refused admitted.0 admitted.1

  -- the programme of a seat has a line of its step that the holder is within, and no such line of a step before
  pub holder_within : OneProgrammeChoice → CutoffsDecideSteps → LinesTellCutoffs → (i : ℕ) (person : Person) (own : Seat) (cutoffs : ℕ → List StepCutoff) → IsTraitSet person.traits
      → AreCutoffsThen facts round cutoffs → (b : InRound facts state window i round person) → b.seat ≡ Some own
      → (place_of b.s.list own.prog.0 < length b.s.list) × ((step : StepKind) × (own.step ≡ Under step) × IsWithinFirst (list_in facts.matrix own.prog.0) person step (cutoffs own.prog.0))
  holder_within one decide tell i person own cutoffs small are b held =
      let made = made_then facts state window round order is in
      let fair = made.best.fair in
      let prog = own.prog.0 in
      let has : slice_get round.seats i ≡ Some (Some own) = b.has ∙ ap Some held in
      let less = fair.allocation.own i b.s (Some own) b.there has in
      let programme = sought_there i prog person b less in
      let shown = shown_by prog programme.0 programme.1 in
      let people = applicants prog seekers round.seats in
      let seat_is : own ≡ seat_at prog own.step = seat_same own (seat_at prog own.step) refl refl in
      let under = is_under facts.version table prog people b.s.person own.step ((fair.agrees prog i b.s own.step shown.below b.there).1 (has ∙ ap (λ z. Some (Some z)) seat_is)) in
      let admitted : AdmitsUnder facts.version (seats_in table prog) people b.s.person under.step = under.chosen in
      let equal = one facts.version (seats_in table prog) people admitted.0 shown.admissions ((order.course.seats (suc window)).sound prog shown.below) shown.may admitted.1 shown.choice in
      let taken : IsAmong person (admitted_by shown.admissions under.step) =
      subst (λ (admissions : Admissions). IsAmong person (admitted_by admissions under.step)) equal
      (subst (λ p. IsAmong p (admitted_by admitted.0 under.step)) b.person_is admitted.2) in
      let rank : rank_of b.s.list b.seat ≡ place_of b.s.list prog = ap (rank_of b.s.list) held in
      let applied : IsAmong person people = subst (λ p. IsAmong p people) b.person_is
      (those_has (λ s o. applies prog s.list o) seekers round.seats i b.s b.seat b.there b.has (applies_true prog b.s.list b.seat less (omega (arith, rank)))) in
      let first = (decide facts.version (seats_in table prog) people people shown.admissions shown.admissions person under.step (again prog programme.0 shown person applied)).0 taken in
      let lines = λ (kind : StepKind). told tell prog programme.0 shown (cutoffs prog) person kind small (are prog programme.0 programme.1) in (
        less,
        (under.step, under.is, ((lines under.step).0 first.0, (λ before earlier within. first.1 before earlier ((lines before).1 within)))),
      )

-- ---- the laws

-- the traits of each candidate are some of the six
pub small_traits : (facts : SeasonFacts) (state : State) (window : ℕ) (person : Person) → IsSound facts → IsOrderly facts state → IsAmong person facts.people → IsTraitSet person.traits
small_traits facts state window person sound order here =
    all_among (λ (one : Person). IsTraitSet one.traits) facts.people person (may_enter facts state window sound order).traits here

pub refusals_are_outside : AreOrderly → ProgrammesChooseWell → CutoffsDecideAdmissions → LinesTellCutoffs → (facts : SeasonFacts) → RefusalsAreOutside facts
refusals_are_outside orderly well decide tell facts entries state window round person cutoffs prog published here are wanted later within =
    let order = order_of orderly facts entries state window round published in
    let i = place_among facts.people person here in
    let b = in_round facts state window i.0 round person published.sound order published.there i.1 in
    let list = wanted_then facts state window person.id.0 in
    let less : place_of b.s.list prog < length b.s.list = subst (λ l. place_of l prog < length l) (sym b.list_is) (ltb-true _ _ wanted) in
    let earlier : place_of b.s.list prog < rank_of b.s.list b.seat =
    subst (λ l. place_of l prog < rank_of l b.seat) (sym b.list_is) (subst (λ o. place_of list prog < rank_of list o) b.seat_is later) in
    outside well facts state window round published.sound order published.there decide tell i.0 prog person cutoffs (small_traits facts state window person published.sound order here) are b less earlier within

pub within_cutoffs_is_seated : ((facts : SeasonFacts) → RefusalsAreOutside facts) → (facts : SeasonFacts) → WithinCutoffsIsSeated facts
within_cutoffs_is_seated outside facts entries state window round person cutoffs prog published here are wanted within =
    let list = wanted_then facts state window person.id.0 in
    let seat = seat_of facts (Some round) person.id.0 in
    elim (cases_lt (place_of list prog) (rank_of list seat)) [
      | inl later ↦ absurd (outside facts entries state window round person cutoffs prog published here are wanted later within)
      | inr most ↦ seat_there_is list prog seat (ltb-true _ _ wanted) most
    ]

pub seats_are_the_first : AreOrderly → ProgrammesChooseWell → CutoffsDecideSteps → CutoffsDecideAdmissions → LinesTellCutoffs → OneProgrammeChoice → (facts : SeasonFacts) → SeatsAreTheFirst facts
seats_are_the_first orderly well steps decide tell one facts entries state window round person cutoffs published here are =
    let order = order_of orderly facts entries state window round published in
    let i = place_among facts.people person here in
    let b = in_round facts state window i.0 round person published.sound order published.there i.1 in
    let small = small_traits facts state window person published.sound order here in
    subst (λ (list : List ProgId). IsSeatOfFirst (list_in facts.matrix) cutoffs person list (seat_of facts (Some round) person.id.0)) b.list_is
    (subst (IsSeatOfFirst (list_in facts.matrix) cutoffs person b.s.list) (sym b.seat_is)
    (first_along (list_in facts.matrix) cutoffs person b.s.list b.seat
    (λ prog less later within. outside well facts state window round published.sound order published.there decide tell i.0 prog person cutoffs small are b less later within)
    (λ own held. holder_within well facts state window round published.sound order published.there one steps tell i.0 person own cutoffs small are b held)))
