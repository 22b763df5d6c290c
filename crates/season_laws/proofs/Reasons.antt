-- The reasons that the office gives are just.
use Rattle.std.proofs.Common.{◌≡◌, ◌≢◌, ◌≤◌, ◌<◌, inl, inr, ◌==◌, ℕ, zero, suc, Bool, true, false, List, [], ◌∷◌, Option, Some, None, length, arith, refl, sym, ap, ◌∙◌, ◌+◌, subst, nat_lt, nat_le, if◌then◌else◌}
use Rattle.std.specs.Prelude.{slice_get, option_map}
use Rattle.std.specs.Option.{option_and_then, unwrap_or}
use Rattle.std.proofs.lemmas.Bool.{and_from, and_parts, cases_Bool, cond-false, cond-true, eq-eqb, eqb-true, false≢true, ltb-false, or_cases, or_left, or_right}
use Rattle.std.proofs.lemmas.Option.{slice_get_within}
use Rattle.office_base.proofs.People.{at_person-get}
use Rattle.office_base.proofs.StepNumbers.{kind_at, kinds}
use Rattle.office_base.specs.Lists.{IsAmong, Pairwise}
use Rattle.office_base.specs.Merit.{in_merit}
use Rattle.office_base.specs.Person.{at_person}
use Rattle.office_base.specs.StepNumbers.{step_number}
use Rattle.office_base.specs.declared.seat.Seat.{Seat}
use Rattle.office_base.specs.declared.seat.SeatKind.TheVariants.{Under}
use Rattle.office_base.specs.declared.person.CandId.{CandId}
use Rattle.office_base.specs.declared.person.Person.{Person}
use Rattle.office_base.specs.declared.person.ProgId.{ProgId}
use Rattle.office_base.specs.declared.step.StepKind.{StepKind}
use Rattle.office_base.proofs.Lists.{there_is, at_among}
use Rattle.placements.proofs.Ranks.{one_person}
use Rattle.placements.proofs.Zips.{zip_at, zip_back}
use Rattle.placements.proofs.Convert.{same_cand}
use Rattle.allocations.specs.Fair.{IsMarket}
use Rattle.allocations.specs.Market.{Seeker, applicants, applies, place_of, rank_of, seat_at}
use Rattle.allocations.proofs.Claims.{applicants_may}
use Rattle.allocations.proofs.Places.{applies_true, holder_applies, place_read, seat_same}
use Rattle.allocations.proofs.Those.{those_has}
use Rattle.choice_lists.specs.Choices.{list_of}
use Rattle.rank_lists.specs.Register.{find_person}
use Rattle.seat_matrix.specs.Matrix.{SeatTable, first_list, list_in, seats_in}
use Rattle.seat_matrix.specs.declared.entry.Home.{Home}
use Rattle.seeks.specs.Seek.{are_together, is_beside, is_left, is_listed, seek_leaves}
use Rattle.seeks.specs.declared.seek.Seek.{Seek}
use Rattle.seeks.specs.declared.seek.Seek.TheVariants.{Within}
use Rattle.programme_lists.specs.Chosen.{ChoosesFrom}
use Rattle.programme_lists.specs.Listing.{ShowsStep}
use Rattle.programme_lists.specs.Programme.{Admissions, admitted_by, is_taken}
use Rattle.programme_lists.specs.declared.programme.Programme.{Programme}
use Rattle.programme_lists.specs.declared.programme.StepList.{StepList}
use Rattle.open_then_category.specs.Laws.{OneProgrammeChoice}
use Rattle.reasons.specs.declared.reason.Reason.{Reason}
use Rattle.reasons.specs.declared.reason.Reason.TheVariants.{Admitted, Refused}
use Rattle.reasons.specs.declared.reason.StepWhy.{StepWhy}
use Rattle.reasons.specs.declared.reason.WhyAnswer.{WhyAnswer}
use Rattle.reasons.specs.declared.reason.WhyAnswer.TheVariants.{Reason as Because, Better, NotSought}
use Rattle.explain.specs.Just.{ReasonsAreJust, WasApplicant}
use Rattle.explain.specs.Reason.{admitted_in, reason_from, reason_of, refusal}
use Rattle.rounds.specs.Rule.{MayApplyIn, ProgrammesChooseWell, nobody, rule_of, seekers_of, steps_of}
use Rattle.rounds.proofs.Nobody.{is_under}
use Rattle.rounds.specs.declared.round.Round.{Round}
use Rattle.rounds.proofs.Entrants.{entered, length_seekers, market}
use Rattle.round_laws.proofs.People.{found_at, stands_at}
use Rattle.office_moves.specs.Facts.{IsSound, SeasonFacts, lists_in_order}
use Rattle.office_moves.specs.State.{State, round_at, seat_of}
use Rattle.office_moves.specs.Promise.{IsJust}
use Rattle.office_moves.specs.Raised.{matrix_of_round}
use Rattle.office_moves.specs.Decided.{decided}
use Rattle.office_moves.specs.Moves.{Does, Tells, receipt}
use Rattle.office_moves.specs.declared.decide.Decision.{Decision}
use Rattle.office_moves.specs.declared.decide.Decision.TheVariants.{CutAgain, Publish, Tell}
use Rattle.office_moves.specs.declared.decide.Question.{Question}
use Rattle.office_moves.specs.declared.decide.Question.TheVariants.{Why as TheReason, List as TheList, Cutoffs as TheCutoffs, Register as TheRegister}
use Rattle.office_moves.specs.declared.moves.Reply.TheVariants.{Final, Published, RegisterIs, WhyIs}
use Rattle.office_moves.specs.Why.{is_sought_by, reason_in, why_answer, why_beside, why_refused}
use Rattle.office_moves.proofs.Narrows.{left_order, left_there, there_left}
use Rattle.history_laws.specs.Orderly.{IsOrderly}
use Rattle.history_laws.proofs.Entering.{entrants, list_there, lists_full, own_there}
use Rattle.history_laws.proofs.Fits.{full_seeks}
use Rattle.season_laws.specs.Reasons.{IsJustReason, IsShownUnder, OfficeReasonsAreJust, ToldReasonsAreJust}

-- the laws of the choice of a programme on which this rests
pub record AreLaws : Type 0 where
  pub well : ProgrammesChooseWell
  pub one : OneProgrammeChoice
  pub reasons : ReasonsAreJust

-- ---- what an answer tells

-- what was sought by a seek that there is
sought_means : (facts : SeasonFacts) (cand : CandId) (prog : ProgId) (o : Option Seek) → is_sought_by facts cand prog o ≡ true
    → (seek : Seek) × (o ≡ Some seek) × (is_listed prog.0 (seek_leaves facts.matrix seek (list_of facts.lists cand.0)) ≡ true)
sought_means facts cand prog None e = absurd (cc)
sought_means facts cand prog (Some seek) e = (seek, refl, e)

-- a reason is one of a programme and of a person
reason_means : (facts : SeasonFacts) (prog : ProgId) (p : Option Programme) (who : Option Person) (reason : Reason) → reason_in facts prog p who ≡ Because reason
    → (programme : Programme) × (person : Person) × (p ≡ Some programme) × (who ≡ Some person) × (reason ≡ reason_of (list_in facts.matrix prog.0) programme person)
reason_means facts prog None who reason e = absurd (cc)
reason_means facts prog (Some programme) None reason e = absurd (cc)
reason_means facts prog (Some programme) (Some person) reason e = (programme, person, refl, refl, cc)

-- ---- what a seek leaves, by two matrices of the same programmes

beside_too : (table other : SeatTable) (o : Option ProgId) (prog : ProgId) → other.programmes ≡ table.programmes → is_beside table o prog ≡ true → is_beside other o prog ≡ true
beside_too table other None prog same e = e
beside_too table other (Some one) prog same e =
    subst (λ programmes. are_together (slice_get programmes one.0) (slice_get programmes prog.0) ≡ true) (sym same) e

left_too : (table other : SeatTable) (seek : Seek) (progs : List ProgId) (place : ℕ) (prog : ProgId) → other.programmes ≡ table.programmes → is_left table seek progs place prog ≡ true
    → is_left other seek progs place prog ≡ true
left_too table other (Within k) progs place prog same e =
    let two = and_parts (nat_le place k) _ e in
    and_from _ _ two.0 (beside_too table other (slice_get progs k) prog same two.1)
left_too table other _ progs place prog same e = e

-- whatever is listed has a place
listed_placed : (p : ℕ) (progs : List ProgId) → is_listed p progs ≡ true → place_of progs p < length progs
listed_placed p [] e = absurd (cc)
listed_placed p (q ∷ progs) e = by (q.0 == p) (listed_placed p progs) e
  where
    by : (b : Bool) → (is_listed p progs ≡ true → place_of progs p < length progs) → (if b then true else is_listed p progs) ≡ true
        → (if b then 0 else place_of progs p + 1) < suc (length progs)
    by true rest e = omega arith
    by false rest e = let less = rest e in omega (arith, less)

left_by_both : (table other : SeatTable) (seek : Seek) (progs : List ProgId) (p : ℕ) → other.programmes ≡ table.programmes → is_listed p (seek_leaves table seek progs) ≡ true
    → place_of (seek_leaves other seek progs) p < length (seek_leaves other seek progs)
left_by_both table other seek progs p same e =
    let left = left_there table seek progs p (listed_placed p (seek_leaves table seek progs) e) in
    there_left other seek progs p left.place left.prog left.there left.is (left_too table other seek progs left.place left.prog same left.left)

-- ---- who is on a list

-- the list that has the person by the id
taken_in : (lists : List StepList) (person : Person) (step : StepKind) → admitted_in lists person ≡ Some step
    → (j : ℕ) × (shown : StepList) × (slice_get lists j ≡ Some shown) × (shown.kind ≡ step) × (is_taken shown.admitted person ≡ true)
taken_in [] person step e = absurd (cc)
taken_in (list ∷ lists) person step e = elim (cases_Bool (is_taken list.admitted person)) [
  | inl here ↦ (0, list, refl, (let told : Some list.kind ≡ Some step = sym (cond-true _ _ _ here) ∙ e in cc), here)
  | inr apart ↦
      let rest = taken_in lists person step (sym (cond-false _ _ _ apart) ∙ e) in
      (suc rest.0, rest.1, rest.2, rest.3, rest.4)
]

-- somebody of the id is among them
taken_means : (people : List Person) (person : Person) → is_taken people person ≡ true → (other : Person) × IsAmong other people × (other.id.0 ≡ person.id.0)
taken_means [] person e = absurd (cc)
taken_means (other ∷ people) person e = elim (or_cases (other.id.0 == person.id.0) (is_taken people person) e) [
  | inl here ↦ (other, inl refl, eqb-true other.id.0 person.id.0 here)
  | inr later ↦ let rest = taken_means people person later in (rest.0, inr rest.1, rest.2)
]

-- a person among them is one of the taken
there_taken : (people : List Person) (person : Person) → IsAmong person people → is_taken people person ≡ true
there_taken [] person there = absurd there
there_taken (other ∷ people) person there = elim there [
  | inl here ↦ or_left _ _ (eq-eqb other.id.0 person.id.0 (ap (λ (z : Person). z.id.0) (sym here)))
  | inr later ↦ or_right _ _ (there_taken people person later)
]

-- a person on a list is on the first list that has the person
somewhere : (lists : List StepList) (person : Person) (shown : StepList) → IsAmong shown lists → IsAmong person shown.admitted → (step : StepKind) × (admitted_in lists person ≡ Some step)
somewhere [] person shown listed there = absurd listed
somewhere (list ∷ lists) person shown listed there = elim (cases_Bool (is_taken list.admitted person)) [
  | inl here ↦ (list.kind, cond-true (is_taken list.admitted person) (Some list.kind) (admitted_in lists person) here)
  | inr apart ↦ elim listed [
    | inl first ↦ absurd (false≢true (sym apart ∙ there_taken list.admitted person (subst (λ (z : StepList). IsAmong person z.admitted) first there)))
    | inr later ↦
        let rest = somewhere lists person shown later there in
        (rest.0, cond-false (is_taken list.admitted person) (Some list.kind) (admitted_in lists person) apart ∙ rest.1)
  ]
]

-- ---- one round

-- the person at a place of the register: the seeker there, with what their seek leaves of their own list
record Entry (facts : SeasonFacts) (table : SeatTable) (seeks : List Seek) (i : ℕ) (person : Person) : Type 0 where
  pub s : Seeker
  pub there : slice_get (seekers_of table facts.people (lists_in_order facts) seeks) i ≡ Some s
  pub person_is : s.person ≡ person
  pub seek : Seek
  pub seek_at : slice_get seeks i ≡ Some seek
  pub leaves : s.list ≡ seek_leaves table seek (list_of facts.lists person.id.0)

module _ (facts : SeasonFacts) (state : State) (before : ℕ) (round : Round) (laws : AreLaws) (sound : IsSound facts) (orderly : IsOrderly facts state)
    (published : slice_get state.rounds before ≡ Some round) where
  abbrev table : SeatTable
  table = matrix_of_round facts state (suc before)

  abbrev seekers : List Seeker
  seekers = seekers_of table facts.people (lists_in_order facts) round.seeks

  abbrev count : ℕ
  count = length table.programmes

  just : IsJust facts table round
  just = orderly.word.rounds before round published

  same_programmes : table.programmes ≡ facts.matrix.programmes
  same_programmes = orderly.course.programmes (suc before)

  full : length seekers ≡ length facts.people
  full =
      length_seekers table facts.people (lists_in_order facts) round.seeks (lists_full facts sound)
      (ap (λ l. length l) (orderly.course.made before round published).sought ∙ full_seeks facts state before sound)

  are : IsMarket (MayApplyIn table) count seekers
  are = market table facts.people (lists_in_order facts) round.seeks (orderly.course.seats (suc before)) (entrants facts table sound same_programmes)

  entry : (i : ℕ) (person : Person) → slice_get facts.people i ≡ Some person → Entry facts table round.seeks i person
  entry i person at =
      let below = slice_get_within facts.people i person at in
      let size = full in
      let found = there_is seekers i (omega (arith, below, size)) in
      let e = entered table facts.people (lists_in_order facts) round.seeks i found.0 found.1 in
      let one : found.0.person ≡ person = (let a = e.person_at in cc) in
      let at_found : slice_get facts.people i ≡ Some found.0.person = e.person_at in
      let mine = list_there facts i person e.list sound at e.list_at in
      record {
        s = found.0;
        there = found.1;
        person_is = one;
        seek = e.seek;
        seek_at = e.seek_at;
        leaves = e.leaves ∙ ap (λ l. seek_leaves table e.seek l) (sym mine);
      }

  -- a person who applies to a programme is one of its applicants, and it is one of the matrix
  applying : (p i : ℕ) (person : Person) (e : Entry facts table round.seeks i person) (seat : Option Seat) → slice_get round.seats i ≡ Some seat → applies p e.s.list seat ≡ true
      → IsAmong person (applicants p seekers round.seats)
  applying p i person e seat has h =
      subst (λ z. IsAmong z (applicants p seekers round.seats)) e.person_is (those_has (λ s seat. applies p s.list seat) seekers round.seats i e.s seat e.there has h)

  within : (p i : ℕ) (person : Person) (e : Entry facts table round.seeks i person) → place_of e.s.list p < length e.s.list → p < count
  within p i person e less =
      let read = place_read e.s.list p less in
      subst (λ n. n < count) read.2 (are.below i (place_of e.s.list p) e.s read.0 e.there read.1)

  may : (p : ℕ) → p < count → MayApplyIn table p (applicants p seekers round.seats)
  may p below =
      applicants_may (rule_of facts.version nobody table) (MayApplyIn table) count p seekers round.seats are (laws.well facts.version nobody table (orderly.course.seats (suc before))) below
      just.best.fair.allocation.full

  -- what is shown of each step is what the choice admits
  shown_under : (p : ℕ) (programme : Programme) (person : Person) (step : StepKind) (admissions : Admissions) → p < count → slice_get round.programmes p ≡ Some programme
      → ChoosesFrom facts.version (seats_in table p) (applicants p seekers round.seats) admissions → IsAmong person (admitted_by admissions step) → IsShownUnder programme step person
  shown_under p programme person step admissions below at choice among =
      let shows = just.shown p programme at in
      let same : admissions ≡ shows.0 = laws.one facts.version (seats_in table p) (applicants p seekers round.seats) admissions shows.0 ((orderly.course.seats (suc before)).sound p below) (may p below) choice shows.1 in
      let found = zip_at (ShowsStep facts.version (seats_in table p) (in_merit (seats_in table p).list (applicants p seekers round.seats)) shows.0) kinds programme.steps (step_number step) step shows.2 (kind_at step) in (
        found.0,
        at_among programme.steps (step_number step) found.0 found.1,
        found.2.of_kind,
        subst (λ l. IsAmong person l) (sym found.2.persons) (subst (λ a. IsAmong person (admitted_by a step)) same among),
      )

  -- a person whose id is on a list is on it, and is admitted under its step
  record Shown (p : ℕ) (programme : Programme) (person : Person) (step : StepKind) : Type 0 where
    pub under : IsShownUnder programme step person
    pub admits : steps_of facts.version table p (applicants p seekers round.seats) person step

  admitted_shown : (p : ℕ) (programme : Programme) (person : Person) (step : StepKind) → p < count → slice_get round.programmes p ≡ Some programme
      → IsAmong person (applicants p seekers round.seats) → admitted_in programme.steps person ≡ Some step → Shown p programme person step
  admitted_shown p programme person step below listed applied e =
      let shows = just.shown p programme listed in
      let list = taken_in programme.steps person step e in
      let other = taken_means list.1.admitted person list.4 in
      let shown = zip_back (ShowsStep facts.version (seats_in table p) (in_merit (seats_in table p).list (applicants p seekers round.seats)) shows.0) kinds programme.steps list.0 list.1 shows.2 list.2 in
      let by : IsAmong other.0 (admitted_by shows.0 shown.0) = subst (λ l. IsAmong other.0 l) shown.2.persons other.1 in
      let came = (laws.well facts.version nobody table (orderly.course.seats (suc before))).among p (applicants p seekers round.seats) other.0 (Under shown.0) (may p below) (shows.0, shows.1, by) in
      let same : other.0 ≡ person = one_person (applicants p seekers round.seats) (may p below).distinct other.0 person came applied (same_cand other.0.id person.id other.2) in
      let kind : shown.0 ≡ step = sym shown.2.of_kind ∙ list.3 in
      record {
        under = (list.1, at_among programme.steps list.0 list.1 list.2, list.3, subst (λ z. IsAmong z list.1.admitted) same other.1);
        admits = (shows.0, shows.1, subst (λ k. IsAmong person (admitted_by shows.0 k)) kind (subst (λ z. IsAmong z (admitted_by shows.0 shown.0)) same by));
      }

  -- the lists tell of the step under which the person is admitted
  told_of : (p : ℕ) (programme : Programme) (person : Person) (step : StepKind) → p < count → slice_get round.programmes p ≡ Some programme → IsAmong person (applicants p seekers round.seats)
      → steps_of facts.version table p (applicants p seekers round.seats) person step → IsShownUnder programme step person → admitted_in programme.steps person ≡ Some step
  told_of p programme person step below listed applied admits under =
      let first = somewhere programme.steps person under.0 under.1 under.3 in
      let its = admitted_shown p programme person first.0 below listed applied first.1 in
      let one : Under first.0 ≡ Under step =
      (laws.well facts.version nobody table (orderly.course.seats (suc before))).one_step p (applicants p seekers round.seats) person (Under first.0) (Under step) (may p below) its.admits admits in
      first.1 ∙ ap (λ k. Some k) (let same : first.0 ≡ step = cc (one) in same)

  -- ---- a candidate who has a seat of the programme

  seated : (cand : CandId) (prog : ProgId) (seat : Seat) → at_person cand.0 facts.people round.seats ≡ Some (Some seat) → (seat.prog.0 == prog.0) ≡ true
      → IsJustReason facts table round cand prog (Admitted seat.step)
  seated cand prog seat has same =
      let stands = stands_at cand.0 facts.people round.seats (Some seat) has in
      let person = stands.person in
      let e = entry stands.place person stands.person_at in
      let own = just.best.fair.allocation.own stands.place e.s (Some seat) e.there stands.at in
      let is : seat.prog.0 ≡ prog.0 = eqb-true seat.prog.0 prog.0 same in
      let less : place_of e.s.list prog.0 < length e.s.list = subst (λ n. place_of e.s.list n < length e.s.list) is own in
      let below = within prog.0 stands.place person e less in
      let size = just.count in
      let listed = there_is round.programmes prog.0 (omega (arith, below, size)) in
      let applied = applying prog.0 stands.place person e (Some seat) stands.at (holder_applies prog.0 e.s.list (Some seat) own same) in
      let seat_is : seat ≡ seat_at prog.0 seat.step = seat_same seat (seat_at prog.0 seat.step) is refl in
      let admitted = (just.best.fair.agrees prog.0 stands.place e.s seat.step below e.there).1 (stands.at ∙ ap (λ z. Some (Some z)) seat_is) in
      let picked = is_under facts.version table prog.0 (applicants prog.0 seekers round.seats) e.s.person seat.step admitted in
      let admits : steps_of facts.version table prog.0 (applicants prog.0 seekers round.seats) person picked.step =
      subst (λ z. steps_of facts.version table prog.0 (applicants prog.0 seekers round.seats) z picked.step) e.person_is picked.chosen in
      let under : IsShownUnder listed.0 picked.step person = shown_under prog.0 listed.0 person picked.step admits.0 below listed.1 admits.1 admits.2 in
      record {
        person = person;
        known = subst (λ n. find_person n facts.people ≡ Some person) stands.is (found_at facts.people stands.place person sound.ranks.rising stands.person_at);
        below = below;
        programme = listed.0;
        listed = listed.1;
        applied = applied;
        chosen = just.shown prog.0 listed.0 listed.1;
        by_lists = ap Admitted picked.is ∙ ap (λ o. reason_from o (refusal (seats_in table prog.0).list listed.0 person)) (sym (told_of prog.0 listed.0 person picked.step below listed.1 applied admits under));
        against = tt;
        admitted = λ step told. subst (λ k. IsShownUnder listed.0 k person) (let kind = picked.is in let same : picked.step ≡ step = cc (told, kind) in same) under;
      }

  -- ---- a candidate who has none

  -- what the candidate's own place says of a seat that is not before the programme
  abbrev NotBefore : CandId → ProgId → Type 0
  NotBefore cand prog = (seat : Seat) → seat_of facts (Some round) cand.0 ≡ Some seat → place_of (list_of facts.lists cand.0) prog.0 ≤ place_of (list_of facts.lists cand.0) seat.prog.0

  seeking : (cand : CandId) (prog : ProgId) (seek : Seek) (programme : Programme) (person : Person) → at_person cand.0 facts.people round.seeks ≡ Some seek
      → is_listed prog.0 (seek_leaves facts.matrix seek (list_of facts.lists cand.0)) ≡ true → slice_get round.programmes prog.0 ≡ Some programme → find_person cand.0 facts.people ≡ Some person
      → NotBefore cand prog → IsJustReason facts table round cand prog (reason_of (list_in facts.matrix prog.0) programme person)
  seeking cand prog seek programme person sought left listed known not_before =
      let list = list_of facts.lists cand.0 in
      let stands = stands_at cand.0 facts.people round.seeks seek sought in
      let there : find_person cand.0 facts.people ≡ Some stands.person =
      subst (λ n. find_person n facts.people ≡ Some stands.person) stands.is (found_at facts.people stands.place stands.person sound.ranks.rising stands.person_at) in
      let one : stands.person ≡ person = cc in
      let e = entry stands.place stands.person stands.person_at in
      let seek_is : e.seek ≡ seek = (let a = e.seek_at in let b = stands.at in cc) in
      let leaves : e.s.list ≡ seek_leaves table seek list =
      e.leaves ∙ (ap (λ q. seek_leaves table q (list_of facts.lists stands.person.id.0)) seek_is ∙ ap (λ n. seek_leaves table seek (list_of facts.lists n)) stands.is) in
      let less : place_of (seek_leaves table seek list) prog.0 < length (seek_leaves table seek list) = left_by_both facts.matrix table seek list prog.0 same_programmes left in
      let less' : place_of e.s.list prog.0 < length e.s.list = subst (λ l. place_of l prog.0 < length l) (sym leaves) less in
      let below = within prog.0 stands.place stands.person e less' in
      let size = full in
      let entries = just.best.fair.allocation.full in
      let at = slice_get_within facts.people stands.place stands.person stands.person_at in
      let held = there_is round.seats stands.place (omega (arith, at, size, entries)) in
      let own_list = own_there facts facts.matrix stands.place stands.person sound refl stands.person_at in
      let distinct : Pairwise (λ (a b : ProgId). a.0 ≢ b.0) list = subst (λ n. Pairwise (λ (a b : ProgId). a.0 ≢ b.0) (list_of facts.lists n)) stands.is own_list.distinct in
      let at_seat : at_person cand.0 facts.people round.seats ≡ Some held.0 =
      subst (λ n. at_person n facts.people round.seats ≡ Some held.0) stands.is (at_person-get facts.people round.seats stands.place stands.person sound.ranks.rising stands.person_at ∙ held.1) in
      let order : place_of (seek_leaves table seek list) prog.0 ≤ rank_of (seek_leaves table seek list) held.0 =
      ranked held.0 (ap (λ o. option_and_then (λ s. s) o) at_seat) seek list prog less distinct not_before in
      let applies_here : applies prog.0 e.s.list held.0 ≡ true =
      subst (λ l. applies prog.0 l held.0 ≡ true) (sym leaves) (applies_true prog.0 (seek_leaves table seek list) held.0 less order) in
      let applied : IsAmong person (applicants prog.0 seekers round.seats) =
      subst (λ z. IsAmong z (applicants prog.0 seekers round.seats)) one (applying prog.0 stands.place stands.person e held.0 held.1 applies_here) in
      let was : WasApplicant (seats_in table prog.0) programme person = record {
        version = facts.version;
        people = applicants prog.0 seekers round.seats;
        may = may prog.0 below;
        shows = just.shown prog.0 programme listed;
        among = applied;
      } in
      let by : list_in facts.matrix prog.0 ≡ list_in table prog.0 =
      ap (λ programmes. unwrap_or (option_map (λ (held : List ℕ × Home). held.1.list) (slice_get programmes prog.0)) first_list) (sym same_programmes) in
      subst (λ l. IsJustReason facts table round cand prog (reason_of l programme person)) (sym by) (record {
        person = person;
        known = known;
        below = below;
        programme = programme;
        listed = listed;
        applied = applied;
        chosen = just.shown prog.0 programme listed;
        by_lists = refl;
        against = laws.reasons (seats_in table prog.0) programme person ((orderly.course.seats (suc before)).sound prog.0 below) was;
        admitted = λ step told. (admitted_shown prog.0 programme person step below listed applied (told_admitted (admitted_in programme.steps person) _ _ _ step told)).under;
      })
    where
      -- the place of the candidate's own seat
      ranked : (o : Option Seat) → seat_of facts (Some round) cand.0 ≡ o → (seek : Seek) (list : List ProgId) (prog : ProgId)
          → place_of (seek_leaves table seek list) prog.0 < length (seek_leaves table seek list) → Pairwise (λ (a b : ProgId). a.0 ≢ b.0) list
          → ((seat : Seat) → seat_of facts (Some round) cand.0 ≡ Some seat → place_of list prog.0 ≤ place_of list seat.prog.0)
          → place_of (seek_leaves table seek list) prog.0 ≤ rank_of (seek_leaves table seek list) o
      ranked None has seek list prog less distinct not_before = omega (arith, less)
      ranked (Some seat) has seek list prog less distinct not_before = left_order table seek list prog.0 seat.prog.0 distinct less (not_before seat has)

      told_admitted : (o : Option StepKind) (x y z : Option StepWhy) (step : StepKind) → reason_from o (Refused x y z) ≡ Admitted (Under step) → o ≡ Some step
      told_admitted None x y z step e = absurd (cc)
      told_admitted (Some kind) x y z step e = cc

  -- ---- every reason

  refused_why : (cand : CandId) (prog : ProgId) (reason : Reason) → NotBefore cand prog → why_refused facts round cand prog ≡ Because reason → IsJustReason facts table round cand prog reason
  refused_why cand prog reason not_before e = elim (cases_Bool (is_sought_by facts cand prog (at_person cand.0 facts.people round.seeks))) [
    | inl sought ↦
        let means = sought_means facts cand prog (at_person cand.0 facts.people round.seeks) sought in
        let told = reason_means facts prog (slice_get round.programmes prog.0) (find_person cand.0 facts.people) reason (sym (cond-true _ _ NotSought sought) ∙ e) in
        subst (λ r. IsJustReason facts table round cand prog r) (sym told.4) (seeking cand prog means.0 told.0 told.1 means.1 means.2 told.2 told.3 not_before)
    | inr not_sought ↦
        absurd (let told : NotSought ≡ Because reason = sym (cond-false _ (reason_in facts prog (slice_get round.programmes prog.0) (find_person cand.0 facts.people)) NotSought not_sought) ∙ e in cc)
  ]

  beside : (cand : CandId) (prog : ProgId) (reason : Reason) (o : Option Seat) → seat_of facts (Some round) cand.0 ≡ o → why_beside facts round cand prog o ≡ Because reason
      → IsJustReason facts table round cand prog reason
  beside cand prog reason None has e = refused_why cand prog reason (λ seat mine. absurd (let none : None ≡ Some seat = sym has ∙ mine in cc)) e
  beside cand prog reason (Some seat) has e = elim (cases_Bool (seat.prog.0 == prog.0)) [
    | inl same ↦
        let told : Because (Admitted seat.step) ≡ Because reason = sym (cond-true _ _ _ same) ∙ e in
        subst (λ r. IsJustReason facts table round cand prog r) (let is : Admitted seat.step ≡ reason = cc in is) (seated cand prog seat (held (at_person cand.0 facts.people round.seats) seat has) same)
    | inr other ↦
        let rest = sym (cond-false _ _ _ other) ∙ e in
        elim (cases_Bool (nat_lt (place_of (list_of facts.lists cand.0) seat.prog.0) (place_of (list_of facts.lists cand.0) prog.0))) [
          | inl better ↦ absurd (let told : Better seat.prog ≡ Because reason = sym (cond-true _ _ _ better) ∙ rest in cc)
          | inr later ↦
              refused_why cand prog reason
              (λ mine is. let one : seat ≡ mine = (let both : Some seat ≡ Some mine = sym has ∙ is in cc) in
              subst (λ (z : Seat). place_of (list_of facts.lists cand.0) prog.0 ≤ place_of (list_of facts.lists cand.0) z.prog.0) one (ltb-false _ _ later))
              (sym (cond-false _ _ _ later) ∙ rest)
        ]
  ]
    where
      held : (o : Option (Option Seat)) (seat : Seat) → option_and_then (λ s. s) o ≡ Some seat → o ≡ Some (Some seat)
      held None seat e = absurd (cc)
      held (Some s) seat e = ap Some e

pub reasons_just : AreLaws → (facts : SeasonFacts) → OfficeReasonsAreJust facts
reasons_just laws facts state zero round cand prog reason sound orderly published e = absurd (cc)
reasons_just laws facts state (suc before) round cand prog reason sound orderly published e =
    beside facts state before round laws sound orderly published cand prog reason (seat_of facts (Some round) cand.0) refl e

-- ---- what the office replies to a request

-- a receipt tells no reason
no_receipt : (facts : SeasonFacts) (state : State) (window : ℕ) (cand : CandId) (prog : ProgId) (answer : WhyAnswer) → WhyIs cand prog answer ≡ receipt facts state window → ⊥
no_receipt facts state window cand prog answer e = go (nat_lt window facts.rounds) _ _ _ e
  where
    go : (b : Bool) (number seated admitted : ℕ) → WhyIs cand prog answer ≡ (if b then Published number seated else Final admitted) → ⊥
    go true number seated admitted e = cc
    go false number seated admitted e = cc

-- an answer to why is that of the last published round
told_reason : (facts : SeasonFacts) (state : State) (question : Question) (cand : CandId) (prog : ProgId) (answer : WhyAnswer) → Tells facts state question (WhyIs cand prog answer)
    → answer ≡ why_answer facts (round_at state.rounds (length state.rounds)) cand prog
told_reason facts state (TheReason one other) cand prog answer tells =
    let e : WhyIs cand prog answer ≡ WhyIs one other (why_answer facts (round_at state.rounds (length state.rounds)) one other) = tells in
    let who : cand ≡ one = cc in
    let what : prog ≡ other = cc in
    let told : answer ≡ why_answer facts (round_at state.rounds (length state.rounds)) one other = cc in
    told ∙ (ap (λ z. why_answer facts (round_at state.rounds (length state.rounds)) z other) (sym who)
    ∙ ap (λ z. why_answer facts (round_at state.rounds (length state.rounds)) cand z) (sym what))
told_reason facts state (TheList number one) cand prog answer tells = absurd (let e = tells.2 in cc)
told_reason facts state (TheCutoffs number one) cand prog answer tells = absurd (let e = tells.4 in cc)
told_reason facts state (TheRegister one) cand prog answer tells = absurd (no_entry (find_person one.0 facts.people) tells)
  where
    no_entry : (entry : Option Person) → option_map (λ person. RegisterIs person) entry ≡ Some (WhyIs cand prog answer) → ⊥
    no_entry None tells = cc
    no_entry (Some person) tells = cc
told_reason facts state _ cand prog answer e = absurd (cc)

told_why : (facts : SeasonFacts) (state after : State) (decision : Decision) (cand : CandId) (prog : ProgId) (answer : WhyAnswer) → Does facts state decision (WhyIs cand prog answer) after
    → answer ≡ why_answer facts (round_at state.rounds (length state.rounds)) cand prog
told_why facts state after (CutAgain window) cand prog answer does = absurd (no_receipt facts state window cand prog answer does.0)
told_why facts state after Publish cand prog answer does = absurd (let e = does.2 in cc)
told_why facts state after (Tell question) cand prog answer does = told_reason facts state question cand prog answer does.0
told_why facts state after _ cand prog answer does = absurd (let e = does.0 in cc)

-- a reason is by a round
by_round : (facts : SeasonFacts) (o : Option Round) (cand : CandId) (prog : ProgId) (reason : Reason) → Because reason ≡ why_answer facts o cand prog
    → (round : Round) × (o ≡ Some round) × (why_answer facts (Some round) cand prog ≡ Because reason)
by_round facts None cand prog reason e = absurd (cc)
by_round facts (Some round) cand prog reason e = (round, refl, sym e)

pub told_reasons_just : (facts : SeasonFacts) → OfficeReasonsAreJust facts → ToldReasonsAreJust facts
told_reasons_just facts just state after request cand prog reason sound orderly moves =
    let by = by_round facts (round_at state.rounds (length state.rounds)) cand prog reason (told_why facts state after (decided facts state request) cand prog (Because reason) moves) in
    (by.0, by.1, just state (length state.rounds) by.0 cand prog reason sound orderly by.1 by.2)
