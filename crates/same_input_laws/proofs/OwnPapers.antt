-- The papers that an office publishes while it answers requests break no clause.
use Rattle.std.proofs.Common.{◌≡◌, ◌<◌, ◌+◌, ◌*◌, ◌++◌, ℕ, zero, suc, Bool, true, List, [], ◌∷◌, Option, Some, None, IsSome, length, map, take, drop, arith, refl, sym, ap, ◌∙◌, subst, if◌then◌else◌, append_assoc, append-nil}
use Rattle.std.specs.Prelude.{option_map, slice_get}
use Rattle.std.specs.List.{AllByRecursion, flat_map}
use Rattle.std.specs.Option.{option_and_then, unwrap_or}
use Rattle.std.proofs.lemmas.Bool.{eq-eqb, false≢true, ne_eqb}
use Rattle.std.proofs.lemmas.List.{length-append, length-map}
use Rattle.std.proofs.lemmas.Option.{same_Some, slice_get_within}
use Rattle.office_base.proofs.Lists.{all-get, get-after, get-before, there_is}
use Rattle.office_base.proofs.People.{at_person-get}
use Rattle.office_base.specs.Lists.{IsAmong, Pairwise}
use Rattle.office_asks.specs.declared.ask.Request.{Request}
use Rattle.office_base.specs.declared.seat.Seat.{Seat}
use Rattle.office_base.specs.declared.seat.SeatKind.TheVariants.{Kept, Under}
use Rattle.office_base.specs.declared.person.Person.{Person}
use Rattle.office_base.specs.declared.person.ProgId.{ProgId}
use Rattle.office_base.specs.declared.step.StepKind.{StepKind}
use Rattle.kept_rows.specs.declared.rows.AllotRow.{AllotRow}
use Rattle.allocations.specs.Fair.{IsBest, IsOwn}
use Rattle.allocations.specs.Market.{Seeker, applicants, applies, seat_at}
use Rattle.allocations.proofs.Claims.{applicants_may}
use Rattle.allocations.proofs.Those.{of_those}
use Rattle.merit_choice.specs.InMerit.{InMeritRanks}
use Rattle.merit_choice.specs.Laws.{ChoiceSize}
use Rattle.axiom_laws.specs.Laws.{AxiomsAreTheRule}
use Rattle.open_then_category.specs.Laws.{OneProgrammeChoice}
use Rattle.programme_lists.specs.Chosen.{ShowsFrom}
use Rattle.programme_lists.specs.Programme.{Admissions, admitted_by}
use Rattle.programme_lists.specs.declared.programme.Programme.{Programme}
use Rattle.seat_matrix.specs.Matrix.{seats_in}
use Rattle.rounds.specs.Round.{IsRound}
use Rattle.rounds.specs.Rule.{MayApplyIn, ProgrammesChooseWell, nobody, rule_of}
use Rattle.rounds.specs.declared.round.Round.{Round}
use Rattle.rounds.proofs.Entrants.{market}
use Rattle.round_laws.proofs.OneRound.{same_places}
use Rattle.round_laws.proofs.People.{one_row}
use Rattle.round_options.specs.Options.{holds}
use Rattle.office_moves.specs.Decided.{decided}
use Rattle.office_moves.specs.Facts.{IsSound, SeasonFacts, lists_in_order}
use Rattle.office_moves.specs.History.{IsHistory, Reaches, grown, newly}
use Rattle.office_moves.specs.Moves.{Does, IsNextRound, allot_rows, final_rows, next_seeks, row_before, rows_along}
use Rattle.office_moves.specs.Raised.{matrix_at}
use Rattle.office_moves.specs.State.{State, answered, in_window, opening, seat_in, seat_of, standing_at, view_of, with_finals, with_round}
use Rattle.office_moves.specs.declared.decide.Decision.{Decision}
use Rattle.office_moves.specs.declared.decide.Decision.TheVariants.{Note, Lift, Publish, Finish}
use Rattle.office_moves.specs.declared.moves.Act.{Act}
use Rattle.office_moves.specs.declared.moves.Entry.{Entry}
use Rattle.office_moves.specs.declared.moves.Reply.{Reply}
use Rattle.office_moves.proofs.Grows.{does_grows, get_stays, move_steps}
use Rattle.history_laws.specs.Laws.{HistoryGrows}
use Rattle.history_laws.specs.Orderly.{IsOrderly}
use Rattle.history_laws.proofs.Changes.{Accepts, LastCut, NewAnswer, NewCut, NewRaise, accepts}
use Rattle.history_laws.proofs.Entering.{entrants}
use Rattle.history_laws.proofs.Fits.{map_at}
use Rattle.season_commands.specs.Runs.{Answers}
use Rattle.list_audit.specs.Clauses.{IsListFault, list_of_step}
use Rattle.audit_rules.specs.Cut.{Agree, CutHolds, HasStayed, HoldsAt, IsSought, is_named, lists_at, seat_given, seekers_at, sought_by}
use Rattle.audit_rules.specs.Papers.{Papers, lists_after, rows_after, seat_told, seats_told}
use Rattle.audit_rules.specs.Replay.{replayed, round_of, taken}
use Rattle.audit_rules.specs.Verdict.{IsVerdict}
use Rattle.audit_rules.specs.declared.verdict.Verdict.TheVariants.{Sound}
use Rattle.audit_rules.proofs.Agreeing.{named_by_id, somebody_named}
use Rattle.audit_rules.proofs.FairCuts.{enters, full_seekers}
use Rattle.audit_rules.proofs.Ordering.{left_same}
use Rattle.best_audit.specs.Best.{AreBestRounds, IsBestCut, IsBestVerdict}
use Rattle.best_audit.specs.declared.verdict.BestVerdict.TheVariants.{Best}
use Rattle.list_texts.specs.declared.lists.ListRead.{ListRead}
use Rattle.publish.specs.declared.reads.FinalRead.{FinalRead}
use Rattle.publish.specs.declared.reads.RoundRead.{RoundRead}
use Rattle.same_input_laws.specs.SeasonDossiers.{audited_papers, lists_from, lists_told, papers_told, round_told}
use Rattle.same_input_laws.proofs.Answered.{above, unmoved}
use Rattle.same_input_laws.proofs.ShownLists as shown

-- ---- the papers of a state

abbrev own_papers : SeasonFacts → State → Papers
own_papers facts state = record { rounds = map (allot_rows facts) state.rounds; lists = flat_map (λ (round : Round). round.programmes) state.rounds; finals = state.finals }

rows_read : (facts : SeasonFacts) (rounds : List Round) → map (λ (read : RoundRead). read.rows) (map (round_told facts) rounds) ≡ map (allot_rows facts) rounds
rows_read facts [] = refl
rows_read facts (round ∷ rounds) = ap (λ (l : List (List AllotRow)). allot_rows facts round ∷ l) (rows_read facts rounds)

programmes_read : (number prog : ℕ) (programmes : List Programme) (more : List ListRead) (rest : List Programme) → map (λ (read : ListRead). read.programme) more ≡ rest
    → map (λ (read : ListRead). read.programme) (lists_from number prog programmes ++ more) ≡ programmes ++ rest
programmes_read number prog [] more rest e = e
programmes_read number prog (programme ∷ programmes) more rest e = ap (λ (l : List Programme). programme ∷ l) (programmes_read number (suc prog) programmes more rest e)

lists_read : (rounds : List Round) → map (λ (read : ListRead). read.programme) (flat_map lists_told rounds) ≡ flat_map (λ (round : Round). round.programmes) rounds
lists_read [] = refl
lists_read (round ∷ rounds) = programmes_read round.number 0 round.programmes (flat_map lists_told rounds) (flat_map (λ (r : Round). r.programmes) rounds) (lists_read rounds)

finals_read : (finals : Option (List AllotRow)) → option_map (λ (read : FinalRead). read.rows) (option_map (λ (rows : List AllotRow). let read : FinalRead = record { rows = rows } in read) finals) ≡ finals
finals_read None = refl
finals_read (Some rows) = refl

same_papers : (facts : SeasonFacts) (state : State) → audited_papers (papers_told facts state) ≡ own_papers facts state
same_papers facts state = λ i. record { rounds = rows_read facts state.rounds i; lists = lists_read state.rounds i; finals = finals_read state.finals i }

-- ---- parts of lists

past_front : {X : Type 0} (xs ys : List X) (at m : ℕ) → at ≡ length xs + m → drop at (xs ++ ys) ≡ drop m ys
past_front [] ys at m e = ap (λ (n : ℕ). drop n ys) (omega (arith, e))
past_front (x ∷ xs) ys zero m e = absurd (omega (arith, e))
past_front (x ∷ xs) ys (suc at) m e = past_front xs ys at m (omega (arith, e))

whole_front : {X : Type 0} (xs ys : List X) (n : ℕ) → n ≡ length xs → take n (xs ++ ys) ≡ xs
whole_front [] ys zero e = refl
whole_front [] ys (suc n) e = absurd (omega (arith, e))
whole_front (x ∷ xs) ys zero e = absurd (omega (arith, e))
whole_front {X} (x ∷ xs) ys (suc n) e = ap (λ (l : List X). x ∷ l) (whole_front xs ys n (omega (arith, e)))

-- the lists of one of the rounds, each of which has so many
lists_of_round : (count : ℕ) (rounds : List Round) (k at : ℕ) (round : Round) → at ≡ k * count → ((i : ℕ) (r : Round) → slice_get rounds i ≡ Some r → length r.programmes ≡ count)
    → slice_get rounds k ≡ Some round → take count (drop at (flat_map (λ (r : Round). r.programmes) rounds)) ≡ round.programmes
lists_of_round count [] k at round e full there = absurd (cc)
lists_of_round count (r ∷ rounds) zero at round e full there =
    let none : at ≡ 0 = grind (arith, e) in
    let same : r ≡ round = cc in
    ap (λ (n : ℕ). take count (drop n (r.programmes ++ flat_map (λ (s : Round). s.programmes) rounds))) none
    ∙ (whole_front r.programmes (flat_map (λ (s : Round). s.programmes) rounds) count (sym (full 0 r refl)) ∙ ap (λ (s : Round). s.programmes) same)
lists_of_round count (r ∷ rounds) (suc k) at round e full there =
    let size = full 0 r refl in
    let more : at ≡ count + k * count = grind (arith, e) in
    ap (λ (l : List Programme). take count l)
    (past_front r.programmes (flat_map (λ (s : Round). s.programmes) rounds) at (k * count) (more ∙ ap (λ (n : ℕ). n + k * count) (sym size)))
    ∙ lists_of_round count rounds k (k * count) round refl (λ i s. full (suc i) s) there

-- ---- seats that rows tell

none_told : (number : ℕ) (seat : ℕ → Option Seat) (people : List Person) (id : ℕ) → AllByRecursion (λ (p : Person). id < p.id.0) people → seat_told (rows_along number seat people) id ≡ None
none_told number seat [] id apart = refl
none_told number seat (p ∷ people) id apart = by (seat p.id.0) (none_told number seat people id apart.1)
  where
    less : id < p.id.0
    less = apart.0

    by : (o : Option Seat) → seat_told (rows_along number seat people) id ≡ None → seat_told (row_before number p.id o (rows_along number seat people)) id ≡ None
    by None rest = rest
    by (Some held) rest = ap (λ (b : Bool). if b then Some (let s : Seat = record { prog = held.prog; step = held.step } in s) else seat_told (rows_along number seat people) id)
        (ne_eqb p.id.0 id (λ e. omega (arith, e, less))) ∙ rest

-- the rows along people tell the seat of each of them
told_along : (number : ℕ) (seat : ℕ → Option Seat) (people : List Person) (i : ℕ) (person : Person) → Pairwise (λ (a b : Person). a.id.0 < b.id.0) people → slice_get people i ≡ Some person
    → seat_told (rows_along number seat people) person.id.0 ≡ seat person.id.0
told_along number seat [] i person rising at = absurd (cc)
told_along number seat (p ∷ people) zero person rising at =
    let same : p ≡ person = cc in
    subst (λ (q : Person). seat_told (rows_along number seat (p ∷ people)) q.id.0 ≡ seat q.id.0) same (by (seat p.id.0) (none_told number seat people p.id.0 rising.0))
  where
    by : (o : Option Seat) → seat_told (rows_along number seat people) p.id.0 ≡ None → seat_told (row_before number p.id o (rows_along number seat people)) p.id.0 ≡ o
    by None rest = rest
    by (Some held) rest =
        ap (λ (b : Bool). if b then Some (let s : Seat = record { prog = held.prog; step = held.step } in s) else seat_told (rows_along number seat people) p.id.0) (eq-eqb p.id.0 p.id.0 refl)
told_along number seat (p ∷ people) (suc i) person rising at = by (seat p.id.0) (told_along number seat people i person rising.1 at)
  where
    less : p.id.0 < person.id.0
    less = all-get (λ (q : Person). p.id.0 < q.id.0) people i person rising.0 at

    by : (o : Option Seat) → seat_told (rows_along number seat people) person.id.0 ≡ seat person.id.0
        → seat_told (row_before number p.id o (rows_along number seat people)) person.id.0 ≡ seat person.id.0
    by None rest = rest
    by (Some held) rest =
        ap (λ (b : Bool). if b then Some (let s : Seat = record { prog = held.prog; step = held.step } in s) else seat_told (rows_along number seat people) person.id.0)
        (ne_eqb p.id.0 person.id.0 (λ e. omega (arith, e, less))) ∙ rest

-- the rows of a round tell its seats
pub seats_of_rows : (facts : SeasonFacts) (round : Round) → IsSound facts → length round.seats ≡ length facts.people → seats_told (allot_rows facts round) facts.people ≡ round.seats
seats_of_rows facts round sound full =
    same_places (seats_told (allot_rows facts round) facts.people) round.seats (length-map facts.people (λ (p : Person). seat_told (allot_rows facts round) p.id.0) ∙ sym full)
    (λ i x y at at'.
    let less = slice_get_within round.seats i y at' in
    let person = there_is facts.people i (omega (arith, less, full)) in
    let mine = map_at (λ (p : Person). seat_told (allot_rows facts round) p.id.0) facts.people i person.0 person.1 in
    let told = told_along round.number (seat_of facts (Some round)) facts.people i person.0 sound.ranks.rising person.1 in
    let held = ap (λ (o : Option (Option Seat)). option_and_then (λ s. s) o) (at_person-get facts.people round.seats i person.0 sound.ranks.rising person.1 ∙ at') in
    same_Some x (seat_told (allot_rows facts round) person.0.id.0) (sym at ∙ mine) ∙ (told ∙ held))

-- the laws of programmes on which this rests
pub record Laws : Type 0 where
  pub size : ChoiceSize
  pub ranks : InMeritRanks
  pub axioms : AxiomsAreTheRule
  pub one : OneProgrammeChoice
  pub well : ProgrammesChooseWell

-- ---- a cut that published a round

module _ (laws : Laws) (facts : SeasonFacts) (sound : IsSound facts) (papers : Papers) (old : State) (orderly : IsOrderly facts old) (round : Round) (follows : IsNextRound facts old round)
    (after : IsOrderly facts (with_round old round)) (early : old.now < facts.rounds) (rows_are : rows_after papers old.now ≡ allot_rows facts round)
    (lists_are : lists_after papers (length facts.matrix.programmes) old.now ≡ round.programmes) where
  abbrev seekers : List Seeker
  seekers = seekers_at facts old

  next : IsRound facts.version nobody (matrix_at facts old) facts.people (lists_in_order facts) (old.now + 1) (next_seeks facts old) round
  next = orderly.next_alone early round follows

  full : length round.seats ≡ length facts.people
  full = next.best.fair.allocation.full ∙ full_seekers facts old sound

  -- the text gives the round's seats
  given : (i : ℕ) (person : Person) (seat : Option Seat) → slice_get facts.people i ≡ Some person → slice_get round.seats i ≡ Some seat → seat_given papers old person.id.0 ≡ seat
  given i person seat at has =
      ap (λ (rows : List AllotRow). seat_told rows person.id.0) rows_are
      ∙ (told_along round.number (seat_of facts (Some round)) facts.people i person sound.ranks.rising at
      ∙ ap (λ (o : Option (Option Seat)). option_and_then (λ s. s) o) (at_person-get facts.people round.seats i person sound.ranks.rising at ∙ has))

  seat_here : (i : ℕ) (person : Person) → slice_get facts.people i ≡ Some person → (seat : Option Seat) × (slice_get round.seats i ≡ Some seat)
  seat_here i person at = let less = slice_get_within facts.people i person at in let size = full in there_is round.seats i (omega (arith, less, size))

  seats_same : seats_told (rows_after papers old.now) facts.people ≡ round.seats
  seats_same = ap (λ (rows : List AllotRow). seats_told rows facts.people) rows_are ∙ seats_of_rows facts round sound full

  round_is : round_of facts papers old ≡ round
  round_is = λ i. record { number = sym next.number i; seeks = sym next.sought i; seats = seats_same i; programmes = lists_are i }

  seeker_here : (i : ℕ) (person : Person) → slice_get facts.people i ≡ Some person → (s : Seeker) × (slice_get seekers i ≡ Some s) × (s.person ≡ person)
  seeker_here i person at =
      let less = slice_get_within facts.people i person at in
      let size = full_seekers facts old sound in
      let s = there_is seekers i (omega (arith, less, size)) in
      let entry = enters facts old i s.0 sound s.1 in
      (s.0, s.1, same_Some s.0.person person (sym entry.person_at ∙ at))

  sought : (i : ℕ) (person : Person) → slice_get facts.people i ≡ Some person → IsSought facts papers old person
  sought i person at =
      let seat = seat_here i person at in
      let s = seeker_here i person at in
      let entry = enters facts old i s.0 sound s.1 in
      let own = next.best.fair.allocation.own i s.0 seat.0 s.1 seat.1 in
      let by_list = subst (λ (l : List ProgId). IsOwn l seat.0) (entry.leaves ∙ ap (λ (p : Person). sought_by facts old p.id.0) s.2) own in
      subst (λ (o : Option Seat). IsOwn (sought_by facts old person.id.0) o) (sym (given i person seat.0 at seat.1)) by_list

  abbrev new : State
  new = with_round old round

  -- the standings before the cut stay
  stands : (id : ℕ) → standing_at facts (view_of new id) id old.now ≡ standing_at facts (view_of old id) id old.now
  stands id =
      let order = orderly.course.order (omega (arith, early)) in
      ap (λ s. answered s (in_window old.now (view_of old id).rows))
      (left_same facts (view_of new id) (view_of old id) id old.now (λ w less. refl)
      (λ w less. ap (λ (o : Option Round). seat_of facts o id) (get-before old.rounds (round ∷ []) w (omega (arith, less, order)))))

  stayed : (i : ℕ) (person : Person) → slice_get facts.people i ≡ Some person → HasStayed facts papers old person
  stayed i person at keeps =
      let order = orderly.course.order (omega (arith, early)) in
      let size = length-append old.rounds (round ∷ []) in
      let fall = after.word.nobody_falls old.now person.id.0 (omega (arith, order, size)) (ap (λ s. holds s) (stands person.id.0) ∙ keeps) in
      let here : seat_in facts new.rounds (suc old.now) person.id.0 ≡ seat_of facts (Some round) person.id.0 =
      ap (λ (n : ℕ). seat_of facts (slice_get (old.rounds ++ round ∷ []) n) person.id.0) (sym order) ∙ ap (λ (o : Option Round). seat_of facts o person.id.0) (get-after old.rounds round []) in
      let told = ap (λ (rows : List AllotRow). seat_told rows person.id.0) rows_are ∙ told_along round.number (seat_of facts (Some round)) facts.people i person sound.ranks.rising at in
      subst (λ (o : Option Seat). IsSome o) (sym (told ∙ (sym here ∙ fall.3))) refl

  -- ---- lists

  module _ (p : ℕ) (programme : Programme) (there : lists_at facts papers old p ≡ Some programme) where
    at_round : slice_get round.programmes p ≡ Some programme
    at_round = subst (λ (l : List Programme). slice_get l p ≡ Some programme) lists_are there

    below : p < length (matrix_at facts old).programmes
    below = let less = slice_get_within round.programmes p programme at_round in let count = next.count in omega (arith, less, count)

    abbrev people : List Person
    people = applicants p seekers round.seats

    shows : ShowsFrom facts.version (seats_in (matrix_at facts old) p) people programme
    shows = next.shown p programme at_round

    may : MayApplyIn (matrix_at facts old) p people
    may =
        applicants_may (rule_of facts.version nobody (matrix_at facts old)) (MayApplyIn (matrix_at facts old)) (length (matrix_at facts old).programmes) p seekers round.seats
        (market (matrix_at facts old) facts.people (lists_in_order facts) (next_seeks facts old) orderly.seats (entrants facts (matrix_at facts old) sound orderly.programmes))
        (laws.well facts.version nobody (matrix_at facts old) orderly.seats) below next.best.fair.allocation.full

    names : (kind : StepKind) → (list_of_step programme kind).admitted ≡ admitted_by shows.0 kind
    names kind = (shown.its laws.size laws.ranks laws.axioms facts.version (seats_in (matrix_at facts old) p) people programme (orderly.seats.sound p below) may shows kind).persons

    agree : (i : ℕ) (person : Person) → slice_get facts.people i ≡ Some person → Agree papers old p programme person
    agree i person at Kept = (
      (λ named. absurd (false≢true named)),
      (λ has.
          let seat = seat_here i person at in
          let s = seeker_here i person at in
          let told = given i person seat.0 at seat.1 in
          let keeps = (next.best.fair.agrees p i s.0 Kept below s.1).1 (seat.1 ∙ ap (λ (o : Option Seat). Some o) (sym told ∙ has)) in
          absurd (false≢true keeps.guaranteed_there)),
    )
    agree i person at (Under kind) =
        let seat = seat_here i person at in
        let s = seeker_here i person at in
        let told = given i person seat.0 at seat.1 in
        let fair = next.best.fair.agrees p i s.0 (Under kind) below s.1 in (
          λ named.
              let who = somebody_named person.id.0 (admitted_by shows.0 kind) (subst (λ (l : List Person). is_named person.id.0 l ≡ true) (names kind) named) in
              let applied = (laws.well facts.version nobody (matrix_at facts old) orderly.seats).among p people who.0 (Under kind) may (shows.0, shows.1, who.1) in
              let found = of_those (λ (t : Seeker) (o : Option Seat). applies p t.list o) seekers round.seats who.0 applied in
              let entry = enters facts old found.place found.s sound found.there in
              let place = one_row facts.people i found.place person found.s.person sound.ranks.rising at entry.person_at (sym who.2 ∙ ap (λ (q : Person). q.id.0) found.person_is) in
              let same : person ≡ found.s.person = same_Some person found.s.person (sym at ∙ (ap (λ (n : ℕ). slice_get facts.people n) place ∙ entry.person_at)) in
              let is : who.0 ≡ s.0.person = found.person_is ∙ (sym same ∙ sym s.2) in
              let has = fair.0 (shows.0, shows.1, subst (λ (q : Person). IsAmong q (admitted_by shows.0 kind)) is who.1) in
              told ∙ same_Some seat.0 (Some (seat_at p (Under kind))) (sym seat.1 ∙ has),
          λ has.
              let rule = fair.1 (seat.1 ∙ ap (λ (o : Option Seat). Some o) (sym told ∙ has)) in
              let one = laws.one facts.version (seats_in (matrix_at facts old) p) people rule.0 shows.0 (orderly.seats.sound p below) may rule.1 shows.1 in
              let among = subst (λ (a : Admissions). IsAmong s.0.person (admitted_by a kind)) one rule.2 in
              let here = subst (λ (q : Person). IsAmong q (admitted_by shows.0 kind)) s.2 among in
              subst (λ (l : List Person). is_named person.id.0 l ≡ true) (sym (names kind)) (named_by_id person (admitted_by shows.0 kind) here),
        )

    sound_list : IsListFault facts.version (seats_in (matrix_at facts old) p) people programme None
    sound_list = shown.sound_step laws.size laws.ranks laws.axioms facts.version (seats_in (matrix_at facts old) p) people programme (orderly.seats.sound p below) may shows

  -- No clause is broken at the cut.
  cut_holds : CutHolds facts papers old
  cut_holds = record {
    sought = sought;
    stayed = stayed;
    listed = λ p programme there i person at. agree p programme there i person at;
    sound = λ p programme there.
        subst (λ (seats : List (Option Seat)). IsListFault facts.version (seats_in (matrix_at facts old) p) (applicants p seekers seats) programme None) (sym seats_same)
        (sound_list p programme there);
  }

  -- And the round is the best one.
  best_cut : IsBestCut facts papers old
  best_cut =
      subst (λ (seats : List (Option Seat)). IsBest (rule_of facts.version nobody (matrix_at facts old)) (length facts.matrix.programmes) seekers seats) (sym seats_same)
      (subst (λ (n : ℕ). IsBest (rule_of facts.version nobody (matrix_at facts old)) n seekers round.seats) (ap (λ l. length l) orderly.programmes) next.best)

-- ---- each request

-- what is published of a state is in the last one
pub record IsPart (facts : SeasonFacts) (state final : State) : Type 0 where
  pub rounds : (more : List Round) × (final.rounds ≡ state.rounds ++ more)
  pub finals : facts.rounds < state.now → final.finals ≡ state.finals

part_before : (facts : SeasonFacts) (old mid final : State) (request : Request) (reply : Reply) → Does facts old (decided facts old request) reply mid → IsPart facts mid final → IsPart facts old final
part_before facts old mid final request reply does part =
    let grows = does_grows facts old (decided facts old request) reply mid does in
    let later = grows.later in
    record {
      rounds = (grows.rounds.0 ++ part.rounds.0, part.rounds.1 ∙ (ap (λ (l : List Round). l ++ part.rounds.0) grows.rounds.1 ∙ append_assoc old.rounds grows.rounds.0 part.rounds.0));
      finals = λ over. part.finals (omega (arith, over, later)) ∙ go over (newly old.now (decided facts old request)) refl;
    }
  where
    go : facts.rounds < old.now → (o : Option Act) → newly old.now (decided facts old request) ≡ o → mid.finals ≡ old.finals
    go over None e = ap (λ (s : State). s.finals) (unmoved facts old mid reply (decided facts old request) e does)
    go over (Some act) e = (move_steps facts old mid request act reply e does).ended over

pub part_of : (facts : SeasonFacts) (old final : State) (script : List Request) (output : List ℕ) → Answers facts old script output final → IsPart facts old final
part_of facts old final [] output answers = subst (λ (s : State). IsPart facts old s) (sym answers.1) (record { rounds = ([], sym (append-nil old.rounds)); finals = λ over. refl })
part_of facts old final (request ∷ script) output answers =
    part_before facts old answers.1 final request answers.0 answers.3 (part_of facts answers.1 final script answers.2 answers.5)

module _ (laws : Laws) (facts : SeasonFacts) (sound : IsSound facts) (grows : HistoryGrows facts) (orderly : (entries : List Entry) (state : State) → Reaches facts opening entries state → IsOrderly facts state)
    (final : State) (last : IsOrderly facts final) where
  abbrev papers : Papers
  papers = own_papers facts final

  abbrev Ok : State → State → Decision → Type 0
  Ok old mid decision = HoldsAt facts papers old decision × (taken facts papers old decision ≡ mid) × (decision ≡ Publish → IsBestCut facts papers old)

  nothing_new : (old mid : State) (reply : Reply) (decision : Decision) → newly old.now decision ≡ None → Does facts old decision reply mid → Ok old mid decision
  nothing_new old mid reply (Note row) none does = absurd (cc)
  nothing_new old mid reply (Lift row) none does = absurd (cc)
  nothing_new old mid reply Publish none does = absurd (cc)
  nothing_new old mid reply Finish none does = absurd (cc)
  nothing_new old mid reply _ none does = (tt, sym does.1, λ e. absurd (cc))

  full_lists : (i : ℕ) (r : Round) → slice_get final.rounds i ≡ Some r → length r.programmes ≡ length facts.matrix.programmes
  full_lists i r at = (last.word.rounds i r at).count ∙ ap (λ l. length l) (last.course.programmes (suc i))

  publishes : (old mid : State) (reply : Reply) → IsOrderly facts old → IsOrderly facts mid → IsPart facts mid final → old.now < facts.rounds → Does facts old Publish reply mid → Ok old mid Publish
  publishes old mid reply here after part early does =
      let order = here.course.order (omega (arith, early)) in
      let mine : slice_get mid.rounds old.now ≡ Some does.0 =
      ap (λ (s : State). slice_get s.rounds old.now) does.3 ∙ (ap (λ (n : ℕ). slice_get (old.rounds ++ does.0 ∷ []) n) (sym order) ∙ get-after old.rounds does.0 []) in
      let at : slice_get final.rounds old.now ≡ Some does.0 = ap (λ (l : List Round). slice_get l old.now) part.rounds.1 ∙ get_stays mid.rounds part.rounds.0 old.now does.0 mine in
      let rows : rows_after papers old.now ≡ allot_rows facts does.0 = ap (λ (o : Option (List AllotRow)). unwrap_or o []) (map_at (allot_rows facts) final.rounds old.now does.0 at) in
      let lists = lists_of_round (length facts.matrix.programmes) final.rounds old.now (old.now * length facts.matrix.programmes) does.0 refl full_lists at in
      let seen = subst (λ (s : State). IsOrderly facts s) does.3 after in (
        cut_holds laws facts sound papers old here does.0 does.1 seen early rows lists,
        ap (λ (r : Round). with_round old r) (round_is laws facts sound papers old here does.0 does.1 seen early rows lists) ∙ sym does.3,
        λ e. best_cut laws facts sound papers old here does.0 does.1 seen early rows lists,
      )

  finishes : (old mid : State) (reply : Reply) → IsPart facts mid final → old.now ≡ facts.rounds → Does facts old Finish reply mid → Ok old mid Finish
  finishes old mid reply part now does =
      let over : mid.now ≡ old.now + 1 = ap (λ (s : State). s.now) does.1 in
      let finals : final.finals ≡ Some (final_rows facts old) = part.finals (omega (arith, over, now)) ∙ ap (λ (s : State). s.finals) does.1 in
      (finals, ap (λ (o : Option (List AllotRow)). with_finals old (unwrap_or o [])) finals ∙ sym does.1, λ e. absurd (cc))

  each : (old mid : State) (request : Request) (reply : Reply) → IsOrderly facts old → IsOrderly facts mid → IsPart facts mid final → Does facts old (decided facts old request) reply mid
      → Ok old mid (decided facts old request)
  each old mid request reply here after part does = go (newly old.now (decided facts old request)) refl
    where
      by : (decision : Decision) → decided facts old request ≡ decision → Ok old mid decision → Ok old mid (decided facts old request)
      by decision e ok = subst (λ (d : Decision). Ok old mid d) (sym e) ok

      so : (decision : Decision) → decided facts old request ≡ decision → Does facts old decision reply mid
      so decision e = subst (λ (d : Decision). Does facts old d reply mid) e does

      accepted : (act : Act) → Accepts facts old request.by request.ask act → Ok old mid (decided facts old request)
      accepted act (NewAnswer row asks is n decides) = by (Note row) decides (tt, sym (so (Note row) decides).1, λ e. absurd (cc))
      accepted act (NewRaise row code asks found known is n decides) = by (Lift row) decides (tt, sym (so (Lift row) decides).1, λ e. absurd (cc))
      accepted act (LastCut window asks is n end decides) = by Finish decides (finishes old mid reply part end (so Finish decides))
      accepted act (NewCut window asks is n less decides) = by Publish decides (publishes old mid reply here after part less (so Publish decides))

      go : (o : Option Act) → newly old.now (decided facts old request) ≡ o → Ok old mid (decided facts old request)
      go None e = nothing_new old mid reply (decided facts old request) e does
      go (Some act) e = accepted act (accepts facts old request.by request.ask act e)

  abbrev Holds : State → List Request → ℕ → Request → Type 0
  Holds old script j request = HoldsAt facts papers (replayed facts papers old (take j script)) (decided facts (replayed facts papers old (take j script)) request)
      × (decided facts (replayed facts papers old (take j script)) request ≡ Publish → IsBestCut facts papers (replayed facts papers old (take j script)))

  all_hold : (entries : List Entry) (old : State) (script : List Request) (output : List ℕ) (j : ℕ) (request : Request) → IsHistory facts entries old → Answers facts old script output final
      → slice_get script j ≡ Some request → Holds old script j request
  all_hold entries old [] output j request history answers there = absurd (cc)
  all_hold entries old (first ∷ script) output j request history answers there =
      let later = grows entries old answers.1 first answers.0 (above entries) history (omega arith) answers.3 in
      let ok = each old answers.1 first answers.0 (orderly entries old history.reached) (orderly _ answers.1 later.reached) (part_of facts answers.1 final script answers.2 answers.5) answers.3 in
      by j there ok (λ k at. all_hold (grown entries (above entries) (newly old.now (decided facts old first))) answers.1 script answers.2 k request later answers.5 at)
    where
      by : (k : ℕ) → slice_get (first ∷ script) k ≡ Some request → Ok old answers.1 (decided facts old first) → ((n : ℕ) → slice_get script n ≡ Some request → Holds answers.1 script n request)
          → Holds old (first ∷ script) k request
      by zero at ok rest = let same : first ≡ request = cc in subst (λ (r : Request). HoldsAt facts papers old (decided facts old r) × (decided facts old r ≡ Publish → IsBestCut facts papers old)) same (ok.0, ok.2)
      by (suc k) at ok rest = subst (λ (s : State). Holds s script k request) (sym ok.1) (rest k at)

  pub own_verdict : (script : List Request) (output : List ℕ) → Answers facts opening script output final → IsVerdict facts script papers (Sound (length final.rounds))
  own_verdict script output answers = (
    sym (length-map final.rounds (allot_rows facts)),
    λ j request there. (all_hold [] opening script output j request (record { numbers = refl; reached = refl }) answers there).0,
  )

  pub own_best : (script : List Request) (output : List ℕ) → Answers facts opening script output final → AreBestRounds facts script papers
  own_best script output answers j publishes = (all_hold [] opening script output j publishes.0 (record { numbers = refl; reached = refl }) answers publishes.1).1 publishes.2

-- The office's papers break no clause.
pub papers_are_sound : Laws → (facts : SeasonFacts) → IsSound facts → HistoryGrows facts → ((entries : List Entry) (state : State) → Reaches facts opening entries state → IsOrderly facts state)
    → (state : State) → IsOrderly facts state → (script : List Request) (output : List ℕ) → Answers facts opening script output state
    → IsVerdict facts script (audited_papers (papers_told facts state)) (Sound (length state.rounds))
papers_are_sound laws facts sound grows orderly state last script output answers =
    subst (λ (p : Papers). IsVerdict facts script p (Sound (length state.rounds))) (sym (same_papers facts state)) (own_verdict laws facts sound grows orderly state last script output answers)

-- And each of their rounds is the best one.
pub papers_are_best : Laws → (facts : SeasonFacts) → IsSound facts → HistoryGrows facts → ((entries : List Entry) (state : State) → Reaches facts opening entries state → IsOrderly facts state)
    → (state : State) → IsOrderly facts state → (script : List Request) (output : List ℕ) → Answers facts opening script output state
    → IsBestVerdict facts script (audited_papers (papers_told facts state)) Best
papers_are_best laws facts sound grows orderly state last script output answers =
    subst (λ (p : Papers). IsBestVerdict facts script p Best) (sym (same_papers facts state)) (own_best laws facts sound grows orderly state last script output answers)
