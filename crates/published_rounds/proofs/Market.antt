-- Fair seats over a matrix: who has one of a step is whom the step admits, so what holds of a programme's choice holds of the round.
use Rattle.std.proofs.Common.{false, ◌≡◌, ◌<◌, ◌≤◌, inl, inr, ℕ, true, List, Option, Some, None, length, arith, refl, sym, ap, ◌∙◌, subst, ◌==◌, ◌+◌, Bool, [], ◌∷◌, suc, cond, count_by, if◌then◌else◌}
use Rattle.std.specs.Prelude.{◌&&◌, slice_get, sum_by}
use Rattle.std.specs.List.{filter}
use Rattle.std.proofs.lemmas.Bool.{cond-false, cond-true, and_from, cases_Bool, cases_lt, eq-eqb, eqb-true, lt-ltb, ltb-true}
use Rattle.std.proofs.lemmas.List.Sums.{length-filter, sum-map, sum_by-cons}
use Rattle.office_base.specs.CategorySteps.{all_steps}
use Rattle.office_base.specs.Lists.{IsAmong, IsSublist}
use Rattle.office_base.specs.Merit.{in_merit}
use Rattle.office_base.specs.Person.{IsBetter, number_in}
use Rattle.office_base.specs.SeatKinds.{seat_kind_number}
use Rattle.office_base.specs.StepNumbers.{step_number}
use Rattle.office_base.specs.declared.seat.Seat.{Seat}
use Rattle.office_base.specs.declared.person.CandId.{CandId}
use Rattle.office_base.specs.declared.person.Person.{Person}
use Rattle.office_base.specs.declared.seat.SeatKind.{SeatKind}
use Rattle.office_base.specs.declared.seat.SeatKind.TheVariants.{Under}
use Rattle.office_base.specs.declared.step.StepKind.{StepKind}
use Rattle.office_base.specs.declared.step.StepKind.TheVariants.{Dereserved}
use Rattle.placements.proofs.Convert.{same_cand}
use Rattle.placements.proofs.Merit.{not_ahead}
use Rattle.placements.proofs.Ranks.{among_again, are_among, ranked_sublist, widen}
use Rattle.placements.proofs.Sublists.{length-sublist}
use Rattle.merit_choice.proofs.InMerit.{in_merit_ranks, ranked_part}
use Rattle.merit_choice.proofs.OneByOne.{better_or_worse}
use Rattle.allocations.specs.Market.{Seeker, applicants, applies, is_of, place_of, rank_of, seat_at, those, wants}
use Rattle.allocations.proofs.Claims.{applicants_may}
use Rattle.allocations.proofs.Places.{applies_true, holder_applies, one_place, place_read, seat_of, seat_same}
use Rattle.office_base.proofs.Lists.{there_is}
use Rattle.std.proofs.lemmas.Option.{slice_get_within}
use Rattle.rounds.proofs.Nobody.{is_under}
use Rattle.allocations.proofs.Those.{of_those, part, same_place, those_has}
use Rattle.programme_lists.specs.Chosen.{AreApplicants, ChoosesFrom, IsAdmitted}
use Rattle.programme_lists.specs.Listing.{seats_filled}
use Rattle.programme_lists.specs.Programme.{Admissions, admitted_by}
use Rattle.programme_lists.proofs.Seats.{own_seats}
use Rattle.programme_laws.specs.Laws.{AdmittedMayStand, EmptySeatsRefuseNobody, HoldsEachTraitOf, MayStandFor, NobodyIsPassedOver}
use Rattle.open_then_category.specs.Laws.{OneProgrammeChoice, ProgrammeChoiceExists, admitted_in_all}
use Rattle.seat_matrix.specs.Matrix.{SeatTable, list_in, seating_in, seats_in}
use Rattle.rounds.specs.Rule.{MayApplyIn, ProgrammesChooseWell, nobody, rule_of}
use Rattle.office_moves.proofs.Sums.{one_more}
use Rattle.published_rounds.specs.Published.{AreWithin, is_seat_under, seats_under}
use Rattle.published_rounds.proofs.Places.{seat_there_is}
use Rattle.published_rounds.proofs.Within.{as_many, in_order, last_seats, left_falls, under_is, under_of}
use Rattle.published_rounds.specs.Fair.{AreFairOver, HasSeatLeft, IsDecided, IsFirstOpen, IsOpenTo}
use Rattle.published_rounds.specs.FairLaws.{ClosingPlacesDecide, NoSeatIsWasted, NobodyIsEnviedWhereFair, NobodyIsKeptWhereFair, SeatsAreWithinWhereFair}

-- the seat of a programme under a step is one under it
under_itself : (p : ℕ) (step : StepKind) (seat : Option Seat) → seat ≡ Some (seat_at p (Under step)) → is_seat_under p step seat ≡ true
under_itself p step seat e = subst (λ s. is_seat_under p step s ≡ true) (sym e) (and_from (p == p) (step_number step == step_number step) (eq-eqb p p refl) (eq-eqb _ _ refl))

-- ---- the seats of a programme, step by step

abbrev pub one_for : Bool → ℕ
one_for true = 1
one_for false = 0

pub longer_by : (f : Option Seat → Bool) (b : Bool) (x : Option Seat) (xs : List (Option Seat)) → f x ≡ b → length (filter f (x ∷ xs)) ≡ one_for b + length (filter f xs)
longer_by f true x xs e = ap length (cond-true (f x) (x ∷ filter f xs) (filter f xs) e) ∙ omega arith
longer_by f false x xs e = ap length (cond-false (f x) (x ∷ filter f xs) (filter f xs) e) ∙ omega arith

-- one more seat of a step is one more of all steps
one_of : (kind : SeatKind) (b : Bool) (f : StepKind → ℕ) (all : ℕ) → (b ≡ true → (step : StepKind) × (kind ≡ Under step)) → all ≡ sum_by f all_steps
    → (if b then suc all else all) ≡ sum_by (λ step. if b && (seat_kind_number kind == step_number step) then suc (f step) else f step) all_steps
one_of kind true f all under same =
    let u = under refl in
    subst (λ k. suc all ≡ sum_by (λ step. if true && (seat_kind_number k == step_number step) then suc (f step) else f step) all_steps) (sym u.1) (one_more u.0 true f all same)
one_of kind false f all under same = same

-- where each seat of a programme is under a step, its seats are those of its steps
abbrev AreUnder : ℕ → List (Option Seat) → Type 0
AreUnder p seats = (i : ℕ) (seat : Seat) → slice_get seats i ≡ Some (Some seat) → is_of p (Some seat) ≡ true → (step : StepKind) × (seat.step ≡ Under step)

by_steps : (p : ℕ) (seats : List (Option Seat)) → AreUnder p seats → count_by (is_of p) seats ≡ sum_by (λ step. seats_under p step seats) all_steps
by_steps p [] under = refl
by_steps p (None ∷ seats) under = by_steps p seats (λ i. under (suc i))
by_steps p (Some x ∷ seats) under =
    let of_it : Bool = x.prog.0 == p in
    let all = counted (is_of p) (Some x) seats in
    let each : (λ (step : StepKind). seats_under p step (Some x ∷ seats)) ≡ (λ (step : StepKind). if of_it && (seat_kind_number x.step == step_number step) then suc (seats_under p step seats) else seats_under p step seats) =
    λ i step. counted (is_seat_under p step) (Some x) seats i in
    all ∙ (one_of x.step of_it (λ step. seats_under p step seats) (count_by (is_of p) seats) (λ yes. under 0 x refl yes) (by_steps p seats (λ i. under (suc i))) ∙ ap (λ f. sum_by f all_steps) (sym each))
  where
    counted : (f : Option Seat → Bool) (x : Option Seat) (xs : List (Option Seat)) → count_by f (x ∷ xs) ≡ (if f x then suc (count_by f xs) else count_by f xs)
    counted f x xs = sum_by-cons (λ x. cond (f x) 1 0) x xs ∙ one (f x) (count_by f xs)
      where
        one : (b : Bool) (n : ℕ) → cond b 1 0 + n ≡ (if b then suc n else n)
        one true n = omega arith
        one false n = omega arith

module _ (well : ProgrammesChooseWell) (exists : ProgrammeChoiceExists) (one : OneProgrammeChoice) (version : ℕ) (table : SeatTable) (seekers : List Seeker) (seats : List (Option Seat))
    (over : AreFairOver version table seekers seats) where
  abbrev count : ℕ
  count = length table.programmes

  abbrev all : ℕ → List Person
  all p = applicants p seekers seats

  together : (p : ℕ) → p < count → AreApplicants (list_in table p) (all p)
  together p below = applicants_may (rule_of version nobody table) (MayApplyIn table) count p seekers seats over.market (well version nobody table over.are_seats) below over.fair.allocation.full

  -- The choice of a programme from its applicants: who has a seat of a step is whom the step admits.
  record Chosen (p : ℕ) : Type 0 where
    pub admissions : Admissions
    pub choice : ChoosesFrom version (seats_in table p) (all p) admissions
    pub seated : (i : ℕ) (s : Seeker) (step : StepKind) → slice_get seekers i ≡ Some s → IsAmong s.person (admitted_by admissions step) → slice_get seats i ≡ Some (Some (seat_at p (Under step)))
    pub admitted : (i : ℕ) (s : Seeker) (step : StepKind) → slice_get seekers i ≡ Some s → slice_get seats i ≡ Some (Some (seat_at p (Under step))) → IsAmong s.person (admitted_by admissions step)

  chosen : (p : ℕ) → p < count → Chosen p
  chosen p below =
      let found = exists version (seats_in table p) (all p) (over.are_seats.sound p below) (together p below) in
      record {
        admissions = found.0;
        choice = found.1;
        seated = λ i s step there here. (over.fair.agrees p i s (Under step) below there).0 (found.0, found.1, here);
        admitted = λ i s step there has.
            let under = (over.fair.agrees p i s (Under step) below there).1 has in
            subst (λ (a : Admissions). IsAmong s.person (admitted_by a step))
            (one version (seats_in table p) (all p) under.0 found.0 (over.are_seats.sound p below) (together p below) under.1 found.1) under.2;
      }

  -- a programme on a list is one of the matrix
  below_of : (i p : ℕ) (s : Seeker) → slice_get seekers i ≡ Some s → place_of s.list p < length s.list → p < count
  below_of i p s there less =
      let read = place_read s.list p less in
      subst (λ n. n < count) read.2 (over.market.below i (place_of s.list p) s read.0 there read.1)

  -- each seat is under a step
  pub under_a_step : (i : ℕ) (s : Seeker) (seat : Seat) → slice_get seekers i ≡ Some s → slice_get seats i ≡ Some (Some seat) → (step : StepKind) × (seat.step ≡ Under step)
  under_a_step i s seat there has =
      let below = below_of i seat.prog.0 s there (over.fair.allocation.own i s (Some seat) there has) in
      let admitted = (over.fair.agrees seat.prog.0 i s seat.step below there).1 (has ∙ ap (λ z. Some (Some z)) (seat_same seat (seat_at seat.prog.0 seat.step) refl refl)) in
      let under = is_under version table seat.prog.0 (all seat.prog.0) s.person seat.step admitted in
      (under.step, under.is)

  under_there : (i : ℕ) (seat : Seat) → slice_get seats i ≡ Some (Some seat) → (step : StepKind) × (seat.step ≡ Under step)
  under_there i seat has =
      let s = there_is seekers i (let short = slice_get_within seats i (Some seat) has in let full = over.fair.allocation.full in omega (arith, short, full)) in
      under_a_step i s.0 seat s.1 has

  -- who wants a programme more than their seat applied to it, and it does not admit them
  no_later : (p i : ℕ) (s : Seeker) (seat : Option Seat) → slice_get seekers i ≡ Some s → slice_get seats i ≡ Some seat → place_of s.list p < length s.list
      → ((below : p < count) → IsAmong s.person (all p) → IsAdmitted (chosen p below).admissions s.person) → rank_of s.list seat ≤ place_of s.list p
  no_later p i s seat there has less admits = elim (cases_lt (place_of s.list p) (rank_of s.list seat)) [
    | inr le ↦ le
    | inl later ↦
        let below = below_of i p s there less in
        let under = admits below (those_has (λ s o. applies p s.list o) seekers seats i s seat there has (applies_true p s.list seat less (omega (arith, later)))) in
        let got = (chosen p below).seated i s under.0 there under.1 in
        let mine : seat ≡ Some (seat_at p (Under under.0)) = cc in
        omega (arith, later, ap (λ z. rank_of s.list z) mine)
  ]

  -- so nobody better is passed over
  pub not_envied : NobodyIsPassedOver → (p i j : ℕ) (step : StepKind) (better worse : Seeker) (seat : Option Seat) → slice_get seekers i ≡ Some better → slice_get seats i ≡ Some seat
      → slice_get seekers j ≡ Some worse → slice_get seats j ≡ Some (Some (seat_at p (Under step))) → place_of better.list p < length better.list
      → IsBetter (list_in table p) better.person worse.person → MayStandFor (list_in table p) step better.person → HoldsEachTraitOf better.person worse.person
      → rank_of better.list seat ≤ place_of better.list p
  not_envied passes p i j step better worse seat there has there' has' less ahead may holds = no_later p i better seat there has less (λ below mine.
      let c = chosen p below in
      passes version (seats_in table p) (all p) c.admissions better.person worse.person step (over.are_seats.sound p below) (together p below) c.choice mine
      (c.admitted j worse step there' has') ahead may holds)

  -- ---- seats of a step

  module _ (p : ℕ) (below : p < count) (step : StepKind) where
    abbrev held : List Person
    held = those (λ s seat. is_seat_under p step seat) seekers seats

    held_part : IsSublist held (all p)
    held_part = part (λ s seat. is_seat_under p step seat) (λ s seat. applies p s.list seat) seekers seats seats refl
        (λ i s x y there at again h.
        let mine = holder_applies p s.list x (over.fair.allocation.own i s x there at) (under_of p step x h) in
        cc)

    -- as many seats are given as there are such holders
    held_count : length held ≡ seats_under p step seats
    held_count = (let a = as_many (is_seat_under p step) seekers seats over.fair.allocation.full in let b = length-filter (is_seat_under p step) seats in omega (arith, a, b))

    -- they are those whom the step admits
    admits_all : (x : Person) → IsAmong x held → IsAmong x (admitted_by (chosen p below).admissions step)
    admits_all x inside =
        let found = of_those (λ s seat. is_seat_under p step seat) seekers seats x inside in
        let has : slice_get seats found.place ≡ Some (Some (seat_at p (Under step))) = found.at ∙ ap Some (under_is p step found.value found.passes) in
        subst (λ z. IsAmong z (admitted_by (chosen p below).admissions step)) (sym found.person_is) ((chosen p below).admitted found.place found.s step found.there has)

    admits_only : (x : Person) → IsAmong x (admitted_by (chosen p below).admissions step) → IsAmong x held
    admits_only x inside =
        let c = chosen p below in
        let from = (well version nobody table over.are_seats).among p (all p) x (Under step) (together p below) (c.admissions, c.choice, inside) in
        let found = of_those (λ s seat. applies p s.list seat) seekers seats x from in
        let has = c.seated found.place found.s step found.there (subst (λ z. IsAmong z (admitted_by c.admissions step)) found.person_is inside) in
        let value : found.value ≡ Some (seat_at p (Under step)) = (let e = found.at in cc) in
        subst (λ z. IsAmong z held) (sym found.person_is)
        (those_has (λ s seat. is_seat_under p step seat) seekers seats found.place found.s found.value found.there found.at (under_itself p step found.value value))

    given_count : length (admitted_by (chosen p below).admissions step) ≡ seats_under p step seats
    given_count =
        let c = chosen p below in
        let admitted = admitted_by c.admissions step in
        let by_merit = in_merit_ranks (list_in table p) held ((well version nobody table over.are_seats).part p held (all p) (together p below) held_part) in
        let order = (in_merit_ranks (list_in table p) (all p) (together p below)).0 in
        let admitted_order = ranked_sublist (list_in table p) admitted (in_merit (list_in table p) (all p)) order (in_order version table p (all p) c.admissions step c.choice) in
        let few = length-sublist (in_merit (list_in table p) held) admitted (ranked_part (list_in table p) (in_merit (list_in table p) held) admitted by_merit.0 admitted_order
        (among_again (in_merit (list_in table p) held) held admitted by_merit.2 (are_among held admitted admits_all))) in
        let many = length-sublist admitted (in_merit (list_in table p) held) (ranked_part (list_in table p) admitted (in_merit (list_in table p) held) admitted_order by_merit.0
        (among_again admitted held (in_merit (list_in table p) held) (are_among admitted held admits_only) by_merit.1)) in
        omega (arith, few, many, held_count)

  -- the choice of a programme admits in all as many as there are seats of it
  pub in_all : (p : ℕ) → p < count → (admissions : Admissions) × ChoosesFrom version (seats_in table p) (all p) admissions × (admitted_in_all admissions ≡ count_by (is_of p) seats)
  in_all p below =
      let c = chosen p below in
      (c.admissions, c.choice, sum-map (λ step. length (c.admissions step)) all_steps ∙ (ap (λ f. sum_by f all_steps) (λ i step. given_count p below step i) ∙ sym (by_steps p seats (λ i seat has of_it. under_there i seat has))))

  pub are_within : (p : ℕ) → p < count → AreWithin version table p seats
  are_within p below =
      let c = chosen p below in
      record {
        own = λ step own. (let a = given_count p below step in let b = own_seats version table p (all p) c.admissions step c.choice own in omega (arith, a, b));
        dereserved =
            let l = left_falls version (λ step. (seating_in table p step).seats) (λ step. seats_under p step seats) (λ step. length (c.admissions step)) (λ step. let g = given_count p below step in omega (arith, g)) in
            omega (arith, given_count p below Dereserved, last_seats version table p (all p) c.admissions c.choice, l);
      }

  -- a step with a seat left admits fewer than it fills
  admits_fewer : (p : ℕ) (below : p < count) (step : StepKind) → HasSeatLeft version table p seats step
      → length (admitted_by (chosen p below).admissions step) < seats_filled version (seats_in table p) (chosen p below).admissions step
  admits_fewer p below Dereserved left =
      let c = chosen p below in
      let l = left_falls version (λ step. (seating_in table p step).seats) (λ step. length (c.admissions step)) (λ step. seats_under p step seats) (λ step. let g = given_count p below step in omega (arith, g)) in
      omega (arith, given_count p below Dereserved, left, l)
  admits_fewer p below kind left = let a = given_count p below kind in omega (arith, a, left)

  pub not_wasted : EmptySeatsRefuseNobody → (p i : ℕ) (step : StepKind) (s : Seeker) (seat : Option Seat) → HasSeatLeft version table p seats step → slice_get seekers i ≡ Some s
      → slice_get seats i ≡ Some seat → place_of s.list p < length s.list → MayStandFor (list_in table p) step s.person → rank_of s.list seat ≤ place_of s.list p
  not_wasted empty p i step s seat left there has less may = no_later p i s seat there has less (λ below mine.
      let c = chosen p below in
      empty version (seats_in table p) (all p) c.admissions s.person step (over.are_seats.sound p below) (together p below) c.choice (admits_fewer p below step left) mine may)

  -- ---- closing places

  -- whom a programme is open to has a seat of it, or an earlier one
  open_gives : NobodyIsPassedOver → (p i : ℕ) (s : Seeker) (seat : Option Seat) → slice_get seekers i ≡ Some s → slice_get seats i ≡ Some seat → place_of s.list p < length s.list
      → IsOpenTo table seekers seats p s.person → rank_of s.list seat ≤ place_of s.list p
  open_gives passes p i s seat there has less is_open = no_later p i s seat there has less (λ below mine.
      let c = chosen p below in
      let holder = is_open.holder in
      let admitted = c.admitted is_open.place holder is_open.step is_open.there is_open.holds in
      let among = (well version nobody table over.are_seats).among p (all p) holder.person (Under is_open.step) (together p below) (c.admissions, c.choice, admitted) in
      let order = in_merit_ranks (list_in table p) (all p) (together p below) in
      elim (cases_Bool (s.person.id.0 == holder.person.id.0)) [
        | inl is_same ↦
            let id : s.person.id ≡ holder.person.id = same_cand s.person.id holder.person.id (eqb-true _ _ is_same) in
            let place = same_place seekers i is_open.place s holder over.market.ids there is_open.there id in
            (is_open.step, c.admitted i s is_open.step there (subst (λ n. slice_get seats n ≡ Some (Some (seat_at p (Under is_open.step)))) (sym place) is_open.holds))
        | inr apart ↦
            elim (better_or_worse (list_in table p) (in_merit (list_in table p) (all p)) s.person holder.person order.0.in_order (widen s.person (all p) _ order.1 mine)
            (widen holder.person (all p) _ order.1 among) (λ id. let yes = eq-eqb s.person.id.0 holder.person.id.0 (ap (λ (c : CandId). c.0) id) in cc)) [
              | inl better ↦ passes version (seats_in table p) (all p) c.admissions s.person holder.person is_open.step (over.are_seats.sound p below) (together p below) c.choice
                  mine admitted better is_open.may is_open.traits
              | inr worse ↦ absurd (is_open.not_better worse)
            ]
      ])

  -- a programme is open to whoever holds a seat of it
  open_to_holder : AdmittedMayStand → (p i : ℕ) (s : Seeker) (step : StepKind) → slice_get seekers i ≡ Some s → slice_get seats i ≡ Some (Some (seat_at p (Under step)))
      → IsOpenTo table seekers seats p s.person
  open_to_holder stands p i s step there has =
      let below = below_of i p s there (over.fair.allocation.own i s (Some (seat_at p (Under step))) there has) in
      let c = chosen p below in
      record {
        place = i;
        holder = s;
        there = there;
        step = step;
        holds = has;
        may = stands version (seats_in table p) (all p) c.admissions s.person step c.choice (c.admitted i s step there has);
        traits = λ t h. h;
        not_better = not_ahead (number_in (list_in table p) s.person);
      }

  pub is_decided : NobodyIsPassedOver → AdmittedMayStand → (i : ℕ) (s : Seeker) (seat : Option Seat) → slice_get seekers i ≡ Some s → slice_get seats i ≡ Some seat
      → IsDecided table seekers seats s seat
  is_decided passes stands i s seat there has = record { seated = λ prog. (is_first prog, has_seat prog seat has); unseated = (none_open, λ none. unseated seat has none) }
    where
      open_to : (x : Seat) (j : ℕ) (t : Seeker) → slice_get seekers j ≡ Some t → slice_get seats j ≡ Some (Some x) → IsOpenTo table seekers seats x.prog.0 t.person
      open_to x j t at' has' =
          let u = under_a_step j t x at' has' in
          open_to_holder stands x.prog.0 j t u.0 at' (has' ∙ ap (λ z. Some (Some z)) (seat_same x (seat_at x.prog.0 (Under u.0)) refl u.1))

      is_first : (prog : ℕ) → is_of prog seat ≡ true → IsFirstOpen table seekers seats s prog
      is_first prog of_it =
          let kind = seat_of prog seat of_it in
          let found = under_a_step i s (seat_at prog kind.0) there (has ∙ ap Some kind.1) in
          let mine : slice_get seats i ≡ Some (Some (seat_at prog (Under found.0))) = has ∙ (ap Some kind.1 ∙ ap (λ k. Some (Some (seat_at prog k))) found.1) in
          let own : place_of s.list prog < length s.list = over.fair.allocation.own i s (Some (seat_at prog (Under found.0))) there mine in
          record {
            wanted = lt-ltb _ _ own;
            is_open = open_to_holder stands prog i s found.0 there mine;
            none_before = λ other before is_open.
                omega (arith, open_gives passes other i s (Some (seat_at prog (Under found.0))) there mine (omega (arith, before, own)) is_open, before);
          }

      none_open : seat ≡ None → (prog : ℕ) → wants prog s.list ≡ true → IsOpenTo table seekers seats prog s.person → ⊥
      none_open none prog wanted is_open =
          let less : place_of s.list prog < length s.list = ltb-true _ _ wanted in
          omega (arith, open_gives passes prog i s None there (has ∙ ap Some none) less is_open, less)

      has_seat : (prog : ℕ) (x : Option Seat) → slice_get seats i ≡ Some x → IsFirstOpen table seekers seats s prog → is_of prog x ≡ true
      has_seat prog None at first =
          let less = ltb-true _ _ first.wanted in
          absurd (let rank = open_gives passes prog i s None there at less first.is_open in omega (arith, rank, less))
      has_seat prog (Some x) at first =
          let less = ltb-true _ _ first.wanted in
          let rank : place_of s.list x.prog.0 ≤ place_of s.list prog = open_gives passes prog i s (Some x) there at less first.is_open in
          let mine = open_to x i s there at in
          elim (cases_lt (place_of s.list x.prog.0) (place_of s.list prog)) [
            | inr le ↦ eq-eqb x.prog.0 prog (sym (one_place s.list prog x.prog.0 less (omega (arith, le, rank))))
            | inl before ↦ absurd (first.none_before x.prog.0 before mine)
          ]

      unseated : (x : Option Seat) → slice_get seats i ≡ Some x → ((prog : ℕ) → wants prog s.list ≡ true → IsOpenTo table seekers seats prog s.person → ⊥) → x ≡ None
      unseated None at none = refl
      unseated (Some x) at none = absurd (
          let own : place_of s.list x.prog.0 < length s.list = over.fair.allocation.own i s (Some x) there at in
          none x.prog.0 (lt-ltb _ _ own) (open_to x i s there at))

-- ---- the laws

pub nobody_is_envied_where_fair : ProgrammesChooseWell → ProgrammeChoiceExists → OneProgrammeChoice → NobodyIsPassedOver → NobodyIsEnviedWhereFair
nobody_is_envied_where_fair well exists one passes version table seekers seats prog i j step better worse seat over there has there' has' wanted ahead may holds =
    let less = ltb-true _ _ wanted in
    seat_there_is better.list prog seat less (not_envied well exists one version table seekers seats over passes prog i j step better worse seat there has there' has' less ahead may holds)

pub nobody_is_kept_where_fair : ProgrammesChooseWell → ProgrammeChoiceExists → OneProgrammeChoice → NobodyIsKeptWhereFair
nobody_is_kept_where_fair well exists one version table seekers seats i s seat over there has = under_a_step well exists one version table seekers seats over i s seat there has

pub seats_are_within_where_fair : ProgrammesChooseWell → ProgrammeChoiceExists → OneProgrammeChoice → SeatsAreWithinWhereFair
seats_are_within_where_fair well exists one version table seekers seats prog over below = are_within well exists one version table seekers seats over prog below

pub no_seat_is_wasted : ProgrammesChooseWell → ProgrammeChoiceExists → OneProgrammeChoice → EmptySeatsRefuseNobody → NoSeatIsWasted
no_seat_is_wasted well exists one empty version table seekers seats prog i step s seat over left there has wanted may =
    let less = ltb-true _ _ wanted in
    seat_there_is s.list prog seat less (not_wasted well exists one version table seekers seats over empty prog i step s seat left there has less may)

pub closing_places_decide : ProgrammesChooseWell → ProgrammeChoiceExists → OneProgrammeChoice → NobodyIsPassedOver → AdmittedMayStand → ClosingPlacesDecide
closing_places_decide well exists one passes stands version table seekers seats i s seat over there has =
    is_decided well exists one version table seekers seats over passes stands i s seat there has
