-- How a cut left a candidate fits what was sought at it and the seat that it gave. What everybody seeks next is in the choice
-- lists.
use Rattle.std.proofs.Common.{◌≡◌, ◌≢◌, ◌<◌, ◌⊎◌, inl, inr, ℕ, zero, suc, true, false, List, [], ◌∷◌, Option, Some, None, length, map, arith, refl, sym, ap, ◌∙◌, subst}
use Rattle.std.specs.Prelude.{slice_get, option_map, IsSome}
use Rattle.std.specs.Option.{option_and_then}
use Rattle.std.proofs.lemmas.List.{length-map}
use Rattle.std.proofs.lemmas.Option.{slice_get_within}
use Rattle.office_base.specs.Lists.{Pairwise}
use Rattle.office_base.proofs.People.{at_person-get}
use Rattle.office_base.specs.declared.choice.Choice.{Choice}
use Rattle.office_base.specs.declared.choice.Choice.TheVariants.{Freeze as ToFreeze, Float as ToFloat, Slide as ToSlide, Withdraw as ToWithdraw}
use Rattle.office_base.specs.declared.seat.Seat.{Seat}
use Rattle.office_base.specs.declared.person.Person.{Person}
use Rattle.office_base.specs.declared.person.ProgId.{ProgId}
use Rattle.office_base.proofs.Lists.{there_is}
use Rattle.allocations.specs.Market.{Seeker, place_of}
use Rattle.choice_lists.specs.Choices.{list_of}
use Rattle.seat_matrix.specs.Matrix.{SeatTable}
use Rattle.seeks.specs.Seek.{IsWithinList, is_left, seek_leaves}
use Rattle.seeks.specs.declared.seek.Seek.{Seek}
use Rattle.rounds.specs.Rule.{AreSeeks, IsOwnList, seekers_of}
use Rattle.rounds.specs.declared.round.Round.{Round}
use Rattle.rounds.proofs.Entrants.{entered, length_seekers, place_at}
use Rattle.round_options.specs.Options.{after_cut, holds, may_follow, seek_after, standing_of}
use Rattle.round_options.specs.declared.standing.Standing.{Standing}
use Rattle.round_options.specs.declared.standing.Standing.TheVariants.{Waiting, Offered, Freeze, Float, Slide, Withdrawn, NoShow}
use Rattle.office_moves.specs.Facts.{IsSound, SeasonFacts, lists_in_order}
use Rattle.office_moves.specs.State.{State, seat_in, seat_of}
use Rattle.office_moves.specs.Raised.{matrix_of_round}
use Rattle.office_moves.specs.Promise.{standing_then}
use Rattle.office_moves.proofs.Narrows.{FitsLast, Follows, IsSeatAt, left_there}
use Rattle.history_laws.specs.Course.{IsCourse, seek_then, seeks_then}
use Rattle.round_laws.proofs.People.{StandsAt, stands_at}
use Rattle.history_laws.proofs.Entering.{list_there, lists_full, own_there}

-- ---- an answer

-- the standing is the one that was left, or an answer that may follow it; and only a withdrawal is taken without a seat
abbrev pub Answered : Standing → Standing → Option Seat → Type 0
Answered left standing seat = (standing ≡ left) ⊎ ((choice : Choice) × (may_follow left choice ≡ true) × (standing ≡ standing_of choice) × ((choice ≡ ToWithdraw) ⊎ IsSome seat))

pub follows : (left standing : Standing) (seat : Option Seat) → Answered left standing seat → Follows left standing
follows left standing seat (inl e) = inl e
follows left standing seat (inr c) = inr (c.0, c.1, c.2)

-- nobody waits after an answer
no_answer_waits : (choice : Choice) → standing_of choice ≡ Waiting → ⊥
no_answer_waits ToFreeze e = cc
no_answer_waits ToFloat e = cc
no_answer_waits ToSlide e = cc
no_answer_waits ToWithdraw e = cc

pub still_waits : (left standing : Standing) (seat : Option Seat) → Answered left standing seat → standing ≡ Waiting → left ≡ Waiting
still_waits left standing seat (inl same) e = sym same ∙ e
still_waits left standing seat (inr c) e = absurd (no_answer_waits c.0 (sym c.2 ∙ e))

no_holder : (choice : Choice) → choice ≡ ToWithdraw → holds (standing_of choice) ≡ true → ⊥
no_holder ToFreeze e h = absurd (cc)
no_holder ToFloat e h = absurd (cc)
no_holder ToSlide e h = absurd (cc)
no_holder ToWithdraw e h = absurd (cc)

-- a candidate who keeps a seat, and is given none, kept it before
pub held_before : (left standing : Standing) (seat : Option Seat) → Answered left standing seat → seat ≡ None → holds standing ≡ true → holds left ≡ true
held_before left standing seat (inl same) none h = subst (λ s. holds s ≡ true) same h
held_before left standing seat (inr (choice, may, is, inl away)) none h = absurd (no_holder choice away (subst (λ s. holds s ≡ true) is h))
held_before left standing seat (inr (choice, may, is, inr some)) none h = absurd (let e : false ≡ true = subst (λ o. IsSome o) none some in cc)

-- a cut gives nobody a standing that keeps a seat
pub held_over : (standing : Standing) (seat : Option Seat) → holds (after_cut standing seat) ≡ true → holds standing ≡ true
held_over Waiting None e = e
held_over Waiting (Some seat) e = e
held_over Offered seat e = e
held_over Freeze seat e = e
held_over Float seat e = e
held_over Slide seat e = e
held_over Withdrawn seat e = e
held_over NoShow seat e = e

-- a candidate who keeps a seat has one
pub held_seat : (left standing : Standing) (seat : Option Seat) → Answered left standing seat → (holds left ≡ true → IsSome seat) → holds standing ≡ true → IsSome seat
held_seat left standing seat (inl same) has h = has (subst (λ s. holds s ≡ true) same h)
held_seat left standing seat (inr (choice, may, is, inl away)) has h = absurd (no_holder choice away (subst (λ s. holds s ≡ true) is h))
held_seat left standing seat (inr (choice, may, is, inr some)) has h = some

-- ---- a cut

-- How a cut left a candidate fits what was sought at it, and the seat.
pub record FitsCut (left : Standing) (last : Seek) (seat : Option Seat) : Type 0 where
  pub fits : FitsLast left last
  pub waits : left ≡ Waiting → seat ≡ None
  pub has : holds left ≡ true → IsSome seat

pub not_true : false ≡ true → ⊥
not_true e = cc

pub cut_fits : (standing : Standing) (place : Option ℕ) (seat : Option Seat) → (holds standing ≡ true → IsSome place) → (holds standing ≡ true → IsSome seat)
    → FitsCut (after_cut standing seat) (seek_after standing place) seat
cut_fits Waiting place None first second = record { fits = refl; waits = λ e. refl; has = λ e. absurd (cc) }
cut_fits Waiting place (Some seat) first second = record { fits = refl; waits = λ e. absurd (cc); has = λ e. absurd (cc) }
cut_fits Offered place seat first second = record { fits = tt; waits = λ e. absurd (cc); has = λ e. absurd (cc) }
cut_fits Freeze None seat first second = absurd (not_true (first refl))
cut_fits Freeze (Some k) seat first second = record { fits = (k, refl); waits = λ e. absurd (cc); has = second }
cut_fits Float None seat first second = absurd (not_true (first refl))
cut_fits Float (Some k) seat first second = record { fits = (k, refl); waits = λ e. absurd (cc); has = second }
cut_fits Slide None seat first second = absurd (not_true (first refl))
cut_fits Slide (Some k) seat first second = record { fits = (k, refl); waits = λ e. absurd (cc); has = second }
cut_fits Withdrawn place seat first second = record { fits = tt; waits = λ e. absurd (cc); has = λ e. absurd (cc) }
cut_fits NoShow place seat first second = record { fits = tt; waits = λ e. absurd (cc); has = λ e. absurd (cc) }

-- ---- lists

pub map_at : {X Y : Type 0} (f : X → Y) (xs : List X) (i : ℕ) (x : X) → slice_get xs i ≡ Some x → slice_get (map f xs) i ≡ Some (f x)
map_at f [] i x at = absurd (cc)
map_at f (y ∷ xs) zero x at = let same : y ≡ x = cc in ap (λ z. Some (f z)) same
map_at f (y ∷ xs) (suc i) x at = map_at f xs i x at

-- ---- those who entered a round

-- the seekers of the cut of a window
abbrev pub seekers_then : SeasonFacts → State → ℕ → List Seeker
seekers_then facts state window = seekers_of (matrix_of_round facts state (suc window)) facts.people (lists_in_order facts) (seeks_then facts state window)

pub full_seeks : (facts : SeasonFacts) (state : State) (window : ℕ) → IsSound facts → length (seeks_then facts state window) ≡ length (lists_in_order facts)
full_seeks facts state window sound = length-map facts.people (λ (person : Person). seek_then facts state window person.id.0) ∙ sym (lists_full facts sound)

pub full_seekers : (facts : SeasonFacts) (state : State) (window : ℕ) → IsSound facts → length (seekers_then facts state window) ≡ length facts.people
full_seekers facts state window sound =
    length_seekers (matrix_of_round facts state (suc window)) facts.people (lists_in_order facts) (seeks_then facts state window) (lists_full facts sound) (full_seeks facts state window sound)

-- a seeker is one of the people, with what the person's seek leaves of the person's list
pub record Enters (facts : SeasonFacts) (state : State) (window i : ℕ) (s : Seeker) : Type 0 where
  pub person_at : slice_get facts.people i ≡ Some s.person
  pub leaves : s.list ≡ seek_leaves (matrix_of_round facts state (suc window)) (seek_then facts state window s.person.id.0) (list_of facts.lists s.person.id.0)

pub enters : (facts : SeasonFacts) (state : State) (window i : ℕ) (s : Seeker) → IsSound facts → slice_get (seekers_then facts state window) i ≡ Some s → Enters facts state window i s
enters facts state window i s sound there =
    let table = matrix_of_round facts state (suc window) in
    let e = entered table facts.people (lists_in_order facts) (seeks_then facts state window) i s there in
    let mine = list_there facts i s.person e.list sound e.person_at e.list_at in
    let sought = map_at (λ (person : Person). seek_then facts state window person.id.0) facts.people i s.person e.person_at in
    let again = e.seek_at in
    let one : e.seek ≡ seek_then facts state window s.person.id.0 = cc in
    record {
      person_at = e.person_at;
      leaves = e.leaves ∙ (ap (λ q. seek_leaves table q e.list) one ∙ ap (λ l. seek_leaves table (seek_then facts state window s.person.id.0) l) (sym mine));
    }

-- ---- the seats of a round

-- the seat at the place of a person is the person's
pub seat_there : (facts : SeasonFacts) (rounds : List Round) (before i : ℕ) (round : Round) (person : Person) (seat : Option Seat) → IsSound facts → slice_get rounds before ≡ Some round
    → slice_get facts.people i ≡ Some person → slice_get round.seats i ≡ Some seat → seat_in facts rounds (suc before) person.id.0 ≡ seat
seat_there facts rounds before i round person seat sound is at has =
    ap (λ o. seat_of facts o person.id.0) is ∙ ap (λ o. option_and_then (λ s. s) o) (at_person-get facts.people round.seats i person sound.ranks.rising at ∙ has)

-- a candidate who has a seat is among the people, and has it there
pub record IsSeated (facts : SeasonFacts) (rounds : List Round) (before id : ℕ) (seat : Seat) : Type 0 where
  pub round : Round
  pub is : slice_get rounds before ≡ Some round
  pub stands : StandsAt id facts.people round.seats (Some seat)

pub seat_of_some : (o : Option (Option Seat)) (seat : Seat) → option_and_then (λ s. s) o ≡ Some seat → o ≡ Some (Some seat)
seat_of_some None seat e = absurd (cc)
seat_of_some (Some s) seat e = ap Some e

pub is_seated : (facts : SeasonFacts) (rounds : List Round) (before id : ℕ) (seat : Seat) → seat_in facts rounds (suc before) id ≡ Some seat → IsSeated facts rounds before id seat
is_seated facts rounds before id seat e = go (slice_get rounds before) refl e
  where
    go : (o : Option Round) → slice_get rounds before ≡ o → seat_of facts o id ≡ Some seat → IsSeated facts rounds before id seat
    go None is e = absurd (cc)
    go (Some round) is e = record { round = round; is = is; stands = stands_at id facts.people round.seats (Some seat) (seat_of_some _ seat e) }

-- ---- the place of a seat

pub the_prog : (a b : ProgId) → a.0 ≡ b.0 → a ≡ b
the_prog a b same = ap number_prog same
  where
    number_prog : ℕ → ProgId
    number_prog n = record { 0 = n }

-- a seat of what a seek leaves is in the whole list, where the seek leaves it
pub seat_at_place : (table : SeatTable) (last : Seek) (list : List ProgId) (seat : Seat) → Pairwise (λ (a b : ProgId). a.0 ≢ b.0) list
    → place_of (seek_leaves table last list) seat.prog.0 < length (seek_leaves table last list) → IsSeatAt table last list seat (place_of list seat.prog.0)
seat_at_place table last list seat distinct less =
    let found = left_there table last list seat.prog.0 less in
    let prog = the_prog found.prog seat.prog found.is in
    let place : place_of list seat.prog.0 ≡ found.place = subst (λ n. place_of list n ≡ found.place) found.is (place_at list found.place found.prog distinct found.there) in
    record {
      there = subst (λ k. slice_get list k ≡ Some seat.prog) (sym place) (subst (λ q. slice_get list found.place ≡ Some q) prog found.there);
      left = subst (λ k. is_left table last list k seat.prog ≡ true) (sym place) (subst (λ q. is_left table last list found.place q ≡ true) prog found.left);
    }

-- A seat of a course, with all that is known of it.
pub record SeatOf (facts : SeasonFacts) (state : State) (before id : ℕ) (seat : Seat) : Type 0 where
  pub round : Round
  pub is : slice_get state.rounds before ≡ Some round
  pub place : ℕ
  pub s : Seeker
  pub there : slice_get (seekers_then facts state before) place ≡ Some s
  pub person_at : slice_get facts.people place ≡ Some s.person
  pub id_is : s.person.id.0 ≡ id
  pub leaves : s.list ≡ seek_leaves (matrix_of_round facts state (suc before)) (seek_then facts state before id) (list_of facts.lists id)
  pub has : slice_get round.seats place ≡ Some (Some seat)
  pub own : IsOwnList facts.matrix s.person (list_of facts.lists id)
  pub at : IsSeatAt (matrix_of_round facts state (suc before)) (seek_then facts state before id) (list_of facts.lists id) seat (place_of (list_of facts.lists id) seat.prog.0)

pub seat_is : (facts : SeasonFacts) (state : State) (before id : ℕ) (seat : Seat) → IsSound facts → IsCourse facts state → seat_in facts state.rounds (suc before) id ≡ Some seat
    → SeatOf facts state before id seat
seat_is facts state before id seat sound course e =
    let seated = is_seated facts state.rounds before id seat e in
    let made = course.made before seated.round seated.is in
    let place = seated.stands.place in
    let below = slice_get_within facts.people place seated.stands.person seated.stands.person_at in
    let full = full_seekers facts state before sound in
    let found = there_is (seekers_then facts state before) place (omega (arith, below, full)) in
    let s = found.0 in
    let entry = enters facts state before place s sound found.1 in
    let one : s.person ≡ seated.stands.person = (let a = entry.person_at in let b = seated.stands.person_at in cc) in
    let id_is : s.person.id.0 ≡ id = ap (λ (z : Person). z.id.0) one ∙ seated.stands.is in
    let table = matrix_of_round facts state (suc before) in
    let leaves : s.list ≡ seek_leaves table (seek_then facts state before id) (list_of facts.lists id) =
    subst (λ n. s.list ≡ seek_leaves table (seek_then facts state before n) (list_of facts.lists n)) id_is entry.leaves in
    let less : place_of s.list seat.prog.0 < length s.list = made.best.fair.allocation.own place s (Some seat) found.1 seated.stands.at in
    let own : IsOwnList facts.matrix s.person (list_of facts.lists id) =
    subst (λ n. IsOwnList facts.matrix s.person (list_of facts.lists n)) id_is (own_there facts facts.matrix place s.person sound refl entry.person_at) in
    record {
      round = seated.round;
      is = seated.is;
      place = place;
      s = s;
      there = found.1;
      person_at = entry.person_at;
      id_is = id_is;
      leaves = leaves;
      has = seated.stands.at;
      own = own;
      at = seat_at_place table (seek_then facts state before id) (list_of facts.lists id) seat own.distinct (subst (λ l. place_of l seat.prog.0 < length l) leaves less);
    }

-- the programme of a seat is in the choice list
pub placed : (facts : SeasonFacts) (state : State) (window id : ℕ) (seat : Seat) → IsSound facts → IsCourse facts state → seat_in facts state.rounds window id ≡ Some seat
    → place_of (list_of facts.lists id) seat.prog.0 < length (list_of facts.lists id)
placed facts state zero id seat sound course e = absurd (cc)
placed facts state (suc before) id seat sound course e =
    let known = seat_is facts state before id seat sound course e in
    slice_get_within (list_of facts.lists id) (place_of (list_of facts.lists id) seat.prog.0) seat.prog known.at.there

-- ---- what everybody seeks

pub within : (list : List ProgId) (standing : Standing) (seat : Option Seat) → ((held : Seat) → seat ≡ Some held → place_of list held.prog.0 < length list)
    → IsWithinList list (seek_after standing (option_map (λ (held : Seat). place_of list held.prog.0) seat))
within list Waiting seat h = tt
within list Offered seat h = tt
within list Freeze None h = tt
within list Freeze (Some seat) h = h seat refl
within list Float None h = tt
within list Float (Some seat) h = h seat refl
within list Slide None h = tt
within list Slide (Some seat) h = h seat refl
within list Withdrawn seat h = tt
within list NoShow seat h = tt

pub some_one : (a b : Seek) → Some a ≡ Some b → a ≡ b
some_one a b e = cc

-- what the people seek by the seats of a round, with whatever standings
abbrev pub sought_by : SeasonFacts → List Round → (ℕ → Standing) → ℕ → ℕ → Seek
sought_by facts rounds standing number id = seek_after (standing id) (option_map (λ seat. place_of (list_of facts.lists id) seat.prog.0) (seat_in facts rounds number id))

-- and it is in the choice lists
pub seeks_within : (facts : SeasonFacts) (state : State) (standing : ℕ → Standing) (number : ℕ) → IsSound facts → IsCourse facts state
    → AreSeeks (lists_in_order facts) (map (λ (person : Person). sought_by facts state.rounds standing number person.id.0) facts.people)
seeks_within facts state standing number sound course = record {
  full = length-map facts.people (λ (person : Person). sought_by facts state.rounds standing number person.id.0) ∙ sym (lists_full facts sound);
  within = λ i list seek at at'.
      let full = lists_full facts sound in
      let below = slice_get_within (lists_in_order facts) i list at in
      let person = there_is facts.people i (omega (arith, below, full)) in
      let id = person.0.id.0 in
      let sought = sought_by facts state.rounds standing number id in
      let mine = list_there facts i person.0 list sound person.1 at in
      let mapped = map_at (λ (person : Person). sought_by facts state.rounds standing number person.id.0) facts.people i person.0 person.1 in
      let one : seek ≡ sought = some_one seek sought (sym at' ∙ mapped) in
      let fits : IsWithinList (list_of facts.lists id) sought =
      within (list_of facts.lists id) (standing id) (seat_in facts state.rounds number id) (λ held e. placed facts state number id held sound course e) in
      subst (λ q. IsWithinList list q) (sym one) (subst (λ l. IsWithinList l sought) mine fits);
}

-- what everybody seeks at a cut is in the choice lists
pub seeks_fit : (facts : SeasonFacts) (state : State) (window : ℕ) → IsSound facts → IsCourse facts state → AreSeeks (lists_in_order facts) (seeks_then facts state window)
seeks_fit facts state window sound course = seeks_within facts state (λ id. standing_then facts state window id) window sound course
