-- Fair seats can be justified to each person.
use Rattle.std.proofs.Common.{◌≡◌, ℕ, List, Option, Some, length, refl, sym, ap, ◌∙◌, subst}
use Rattle.std.specs.Prelude.{slice_get}
use Rattle.std.proofs.lemmas.List.{length-map}
use Rattle.office_base.specs.Person.{IsBetter}
use Rattle.office_base.specs.declared.seat.Seat.{Seat}
use Rattle.office_base.specs.declared.seat.SeatKind.TheVariants.{Under}
use Rattle.office_base.specs.declared.person.Person.{Person}
use Rattle.office_base.specs.declared.person.ProgId.{ProgId}
use Rattle.office_base.proofs.Lists.{at_among}
use Rattle.allocations.specs.Market.{Seeker, seat_at}
use Rattle.allocations.proofs.Places.{seat_same}
use Rattle.programme_laws.specs.Laws.{HoldsEachTraitOf}
use Rattle.seat_matrix.specs.Matrix.{SeatTable, list_in}
use Rattle.round_laws.proofs.OneRound.{same_places}
use Rattle.office_moves.specs.Facts.{SeasonFacts}
use Rattle.office_moves.specs.State.{seat_of}
use Rattle.history_laws.proofs.Fits.{full_seekers, map_at}
use Rattle.published_rounds.specs.Published.{market_then, matrix_then, wanted_then}
use Rattle.published_rounds.proofs.Places.{AreOrderly, order_of, in_round, place_among}
use Rattle.published_rounds.specs.Fair.{AreFairOver, IsDecided, IsOpenTo}
use Rattle.published_rounds.specs.FairLaws.{ClosingPlacesDecide, NoSeatIsWasted, NobodyIsEnviedWhereFair, NobodyIsKeptWhereFair, SeatsAreWithinWhereFair}
use Rattle.published_rounds.specs.People.{AreFairTo, AreJustified, FairSeatsAreJustified, IsDecidedFor, IsOpenFor, PublishedRoundsAreJustified, seats_by, seekers_by}
use Rattle.published_rounds.proofs.FairThen.{fair_over}
use Rattle.published_rounds.proofs.Numbered.{map_back}

-- the laws of fair seats, place by place
pub record AreLaws : Type 0 where
  pub envied : NobodyIsEnviedWhereFair
  pub under : NobodyIsKeptWhereFair
  pub wasted : NoSeatIsWasted
  pub within : SeatsAreWithinWhereFair
  pub decided : ClosingPlacesDecide

module _ (version : ℕ) (table : SeatTable) (people : List Person) (wanted : ℕ → List ProgId) (got : ℕ → Option Seat) (over : AreFairTo version table people wanted got) where
  abbrev seekers : List Seeker
  seekers = seekers_by wanted people

  abbrev seats : List (Option Seat)
  seats = seats_by got people

  -- a person as a seeker
  abbrev as_seeker : Person → Seeker
  as_seeker person = record { person = person; list = wanted person.id.0 }

  seeker_there : (i : ℕ) (person : Person) → slice_get people i ≡ Some person → slice_get seekers i ≡ Some (as_seeker person)
  seeker_there i person at = map_at as_seeker people i person at

  seat_there : (i : ℕ) (person : Person) → slice_get people i ≡ Some person → slice_get seats i ≡ Some (got person.id.0)
  seat_there i person at = map_at (λ (p : Person). got p.id.0) people i person at

  -- ---- open programmes

  opens : (p : ℕ) (person : Person) → IsOpenFor table people got p person → IsOpenTo table seekers seats p person
  opens p person o =
      let at = place_among people o.holder o.among in
      record {
        place = at.0;
        holder = as_seeker o.holder;
        there = seeker_there at.0 o.holder at.1;
        step = o.step;
        holds = seat_there at.0 o.holder at.1 ∙ ap Some o.holds;
        may = o.may;
        traits = o.traits;
        not_better = o.not_better;
      }

  opened : (p : ℕ) (person : Person) → IsOpenTo table seekers seats p person → IsOpenFor table people got p person
  opened p person o =
      let who = map_back as_seeker people o.place o.holder o.there in
      let same : o.holder.person ≡ who.0 = ap (λ (z : Seeker). z.person) who.2 in
      let has = seat_there o.place who.0 who.1 in
      record {
        holder = who.0;
        among = at_among people o.place who.0 who.1;
        step = o.step;
        holds = (let held = o.holds in cc);
        may = o.may;
        traits = subst (λ (h : Person). HoldsEachTraitOf person h) same o.traits;
        not_better = subst (λ (h : Person). IsBetter (list_in table p) h person → ⊥) same o.not_better;
      }

  decided_for : (person : Person) → IsDecided table seekers seats (as_seeker person) (got person.id.0) → IsDecidedFor table people (wanted person.id.0) got person
  decided_for person d = record {
    seated = λ p. (
      λ of_it.
          let f = (d.seated p).0 of_it in
          record { wants_it = f.wanted; is_open = opened p person f.is_open; none_before = λ other less o. f.none_before other less (opens other person o) },
      λ f. (d.seated p).1 (record { wanted = f.wants_it; is_open = opens p person f.is_open; none_before = λ other less o. f.none_before other less (opened other person o) }),
    );
    unseated = (
      λ none p wants_it o. d.unseated.0 none p wants_it (opens p person o),
      λ none. d.unseated.1 (λ p wants_it o. none p wants_it (opened p person o)),
    );
  }

  -- ---- what that is worth

  pub justified : AreLaws → AreJustified version table people wanted got
  justified laws = record {
    nobody_is_envied = λ better worse seat step here here' has under wants_it ahead may holds.
        let i = place_among people better here in
        let j = place_among people worse here' in
        let seat_is : seat ≡ seat_at seat.prog.0 (Under step) = seat_same seat (seat_at seat.prog.0 (Under step)) refl under in
        laws.envied version table seekers seats seat.prog.0 i.0 j.0 step (as_seeker better) (as_seeker worse) (got better.id.0) over (seeker_there i.0 better i.1) (seat_there i.0 better i.1)
        (seeker_there j.0 worse j.1) (seat_there j.0 worse j.1 ∙ ap Some (has ∙ ap Some seat_is)) wants_it ahead may holds;
    nobody_is_kept = λ person seat here has.
        let i = place_among people person here in
        laws.under version table seekers seats i.0 (as_seeker person) seat over (seeker_there i.0 person i.1) (seat_there i.0 person i.1 ∙ ap Some has);
    no_seat_is_wasted = λ p step person here left wants_it may.
        let i = place_among people person here in
        laws.wasted version table seekers seats p i.0 step (as_seeker person) (got person.id.0) over left (seeker_there i.0 person i.1) (seat_there i.0 person i.1) wants_it may;
    seats_are_within = λ p below. laws.within version table seekers seats p over below;
    closing_places_decide = λ person here.
        let i = place_among people person here in
        decided_for person (laws.decided version table seekers seats i.0 (as_seeker person) (got person.id.0) over (seeker_there i.0 person i.1) (seat_there i.0 person i.1));
  }

pub fair_seats_are_justified : AreLaws → FairSeatsAreJustified
fair_seats_are_justified laws version table people wanted got over = justified version table people wanted got over laws

-- ---- whose seats they are

seeker_is : (s : Seeker) (person : Person) (list : List ProgId) → s.person ≡ person → s.list ≡ list → s ≡ record { person = person; list = list }
seeker_is s person list e e' = ap (λ (p : Person). record { person = p; list = s.list }) e ∙ ap (λ (l : List ProgId). record { person = person; list = l }) e'

-- Fair seats along the people are fair to them: each seeker is the person at that place with what they want, and each seat is what they get.
pub fair_to : (version : ℕ) (table : SeatTable) (people : List Person) (wanted : ℕ → List ProgId) (got : ℕ → Option Seat) (seekers : List Seeker) (seats : List (Option Seat))
    → length seekers ≡ length people
    → ((i : ℕ) (s : Seeker) (person : Person) → slice_get seekers i ≡ Some s → slice_get people i ≡ Some person → (s.person ≡ person) × (s.list ≡ wanted person.id.0))
    → ((i : ℕ) (seat : Option Seat) (person : Person) → slice_get seats i ≡ Some seat → slice_get people i ≡ Some person → seat ≡ got person.id.0)
    → AreFairOver version table seekers seats → AreFairTo version table people wanted got
fair_to version table people wanted got seekers seats full who gets over =
    subst (λ (l : List (Option Seat)). AreFairOver version table (seekers_by wanted people) l) same_seats (subst (λ (l : List Seeker). AreFairOver version table l seats) same_seekers over)
  where
    same_seekers : seekers ≡ seekers_by wanted people
    same_seekers = same_places seekers (seekers_by wanted people) (full ∙ sym (length-map people (λ (person : Person). record { person = person; list = wanted person.id.0 })))
        (λ i s t there there'.
        let made = map_back (λ (person : Person). record { person = person; list = wanted person.id.0 }) people i t there' in
        let is = who i s made.0 there made.1 in
        seeker_is s made.0 (wanted made.0.id.0) is.0 is.1 ∙ sym made.2)

    same_seats : seats ≡ seats_by got people
    same_seats = same_places seats (seats_by got people) (over.fair.allocation.full ∙ (full ∙ sym (length-map people (λ (person : Person). got person.id.0))))
        (λ i x y there there'.
        let made = map_back (λ (person : Person). got person.id.0) people i y there' in
        gets i x made.0 there made.1 ∙ sym made.2)

-- ---- published rounds

pub published_rounds_are_justified : AreOrderly → FairSeatsAreJustified → (facts : SeasonFacts) → PublishedRoundsAreJustified facts
published_rounds_are_justified orderly justify facts entries state window round published =
    let order = order_of orderly facts entries state window round published in
    let sound = published.sound in
    justify facts.version (matrix_then facts state window) facts.people (wanted_then facts state window) (seat_of facts (Some round))
    (fair_to facts.version (matrix_then facts state window) facts.people (wanted_then facts state window) (seat_of facts (Some round)) (market_then facts state window) round.seats
    (full_seekers facts state window sound)
    (λ i s person there at.
    let mine = in_round facts state window i round person sound order published.there at in
    let one : s ≡ mine.s = (let e = mine.there in cc) in
    (ap (λ (z : Seeker). z.person) one ∙ mine.person_is, ap (λ (z : Seeker). z.list) one ∙ mine.list_is))
    (λ i seat person there at.
    let mine = in_round facts state window i round person sound order published.there at in
    let one : seat ≡ mine.seat = (let e = mine.has in cc) in
    one ∙ sym mine.seat_is)
    (fair_over facts state window round sound order published.there))
