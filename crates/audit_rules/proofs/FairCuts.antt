-- A cut at which no clause is broken is fair, and nobody falls.
use Rattle.std.proofs.Common.{◌≡◌, ◌<◌, ◌↔◌, ℕ, true, List, [], Option, Some, None, length, arith, refl, sym, ap, ◌∙◌, subst}
use Rattle.std.proofs.lemmas.Bool.{false≢true}
use Rattle.std.specs.Prelude.{IsTrue, option_map, slice_get}
use Rattle.std.proofs.lemmas.List.{length-map}
use Rattle.std.proofs.lemmas.Option.{same_Some, slice_get-map, slice_get_within}
use Rattle.office_base.specs.Lists.{IsAmong}
use Rattle.office_base.specs.declared.seat.Seat.{Seat}
use Rattle.office_base.specs.declared.person.Person.{Person}
use Rattle.office_base.specs.declared.person.ProgId.{ProgId}
use Rattle.office_base.specs.declared.seat.SeatKind.{SeatKind}
use Rattle.office_base.specs.declared.seat.SeatKind.TheVariants.{Kept, Under}
use Rattle.office_base.specs.declared.step.StepKind.{StepKind}
use Rattle.office_base.specs.declared.step.StepKind.TheVariants.{Open}
use Rattle.office_base.proofs.Lists.{there_is}
use Rattle.office_base.proofs.Options.{some_value}
use Rattle.allocations.specs.Fair.{HasClaim, IsAllocation, IsFair, IsMarket, IsOwn}
use Rattle.allocations.specs.Market.{Seeker, place_of, seat_at}
use Rattle.allocations.proofs.Claims.{applicants_may, fair_justified}
use Rattle.allocations.proofs.Places.{place_read}
use Rattle.choice_lists.specs.Choices.{list_of as choices_of}
use Rattle.list_audit.specs.Clauses.{list_of_step, named_by}
use Rattle.list_audit.specs.Laws.{SoundListsAreTheChoice}
use Rattle.open_then_category.specs.Laws.{OneProgrammeChoice}
use Rattle.programme_lists.specs.Chosen.{ChoosesFrom}
use Rattle.programme_lists.specs.Programme.{Admissions, admitted_by}
use Rattle.programme_lists.specs.declared.programme.Programme.{Programme}
use Rattle.rounds.specs.Rule.{MayApplyIn, ProgrammesChooseWell, nobody, rule_of}
use Rattle.rounds.proofs.Entrants.{entered, length_seekers, market}
use Rattle.round_options.specs.Options.{holds, seek_after}
use Rattle.seat_matrix.specs.Matrix.{seats_in}
use Rattle.seeks.specs.Seek.{are_together, seek_leaves}
use Rattle.office_moves.specs.Facts.{IsSound, SeasonFacts, lists_in_order}
use Rattle.office_moves.specs.Moves.{next_seek, next_seeks}
use Rattle.office_moves.specs.Promise.{IsNoWorse}
use Rattle.office_moves.specs.Raised.{matrix_at}
use Rattle.office_moves.specs.State.{State, last_seat, seat_of, standing_at, view_of}
use Rattle.history_laws.proofs.Entering.{entrants, list_there, lists_full, own_there}
use Rattle.history_laws.proofs.Fits.{seat_at_place, the_prog}
use Rattle.history_laws.proofs.Falls.{left_kept}
use Rattle.audit_rules.specs.Cut.{CutHolds, applicants_at, is_named, lists_at, named_for, seat_given, seekers_at, sought_by}
use Rattle.audit_rules.specs.Fair.{IsFairCut}
use Rattle.audit_rules.specs.InOrder.{IsInOrder}
use Rattle.audit_rules.specs.Papers.{Papers, lists_after, rows_after, seat_told, seats_told}
use Rattle.audit_rules.specs.Replay.{round_of}
use Rattle.audit_rules.proofs.Agreeing.{fair_from_lists}
use Rattle.audit_rules.proofs.Ordering.{holder_is, seat_of_told}

-- ---- who seeks, and the seats that the round's text gives

seats_at : (papers : Papers) (facts : SeasonFacts) (state : State) (i : ℕ) (person : Person) → slice_get facts.people i ≡ Some person
    → slice_get (seats_told (rows_after papers state.now) facts.people) i ≡ Some (seat_given papers state person.id.0)
seats_at papers facts state i person there =
    slice_get-map (λ (p : Person). seat_told (rows_after papers state.now) p.id.0) facts.people i
    ∙ ap (λ (o : Option Person). option_map (λ (p : Person). seat_told (rows_after papers state.now) p.id.0) o) there

pub full_seekers : (facts : SeasonFacts) (state : State) → IsSound facts → length (seekers_at facts state) ≡ length facts.people
full_seekers facts state sound =
    length_seekers (matrix_at facts state) facts.people (lists_in_order facts) (next_seeks facts state) (lists_full facts sound)
    (length-map facts.people (λ (person : Person). next_seek facts state person.id.0) ∙ sym (lists_full facts sound))

-- a seeker is one of the people, with what is sought
pub record Enters (facts : SeasonFacts) (state : State) (i : ℕ) (s : Seeker) : Type 0 where
  pub person_at : slice_get facts.people i ≡ Some s.person
  pub leaves : s.list ≡ sought_by facts state s.person.id.0

pub enters : (facts : SeasonFacts) (state : State) (i : ℕ) (s : Seeker) → IsSound facts → slice_get (seekers_at facts state) i ≡ Some s → Enters facts state i s
enters facts state i s sound there =
    let table = matrix_at facts state in
    let e = entered table facts.people (lists_in_order facts) (next_seeks facts state) i s there in
    let mine = list_there facts i s.person e.list sound e.person_at e.list_at in
    let sought : slice_get (next_seeks facts state) i ≡ Some (next_seek facts state s.person.id.0) =
    slice_get-map (λ (person : Person). next_seek facts state person.id.0) facts.people i ∙ ap (λ (o : Option Person). option_map (λ (person : Person). next_seek facts state person.id.0) o) e.person_at in
    let again = e.seek_at in
    let one : e.seek ≡ next_seek facts state s.person.id.0 = cc in
    record {
      person_at = e.person_at;
      leaves = e.leaves ∙ (ap (λ q. seek_leaves table q e.list) one ∙ ap (λ l. seek_leaves table (next_seek facts state s.person.id.0) l) (sym mine));
    }

allocation : (facts : SeasonFacts) (papers : Papers) (state : State) → IsSound facts → CutHolds facts papers state → IsAllocation (seekers_at facts state) (seats_told (rows_after papers state.now) facts.people)
allocation facts papers state sound holds' = record {
  full = length-map facts.people (λ (p : Person). seat_told (rows_after papers state.now) p.id.0) ∙ sym (full_seekers facts state sound);
  own = λ i s seat there has.
      let entry = enters facts state i s sound there in
      let given = seats_at papers facts state i s.person entry.person_at in
      let same : seat ≡ seat_given papers state s.person.id.0 = same_Some seat (seat_given papers state s.person.id.0) (sym has ∙ given) in
      subst (λ (o : Option Seat). IsOwn s.list o) (sym same) (subst (λ (l : List ProgId). IsOwn l (seat_given papers state s.person.id.0)) (sym entry.leaves) (holds'.sought i s.person entry.person_at));
}

-- ---- the lists

-- all programmes have their lists
abbrev pub AreListed : SeasonFacts → Papers → State → Type 0
AreListed facts papers state = length (lists_after papers (length facts.matrix.programmes) state.now) ≡ length facts.matrix.programmes

-- the laws on which a cut rests
pub record AreLawful : Type 0 where
  pub sound : SoundListsAreTheChoice
  pub one : OneProgrammeChoice
  pub well : ProgrammesChooseWell

-- a cut that holds, in a state that is in order
pub record IsCut (facts : SeasonFacts) (papers : Papers) (state : State) : Type 0 where
  pub laws : AreLawful
  pub sound : IsSound facts
  pub order : IsInOrder facts state
  pub holds : CutHolds facts papers state
  pub listed : AreListed facts papers state

abbrev seats_of : SeasonFacts → Papers → State → List (Option Seat)
seats_of facts papers state = seats_told (rows_after papers state.now) facts.people

-- the round's text gives as many seats as there are seekers
pub full_seats : (facts : SeasonFacts) (papers : Papers) (state : State) → IsSound facts → length (seats_of facts papers state) ≡ length (seekers_at facts state)
full_seats facts papers state sound = length-map facts.people (λ (p : Person). seat_told (rows_after papers state.now) p.id.0) ∙ sym (full_seekers facts state sound)

-- those who apply to a programme may apply together
pub may_apply : ProgrammesChooseWell → (facts : SeasonFacts) (papers : Papers) (state : State) (p : ℕ) → IsSound facts → IsInOrder facts state → p < length facts.matrix.programmes
    → MayApplyIn (matrix_at facts state) p (applicants_at facts papers state p)
may_apply well facts papers state p sound order less =
    let table = matrix_at facts state in
    let below : p < length table.programmes = subst (λ z. p < length z) (sym order.programmes) less in
    applicants_may (rule_of facts.version nobody table) (MayApplyIn table) (length table.programmes) p (seekers_at facts state) (seats_of facts papers state)
    (market table facts.people (lists_in_order facts) (next_seeks facts state) order.seats (entrants facts table sound order.programmes))
    (well facts.version nobody table order.seats) below (full_seats facts papers state sound)

may : (facts : SeasonFacts) (papers : Papers) (state : State) (p : ℕ) → IsCut facts papers state → p < length facts.matrix.programmes → MayApplyIn (matrix_at facts state) p (applicants_at facts papers state p)
may facts papers state p cut less = may_apply cut.laws.well facts papers state p cut.sound cut.order less

-- the lists of a programme name its choice
chooses : (facts : SeasonFacts) (papers : Papers) (state : State) (p : ℕ) (programme : Programme) → IsCut facts papers state → p < length facts.matrix.programmes
    → lists_at facts papers state p ≡ Some programme → ChoosesFrom facts.version (seats_in (matrix_at facts state) p) (applicants_at facts papers state p) (named_by programme)
chooses facts papers state p programme cut less there =
    cut.laws.sound facts.version (seats_in (matrix_at facts state) p) (applicants_at facts papers state p) programme
    (cut.order.seats.sound p (subst (λ z. p < length z) (sym cut.order.programmes) less)) (may facts papers state p cut less) (cut.holds.sound p programme there)

-- whom a step's list names
abbrev pub named_of : Option Programme → SeatKind → List Person
named_of None kind = []
named_of (Some programme) kind = named_for programme kind

same_named : (programme : Programme) (kind : StepKind) → admitted_by (named_by programme) kind ≡ (list_of_step programme kind).admitted
same_named programme Open = refl
same_named programme _ = refl

is_there : (facts : SeasonFacts) (papers : Papers) (state : State) (p : ℕ) → IsCut facts papers state → p < length facts.matrix.programmes → (programme : Programme) × (lists_at facts papers state p ≡ Some programme)
is_there facts papers state p cut less =
    let full : length (lists_after papers (length facts.matrix.programmes) state.now) ≡ length facts.matrix.programmes = cut.listed in
    there_is (lists_after papers (length facts.matrix.programmes) state.now) p (omega (arith, full, less))

chosen : (facts : SeasonFacts) (papers : Papers) (state : State) (p : ℕ) (person : Person) (kind : SeatKind) → IsCut facts papers state → p < length facts.matrix.programmes
    → rule_of facts.version nobody (matrix_at facts state) p (applicants_at facts papers state p) person kind ↔ IsAmong person (named_of (lists_at facts papers state p) kind)
chosen facts papers state p person Kept cut less =
    let found = is_there facts papers state p cut less in
    let none : named_of (lists_at facts papers state p) Kept ≡ [] = ap (λ (o : Option Programme). named_of o Kept) found.1 in (
      (λ keeps. absurd (false≢true keeps.guaranteed_there)),
      (λ among. absurd (subst (IsAmong person) none among)),
    )
chosen facts papers state p person (Under kind) cut less =
    let found = is_there facts papers state p cut less in
    let programme = found.0 in
    let choice = chooses facts papers state p programme cut less found.1 in
    let seats = cut.order.seats.sound p (subst (λ z. p < length z) (sym cut.order.programmes) less) in
    let named : named_of (lists_at facts papers state p) (Under kind) ≡ admitted_by (named_by programme) kind =
    ap (λ (o : Option Programme). named_of o (Under kind)) found.1 ∙ sym (same_named programme kind) in (
      (λ admits.
          let one : admits.0 ≡ named_by programme =
          cut.laws.one facts.version (seats_in (matrix_at facts state) p) (applicants_at facts papers state p) admits.0 (named_by programme) seats (may facts papers state p cut less) admits.1 choice in
          subst (IsAmong person) (sym named) (subst (λ (a : Admissions). IsAmong person (admitted_by a kind)) one admits.2)),
      (λ among. (named_by programme, choice, subst (IsAmong person) named among)),
    )

agrees : (facts : SeasonFacts) (papers : Papers) (state : State) (p i : ℕ) (s : Seeker) (kind : SeatKind) → IsCut facts papers state → p < length facts.matrix.programmes → slice_get (seekers_at facts state) i ≡ Some s
    → IsTrue (is_named s.person.id.0 (named_of (lists_at facts papers state p) kind)) ↔ (slice_get (seats_of facts papers state) i ≡ Some (Some (seat_at p kind)))
agrees facts papers state p i s kind cut less there =
    let found = is_there facts papers state p cut less in
    let entry = enters facts state i s cut.sound there in
    let agree = cut.holds.listed p found.0 found.1 i s.person entry.person_at kind in
    let named : named_of (lists_at facts papers state p) kind ≡ named_for found.0 kind = ap (λ (o : Option Programme). named_of o kind) found.1 in
    let given = seats_at papers facts state i s.person entry.person_at in (
      (λ is. given ∙ ap Some (agree.0 (subst (λ (l : List Person). IsTrue (is_named s.person.id.0 l)) named is))),
      (λ has. subst (λ (l : List Person). IsTrue (is_named s.person.id.0 l)) (sym named) (agree.1 (same_Some (seat_given papers state s.person.id.0) (Some (seat_at p kind)) (sym given ∙ has)))),
    )

pub fair : (facts : SeasonFacts) (papers : Papers) (state : State) → IsCut facts papers state
    → IsFair (rule_of facts.version nobody (matrix_at facts state)) (length facts.matrix.programmes) (seekers_at facts state) (seats_of facts papers state)
fair facts papers state cut =
    let table = matrix_at facts state in
    let well = cut.laws.well facts.version nobody table cut.order.seats in
    fair_from_lists (rule_of facts.version nobody table) (length facts.matrix.programmes) (seekers_at facts state) (seats_of facts papers state) (λ p kind. named_of (lists_at facts papers state p) kind)
    (allocation facts papers state cut.sound cut.holds)
    (market table facts.people (lists_in_order facts) (next_seeks facts state) cut.order.seats (entrants facts table cut.sound cut.order.programmes)).ids
    (λ p person kind less. chosen facts papers state p person kind cut less)
    (λ p person kind less among. well.among p (applicants_at facts papers state p) person kind (may facts papers state p cut less) ((chosen facts papers state p person kind cut less).1 among))
    (λ p i s kind less there. agrees facts papers state p i s kind cut less there)

-- and so nobody has a justified claim
no_claim : (facts : SeasonFacts) (papers : Papers) (state : State) → IsCut facts papers state → (p i : ℕ) → p < length facts.matrix.programmes
    → HasClaim (rule_of facts.version nobody (matrix_at facts state)) (seekers_at facts state) (seats_of facts papers state) i p → ⊥
no_claim facts papers state cut =
    let table = matrix_at facts state in
    let enter = market table facts.people (lists_in_order facts) (next_seeks facts state) cut.order.seats (entrants facts table cut.sound cut.order.programmes) in
    let justified = fair_justified (rule_of facts.version nobody table) (MayApplyIn table) (length facts.matrix.programmes) (seekers_at facts state) (seats_of facts papers state)
    (subst (λ z. IsMarket (MayApplyIn table) (length z) (seekers_at facts state)) cut.order.programmes enter) (cut.laws.well facts.version nobody table cut.order.seats) (fair facts papers state cut) in
    justified.no_claim

-- ---- nobody falls

-- a programme of a list is at its place there
listed_at : (list : List ProgId) (p : ProgId) → place_of list p.0 < length list → slice_get list (place_of list p.0) ≡ Some p
listed_at list p less = let read = place_read list p.0 less in read.1 ∙ ap Some (the_prog read.0 p read.2)

abbrev HoldsOnTo : SeasonFacts → Papers → State → ℕ → Type 0
HoldsOnTo facts papers state id = (old new : Seat) × (last_seat facts state.rounds id ≡ Some old) × (seat_of facts (Some (round_of facts papers state)) id ≡ Some new)
    × IsNoWorse facts (standing_at facts (view_of state id) id state.now) id old new

no_worse : (facts : SeasonFacts) (papers : Papers) (state : State) (at : ℕ) (person : Person) → IsCut facts papers state → state.now < facts.rounds → slice_get facts.people at ≡ Some person
    → holds (standing_at facts (view_of state person.id.0) person.id.0 state.now) ≡ true → HoldsOnTo facts papers state person.id.0
no_worse facts papers state at person cut early there keeps =
    let id = person.id.0 in
    let standing = standing_at facts (view_of state id) id state.now in
    let list = choices_of facts.lists id in
    let table = matrix_at facts state in
    let old = some_value (last_seat facts state.rounds id) (cut.order.seated id (omega (arith, early)) keeps) in
    let new = some_value (seat_given papers state id) (cut.holds.stayed at person there keeps) in
    let own : IsOwn (sought_by facts state id) (Some new.0) = subst (IsOwn (sought_by facts state id)) new.1 (cut.holds.sought at person there) in
    let seek : next_seek facts state id ≡ seek_after standing (Some (place_of list old.0.prog.0)) =
    ap (λ (o : Option Seat). seek_after standing (option_map (λ (seat : Seat). place_of list seat.prog.0) o)) old.1 in
    let own' : place_of (seek_leaves table (seek_after standing (Some (place_of list old.0.prog.0))) list) new.0.prog.0 < length (seek_leaves table (seek_after standing (Some (place_of list old.0.prog.0))) list) =
    subst (λ q. place_of (seek_leaves table q list) new.0.prog.0 < length (seek_leaves table q list)) seek own in
    let at_place = seat_at_place table (seek_after standing (Some (place_of list old.0.prog.0))) list new.0 (own_there facts facts.matrix at person cut.sound refl there).distinct own' in
    let kept = left_kept table list standing (place_of list new.0.prog.0) (place_of list old.0.prog.0) new.0.prog old.0.prog keeps at_place.there
    (listed_at list old.0.prog (cut.order.own id old.0 old.1)) at_place.left in (
      old.0,
      new.0,
      old.1,
      seat_of_told facts papers state at person cut.sound there ∙ new.1,
      record {
        place = kept.place;
        freeze = kept.freeze;
        slide = λ e. subst (λ z. are_together (slice_get z new.0.prog.0) (slice_get z old.0.prog.0) ≡ true) cut.order.programmes (kept.slide e);
      },
    )

pub nobody_falls : (facts : SeasonFacts) (papers : Papers) (state : State) (id : ℕ) → IsCut facts papers state → state.now < facts.rounds
    → holds (standing_at facts (view_of state id) id state.now) ≡ true → HoldsOnTo facts papers state id
nobody_falls facts papers state id cut early keeps =
    let who = holder_is facts state id (cut.order.seated id (omega (arith, early)) keeps) in
    subst (HoldsOnTo facts papers state) who.is
    (no_worse facts papers state who.at who.person cut early who.there (subst (λ (n : ℕ). holds (standing_at facts (view_of state n) n state.now) ≡ true) (sym who.is) keeps))

-- ---- the cut

pub fair_cut : (facts : SeasonFacts) (papers : Papers) (state : State) → IsCut facts papers state → state.now < facts.rounds → IsFairCut facts state (round_of facts papers state)
fair_cut facts papers state cut early = record {
  fair = fair facts papers state cut;
  count = cut.listed;
  shown = λ p programme there.
      let full : length (lists_after papers (length facts.matrix.programmes) state.now) ≡ length facts.matrix.programmes = cut.listed in
      let less = slice_get_within (lists_after papers (length facts.matrix.programmes) state.now) p programme there in
      chooses facts papers state p programme cut (omega (arith, full, less)) there;
  no_claim = no_claim facts papers state cut;
  nobody_falls = λ id keeps. nobody_falls facts papers state id cut early keeps;
}
