-- What a programme keeps while people come one at a time.
use Rattle.std.proofs.Common.{◌≡◌, ◌≤◌, ◌<◌, ◌+◌, ℕ, zero, suc, false, List, [], ◌∷◌, map, take, length, refl, sym, ap, ◌∙◌, subst, inl, inr, arith}
use Rattle.std.specs.Prelude.{Option, Some, None}
use Rattle.std.specs.List.{filter}
use Rattle.office_base.specs.CategorySteps.{all_steps, category_steps, own_steps}
use Rattle.office_base.specs.Lists.{IsAmong, IsSublist}
use Rattle.office_base.specs.Merit.{IsNewTo, in_merit}
use Rattle.office_base.specs.Person.{is_common}
use Rattle.office_base.specs.StepChoice.{AreRanked, IsStepChoice}
use Rattle.office_base.specs.Version.{IsVersion}
use Rattle.office_base.specs.declared.category_steps.CategoryStep.{CategoryStep}
use Rattle.office_base.specs.declared.person.Person.{Person}
use Rattle.office_base.specs.declared.step.StepKind.{StepKind}
use Rattle.office_base.specs.declared.step.StepKind.TheVariants.{Open, Dereserved}
use Rattle.placements.proofs.Ranks.{among_again, among_sublist, ranked_sublist, are_among, widen}
use Rattle.placements.proofs.Sublists.{IsSublist-same, IsSublist-take, sublist_again}
use Rattle.placements.proofs.Filters.{filter-sublist}
use Rattle.merit_choice.specs.State.{StepKept}
use Rattle.merit_choice.specs.declared.state.Offered.TheVariants.{Taken, Displaced, Refused}
use Rattle.seat_matrix.specs.Seats.{AreProgrammeSeats, is_dereserved, seats_of}
use Rattle.seat_matrix.specs.declared.seats.ProgrammeSeats.{ProgrammeSeats}
use Rattle.programme_lists.specs.Chosen.{AreApplicants, ChoosesFrom, everybody}
use Rattle.programme_lists.specs.Programme.{Admissions, admitted_by, left_by, left_over, people_of, step_with, unfilled, without}
use Rattle.open_then_category.specs.State.{AreNew, AreOffered, IsAnswered, IsOffer, IsProgrammeKept, IsStateKept, LeavesOut, ProgrammeKept, admissions_of, by_number, categories_kept, nobody, people_held, step_kept}
use Rattle.open_then_category.specs.StepLaws.{AreLawful}
use Rattle.open_then_category.proofs.Handed.{held_listed, nobody_is}
use Rattle.open_then_category.proofs.Leaving.{count, few_come, has_number, offered_few, rows_few}
use Rattle.open_then_category.proofs.Once.{in_everybody}
use Rattle.open_then_category.proofs.Passing.{Joins, key_apart, new_to, passes, row_joins, rows_join, starts, without_joins}
use Rattle.open_then_category.proofs.Rows.{AreThere, are_there, each_own, left_sublist, made_choice, open_choice, rest_of, row_choice, steps_of, there_next}
use Rattle.open_then_category.proofs.SetLaws as sets

-- those admitted before, by merit, and with one person more
abbrev old_people : ProgrammeSeats → Admissions → List Person
old_people seats before = in_merit seats.list (everybody before)

abbrev new_people : ProgrammeSeats → Admissions → Person → List Person
new_people seats before person = in_merit seats.list (person ∷ everybody before)

module _ (laws : AreLawful) (version : ℕ) (seats : ProgrammeSeats) (before : Admissions) (person : Person) (may : AreApplicants seats.list (person ∷ everybody before))
    (choice : ChoosesFrom version seats (everybody before) before) where
  -- a person who joins people is new to those of them whom a step holds
  newcomer : (old new held : List Person) (coming : Option Person) → Joins seats.list old new coming → IsSublist held old → (other : Person) → coming ≡ Some other → IsNewTo seats.list held other
  newcomer old new held coming j sub other e =
      let within = among_sublist held old sub in
      new_to laws seats.list new held other j.more_ranked (among_again held old new within j.part) (j.here other e) (λ here. j.fresh other e (widen other held old within here))

  j0 : Joins seats.list (old_people seats before) (new_people seats before person) (Some person)
  j0 = starts laws seats.list (everybody before) person may

  open_sub : IsSublist (before Open) (old_people seats before)
  open_sub = sublist_again (before Open) (filter (is_common seats.list) (old_people seats before)) (old_people seats before)
      (open_choice version seats (old_people seats before) before choice).may.people (filter-sublist (is_common seats.list) (old_people seats before))

  -- a person who comes to the open step is new to it
  pub new_open : IsNewTo seats.list (before Open) person
  new_open = newcomer (old_people seats before) (new_people seats before person) (before Open) (Some person) j0 open_sub person refl

  -- what the steps of rows do, and who comes to each of them
  rows_new : (rows : List CategoryStep) (old new : List Person) (coming : Option Person) → AreThere rows old before → Joins seats.list old new coming
      → AreNew rows (map (λ row. step_kept seats row.step (before row.step)) rows) coming
  rows_new [] old new coming there j = tt
  rows_new (row ∷ rows) old new coming there j = (
    newcomer old new (before row.step) coming j (there.within row (inl refl)),
    λ gone held offer. rows_new rows (without old (before row.step)) (without new held) gone (there_next row rows old before there) (row_joins laws seats row rows old new before coming gone held there j offer),
  )

  -- the people whom the categories see
  there : AreThere category_steps (rest_of (old_people seats before) before) before
  there = are_there version seats (old_people seats before) before j0.ranked.distinct choice

  -- the de-reserved step has some of those who are left
  last_sub : IsSublist (before Dereserved) (left_over (old_people seats before) before)
  last_sub =
      let whole = people_of seats.list (old_people seats before) before Dereserved in
      sublist_again (before Dereserved) whole (left_over (old_people seats before) before)
      (subst (λ (some : List Person). IsSublist some whole) (sym choice.dereserved) (IsSublist-take (unfilled version seats before) whole))
      (filter-sublist (is_common seats.list) (left_over (old_people seats before) before))

  pub last_ranked : AreRanked seats.list (before Dereserved)
  last_ranked = ranked_sublist seats.list (before Dereserved) (old_people seats before) j0.ranked
      (sublist_again (before Dereserved) (left_over (old_people seats before) before) (old_people seats before) last_sub
      (left_sublist own_steps (old_people seats before) (old_people seats before) before (IsSublist-same (old_people seats before))))

  module _ (by_open : Option Person) (held : List Person) (offer : IsOffer (is_common seats.list) (step_kept seats Open (before Open)) (Some person) by_open held) where
    after_open : Joins seats.list (rest_of (old_people seats before) before) (without (new_people seats before person) held) by_open
    after_open =
        let within = among_sublist (before Open) (old_people seats before) open_sub in
        without_joins seats.list (old_people seats before) (new_people seats before person) (before Open) held (Some person) by_open j0 within
        (passes laws (is_common seats.list) seats.list (seats_of seats Open) (old_people seats before) (new_people seats before person) (before Open) held (Some person) by_open j0 within
        (ranked_sublist seats.list (before Open) (old_people seats before) j0.ranked open_sub) offer)

    -- whoever the open step leaves out, the steps of the categories are offered persons new to them
    pub new_rows : AreNew category_steps (categories_kept seats before) by_open
    new_rows = rows_new category_steps (rest_of (old_people seats before) before) (without (new_people seats before person) held) by_open there after_open

    -- and so is the de-reserved step
    pub new_last : (after : Admissions) (come : Option Person) → AreOffered seats before after category_steps by_open come → (other : Person) → come ≡ Some other → IsNewTo seats.list (before Dereserved) other
    new_last after come offered =
        newcomer (left_over (old_people seats before) before) (left_by (steps_of category_steps) (without (new_people seats before person) held) after) (before Dereserved) come
        (rows_join laws seats category_steps (rest_of (old_people seats before) before) (without (new_people seats before person) held) before after by_open come there after_open offered) last_sub

    -- one too many at most come to it
    pub few_last : (after : Admissions) (come : Option Person) → AreOffered seats before after category_steps by_open come
        → length (before Dereserved) + count come ≤ unfilled version seats after + 1
    few_last after come offered = few_come version seats (old_people seats before) before after person by_open come held choice offer offered

    -- and no step holds more than its seats
    pub own_few : (after : Admissions) (come : Option Person) → after Open ≡ held → AreOffered seats before after category_steps by_open come → (kind : StepKind) → is_dereserved kind ≡ false
        → length (after kind) ≤ (seats_of seats kind).seats
    own_few after come opened offered = each_own (λ kind. length (after kind) ≤ (seats_of seats kind).seats)
        (subst (λ (people : List Person). length people ≤ (seats_of seats Open).seats) (sym opened)
        (offered_few (is_common seats.list) seats.list (seats_of seats Open) (before Open) (Some person) by_open held offer
        (open_choice version seats (old_people seats before) before choice).may.seats))
        (rows_few seats category_steps before after by_open come offered (λ row here. (row_choice version seats (old_people seats before) before choice row here).may.seats))

-- a choice from some people is a choice from those admitted
pub settled : AreLawful → (version : ℕ) (seats : ProgrammeSeats) (all : List Person) (held : List (List Person)) → IsVersion version → AreProgrammeSeats seats → length held ≡ length all_steps
    → AreApplicants seats.list all → ChoosesFrom version seats all (by_number held) → IsProgrammeKept (record { version = version; seats = seats; held = held })
settled laws version seats all held is_version ok each may choice =
    let after = by_number held in
    let once = sets.admitted_once laws version seats all after ok may choice in
    let now = everybody after in
    let now_may = laws.part_can_be_ranked seats.list now all once.0 may once.1 in
    let again = sets.programme_choice_exists laws version seats now ok now_may in
    let same : again.0 ≡ after = sets.leaving_out_the_refused laws version seats now all again.0 after
    (record { are_seats = ok; distinct = once.0; may = may; part = once.1; choice = again.1; more_choice = choice })
    (λ other here out kind there. out (widen other (after kind) now (in_everybody after kind) there)) in
    record { is_version = is_version; are_seats = ok; all_there = each; may = now_may; choice = subst (ChoosesFrom version seats now) same again.1 }

none_of_none : {X : Type 0} (n : ℕ) → ◌≡◌ {A = List X} [] (take n [])
none_of_none zero = refl
none_of_none (suc n) = refl

-- a programme that admits nobody
pub nobody_chosen : AreLawful → (version : ℕ) (seats : ProgrammeSeats) → AreProgrammeSeats seats → ChoosesFrom version seats [] nobody
nobody_chosen laws version seats ok =
    let empty = λ (kind : StepKind).
    let choice : IsStepChoice (step_with seats.list (seats_of seats kind) []) [] = laws.seats_for_all (step_with seats.list (seats_of seats kind) [])
    (record { list = ok.list; people = record { traits = tt; placed = tt; in_order = tt; distinct = tt }; protections = (ok.steps kind).protections }) (omega arith) in choice in
    made_choice version seats [] nobody (empty Open) (λ row here. empty row.step) (none_of_none (unfilled version seats nobody))

-- what the steps of a programme keep that hold nobody
pub fresh_state : AreLawful → (version : ℕ) (seats : ProgrammeSeats) (first : StepKept) (steps : List StepKept) (last : List Person) (size : ℕ) → IsVersion version → AreProgrammeSeats seats
    → first ≡ step_kept seats Open [] → steps ≡ categories_kept seats nobody → last ≡ [] → unfilled version seats nobody < size
    → IsStateKept (record { version = version; seats = seats; held = people_held first steps last }) first steps size
fresh_state laws version seats first steps last size is_version ok one rows none room =
    subst (λ (people : List Person). IsStateKept (record { version = version; seats = seats; held = people_held first steps people }) first steps size) (sym none)
    (subst (λ (more : List StepKept). IsStateKept (record { version = version; seats = seats; held = people_held first more [] }) first more size) (sym rows)
    (subst (λ (step : StepKept). IsStateKept (record { version = version; seats = seats; held = people_held step (categories_kept seats nobody) [] }) step (categories_kept seats nobody) size) (sym one)
    (record {
      kept = record {
        is_version = is_version;
        are_seats = ok;
        all_there = refl;
        may = subst (λ (a : Admissions). AreApplicants seats.list (everybody a)) nobody_is (record { traits = tt; placed = tt; numbers = tt; distinct = tt });
        choice = subst (λ (a : Admissions). ChoosesFrom version seats (everybody a) a) nobody_is (nobody_chosen laws version seats ok);
      };
      of_open = refl;
      of_categories = ap (categories_kept seats) nobody_is;
      room = room;
    })))

-- what is answered where nobody leaves, where the person is left out, and where one of those held is
pub answer_taken : (before after : ProgrammeKept) (person : Person) (leaver : Option Person) → leaver ≡ None → LeavesOut (admissions_of before) person leaver (admissions_of after) → IsAnswered before person Taken after
answer_taken before after person leaver e out = subst (λ (o : Option Person). LeavesOut (admissions_of before) person o (admissions_of after)) e out

pub answer_refused : AreLawful → (before after : ProgrammeKept) (person gone : Person) (leaver : Option Person) → after ≡ record before { held = after.held } → length after.held ≡ length all_steps → IsProgrammeKept before
    → AreApplicants before.seats.list (person ∷ everybody (admissions_of before)) → ChoosesFrom before.version before.seats (person ∷ everybody (admissions_of before)) (admissions_of after)
    → leaver ≡ Some gone → gone.id ≡ person.id → LeavesOut (admissions_of before) person leaver (admissions_of after) → IsAnswered before person Refused after
answer_refused laws before after person gone leaver stays each kept may choice e same out =
    let held = everybody (admissions_of before) in
    let all = person ∷ held in
    let left = subst (λ (o : Option Person). LeavesOut (admissions_of before) person o (admissions_of after)) e out in
    let part = are_among held all (λ other here. inr here) in
    let equal : (admissions_of before) ≡ (admissions_of after) = sets.leaving_out_the_refused laws before.version before.seats held all (admissions_of before) (admissions_of after)
    (record { are_seats = kept.are_seats; distinct = may.distinct.1; may = may; part = part; choice = kept.choice; more_choice = choice })
    (λ other here gone_too kind there. elim here [
      | inl is ↦ (
          let now = widen other (admitted_by (admissions_of after) kind) (everybody (admissions_of after)) (in_everybody (admissions_of after) kind) there in
          let both = (left.1 other).0 now in
          let apart : other.id ≡ gone.id → ⊥ = key_apart (λ (p : Person). p.id) all other gone may.distinct (inl is) left.0 both.1 in
          absurd (apart (ap (λ (p : Person). p.id) is ∙ sym same))
          )
      | inr held_too ↦ absurd (gone_too held_too)
    ]) in
    let lists : after.held ≡ before.held = sym (held_listed after.held each) ∙ ap (λ (a : Admissions). map a all_steps) (sym equal) ∙ held_listed before.held kept.all_there in
    stays ∙ ap (λ (some : List (List Person)). let kept : ProgrammeKept = record before { held = some } in kept) lists

pub answer_displaced : (before after : ProgrammeKept) (person gone : Person) (leaver : Option Person) → AreApplicants before.seats.list (person ∷ everybody (admissions_of before))
    → leaver ≡ Some gone → (gone.id ≡ person.id → ⊥) → LeavesOut (admissions_of before) person leaver (admissions_of after) → IsAnswered before person (Displaced gone.id) after
answer_displaced before after person gone leaver may e other out =
    let held = everybody (admissions_of before) in
    let left = subst (λ (o : Option Person). LeavesOut (admissions_of before) person o (admissions_of after)) e out in
    let there : IsAmong gone held = elim left.0 [ inl is ↦ absurd (other (ap (λ (p : Person). p.id) is)) | inr found ↦ found ] in (
      has_number gone held there,
      λ one. (
        λ now. let both = (left.1 one).0 now in (both.0, key_apart (λ (p : Person). p.id) (person ∷ held) one gone may.distinct both.0 left.0 both.1),
        λ both. (left.1 one).1 (both.0, λ same. both.1 (ap (λ (p : Person). p.id) same)),
      ),
    )
