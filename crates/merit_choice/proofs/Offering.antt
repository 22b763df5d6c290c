-- One person comes to a step: what it holds then.
use Rattle.std.proofs.Common.{◌≡◌, ◌≢◌, ◌≤◌, ◌<◌, ◌⊎◌, ℕ, zero, suc, sum, Bool, true, false, cond, List, [], ◌∷◌, ◌++◌, length, take, drop, refl, sym, ap, ◌∙◌, subst, inl, inr, arith, Some}
use Rattle.std.specs.List.{AllByRecursion, AllZip, insert, remove}
use Rattle.office_base.specs.Lists.{IsSublist, Pairwise}
use Rattle.office_base.specs.Person.{IsBetter, number_in}
use Rattle.office_base.specs.StepChoice.{AreRanked, IsStep, IsStepChoice}
use Rattle.office_base.specs.declared.person.ListId.{ListId}
use Rattle.office_base.specs.declared.person.Person.{Person}
use Rattle.office_base.specs.declared.step.Protections.{Protections}
use Rattle.office_base.specs.declared.step.Step.{Step}
use Rattle.placements.specs.Ranks.{AreAmong, AreDistinct, CanBePlaced, without}
use Rattle.placements.proofs.Ranks.{any_all, among_itself, among_again, placed_end, ranked_sublist, are_among}
use Rattle.placements.proofs.Without.{without_first, without_later, without_sublist, without_among, among_without, length_without}
use Rattle.placements.proofs.Merit.{ahead_again, not_ahead}
use Rattle.slot_matching.specs.Kept.{Kept}
use Rattle.merit_choice.specs.Held.{AreAllSet, IsLeft}
use Rattle.merit_choice.specs.InMerit.{is_better, IsNewTo, with_person}
use Rattle.merit_choice.specs.Laws.{IsAmong}
use Rattle.merit_choice.specs.Needed.{AreNeeded, Tells}
use Rattle.merit_choice.specs.State.{HandsOn, IsAnswered, IsMatched, IsStepKept, StepKept, step_with}
use Rattle.merit_choice.specs.declared.state.Offered.TheVariants.{Displaced, Refused}
use Rattle.merit_choice.proofs.ByHand.{honoured_placed}
use Rattle.merit_choice.proofs.Filled.{honoured_within}
use Rattle.merit_choice.proofs.InMerit.{among_with, with_among, with_any, length-with_person, ranked_with}
use Rattle.merit_choice.proofs.Needed.{among_more, other_number, nobody_of, apart_of, needed_again, needed_choice, needed_kept, needed_left, placed_part}
use Rattle.merit_choice.proofs.OneByOne.{has_number, seats_for_all}
use Rattle.merit_choice.proofs.Places.{among_at, zip_insert, zip_remove, zip_length, free_at, all_needed, last_is_worst, free_inside, remove-without}

-- A person has come to those held, and the matching and the marks are those of all of them.
pub record HasCome (state : StepKept) (person : Person) (kept : Kept) (people : List Person) (marks : List Bool) : Type 0 where
  pub is_kept : IsStepKept state
  pub new : IsNewTo state.list state.held person
  pub are : people ≡ with_person state.list person state.held
  pub protections : kept.protections ≡ state.protections
  pub matched : IsMatched state.list people marks kept

-- the person put in at the merit place
pub put_in : (list : ListId) (held people : List Person) (person : Person) (kept : Kept) (marks rest : List Bool) (needed : Bool) (at : ℕ) → AreRanked list held → IsNewTo list held person
    → at ≤ length held → insert held at person ≡ with_person list person held → people ≡ insert held at person → marks ≡ insert rest at needed
    → IsMatched list (person ∷ held) (needed ∷ rest) kept → IsMatched list people marks kept
put_in list held people person kept marks rest needed at ranked new inside place put put_mark matched =
    let all = with_person list person held in
    let are : people ≡ all = put ∙ place in
    let distinct : AreDistinct (person ∷ held) = (new.distinct, ranked.distinct) in
    let needs = needed_again list kept.protections (person ∷ held) all kept.members kept.members distinct (with_among list person held)
    (among_again kept.members (person ∷ held) all matched.needs.among (among_with list person held)) (among_itself kept.members) (among_itself kept.members)
    matched.needs.distinct matched.needs in
    let told = zip_insert (Tells kept.members) held rest at person needed inside matched.told.0 matched.told.1 in
    record {
      same_list = matched.same_list;
      needs = subst (λ (those : List Person). AreNeeded list kept.protections those kept.members) (sym are) needs;
      told = subst (λ (those : List Person). AllZip (Tells kept.members) those marks) (sym put) (subst (AllZip (Tells kept.members) (insert held at person)) (sym put_mark) told);
    }

-- they are a step's people
come_step : (state : StepKept) (person : Person) → IsStepKept state → IsNewTo state.list state.held person → IsStep (step_with state person)
come_step state person ok new = record { list = ok.list; people = ranked_with state.list person state.held ok.ranked new; protections = ok.protections }

-- ---- a seat is free

pub taken_fewer : (state : StepKept) (person : Person) (people : List Person) → people ≡ with_person state.list person state.held → length people ≤ state.seats → length state.held < state.seats
taken_fewer state person people are room =
    let size = ap length are ∙ length-with_person state.list person state.held in omega arith

pub taken_choice : (state : StepKept) (person : Person) (kept : Kept) (people : List Person) (marks : List Bool) → HasCome state person kept people marks → length people ≤ state.seats
    → IsStepChoice (step_with state person) people
taken_choice state person kept people marks come room =
    let size = ap length come.are in
    subst (IsStepChoice (step_with state person)) (sym come.are) (seats_for_all (step_with state person) (come_step state person come.is_kept come.new) (omega arith))

pub taken_kept : (state : StepKept) (person : Person) (kept : Kept) (people : List Person) (marks : List Bool) → HasCome state person kept people marks → length people ≤ state.seats
    → IsStepKept (record state { held = people })
taken_kept state person kept people marks come room = record {
  list = come.is_kept.list;
  ranked = subst (AreRanked state.list) (sym come.are) (ranked_with state.list person state.held come.is_kept.ranked come.new);
  few = room;
  protections = come.is_kept.protections;
}

-- ---- somebody leaves

-- with one more than the seats, not all are needed
pub not_all_needed : (state : StepKept) (person : Person) (kept : Kept) (people : List Person) (marks : List Bool) → HasCome state person kept people marks → state.seats < length people
    → AreAllSet marks → ⊥
not_all_needed state person kept people marks come many set =
    let ranked = subst (AreRanked state.list) (sym come.are) (ranked_with state.list person state.held come.is_kept.ranked come.new) in
    let among = all_needed kept.members people marks come.matched.told set in
    let placed = placed_part kept.protections people kept.members come.matched.needs.distinct ranked.distinct among come.matched.needs.placed in
    let few = honoured_within kept.protections people (length people) (honoured_placed kept.protections people placed) in
    let same : sum kept.protections.counts ≡ sum state.protections.counts = ap (λ (p : Protections). sum p.counts) come.protections in
    let room = come.is_kept.protections in
    omega arith

-- the last of those who are not needed leaves
pub record HasLeft (state : StepKept) (person : Person) (kept : Kept) (gone : Person) (rest : List Person) (marks : List Bool) : Type 0 where
  pub is_kept : IsStepKept (record state { held = rest })
  pub matched : IsMatched state.list rest marks kept
  pub choice : IsStepChoice (step_with state person) rest
  pub full : length state.held ≡ state.seats
  pub left : IsAmong gone (with_person state.list person state.held) × (rest ≡ without gone.id (with_person state.list person state.held))

-- without the person those held are as before
without_with : (state : StepKept) (person : Person) (people : List Person) → AllByRecursion (λ other. person.id ≢ other.id) people
    → without person.id (with_person state.list person people) ≡ people
without_with state person [] apart = without_first person.id person [] refl
without_with state person (other ∷ people) apart =
    elim (is_better state.list person other) as (λ b. without person.id (cond b (person ∷ other ∷ people) (other ∷ with_person state.list person people)) ≡ other ∷ people) [
      | true ↦ without_first person.id person (other ∷ people) refl
      | false ↦ without_later person.id other (with_person state.list person people) (λ same. apart.0 (sym same))
          ∙ ap (λ (those : List Person). other ∷ those) (without_with state person people apart.1)
    ]

pub has_left : (state : StepKept) (person : Person) (kept : Kept) (people : List Person) (marks : List Bool) (gone : Person) (rest : List Person) (rest_marks : List Bool)
    → HasCome state person kept people marks → state.seats < length people → IsLeft people marks gone rest rest_marks → HasLeft state person kept gone rest rest_marks
has_left state person kept people marks gone rest rest_marks come many gives =
    let last = gives.at in
    let free = gives.last in
    let who = gives.who in
    let left = gives.left in
    let left_marks = gives.left_marks in
    let list = state.list in
    let held = state.held in
    let members = kept.members in
    let size = ap length come.are ∙ length-with_person list person held in
    let few = come.is_kept.few in
    let long = zip_length (Tells members) people marks come.matched.told in
    let inside : last < length people = let in_marks = free_inside marks last free.free in omega arith in
    let ranked : AreRanked list people = subst (AreRanked list) (sym come.are) (ranked_with list person held come.is_kept.ranked come.new) in
    let distinct = ranked.distinct in
    let there : IsAmong gone people = subst (λ (one : Person). IsAmong one people) (sym who) (among_at people last gone inside) in
    let out : IsAmong gone members → ⊥ =
    subst (λ (one : Person). IsAmong one members → ⊥) (sym who) (free_at members people marks last gone come.matched.told inside free.free) in
    let taken_out : rest ≡ without gone.id people =
    left ∙ remove-without people last gone distinct inside ∙ ap (λ (one : Person). without one.id people) (sym who) in
    let step : Step = record { list = list; seats = state.seats; protections = state.protections; people = people } in
    let ok : IsStep step = record { list = come.is_kept.list; people = ranked; protections = come.is_kept.protections } in
    let needs : AreNeeded list state.protections people members =
    subst (λ (protections : Protections). AreNeeded list protections people members) come.protections come.matched.needs in
    let choice : IsStepChoice step (without gone.id people) = needed_choice step members gone ok needs (omega arith) there out (λ other in_people free_too.
    subst (λ (one : Person). (other ≡ one) ⊎ IsBetter list other one) (sym who)
    (last_is_worst list members people marks last gone ranked.in_order come.matched.told inside free other in_people free_too)) in
    let count = length_without gone.id people (has_number gone people there) in
    let fewer = ap length taken_out in
    let within : AreAmong rest people = subst (λ (those : List Person). AreAmong those people) (sym taken_out) (without_among gone.id people) in
    let far = apart_of gone members people distinct come.matched.needs.among there out in
    let still : AreAmong members rest = subst (AreAmong members) (sym taken_out) (are_among members (without gone.id people) (λ one mine.
    among_without gone.id one people (among_more one members people come.matched.needs.among mine) (other_number one gone.id members far mine))) in
    record {
      is_kept = record {
        list = come.is_kept.list;
        ranked = ranked_sublist list rest people ranked (subst (λ (those : List Person). IsSublist those people) (sym taken_out) (without_sublist gone.id people));
        few = omega arith;
        protections = come.is_kept.protections;
      };
      matched = record {
        same_list = come.matched.same_list;
        needs = needed_left list kept.protections people rest members within still come.matched.needs;
        told = subst (λ (those : List Person). AllZip (Tells members) those rest_marks) (sym left)
            (subst (AllZip (Tells members) (remove people last)) (sym left_marks) (zip_remove (Tells members) people marks last come.matched.told));
      };
      choice = subst (λ (those : List Person). IsStepChoice (record { list = list; seats = state.seats; protections = state.protections; people = those }) rest) come.are
          (subst (IsStepChoice step) (sym taken_out) choice);
      full = omega arith;
      left = (subst (IsAmong gone) come.are there, taken_out ∙ ap (without gone.id) come.are);
    }

-- where the person is left, those held are as before
pub hands_refused : (state : StepKept) (person gone : Person) (after : StepKept) → IsNewTo state.list state.held person → HandsOn state person (Some gone) after → gone.id ≡ person.id
    → IsAnswered state person Refused after
hands_refused state person gone after new hands same =
    (hands.0, hands.2 ∙ ap (λ cand. without cand (with_person state.list person state.held)) same ∙ without_with state person state.held new.distinct)

-- else it is one of those held
pub hands_displaced : (state : StepKept) (person gone : Person) (after : StepKept) → HandsOn state person (Some gone) after → gone.id ≢ person.id → IsAnswered state person (Displaced gone.id) after
hands_displaced state person gone after hands other =
    let before : IsAmong gone state.held = elim (with_any (λ one. gone ≡ one) state.list person state.held hands.1) [
      | inl his ↦ absurd (other (ap (λ (p : Person). p.id) his))
      | inr theirs ↦ theirs
    ] in
    (hands.0, has_number gone state.held before, hands.2)

-- a person after all whom the seats hold is left, where the person is not needed
pub hands_itself : (state old : StepKept) (person : Person) (at : ℕ) → IsStepKept state → state ≡ old → IsNewTo old.list old.held person → at ≤ length state.held → at ≡ state.seats → HandsOn old person (Some person) old
hands_itself state old person at ok same told inside full =
    let few = ok.few in
    let new : IsNewTo state.list state.held person = subst (λ (s : StepKept). IsNewTo s.list s.held person) (sym same) told in
    let all : length state.held ≡ state.seats = omega arith in
    subst (λ (s : StepKept). HandsOn s person (Some person) s) same (all, (among_with state.list person state.held).0, sym (without_with state person state.held new.distinct))

-- ---- a person after all whom the seats hold

-- what holds of each of some, with one more among them, holds of that one
at_middle : {X : Type 0} (P : X → Type 0) (front back : List X) (x : X) → AllByRecursion P (front ++ x ∷ back) → P x
at_middle P [] back x all = all.0
at_middle P (y ∷ front) back x all = at_middle P front back x all.1

-- one put in last is after all
all_before : {X : Type 0} (R : X → X → Type 0) (xs : List X) (at : ℕ) (x : X) → length xs ≤ at → Pairwise R (insert xs at x) → AllByRecursion (λ y. R y x) xs
all_before R [] at x past each = tt
all_before R (y ∷ xs) zero x past each = absurd (omega arith)
all_before R (y ∷ xs) (suc at) x past each = (at_middle (R y) (take at xs) (drop at xs) x each.0, all_before R xs at x (omega arith) each.1)

-- A person who comes after all whom the seats hold, and cannot be placed with the needed, is not chosen.
pub refused_choice : (state old : StepKept) (person : Person) (kept : Kept) (marks : List Bool) (at : ℕ) → IsStepKept state → state ≡ old → IsNewTo old.list old.held person
    → IsMatched state.list state.held marks kept → kept.protections ≡ state.protections → at ≤ length state.held → at ≡ state.seats
    → insert state.held at person ≡ with_person state.list person state.held → ¬ CanBePlaced kept.protections (kept.members ++ person ∷ [])
    → IsStepChoice (step_with old person) old.held
refused_choice state old person kept marks at ok same told matched protections inside full place cannot =
    let list = state.list in
    let held = state.held in
    let members = kept.members in
    let all = with_person list person held in
    let few = ok.few in
    let new : IsNewTo list held person = subst (λ (s : StepKept). IsNewTo s.list s.held person) (sym same) told in
    let distinct : AreDistinct (person ∷ held) = (new.distinct, ok.ranked.distinct) in
    let is_step = come_step state person ok new in
    let order : Pairwise (IsBetter list) (insert held at person) = subst (Pairwise (IsBetter list)) (sym place) is_step.people.in_order in
    let better = all_before (IsBetter list) held at person (omega arith) order in
    let above : (one : Person) → IsAmong one held → IsBetter list one person = λ one there.
    (let found = any_all (λ other. one ≡ other) (λ other. IsBetter list other person) held there better in
    subst (λ other. IsBetter list other person) (sym found.1) found.2) in
    let needs = needed_kept list kept.protections held members person matched.needs (λ can. cannot (placed_end kept.protections person members can))
    (λ one his worse can. not_ahead (number_in list person) (ahead_again (number_in list person) (number_in list one) (number_in list person) worse
    (above one (among_more one members held matched.needs.among his)))) in
    let needs_all : AreNeeded list kept.protections all members = needed_again list kept.protections (person ∷ held) all members members distinct (with_among list person held)
    (among_again members (person ∷ held) all needs.among (among_with list person held)) (among_itself members) (among_itself members) matched.needs.distinct needs in
    let needs_step : AreNeeded list state.protections all members = subst (λ (p : Protections). AreNeeded list p all members) protections needs_all in
    let size = length-with_person list person held in
    let choice = needed_choice (step_with state person) members person is_step needs_step (omega arith) (among_with list person held).0
    (λ his. nobody_of person held new.distinct (among_more person members held matched.needs.among his))
    (λ other there out. elim (with_any (λ one. other ≡ one) list person held there) [ inl equal ↦ inl equal | inr theirs ↦ inr (above other theirs) ]) in
    let stays = subst (IsStepChoice (step_with state person)) (without_with state person held new.distinct) choice in
    subst (λ (s : StepKept). IsStepChoice (step_with s person) s.held) same stays

-- ---- by the fields

-- what a step keeps, by its fields
abbrev pub state_of : ListId → ℕ → Protections → List Person → StepKept
state_of list seats protections held = record { list = list; seats = seats; protections = protections; held = held }

-- a person has come to the step as it was
pub comes : (state old : StepKept) (person : Person) (kept : Kept) (people : List Person) (marks : List Bool) → IsStepKept state → state ≡ old → IsNewTo old.list old.held person
    → people ≡ with_person state.list person state.held → kept.protections ≡ state.protections → IsMatched state.list people marks kept → HasCome state person kept people marks
comes state old person kept people marks ok same new are protections matched = record {
  is_kept = ok;
  new = subst (λ (s : StepKept). IsNewTo s.list s.held person) (sym same) new;
  are = are;
  protections = protections;
  matched = matched;
}

-- the protections are as before
as_before : (state : StepKept) (kept : Kept) (people : List Person) → kept.protections ≡ state.protections → IsStepKept (record state { held = people })
    → IsStepKept (state_of state.list state.seats kept.protections people)
as_before state kept people same ok = subst (λ (p : Protections). IsStepKept (state_of state.list state.seats p people)) (sym same) ok

pub taken_now : (state : StepKept) (person : Person) (kept : Kept) (people : List Person) (marks : List Bool) → HasCome state person kept people marks → length people ≤ state.seats
    → IsStepKept (state_of state.list state.seats kept.protections people)
taken_now state person kept people marks come room = as_before state kept people come.protections (taken_kept state person kept people marks come room)

pub left_now : (state : StepKept) (person : Person) (kept : Kept) (gone : Person) (rest : List Person) (marks : List Bool) → kept.protections ≡ state.protections
    → HasLeft state person kept gone rest marks → IsStepKept (state_of state.list state.seats kept.protections rest)
left_now state person kept gone rest marks same left = as_before state kept rest same left.is_kept
