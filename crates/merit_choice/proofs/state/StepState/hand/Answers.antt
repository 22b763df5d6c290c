use Rattle.std.proofs.Common.{◌≡◌, ◌≤◌, ◌<◌, ◌∙◌, Some, List, length, refl, sym, ap, subst, arith}
use Rattle.std.specs.List.{insert}
use Rattle.std.proofs.lemmas.Bool.{both_ways}
use Rattle.office_base.specs.StepChoice.{IsStepChoice}
use Rattle.office_base.specs.declared.person.Person.{Person}
use Rattle.merit_choice.specs.InMerit.{IsNewTo, with_person}
use Rattle.merit_choice.specs.Needed.{Tells}
use Rattle.merit_choice.specs.State.{HandsOn, StepKept, step_with}
use Rattle.merit_choice.proofs.Offering.{comes, state_of, taken_choice, taken_fewer, taken_now, not_all_needed, has_left, left_now, refused_choice, hands_itself}
use Rattle.merit_choice.proofs.Joining.{may_join}
use Rattle.merit_choice.proofs.Places.{zip_length}
use Rattle.merit_choice.proofs.state.StepState.hand.Goals as goal

pub enter-requires-clause-marks_room : goal.enter-requires-clause-marks_room
enter-requires-clause-marks_room c =
    let long = zip_length (Tells c.self.inside.matching.members) _ _ c.self.invariant.matched.told in
    let few = c.self.invariant.is_kept.few in
    let room = c.self.invariant.marks_room in
    omega arith

-- ---- the person comes after all, and is not needed

pub raises-requires : goal.raises-requires
raises-requires c =
    let old = c.args.self.now in
    let person = c.args.person.now in
    let state = state_of c.self.inside.list c.self.inside.seats c.self.inside.matching.protections c.self.inside.held.items in
    let same : state ≡ old = c.self.view_is in
    may_join c.self.inside.list c.self.inside.held.items c.self.inside.marks.items c.self.inside.matching person
    (subst (λ (s : StepKept). IsNewTo s.list s.held person) (sym same) c.requires) c.self.invariant.matched

pub returns-then-not-raises-clause-choice : goal.returns-then-not-raises-clause-choice
returns-then-not-raises-clause-choice c =
    let person = c.args.person.now in
    let held = c.self.inside.held.items in
    let at = c.place_for-at.result in
    let state = state_of c.self.inside.list c.self.inside.seats c.self.inside.matching.protections held in
    let place : insert held at person ≡ with_person c.self.inside.list person held =
    subst (λ (people : List Person). insert people at person ≡ with_person c.self.inside.list person people) c.as_slice.ensures.value c.place_for-at.ensures.place in
    let within = c.place_for-at.ensures.within in
    let here = ap length c.as_slice.ensures.value in
    refused_choice state c.args.self.now person c.self.inside.matching c.self.inside.marks.items at c.self.invariant.is_kept c.self.view_is c.requires c.self.invariant.matched refl
    (omega arith) (c.if-at-from.true ∙ c.from.ensures) place (λ can. both_ways c.raises.result c.if-not-raises.true (c.raises.ensures.1 can))

pub returns-then-not-raises-clause-hands_on : goal.returns-then-not-raises-clause-hands_on
returns-then-not-raises-clause-hands_on c =
    let state = state_of c.self.inside.list c.self.inside.seats c.self.inside.matching.protections c.self.inside.held.items in
    let within = c.place_for-at.ensures.within in
    let here = ap length c.as_slice.ensures.value in
    hands_itself state c.args.self.now c.args.person.now c.place_for-at.result c.self.invariant.is_kept c.self.view_is c.requires (omega arith) (c.if-at-from.true ∙ c.from.ensures)

-- ---- a seat is free

pub invariant_of-self : goal.invariant_of-self
invariant_of-self c =
    let state = state_of c.self.inside.list c.self.inside.seats c.self.inside.matching.protections c.self.inside.held.items in
    let person = c.args.person.now in
    let kept = c.enter.new.matching in
    let people = c.enter.new.held.items in
    let marks = c.enter.new.marks.items in
    let come = comes state c.args.self.now person kept people marks c.self.invariant.is_kept c.self.view_is c.requires c.enter.ensures.held c.enter.ensures.protections c.enter.ensures.matched in
    let size = c.len.ensures in
    let seats = c.from.ensures in
    let fits = c.if-len-from.true in
    let room : length people ≤ state.seats = omega arith in
    let held_room = c.self.invariant.room in
    let marks_room = c.self.invariant.marks_room in
    let grown = c.enter.ensures.room in
    let marks_grown = c.enter.ensures.marks_room in
    record {
      is_kept = taken_now state person kept people marks come room;
      matched = c.enter.ensures.matched;
      room = omega arith;
      marks_room = omega arith;
    }

pub returns-then-len-from-clause-choice : goal.returns-then-len-from-clause-choice
returns-then-len-from-clause-choice c =
    let state = state_of c.self.inside.list c.self.inside.seats c.self.inside.matching.protections c.self.inside.held.items in
    let person = c.args.person.now in
    let kept = c.enter.new.matching in
    let people = c.enter.new.held.items in
    let marks = c.enter.new.marks.items in
    let come = comes state c.args.self.now person kept people marks c.self.invariant.is_kept c.self.view_is c.requires c.enter.ensures.held c.enter.ensures.protections c.enter.ensures.matched in
    let size = c.len.ensures in
    let seats = c.from.ensures in
    let fits = c.if-len-from.true in
    let room : length people ≤ state.seats = omega arith in
    subst (λ (s : StepKept). IsStepChoice (step_with s person) people) c.self.view_is (taken_choice state person kept people marks come room)

pub returns-then-len-from-clause-hands_on : goal.returns-then-len-from-clause-hands_on
returns-then-len-from-clause-hands_on c =
    let state = state_of c.self.inside.list c.self.inside.seats c.self.inside.matching.protections c.self.inside.held.items in
    let person = c.args.person.now in
    let kept = c.enter.new.matching in
    let people = c.enter.new.held.items in
    let marks = c.enter.new.marks.items in
    let come = comes state c.args.self.now person kept people marks c.self.invariant.is_kept c.self.view_is c.requires c.enter.ensures.held c.enter.ensures.protections c.enter.ensures.matched in
    let size = c.len.ensures in
    let seats = c.from.ensures in
    let fits = c.if-len-from.true in
    let room : length people ≤ state.seats = omega arith in
    subst (λ (s : StepKept). (length s.held < s.seats) × (people ≡ with_person s.list person s.held)) c.self.view_is
    (taken_fewer state person people come.are room, come.are)

pub returns-then-len-from-clause-kept : goal.returns-then-len-from-clause-kept
returns-then-len-from-clause-kept c =
    let state = state_of c.self.inside.list c.self.inside.seats c.self.inside.matching.protections c.self.inside.held.items in
    let person = c.args.person.now in
    let kept = c.enter.new.matching in
    let people = c.enter.new.held.items in
    let marks = c.enter.new.marks.items in
    let come = comes state c.args.self.now person kept people marks c.self.invariant.is_kept c.self.view_is c.requires c.enter.ensures.held c.enter.ensures.protections c.enter.ensures.matched in
    let size = c.len.ensures in
    let seats = c.from.ensures in
    let fits = c.if-len-from.true in
    let room : length people ≤ state.seats = omega arith in
    taken_now state person kept people marks come room

-- ---- somebody leaves

pub leave-gone-requires-clause-each : goal.leave-gone-requires-clause-each
leave-gone-requires-clause-each c =
    let long = zip_length (Tells c.enter.new.matching.members) _ _ c.enter.ensures.matched.told in
    omega arith

pub leave-gone-requires-clause-some : goal.leave-gone-requires-clause-some
leave-gone-requires-clause-some c =
    let state = state_of c.self.inside.list c.self.inside.seats c.self.inside.matching.protections c.self.inside.held.items in
    let person = c.args.person.now in
    let kept = c.enter.new.matching in
    let people = c.enter.new.held.items in
    let marks = c.enter.new.marks.items in
    let come = comes state c.args.self.now person kept people marks c.self.invariant.is_kept c.self.view_is c.requires c.enter.ensures.held c.enter.ensures.protections c.enter.ensures.matched in
    let size = c.len.ensures in
    let seats = c.from.ensures in
    let full = c.if-len-from.false in
    let many : state.seats < length people = omega arith in
    not_all_needed state person kept people marks come many

pub invariant_of-self-2 : goal.invariant_of-self-2
invariant_of-self-2 c =
    let state = state_of c.self.inside.list c.self.inside.seats c.self.inside.matching.protections c.self.inside.held.items in
    let person = c.args.person.now in
    let kept = c.enter.new.matching in
    let people = c.enter.new.held.items in
    let marks = c.enter.new.marks.items in
    let come = comes state c.args.self.now person kept people marks c.self.invariant.is_kept c.self.view_is c.requires c.enter.ensures.held c.enter.ensures.protections c.enter.ensures.matched in
    let size = c.len.ensures in
    let seats = c.from.ensures in
    let full = c.if-len-from.false in
    let many : state.seats < length people = omega arith in
    let gone = c.leave-gone.result in
    let rest = c.leave-gone.new.people.items in
    let rest_marks = c.leave-gone.new.marks.items in
    let left = has_left state person kept people marks gone rest rest_marks come many c.leave-gone.ensures.left in
    let held_room = c.self.invariant.room in
    let marks_room = c.self.invariant.marks_room in
    let grown = c.enter.ensures.room in
    let marks_grown = c.enter.ensures.marks_room in
    let same_room = c.leave-gone.ensures.room in
    let same_marks_room = c.leave-gone.ensures.marks_room in
    record {
      is_kept = left_now state person kept gone rest rest_marks c.enter.ensures.protections left;
      matched = left.matched;
      room = omega arith;
      marks_room = omega arith;
    }

pub returns-clause-choice : goal.returns-clause-choice
returns-clause-choice c =
    let state = state_of c.self.inside.list c.self.inside.seats c.self.inside.matching.protections c.self.inside.held.items in
    let person = c.args.person.now in
    let kept = c.enter.new.matching in
    let people = c.enter.new.held.items in
    let marks = c.enter.new.marks.items in
    let come = comes state c.args.self.now person kept people marks c.self.invariant.is_kept c.self.view_is c.requires c.enter.ensures.held c.enter.ensures.protections c.enter.ensures.matched in
    let size = c.len.ensures in
    let seats = c.from.ensures in
    let full = c.if-len-from.false in
    let many : state.seats < length people = omega arith in
    let gone = c.leave-gone.result in
    let rest = c.leave-gone.new.people.items in
    let rest_marks = c.leave-gone.new.marks.items in
    let left = has_left state person kept people marks gone rest rest_marks come many c.leave-gone.ensures.left in
    subst (λ (s : StepKept). IsStepChoice (step_with s person) rest) c.self.view_is left.choice

pub returns-clause-hands_on : goal.returns-clause-hands_on
returns-clause-hands_on c =
    let state = state_of c.self.inside.list c.self.inside.seats c.self.inside.matching.protections c.self.inside.held.items in
    let person = c.args.person.now in
    let kept = c.enter.new.matching in
    let people = c.enter.new.held.items in
    let marks = c.enter.new.marks.items in
    let come = comes state c.args.self.now person kept people marks c.self.invariant.is_kept c.self.view_is c.requires c.enter.ensures.held c.enter.ensures.protections c.enter.ensures.matched in
    let size = c.len.ensures in
    let seats = c.from.ensures in
    let full = c.if-len-from.false in
    let many : state.seats < length people = omega arith in
    let gone = c.leave-gone.result in
    let rest = c.leave-gone.new.people.items in
    let rest_marks = c.leave-gone.new.marks.items in
    let left = has_left state person kept people marks gone rest rest_marks come many c.leave-gone.ensures.left in
    let after = state_of c.self.inside.list c.self.inside.seats kept.protections rest in
    subst (λ (s : StepKept). HandsOn s person (Some gone) after) c.self.view_is (left.full, left.left.0, left.left.1)

pub returns-clause-kept : goal.returns-clause-kept
returns-clause-kept c =
    let state = state_of c.self.inside.list c.self.inside.seats c.self.inside.matching.protections c.self.inside.held.items in
    let person = c.args.person.now in
    let kept = c.enter.new.matching in
    let people = c.enter.new.held.items in
    let marks = c.enter.new.marks.items in
    let come = comes state c.args.self.now person kept people marks c.self.invariant.is_kept c.self.view_is c.requires c.enter.ensures.held c.enter.ensures.protections c.enter.ensures.matched in
    let size = c.len.ensures in
    let seats = c.from.ensures in
    let full = c.if-len-from.false in
    let many : state.seats < length people = omega arith in
    let gone = c.leave-gone.result in
    let rest = c.leave-gone.new.people.items in
    let rest_marks = c.leave-gone.new.marks.items in
    let left = has_left state person kept people marks gone rest rest_marks come many c.leave-gone.ensures.left in
    left_now state person kept gone rest rest_marks c.enter.ensures.protections left
