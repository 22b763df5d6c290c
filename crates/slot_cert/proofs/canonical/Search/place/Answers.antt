use Rattle.std.proofs.Common.{ℕ, ◌<◌, get_or, refl, sym, subst}
use Rattle.slot_cert.proofs.SearchBounds.{AreBounds-left, AreBounds-taken, counted-taken, IsSearch-passed, IsSearch-taken, some_left}
use Rattle.slot_cert.proofs.canonical.Search.place.Goals as goal

pub take-requires-clause-trait_number : goal.take-requires-clause-trait_number
take-requires-clause-trait_number c =
    let search = c.args.self.now in
    let before = c.requires.search in
    let are = AreBounds-left search.bounds c.leave.new.bounds search.room c.args.person.now before.0 before.1.bounds c.leave.ensures in
    (c.in-Some.ensures before.0 are).0

pub take-requires-clause-counted : goal.take-requires-clause-counted
take-requires-clause-counted c =
    let search = c.args.self.now in
    let before = c.requires.search in
    let are = AreBounds-left search.bounds c.leave.new.bounds search.room c.args.person.now before.0 before.1.bounds c.leave.ensures in
    let take = (c.in-Some.ensures before.0 are).1 in
    counted-taken c.leave.new.bounds search.room before.0 search.most c.args.person.now.traits c.in-Some.t
    (some_left search c.args.person.now before.0 c.in-Some.t before.1 take) are take

pub bounds-self-from : goal.bounds-self-from
bounds-self-from c =
    let search = c.args.self.now in
    let before = c.requires.search in
    let are = AreBounds-left search.bounds c.leave.new.bounds search.room c.args.person.now before.0 before.1.bounds c.leave.ensures in
    subst (λ (t : ℕ). t < 6) (sym c.from.ensures) (c.in-Some.ensures before.0 are).0

pub bounds-self-from-in-Some : goal.bounds-self-from-in-Some
bounds-self-from-in-Some c =
    let search = c.args.self.now in
    let before = c.requires.search in
    let are = AreBounds-left search.bounds c.leave.new.bounds search.room c.args.person.now before.0 before.1.bounds c.leave.ensures in
    subst (λ (t : ℕ). t < 6) (sym c.from.ensures) (c.in-Some.ensures before.0 are).0

pub overflow_sub-self : goal.overflow_sub-self
overflow_sub-self c =
    let search = c.args.self.now in
    let before = c.requires.search in
    let are = AreBounds-left search.bounds c.leave.new.bounds search.room c.args.person.now before.0 before.1.bounds c.leave.ensures in
    let left = (c.in-Some.ensures before.0 are).1.left in
    subst (λ (t : ℕ). 0 < get_or search.room.counts t 0) (sym c.from.ensures) left

pub overflow_sub-self-in-Some : goal.overflow_sub-self-in-Some
overflow_sub-self-in-Some c =
    let search = c.args.self.now in
    let before = c.requires.search in
    let are = AreBounds-left search.bounds c.leave.new.bounds search.room c.args.person.now before.0 before.1.bounds c.leave.ensures in
    some_left search c.args.person.now before.0 c.in-Some.t before.1 (c.in-Some.ensures before.0 are).1

pub returns-in-Some-clause-choice : goal.returns-in-Some-clause-choice
returns-in-Some-clause-choice c = λ rest before.
    let search = c.args.self.now in
    c.in-Some.ensures rest (AreBounds-left search.bounds c.leave.new.bounds search.room c.args.person.now rest before.bounds c.leave.ensures)

pub returns-in-Some-clause-search : goal.returns-in-Some-clause-search
returns-in-Some-clause-search c = λ rest before.
    let search = c.args.self.now in
    let are = AreBounds-left search.bounds c.leave.new.bounds search.room c.args.person.now rest before.bounds c.leave.ensures in
    let take = (c.in-Some.ensures rest are).1 in
    rw c.from.ensures (IsSearch-taken search c.args.person.now rest c.in-Some.t c.take.new.bounds before
    (AreBounds-taken c.leave.new.bounds c.take.new.bounds search.room rest c.in-Some.t before.six take.left are c.take.ensures) take)

pub returns-in-Some-clause-moves : goal.returns-in-Some-clause-moves
returns-in-Some-clause-moves c = rw c.from.ensures (refl, refl)

pub returns-in_default-clause-choice : goal.returns-in_default-clause-choice
returns-in_default-clause-choice c = λ rest before.
    let search = c.args.self.now in
    c.choose-slot.ensures rest (AreBounds-left search.bounds c.leave.new.bounds search.room c.args.person.now rest before.bounds c.leave.ensures)

pub returns-in_default-clause-search : goal.returns-in_default-clause-search
returns-in_default-clause-search c = λ rest before.
    let search = c.args.self.now in
    let are = AreBounds-left search.bounds c.leave.new.bounds search.room c.args.person.now rest before.bounds c.leave.ensures in
    IsSearch-passed search c.args.person.now rest c.leave.new.bounds c.requires.traits before are (c.in_default.ensures rest are)

pub returns-in_default-clause-moves : goal.returns-in_default-clause-moves
returns-in_default-clause-moves c = rw c.in_default.is (refl, refl)
