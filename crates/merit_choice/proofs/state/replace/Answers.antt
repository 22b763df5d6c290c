use Rattle.std.proofs.Common.{ℕ, refl, ap}
use Rattle.office_base.specs.declared.person.TraitSet.{TraitSet}
use Rattle.merit_choice.specs.Needed.{Tells}
use Rattle.merit_choice.proofs.Joining.{may_join, joined_exchanged, worst_member}
use Rattle.merit_choice.proofs.Places.{zip_length}
use Rattle.merit_choice.proofs.Replacing.{ComesAt, after_place, in_order, joined_outside, joined_traitless, last_can, last_is_worst_for}
use Rattle.merit_choice.proofs.state.replace.Goals as goal

-- nobody is needed who holds no trait
pub returns-then-set-eq0-clause-matched : goal.returns-then-set-eq0-clause-matched
returns-then-set-eq0-clause-matched c =
    let comes : ComesAt c.args.list c.args.held.now c.args.marks.now c.args.matching.now c.args.person.now c.args.at c.args.set = record {
      ranked = c.requires.ranked;
      new = c.requires.new;
      matched = c.requires.matched;
      inside = c.requires.within;
      place = c.requires.place;
      replaceable = c.requires.replaceable;
    } in
    joined_traitless c.args.list c.args.held.now c.args.marks.now c.args.matching.now c.args.person.now c.args.at c.args.set comes
    (ap (λ (n : ℕ). let none : TraitSet = record { 0 = n } in none) c.if-set-eq0.true)

pub last_within-requires : goal.last_within-requires
last_within-requires c = zip_length (Tells c.args.matching.now.members) _ _ c.requires.matched.told

-- nobody who is worse can be replaced
pub returns-in_default-clause-matched : goal.returns-in_default-clause-matched
returns-in_default-clause-matched c =
    let comes : ComesAt c.args.list c.args.held.now c.args.marks.now c.args.matching.now c.args.person.now c.args.at c.args.set = record {
      ranked = c.requires.ranked;
      new = c.requires.new;
      matched = c.requires.matched;
      inside = c.requires.within;
      place = c.requires.place;
      replaceable = c.requires.replaceable;
    } in
    joined_outside c.args.list c.args.held.now c.args.marks.now c.args.matching.now c.args.person.now c.args.at c.args.set comes c.in_default.ensures

-- ---- the last one is replaced

pub exchange-requires-clause-may : goal.exchange-requires-clause-may
exchange-requires-clause-may c = may_join c.args.list c.args.held.now c.args.marks.now c.args.matching.now c.args.person.now c.requires.new c.requires.matched

pub exchange-requires-clause-member : goal.exchange-requires-clause-member
exchange-requires-clause-member c =
    let comes : ComesAt c.args.list c.args.held.now c.args.marks.now c.args.matching.now c.args.person.now c.args.at c.args.set = record {
      ranked = c.requires.ranked;
      new = c.requires.new;
      matched = c.requires.matched;
      inside = c.requires.within;
      place = c.requires.place;
      replaceable = c.requires.replaceable;
    } in
    worst_member c.args.list c.args.held.now c.args.marks.now c.args.matching.now c.args.person.now _ c.requires.matched
    (last_is_worst_for c.args.list c.args.held.now c.args.marks.now c.args.matching.now c.args.person.now c.args.at c.args.set comes c.in-Some.last _ c.in-Some.ensures)

pub exchange-requires-clause-placed : goal.exchange-requires-clause-placed
exchange-requires-clause-placed c =
    let comes : ComesAt c.args.list c.args.held.now c.args.marks.now c.args.matching.now c.args.person.now c.args.at c.args.set = record {
      ranked = c.requires.ranked;
      new = c.requires.new;
      matched = c.requires.matched;
      inside = c.requires.within;
      place = c.requires.place;
      replaceable = c.requires.replaceable;
    } in
    last_can c.args.list c.args.held.now c.args.marks.now c.args.matching.now c.args.person.now c.args.at c.args.set comes c.in-Some.last _ c.in-Some.ensures

pub returns-clause-matched : goal.returns-clause-matched
returns-clause-matched c =
    let comes : ComesAt c.args.list c.args.held.now c.args.marks.now c.args.matching.now c.args.person.now c.args.at c.args.set = record {
      ranked = c.requires.ranked;
      new = c.requires.new;
      matched = c.requires.matched;
      inside = c.requires.within;
      place = c.requires.place;
      replaceable = c.requires.replaceable;
    } in
    let last = c.in-Some.ensures in
    joined_exchanged c.args.list c.args.held.now c.args.marks.now c.args.matching.now c.exchange.new.self c.args.person.now _ _ c.in-Some.last c.requires.ranked c.requires.new
    c.requires.matched c.requires.replaceable.0
    (last_is_worst_for c.args.list c.args.held.now c.args.marks.now c.args.matching.now c.args.person.now c.args.at c.args.set comes c.in-Some.last _ last)
    last.here.inside refl
    (after_place c.args.list c.args.person.now _ c.args.held.now c.args.at c.in-Some.last
    (in_order c.args.list c.args.held.now c.args.marks.now c.args.matching.now c.args.person.now c.args.at c.args.set comes) last.since last.here.inside)
    c.exchange.ensures.done
