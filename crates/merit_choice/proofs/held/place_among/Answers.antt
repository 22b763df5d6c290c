use Rattle.std.proofs.Common.{◌≡◌, ◌<◌, ◌+◌, ◌-◌, ◌/◌, ℕ, length, subst, arith}
use Rattle.std.proofs.lemmas.Bool.{both_ways}
use Rattle.merit_choice.proofs.Halves.{before_worse, place_met}
use Rattle.merit_choice.proofs.Places.{IsBefore, among_at, else_better}
use Rattle.merit_choice.proofs.held.place_among.Goals as goal

-- before one who is worse the person's place is the place among all
pub loop-low-preserved : goal.loop-low-preserved
loop-low-preserved c =
    let list = c.args.list in
    let person = c.args.person.now in
    let people = c.args.people.now in
    let low = c.loop-low.low in
    let high = c.loop-low.high in
    let middle : ℕ = low + (high - low) / 2 in
    let more = c.loop-low-test.true in
    let within = c.loop-low.invariant.1 in
    let inside : middle < length people = omega arith in (
      omega arith,
      omega arith,
      c.loop-low.invariant.2,
      before_worse list person _ people middle inside
          (else_better list people person _ c.requires.new.placed c.requires.ranked.placed c.requires.new.numbers
          (among_at people middle _ inside) (λ better. both_ways c.better.result c.if-better.false (c.better.ensures.1 better))),
    )

-- where both places meet
pub returns-clause-place : goal.returns-clause-place
returns-clause-place c =
    let list = c.args.list in
    let person = c.args.person.now in
    let people = c.args.people.now in
    let low = c.loop-low.low in
    let high = c.loop-low.high in
    let rising = c.loop-low.invariant.0 in
    let within = c.loop-low.invariant.1 in
    let end = c.loop-low-test.false in
    let met : high ≡ low = omega arith in
    place_met list person person people low c.requires.ranked.in_order (omega arith) (c.loop-low.invariant.2 person)
    (subst (IsBefore list person people) met c.loop-low.invariant.3)
