use Rattle.std.proofs.Common.{◌≡◌, ◌-◌, suc, length, refl, arith}
use Rattle.merit_choice.proofs.Halves.{before_end}
use Rattle.merit_choice.proofs.Places.{place_here}
use Rattle.merit_choice.proofs.held.place_for.Goals as goal

-- after the last one
pub returns-then-better-clause-place : goal.returns-then-better-clause-place
returns-then-better-clause-place c =
    let list = c.args.list in
    let person = c.args.person.now in
    let people = c.args.people.now in
    let some = c.if-count-eq0.false in
    let next : length people ≡ suc (length people - 1) = omega arith in
    place_here list person _ people (length people) (length people - 1) c.requires.ranked.in_order next (omega arith) (c.better.ensures.0 c.if-better.true)
    (before_end list person people (length people) refl)
