use Rattle.std.proofs.Common.{length, arith, ap}
use Rattle.office_moves.specs.Facts.{SeasonFacts}
use Rattle.round_cut.proofs.Counts.{still_few}
use Rattle.round_cut.proofs.cut.room_wanted.Goals as goal

pub overflow_add-result : goal.overflow_add-result
overflow_add-result c =
    let some = still_few c.args.book.now.season c.args.book.now.state c.args.book.now.season.people in
    let people = ap (λ (f : SeasonFacts). length f.people) c.season.ensures in
    let few = c.people-people.ensures.ranks.few in
    let still = c.still_in.ensures.still in
    let count = c.still_in.ensures.count in
    omega (arith, some, people, few, still, count)
