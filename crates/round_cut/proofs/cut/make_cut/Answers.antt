use Rattle.std.proofs.Common.{length, arith, ap}
use Rattle.office_moves.specs.Facts.{SeasonFacts}
use Rattle.round_cut.proofs.Counts.{round_few}
use Rattle.round_cut.proofs.cut.make_cut.Goals as goal

pub overflow_cast-seated : goal.overflow_cast-seated
overflow_cast-seated c =
    let some = round_few c.args.book.now.season c.args.book.now.state c.in_ok-round.round c.in_ok-round.ensures in
    let people = ap (λ (f : SeasonFacts). length f.people) c.season.ensures in
    let few = c.people-people.ensures.ranks.few in
    let count = c.seated-seated.ensures in
    omega (arith, some, people, few, count)
