use Rattle.std.proofs.Common.{arith}
use Rattle.std.proofs.lemmas.Grind.{common_steps}
use Rattle.programme_lists.proofs.Walk.{minus_is_without}
use Rattle.list_audit.proofs.stand.without.Goals as goal

pub returns : goal.returns
returns c =
    let same = minus_is_without c.args.people.now c.args.taken.now c.requires.ranked.1.distinct c.requires.taken in
    grind (arith, common_steps, same)
