use Rattle.std.proofs.Common.{length}
use Rattle.allocations.proofs.Claims.{fair_justified, justified_fair}
use Rattle.rounds.specs.Rule.{MayApplyIn, rule_of, seekers_of}
use Rattle.rounds.proofs.Entrants.{market}
use Rattle.round_laws.proofs.laws.fair_without_claims.Goals as goal

pub returns : goal.returns
returns c = λ version guaranteed table people lists seeks seats are entrants.
    let enter = market table people lists seeks are entrants in
    let well = c.choose_well.ensures version guaranteed table are in (
      fair_justified (rule_of version guaranteed table) (MayApplyIn table) (length table.programmes) (seekers_of table people lists seeks) seats enter well,
      justified_fair (rule_of version guaranteed table) (MayApplyIn table) (length table.programmes) (seekers_of table people lists seeks) seats enter well,
    )
