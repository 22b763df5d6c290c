use Rattle.std.proofs.Common.{arith}
use Rattle.std.proofs.lemmas.Bool.{false≢true, both_ways}
use Rattle.slot_cert.proofs.Traits.{has_trait-high}
use Rattle.slot_cert.proofs.cert.fills.Goals as goal

pub returns-then-pair-ge6 : goal.returns-then-pair-ge6
returns-then-pair-ge6 c =
    let none = has_trait-high c.args.person.now.traits c.args.pair.now.slot c.requires (omega arith) in
    (λ e. absurd (false≢true e), λ fills. absurd (both_ways _ none fills.1))
