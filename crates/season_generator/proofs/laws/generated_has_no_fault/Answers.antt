use Rattle.std.proofs.Common.{true}
use Rattle.season_generator.specs.Bundle.{generated}
use Rattle.season_generator.proofs.laws.generated_has_no_fault.Goals as goal

pub returns : goal.returns
returns c = λ n seed fault small has.
    let given = c.generated_is_bundle.ensures n seed small in
    (c.one_reading.ensures true (generated n seed)).apart given.0 given.1 fault given.2 has
