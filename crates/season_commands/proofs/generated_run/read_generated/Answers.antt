use Rattle.std.proofs.Common.{List, ℕ, true, subst}
use Rattle.season_file.specs.Season.{IsSeasonFault}
use Rattle.season_generator.specs.Bundle.{generated}
use Rattle.season_commands.proofs.GeneratedEnds.{only_memory}
use Rattle.season_commands.proofs.generated_run.read_generated.Goals as goal

pub unreachable-requires : goal.unreachable-requires
unreachable-requires c =
    c.in_default.not-OutOfMemory (only_memory (generated c.args.n c.args.seed) _ (λ other has. c.generated_has_no_fault.ensures c.args.n c.args.seed other c.requires.high has)
    (subst (λ (b : List ℕ). IsSeasonFault true b c.in-Err.fault) c.in_ok-bundle.ensures c.in-Err.ensures.fault))
