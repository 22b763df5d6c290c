use Rattle.std.proofs.Common.{rules, subst, sym}
use Rattle.kept_rows.specs.Tables.{AreTold}
use Rattle.kept_rows.proofs.Unchanged.{told_same}
use Rattle.resume_command.proofs.ResumeEnds.{unasked_ends}
use Rattle.resume_command.proofs.resume.go_on.Goals as goal

pub returns-in-Err-clause-written : goal.returns-in-Err-clause-written
returns-in-Err-clause-written g c =
    unasked_ends _ _ _ _ c.in-Err.failure _ _ _ _ _ c.tell_failure.result c.in-Err.ensures.failure c.tell_failure.ensures.told
    (subst (λ k. AreTold (g.P.Keeper.seen c.args.office.keeper).tables (g.P.Keeper.seen k).tables) (sym c.into_keeper.ensures.same) (told_same (g.P.Keeper.seen c.args.office.keeper).tables))

pub returns-in-Err-clause-read_blamed : goal.returns-in-Err-clause-read_blamed
returns-in-Err-clause-read_blamed g c = record { read_fault = search rules; source_steady = search rules }

pub returns-in-Err-clause-blamed : goal.returns-in-Err-clause-blamed
returns-in-Err-clause-blamed g c =
    record { write_fault = search rules; keeper_fault = search rules; sink_steady = search rules; keeper_count = search rules; keeper_steady = search rules }
