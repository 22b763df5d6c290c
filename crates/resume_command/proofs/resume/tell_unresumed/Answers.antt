use Rattle.std.proofs.Common.{subst}
use Rattle.replays.specs.Resume.{IsUnresumed}
use Rattle.command_answers.specs.declared.status.Status.TheVariants.{BadInput, Differs}
use Rattle.resume_command.proofs.ResumeEnds.{answer_told, difference_told, failed_is_written, made_is_written, none_is_written, raise_told, text_told, unlined_is_written}
use Rattle.resume_command.proofs.resume.tell_unresumed.Goals as goal

pub returns-in-NoSeason-clause-written : goal.returns-in-NoSeason-clause-written
returns-in-NoSeason-clause-written g c tables stopped =
    none_is_written c.write_answer.result _ _ _ tables c.write_answer.ensures.told (subst (λ w. IsUnresumed tables w) c.in-NoSeason.is stopped)

pub returns-in-BadSeason-clause-written : goal.returns-in-BadSeason-clause-written
returns-in-BadSeason-clause-written g c tables stopped =
    made_is_written tables BadInput c.fault_text.result c.tell_line.result _ _ _
    (text_told tables _ c.fault_text.result c.fault_text.ensures (subst (λ w. IsUnresumed tables w) c.in-BadSeason.is stopped)) c.tell_line.ensures.told

pub returns-in-Stray-clause-written : goal.returns-in-Stray-clause-written
returns-in-Stray-clause-written g c tables stopped =
    made_is_written tables Differs c.stray_text.result c.tell_line-in-Stray.result _ _ _
    (answer_told tables _ c.stray_text.result c.stray_text.ensures (subst (λ w. IsUnresumed tables w) c.in-Stray.is stopped)) c.tell_line-in-Stray.ensures.told

pub returns-in-StrayRaise-clause-written : goal.returns-in-StrayRaise-clause-written
returns-in-StrayRaise-clause-written g c tables stopped =
    made_is_written tables Differs c.stray_text-in-StrayRaise.result c.tell_line-in-StrayRaise.result _ _ _
    (raise_told tables _ c.stray_text-in-StrayRaise.result c.stray_text-in-StrayRaise.ensures (subst (λ w. IsUnresumed tables w) c.in-StrayRaise.is stopped)) c.tell_line-in-StrayRaise.ensures.told

pub returns-in-Differs-clause-written : goal.returns-in-Differs-clause-written
returns-in-Differs-clause-written g c tables stopped =
    made_is_written tables Differs c.differs_text.result c.tell_line-in-Differs.result _ _ _
    (difference_told tables _ _ _ _ c.in-Differs.season c.differs_text.result c.differs_text.ensures (subst (λ w. IsUnresumed tables w) c.in-Differs.is stopped)) c.tell_line-in-Differs.ensures.told

pub returns-in-KeeperFault-clause-written : goal.returns-in-KeeperFault-clause-written
returns-in-KeeperFault-clause-written g c tables stopped = failed_is_written c.tell_keeper_fault.result _ _ _ tables c.tell_keeper_fault.ensures.told

pub returns-in-OutOfMemory-clause-written : goal.returns-in-OutOfMemory-clause-written
returns-in-OutOfMemory-clause-written g c tables stopped = unlined_is_written c.tell_no_memory.result _ _ _ tables c.tell_no_memory.ensures.told
