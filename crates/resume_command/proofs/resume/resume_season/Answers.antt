use Rattle.std.proofs.Common.{inl, inr, rules}
use Rattle.resume_command.proofs.ResumeEnds.{none_differs, resumed_ends}
use Rattle.resume_command.proofs.Unresumed.{judged}
use Rattle.resume_command.proofs.resume.resume_season.Goals as goal

-- ---- an office resumes

pub returns-in-Ok-clause-written : goal.returns-in-Ok-clause-written
returns-in-Ok-clause-written g c =
    let o = c.in-Ok.ensures.resumed in
    rw (← c.in-Ok.ensures.unwritten) (resumed_ends c.in-Ok.office.season c.in-Ok.office.state _ _ (g.P.Keeper.seen c.in-Ok.office.keeper).tables _ _ _ c.go_on.result.0 o.resumed o.told c.go_on.ensures.told_before
    c.go_on.ensures.written)

pub returns-in-Ok-clause-records : goal.returns-in-Ok-clause-records
returns-in-Ok-clause-records g c = judged _ _ c.go_on.result.0 (c.in-Ok.ensures.sound _ c.go_on.ensures.told_before)

pub returns-in-Ok-clause-blamed : goal.returns-in-Ok-clause-blamed
returns-in-Ok-clause-blamed g c = record {
  write_fault = search rules;
  keeper_fault = search rules;
  sink_steady = search rules;
  keeper_count = search rules;
  keeper_steady = search rules;
}

pub returns-in-Ok-clause-answers : goal.returns-in-Ok-clause-answers
returns-in-Ok-clause-answers g c = record { complete = search rules; refused = search rules }

pub returns-in-Ok-clause-unread : goal.returns-in-Ok-clause-unread
returns-in-Ok-clause-unread g c early =
    absurd (elim early [
      | inl differs ↦ none_differs c.in-Ok.office.season c.in-Ok.office.state _ (g.P.Keeper.seen c.in-Ok.office.keeper).tables _ _ _ c.go_on.result.0 c.go_on.ensures.written differs
      | inr tells ↦ c.in-Ok.ensures.sound _ c.go_on.ensures.told_before tells
    ])

-- ---- no office resumes

pub returns-in-Err-clause-written : goal.returns-in-Err-clause-written
returns-in-Err-clause-written g c = let (output, appends, ends) = c.in-Err.ensures.unresumed.written in (output, appends, inl ends)

pub returns-in-Err-clause-answers : goal.returns-in-Err-clause-answers
returns-in-Err-clause-answers g c =
    let sound = c.in-Err.ensures.unresumed.sound in record { complete = λ tells held read kept. inr (sound held kept); refused = λ tells held read kept. inr (sound held kept) }
