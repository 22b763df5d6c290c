use Rattle.std.proofs.Common.{inl, inr, ap, rules, subst}
use Rattle.kept_rows.specs.Tables.{IsTold}
use Rattle.resume_command.proofs.Unresumed.{judged}
use Rattle.special_command.specs.Special.{AreFaultyLists, AreSpecialLists}
use Rattle.special_command.proofs.SpecialEnds.{resumed_ends, still_here, tells_here}
use Rattle.special_command.proofs.special.special_season.Goals as goal

-- ---- an office resumes

pub returns-in-Ok-clause-written : goal.returns-in-Ok-clause-written
returns-in-Ok-clause-written g c =
    let o = c.in-Ok.ensures.resumed in
    rw (← c.in-Ok.ensures.unwritten) (resumed_ends c.args.papers c.in-Ok.office.season c.in-Ok.office.state _ _ (g.P.Keeper.seen c.in-Ok.office.keeper).tables _ _ _ c.tell_round.result.0 o.resumed o.told
    (ap (λ k. (g.P.Keeper.seen k).tables) c.tell_round.ensures.same) c.tell_round.ensures.written)

pub returns-in-Ok-clause-read_blamed : goal.returns-in-Ok-clause-read_blamed
returns-in-Ok-clause-read_blamed g c =
    let b = c.tell_round.ensures.blamed in record { read_fault = b.read; source_steady = b.source_steady }

pub returns-in-Ok-clause-blamed : goal.returns-in-Ok-clause-blamed
returns-in-Ok-clause-blamed g c = record {
  write_fault = search rules;
  keeper_fault = λ failed. absurd (c.tell_round.ensures.blamed.no_keeper failed);
  sink_steady = search rules;
  keeper_count = search rules;
  keeper_steady = search rules;
}

pub returns-in-Ok-clause-records : goal.returns-in-Ok-clause-records
returns-in-Ok-clause-records g c = judged _ _ c.tell_round.result.0 (c.in-Ok.ensures.sound _ (subst (λ k. IsTold (g.P.Keeper.seen k).tables) c.tell_round.ensures.same))

pub returns-in-Ok-clause-answers : goal.returns-in-Ok-clause-answers
returns-in-Ok-clause-answers g c =
    let o = c.in-Ok.ensures.resumed in
    let t = rw c.in-Ok.ensures.unwritten at c.tell_round.ensures in
    let here = still_here _ _ _ _ _ o.resumed o.told (ap (λ k. (g.P.Keeper.seen k).tables) c.tell_round.ensures.same) in record {
      complete = λ tells sound read kept. t.complete (tells_here AreSpecialLists _ c.in-Ok.office.season c.in-Ok.office.state _ here tells) read kept.0;
      refused = λ tells sound read kept. t.refused (tells_here AreFaultyLists _ c.in-Ok.office.season c.in-Ok.office.state _ here tells) read kept.0;
    }

pub returns-in-Ok-clause-unread : goal.returns-in-Ok-clause-unread
returns-in-Ok-clause-unread g c early =
    absurd (elim early [
      | inl differs ↦ c.tell_round.ensures.no_difference differs
      | inr tells ↦ c.in-Ok.ensures.sound _ (subst (λ k. IsTold (g.P.Keeper.seen k).tables) c.tell_round.ensures.same) tells
    ])

-- ---- no office resumes

pub returns-in-Err-clause-written : goal.returns-in-Err-clause-written
returns-in-Err-clause-written g c = let (output, appends, ends) = c.in-Err.ensures.unresumed.written in (output, appends, inl ends)

pub returns-in-Err-clause-answers : goal.returns-in-Err-clause-answers
returns-in-Err-clause-answers g c =
    let sound = c.in-Err.ensures.unresumed.sound in record { complete = λ tells held read kept. inr (sound held kept); refused = λ tells held read kept. inr (sound held kept) }
