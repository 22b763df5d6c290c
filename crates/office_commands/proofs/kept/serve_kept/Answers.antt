use Rattle.std.proofs.Common.{ℕ, inl, inr, refl, rules, subst}
use Rattle.office_base.specs.Outside.{Rose}
use Rattle.resume_command.proofs.Unresumed.{judged}
use Rattle.office_commands.specs.Doors.{doors_of}
use Rattle.office_commands.proofs.ServedEnds.{handed_in}
use Rattle.door_crews.specs.Served.{telling}
use Rattle.office_commands.proofs.ServeEnds.{kept_ends}
use Rattle.office_commands.proofs.kept.serve_kept.Goals as goal

pub returns-in-Ok-clause-written : goal.returns-in-Ok-clause-written
returns-in-Ok-clause-written g c =
    let o = c.in-Ok.ensures.resumed in
    rw (← c.in-Ok.ensures.unwritten) (kept_ends c.in-Ok.office.season c.in-Ok.office.state c.in-Ok.office.entries _ _ _ (doors_of (telling g.D.Door g.D.Conn.Link) _ _ _ _ _ _ _) _ _ c.serve_office.result.0 o.resumed o.entries o.history
    o.told c.serve_office.ensures.told_before
    (handed_in (telling g.D.Door g.D.Conn.Link) _ _ _ _ _ _ _ _ _ _ _ _ _ _ c.serve_office.result.0 o.blamed.room (o.blamed.steady (λ none. none)) c.serve_office.ensures.written))

pub returns-in-Ok-clause-records : goal.returns-in-Ok-clause-records
returns-in-Ok-clause-records g c = judged _ _ c.serve_office.result.0 (c.in-Ok.ensures.sound _ c.serve_office.ensures.told_before)

pub returns-in-Ok-clause-keeper : goal.returns-in-Ok-clause-keeper
returns-in-Ok-clause-keeper g c =
    let same = c.in-Ok.ensures.resumed.blamed.steady (λ none. none) in record {
      keeper_fault = λ is. subst (λ (n : ℕ). Rose n (g.P.Keeper.seen c.serve_office.result.1).faults) same (c.serve_office.ensures.keeper.1 is);
      keeper_early = search rules;
      keeper_count = search rules;
    }

pub returns-in-Ok-clause-complete : goal.returns-in-Ok-clause-complete
returns-in-Ok-clause-complete g c sound wrote kept shut =
    let same = c.in-Ok.ensures.resumed.blamed.steady (λ none. none) in
    c.serve_office.ensures.complete (λ rose. wrote (subst (λ k. Rose (g.K.Sink.faults k) (g.K.Sink.faults c.serve_office.new.sink)) c.in-Ok.ensures.unwritten rose)) (λ rose. kept (subst (λ (n : ℕ). Rose n (g.P.Keeper.seen c.serve_office.result.1).faults) same rose)) shut

pub returns-in-Err-clause-written : goal.returns-in-Err-clause-written
returns-in-Err-clause-written g c = let (output, appends, ends) = c.in-Err.ensures.unresumed.written in (output, appends, inl (ends, refl))

pub returns-in-Err-clause-complete : goal.returns-in-Err-clause-complete
returns-in-Err-clause-complete g c sound wrote kept shut = inr (c.in-Err.ensures.unresumed.sound sound (wrote, kept))

pub returns-in-Err-clause-keeper : goal.returns-in-Err-clause-keeper
returns-in-Err-clause-keeper g c =
    let b = c.in-Err.ensures.unresumed.blamed in record {
      keeper_fault = b.keeper_fault;
      keeper_early = λ early. b.keeper_steady (λ is. elim early [ inl bad ↦ cc (bad, is) | inr other ↦ cc (other, is) ]) (λ is. elim early [ inl bad ↦ cc (bad, is) | inr other ↦ cc (other, is) ]);
      keeper_count = b.keeper_count;
    }
