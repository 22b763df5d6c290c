use Rattle.keeper_sqlite.proofs.ActLemmas.{acts_broken, of_act}
use Rattle.keeper_sqlite.proofs.CallLemmas.{ran_inside, placed_inside}
use Rattle.keeper_sqlite.proofs.StopLemmas.{refused_inside, lost_place, lost_told}
use Rattle.std.proofs.Common.{◌≡◌, ◌≢◌, length, [], inl, refl, rules}
use Rattle.std.proofs.lemmas.List.{nil_from_length}
use Rattle.keeper_sqlite.proofs.calls.perform_one.Goals as goal

pub returns-in_ok-execute-in-Run-clause-acts : goal.returns-in_ok-execute-in-Run-clause-acts
returns-in_ok-execute-in-Run-clause-acts g c = of_act g.S.Store _ _ _ _ _ c.in-Run.is (record { done = ran_inside g.S.Store _ _ _ _ c.execute.result _ c.in_ok-execute-in-Run.was c.execute.ensures.ended c.execute.ensures.runs; lost = λ _. tt })

pub returns-in_err-execute-in-Run-clause-acts : goal.returns-in_err-execute-in-Run-clause-acts
returns-in_err-execute-in-Run-clause-acts g c = of_act g.S.Store _ _ _ _ _ c.in-Run.is (acts_broken g.S.Store _ _ c.from_residual.result _ c.from_residual.ensures.1
    (λ clean. inl (_, refl, refused_inside g.S.Store _ _ _ _ c.execute.result _ c.in_err-execute-in-Run.was c.execute.ensures.ended c.execute.ensures.runs clean)))

pub returns-then-branch-eq1-clause-acts : goal.returns-then-branch-eq1-clause-acts
returns-then-branch-eq1-clause-acts g c = of_act g.S.Store _ _ _ _ _ c.in-Place.is (record { done = placed_inside g.S.Store _ _ _ _ c.execute-in-Place.result _ c.in_ok-execute-in-Place.was (search rules) c.execute-in-Place.ensures.ended c.execute-in-Place.ensures.runs; lost = λ _. tt })

pub returns-else-branch-eq1-clause-acts : goal.returns-else-branch-eq1-clause-acts
returns-else-branch-eq1-clause-acts g c = of_act g.S.Store _ _ _ _ _ c.in-Place.is (record { done = λ _. tt; lost = lost_place g.S.Store _ _ _ _ c.execute-in-Place.result _ c.in_ok-execute-in-Place.was (search rules) c.execute-in-Place.ensures.ended c.execute-in-Place.ensures.runs })

pub returns-in_err-execute-in-Place-clause-acts : goal.returns-in_err-execute-in-Place-clause-acts
returns-in_err-execute-in-Place-clause-acts g c = of_act g.S.Store _ _ _ _ _ c.in-Place.is (acts_broken g.S.Store _ _ c.from_residual-in_err-execute-in-Place.result _ c.from_residual-in_err-execute-in-Place.ensures.1
    (λ clean. inl (inl (_, refl, refused_inside g.S.Store _ _ _ _ c.execute-in-Place.result _ c.in_err-execute-in-Place.was c.execute-in-Place.ensures.ended c.execute-in-Place.ensures.runs clean))))

pub returns-in_err-ask-in-ExpectNone-clause-acts : goal.returns-in_err-ask-in-ExpectNone-clause-acts
returns-in_err-ask-in-ExpectNone-clause-acts g c = of_act g.S.Store _ _ _ _ _ c.in-ExpectNone.is (acts_broken g.S.Store _ _ c.from_residual-in_err-ask-in-ExpectNone.result _ c.from_residual-in_err-ask-in-ExpectNone.ensures.1
    (λ clean. inl (inl (c.in_err-ask-in-ExpectNone.ensures.acts.lost clean))))

pub returns-then-is_empty-clause-acts : goal.returns-then-is_empty-clause-acts
returns-then-is_empty-clause-acts g c =
    let zero : length c.in_ok-ask-in-ExpectNone.field-0.items ≡ 0 = search rules in
    let none = nil_from_length c.in_ok-ask-in-ExpectNone.field-0.items zero in
    of_act g.S.Store _ _ _ _ _ c.in-ExpectNone.is (record { done = λ clean. rw none at (c.in_ok-ask-in-ExpectNone.ensures.acts.done clean); lost = λ _. tt })

pub returns-else-is_empty-clause-acts : goal.returns-else-is_empty-clause-acts
returns-else-is_empty-clause-acts g c =
    let some : c.in_ok-ask-in-ExpectNone.field-0.items ≢ [] = search rules in
    of_act g.S.Store _ _ _ _ _ c.in-ExpectNone.is (record { done = λ _. tt; lost = λ clean. lost_told g.S.Store _ _ c.args.tx.now.conn.now c.ask.new.tx.conn.now some (c.in_ok-ask-in-ExpectNone.ensures.acts.done clean) })
