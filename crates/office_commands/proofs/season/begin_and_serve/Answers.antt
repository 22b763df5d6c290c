use Rattle.std.proofs.Common.{ℕ, refl, rules, subst}
use Rattle.office_base.specs.Outside.{Rose}
use Rattle.season_commands.proofs.Still.{some_apart, still_none}
use Rattle.office_commands.specs.Doors.{doors_of}
use Rattle.office_commands.proofs.ServedEnds.{handed_in}
use Rattle.door_crews.specs.Served.{telling}
use Rattle.office_commands.proofs.ServeEnds.{begun_ends, unbegun_ends}
use Rattle.office_commands.proofs.season.begin_and_serve.Goals as goal

pub returns-in-Ok-clause-written : goal.returns-in-Ok-clause-written
returns-in-Ok-clause-written g c =
    begun_ends c.args.season c.in-Ok.office.season c.in-Ok.office.entries _ _ _ (doors_of (telling g.D.Door g.D.Conn.Link) _ _ _ _ _ _ _) _ _ c.serve_office.result.0 c.in-Ok.ensures.ok.season c.in-Ok.ensures.ok.entries c.in-Ok.ensures.ok.empty
    c.serve_office.ensures.told_before
    (handed_in (telling g.D.Door g.D.Conn.Link) _ _ _ _ _ _ _ _ _ _ _ _ _ _ c.serve_office.result.0 c.in-Ok.ensures.ok.blamed.room (c.in-Ok.ensures.ok.blamed.steady (λ none. none)) c.serve_office.ensures.written)

pub returns-in-Ok-clause-not_empty : goal.returns-in-Ok-clause-not_empty
returns-in-Ok-clause-not_empty g c tells wrote kept = absurd (some_apart _ (still_none _ _ _ c.serve_office.ensures.told_before c.in-Ok.ensures.ok.empty) tells)

pub returns-in-Err-clause-written : goal.returns-in-Err-clause-written
returns-in-Err-clause-written g c =
    unbegun_ends c.args.season _ _ (doors_of (telling g.D.Door g.D.Conn.Link) _ _ _ _ _ _ _) c.in-Err.fault _ _ _ c.tell_unbegun.result c.in-Err.ensures.not_empty c.in-Err.ensures.err refl c.tell_unbegun.ensures.told

pub returns-in-Ok-clause-keeper : goal.returns-in-Ok-clause-keeper
returns-in-Ok-clause-keeper g c =
    let same = c.in-Ok.ensures.ok.blamed.steady (λ none. none) in record {
      keeper_fault = λ is. subst (λ (n : ℕ). Rose n (g.P.Keeper.seen c.serve_office.result.1).faults) same (c.serve_office.ensures.keeper.1 is);
      keeper_early = search rules;
      keeper_count = search rules;
    }

pub returns-in-Ok-clause-complete : goal.returns-in-Ok-clause-complete
returns-in-Ok-clause-complete g c none wrote kept shut =
    let same = c.in-Ok.ensures.ok.blamed.steady (λ none. none) in
    c.serve_office.ensures.complete wrote (λ rose. kept (subst (λ (n : ℕ). Rose n (g.P.Keeper.seen c.serve_office.result.1).faults) same rose)) shut
