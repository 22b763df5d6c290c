use Rattle.std.proofs.Common.{◌≤◌, ⊎_elim, inl, inr, refl, rules, subst, sym}
use Rattle.office_base.specs.Outside.{Rose}
use Rattle.keeper_mem.specs.Keeper.{KeeperView}
use Rattle.office_commands.specs.Doors.{doors_of}
use Rattle.office_http.specs.Keeping.{MayWait}
use Rattle.door_crews.specs.Served.{telling}
use Rattle.office_commands.proofs.ServedEnds.{all_served, ends_well, part_served, served_ends, spared_ends, stands_at, tells_doors}
use Rattle.office_commands.proofs.serving.serve_office.Goals as goal

pub returns-in-Ok-clause-written : goal.returns-in-Ok-clause-written
returns-in-Ok-clause-written g c =
    let at = c.in-Ok.served in
    let s = c.in-Ok.ensures.served in
    served_ends at.settled c.args.office.season at.office.season c.args.office.entries at.office.entries _
    (doors_of (telling g.D.Door g.D.Conn.Link) (g.P.Keeper.seen c.args.office.keeper).holds_room (MayWait g.P.Keeper.seen) (g.P.Keeper.seen c.args.office.keeper).faults (g.P.Keeper.seen c.tell_served.result.1).faults (g.P.Keeper.seen c.tell_served.result.1).kept c.args.doors.now c.serve.new.doors)
    at.door_failed _ _ c.tell_served.result.0 s.season
    (all_served g.P.Keeper.seen (telling g.D.Door g.D.Conn.Link) c.args.office at.office at.door_failed at.settled c.args.doors.now c.serve.new.doors c.tell_served.result.1 c.tell_served.ensures.same s)
    (part_served g.P.Keeper.seen (telling g.D.Door g.D.Conn.Link) c.args.office at.office at.door_failed at.settled c.args.doors.now c.serve.new.doors c.tell_served.result.1 c.tell_served.ensures.same s)
    c.tell_served.ensures.written

pub returns-in-Ok-clause-own : goal.returns-in-Ok-clause-own
returns-in-Ok-clause-own g c = (tells_doors c.in-Ok.served.settled c.in-Ok.served.door_failed c.tell_served.result.0 c.tell_served.ensures.status).own

pub returns-in-Ok-clause-doors : goal.returns-in-Ok-clause-doors
returns-in-Ok-clause-doors g c =
    let told = tells_doors c.in-Ok.served.settled c.in-Ok.served.door_failed c.tell_served.result.0 c.tell_served.ensures.status in record {
      door_fault = λ is. c.in-Ok.ensures.served.failed (told.broke is);
      all_served = λ is. (c.in-Ok.ensures.served.done (told.whole is)).0;
      doors_steady = λ broke wrote short kept. (c.in-Ok.ensures.served.done (told.held broke wrote short kept)).1;
    }

pub returns-in-Ok-clause-keeper : goal.returns-in-Ok-clause-keeper
returns-in-Ok-clause-keeper g c =
    let seen = g.P.Keeper.seen in
    let told = tells_doors c.in-Ok.served.settled c.in-Ok.served.door_failed c.tell_served.result.0 c.tell_served.ensures.status in (
      subst (λ k. (seen c.args.office.keeper).faults ≤ (seen k).faults) (sym c.tell_served.ensures.same) c.in-Ok.ensures.served.served.counts,
      λ is. subst (λ k. Rose (seen c.args.office.keeper).faults (seen k).faults) (sym c.tell_served.ensures.same) (c.in-Ok.ensures.served.blamed (told.lost is)),
    )

pub returns-in-Ok-clause-complete : goal.returns-in-Ok-clause-complete
returns-in-Ok-clause-complete g c =
    let seen = g.P.Keeper.seen in
    ends_well c.in-Ok.served.settled c.in-Ok.served.door_failed c.tell_served.result.0 _ _ _ c.tell_served.ensures.status c.tell_served.ensures.sink.write_fault
    (λ lost. subst (λ k. Rose (seen c.args.office.keeper).faults (seen k).faults) (sym c.tell_served.ensures.same) (c.in-Ok.ensures.served.blamed lost))
    c.in-Ok.ensures.served.failed

pub returns-in-Err-clause-written : goal.returns-in-Err-clause-written
returns-in-Err-clause-written g c =
    spared_ends c.args.office.season c.args.office.entries _ (doors_of (telling g.D.Door g.D.Conn.Link) _ _ _ _ _ _ _) c.args.office.state _ _ _ c.tell_no_memory-in-Err.result c.entries-entries.ensures.history (stands_at _ _ _ c.in-Err.ensures.err c.into_keeper-in-Err.ensures.stands)
    c.in-Err.ensures.spared c.tell_no_memory-in-Err.ensures.told

pub returns-then-last_number-ge-MOST_NUMBER-clause-written : goal.returns-then-last_number-ge-MOST_NUMBER-clause-written
returns-then-last_number-ge-MOST_NUMBER-clause-written g c =
    spared_ends c.args.office.season c.args.office.entries _ (doors_of (telling g.D.Door g.D.Conn.Link) _ _ _ _ _ _ _) c.args.office.state _ _ _ c.tell_no_memory.result c.entries-entries.ensures.history c.into_keeper.ensures.stands
    refl c.tell_no_memory.ensures.told

pub returns-in-Err-clause-sink : goal.returns-in-Err-clause-sink
returns-in-Err-clause-sink g c = record { write_fault = search rules; sink_steady = search rules }

pub returns-in-Err-clause-doors : goal.returns-in-Err-clause-doors
returns-in-Err-clause-doors g c = record { door_fault = search rules; all_served = search rules; doors_steady = search rules }

pub returns-then-last_number-ge-MOST_NUMBER-clause-sink : goal.returns-then-last_number-ge-MOST_NUMBER-clause-sink
returns-then-last_number-ge-MOST_NUMBER-clause-sink g c = record { write_fault = search rules; sink_steady = search rules }

pub returns-then-last_number-ge-MOST_NUMBER-clause-doors : goal.returns-then-last_number-ge-MOST_NUMBER-clause-doors
returns-then-last_number-ge-MOST_NUMBER-clause-doors g c = record { door_fault = search rules; all_served = search rules; doors_steady = search rules }
