use denote.Param.Send.{sendable}
use Rattle.std.proofs.Common.{◌≡◌, ◌≤◌, [], ap, arith, refl, subst, sym, ◌∙◌}
use Rattle.office_http.specs.Asking.{AnswersAt, UnanswersAt}
use Rattle.office_desk.specs.Own.{among}
use Rattle.office_desk.specs.Words.{count_of, origin_of, own_of, seen_of}
use Rattle.door_crews.specs.Served.{telling}
use Rattle.door_crews.proofs.Rows.{all_doors, rows_are_served}
use Rattle.office_http.specs.Hands.{worker_of}
use Rattle.office_base.specs.Outside.{Rose}
use Rattle.kept_rows.specs.Tables.{Tables}
use Rattle.office_http.specs.Keeping.{IsKept, IsWhole, MayWait}
use Rattle.round_cut.specs.Office.{OfficeView}
use Rattle.office_http.proofs.Settling.{blamed_so, settled_so, waited_so}
use Rattle.office_http.proofs.Handing.{none_among}
use Rattle.office_http.proofs.Sending.{buffers_sent}
use Rattle.office_http.proofs.serving.serve_desk.Goals as goal

pub work_all-requires-send-B : goal.work_all-requires-send-B
work_all-requires-send-B g c = search (buffers_sent, sendable) depth 20

pub close-stood-requires-clause-whole : goal.close-stood-requires-clause-whole
close-stood-requires-clause-whole g c =
    let D = g.D.Door in
    let origin = (origin_of c.args.desk).office in
    let none : own_of c.args.pass ≡ [] = ap (λ t. among (λ e. e.number) t (seen_of c.args.pass)) c.requires.first.0 ∙ none_among (λ e. e.number) (seen_of c.args.pass) in
    let row = rows_are_served (AnswersAt origin.season) (UnanswersAt origin.season (g.K.Keeper.seen origin.keeper).holds_room (MayWait g.K.Keeper.seen)) (telling D g.D.Conn.Link)
    worker_of 0 c.args.doors.now c.work_all.new.doors _ c.work_all.new.crew none refl c.work_all.ensures.served in
    row.shares ∙ c.requires.whole.1

pub returns-clause-served : goal.returns-clause-served
returns-clause-served g c =
    let D = g.D.Door in
    let L = g.D.Conn.Link in
    let origin = (origin_of c.args.desk).office in
    let seen = g.K.Keeper.seen in
    let none : own_of c.args.pass ≡ [] = ap (λ t. among (λ e. e.number) t (seen_of c.args.pass)) c.requires.first.0 ∙ none_among (λ e. e.number) (seen_of c.args.pass) in
    let row = rows_are_served (AnswersAt origin.season) (UnanswersAt origin.season (seen origin.keeper).holds_room (MayWait seen)) (telling D L) worker_of 0 c.args.doors.now c.work_all.new.doors _ c.work_all.new.crew none refl c.work_all.ensures.served in
    let office = c.into_office.ensures.same in
    let settles = c.settle-settled.ensures in
    let one = (settled_so seen c.settle-settled.result c.close-stood.result.office c.settle-settled.new.self.office settles.0).1 in
    let counted = c.close-stood.ensures.count in
    let more = row.counts in
    let first = c.requires.first.2 in
    let on = one.count in
    record {
      season = ap (λ o. o.season) office ∙ one.season ∙ ap (λ b. b.0) c.close-stood.ensures.basis;
      room = ap (λ o. (seen o.keeper).holds_room) office ∙ one.room ∙ ap (λ b. b.1) c.close-stood.ensures.basis;
      kept = c.settle-settled.new.self.kept;
      served = all_doors (AnswersAt origin.season) (UnanswersAt origin.season (seen origin.keeper).holds_room (MayWait seen)) (telling D L)
          origin.entries c.into_office.result.entries (seen origin.keeper).faults (seen c.into_office.result.keeper).faults c.settle-settled.new.self.kept c.args.doors.now c.work_all.new.doors _ _
          row c.requires.first.1 c.requires.first.2 (ap (λ o. o.entries) office ∙ one.entries ∙ c.close-stood.ensures.seen) (ap (λ o. o.entries) office ∙ one.entries ∙ c.close-stood.ensures.own)
          (subst (λ o. count_of c.work_all.new.crew.pass ≤ (seen o.keeper).faults) (sym office) (omega (arith, counted, on)))
          (let known = c.close-stood.ensures.kept in let then = settles.1 in omega (arith, known, then));
      tables = subst (λ (t : Tables). IsKept t c.into_office.result.season c.into_office.result.entries c.settle-settled.new.self.kept (seen c.into_office.result.keeper)) (sym c.requires.begun) c.into_office.ensures.kept;
      whole = λ ok. subst (λ (o : OfficeView _). IsWhole seen o c.settle-settled.new.self.kept) (sym office) (settles.2 ok);
      waited = waited_so seen c.settle-settled.result c.close-stood.result.office c.settle-settled.new.self.office settles.0;
      blamed = λ is. subst (λ o. Rose (seen origin.keeper).faults (seen o.keeper).faults) (sym office)
          (blamed_so seen c.settle-settled.result c.close-stood.result.office c.settle-settled.new.self.office (seen origin.keeper).faults settles.0 (omega (arith, first, more, counted)) is);
      failed = row.fails;
      done = row.ends;
    }
