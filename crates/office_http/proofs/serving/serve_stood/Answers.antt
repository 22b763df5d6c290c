use Rattle.std.proofs.Common.{◌≡◌, rules, subst, sym}
use Rattle.kept_rows.specs.Tables.{IsTold}
use Rattle.office_desk.specs.Words.{origin_of}
use Rattle.round_cut.specs.Office.{OfficeView}
use Rattle.door_crews.specs.Served.{telling}
use Rattle.office_http.specs.Serving.{Serves}
use Rattle.office_http.proofs.serving.serve_stood.Goals as goal

pub returns-in-Ok-begin-clause-served : goal.returns-in-Ok-begin-clause-served
returns-in-Ok-begin-clause-served g c =
    let D = g.D.Door in
    let L = g.D.Conn.Link in
    let office = c.args.office in
    let s = c.serve_desk in
    let origin : (origin_of c.in-Ok-begin.desk).office ≡ office = search rules in
    subst (λ (o : OfficeView _). Serves g.K.Keeper.seen (telling D L) o s.result.office s.result.door_failed s.result.settled c.args.doors.now s.new.doors) origin s.ensures.served

pub returns-in-Ok-begin-clause-told_before : goal.returns-in-Ok-begin-clause-told_before
returns-in-Ok-begin-clause-told_before g c = λ told. subst IsTold (sym c.requires.tells.0) (c.serve_desk.ensures.told told)
