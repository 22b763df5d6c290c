use Rattle.std.proofs.Common.{rules}
use Rattle.http_sessions.proofs.doors.serve_one.Goals as goal

pub returns-clause-held : goal.returns-clause-held
returns-clause-held g c =
    let s = c.session.ensures in
    (c.session.new.link, record { bytes = s.met.0; end = c.session.result; are = s.met.1; session = s.met.2; cause = s.blamed.cause; steady = s.blamed.steady }, search rules)
