use Rattle.std.proofs.Common.{◌≡◌, ◌≤◌, ◌+◌, ◌*◌, arith, refl, sym, subst, ◌∙◌}
use Rattle.std.specs.Prelude.{IfSome}
use Rattle.office_links.specs.Visits.{GivesFirst}
use Rattle.http_sessions.proofs.Visiting.{visits_on}
use Rattle.http_sessions.proofs.doors.serve_door.Goals as goal

pub visits-preserved : goal.visits-preserved
visits-preserved g c =
    let D = g.D.Door in
    let i = c.visits.invariant in
    let s = c.serve_one.ensures in
    let a = c.in-Ok-Some in
    let asks = i.1 in
    let fewer = s.left in
    let come : D.to_come c.visits.door ≡ D.to_come c.accept.new.self + 1 = subst (λ o. IfSome o (λ conn. D.to_come c.visits.door ≡ D.to_come c.accept.new.self + 1)) a.field-0-is a.ensures.some in
    let gives = subst (λ o. IfSome o (λ conn. (D.out c.accept.new.self ≡ D.out c.visits.door + 1) × GivesFirst (D.told c.visits.door) conn (D.told c.accept.new.self))) a.field-0-is a.ensures.gives in
    let back = s.numbers in
    let out = i.3 in
    let gave = gives.0 in
    let most = i.4 in (
      visits_on g.C.Counter.answers g.D.Conn.Link.left g.D.Conn.Link.written g.D.Conn.Link.faults _ _ _ _ _ _ _ _ _ i.0 gives.1 s.held.1 s.held.2,
      omega (arith, asks, fewer, come, back),
      s.count ∙ (a.ensures.steady ∙ i.2),
      omega (arith, out, gave, back),
      omega (arith, most, come, back),
      s.same ∙ i.5,
    )
