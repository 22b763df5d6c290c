use Rattle.std.proofs.Common.{arith, length, take, drop, ◌-◌, ap, ◌∙◌}
use Rattle.std.proofs.lemmas.List.{length-take}
use Rattle.http_sessions.proofs.Parts.{skipped}
use Rattle.http_sessions.proofs.inbox.Inbox.skip.Goals as goal

pub returns : goal.returns
returns c =
    let a = c.self.inside in
    let i = c.self.invariant in
    let v = ap length c.self.view_is in
    let few = c.requires in
    skipped a.start a.end c.args.count a.bytes.items (omega (arith, i, v, few, length-take (a.end - a.start) (drop a.start a.bytes.items))) ∙ ap (drop c.args.count) c.self.view_is
