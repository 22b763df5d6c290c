use Rattle.std.proofs.Common.{ap, length}
use Rattle.choice_lists.proofs.FlatLemmas.{push_made}
use Rattle.choice_lists.proofs.flat.FlatLists.push.Goals as goal

pub returns : goal.returns
returns g c =
    push_made c.self.inside.items.items c.args.list.now c.extend_from_slice.new.self.items c.self.inside.ranges.items c.push.new.self.items c.args.self.now (length c.as_slice-start.result.now) (length c.as_slice.result.now)
    c.self.invariant c.in_ok-extend_from_slice.ensures.items (ap (λ l. length l) c.as_slice-start.ensures.value) (ap (λ l. length l) c.as_slice.ensures.value) c.in_ok-push.ensures.items c.self.view_is
