use Rattle.std.proofs.Common.{ap, length, refl}
use Rattle.choice_lists.proofs.FlatLemmas.{set_made}
use Rattle.choice_lists.proofs.flat.FlatLists.set.Goals as goal

pub returns : goal.returns
returns g c =
    set_made c.self.inside.items.items c.args.list.now c.extend_from_slice.new.self.items c.self.inside.ranges.items _ c.args.self.now c.args.number (length c.as_slice-start.result.now) (length c.as_slice.result.now)
    c.self.invariant c.in_ok-extend_from_slice.ensures.items (ap (λ l. length l) c.as_slice-start.ensures.value) (ap (λ l. length l) c.as_slice.ensures.value) refl c.self.view_is
