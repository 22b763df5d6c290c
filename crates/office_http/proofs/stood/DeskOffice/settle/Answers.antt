use Rattle.std.proofs.Common.{◌≤◌, subst}
use Rattle.office_http.specs.Keeping.{SettlesOffice, StoodView}
use Rattle.office_http.proofs.Settling.{all_kept, bodies_settled, kept_settled, told_settled}
use Rattle.office_http.proofs.stood.DeskOffice.settle.Goals as goal

pub invariant_of-self : goal.invariant_of-self
invariant_of-self g c =
    let done = c.settle_office-done in
    let was = c.self.invariant in
    let seen = g.K.Keeper.seen in (
      λ told. was.0 (told_settled seen done.result c.self.inside.office done.new.office done.ensures told),
      bodies_settled seen done.result c.self.inside.office done.new.office c.self.inside.bodies done.ensures was.1,
      (kept_settled seen g.B.TablesBefore.kept done.result c.self.inside.office done.new.office c.self.inside.kept _ _ was.2 done.ensures c.count_kept-kept.ensures).0,
    )

pub returns : goal.returns
returns g c =
    let done = c.settle_office-done in
    let was = c.self.invariant in
    let seen = g.K.Keeper.seen in (
      subst (λ (stood : StoodView _). SettlesOffice seen done.result stood.office done.new.office) c.self.view_is done.ensures,
      subst (λ (stood : StoodView _). stood.kept ≤ c.count_kept-kept.result.1) c.self.view_is
          (kept_settled seen g.B.TablesBefore.kept done.result c.self.inside.office done.new.office c.self.inside.kept _ _ was.2 done.ensures c.count_kept-kept.ensures).1,
      all_kept seen done.result c.self.inside.office done.new.office c.self.inside.kept _ _ done.ensures c.count_kept-kept.ensures,
    )
