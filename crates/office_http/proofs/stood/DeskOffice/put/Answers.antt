use Rattle.std.proofs.Common.{◌≤◌, subst}
use Rattle.office_http.specs.Keeping.{StoodView}
use Rattle.office_http.proofs.Settling.{kept_asked}
use Rattle.office_http.proofs.stood.DeskOffice.put.Goals as goal

pub invariant_of-self : goal.invariant_of-self
invariant_of-self g c =
    let put = c.put_to_office-answer in
    let was = c.self.invariant in (
      λ told. was.0 (put.ensures.told_before told),
      put.ensures.made,
      (kept_asked g.K.Keeper.seen g.B.TablesBefore.kept c.args.number _ c.args.ask.now put.result c.self.inside.office put.new.office c.self.inside.kept _ _ was.2 put.ensures.asked c.count_kept-settled.ensures).0,
    )

pub returns-clause-keeps : goal.returns-clause-keeps
returns-clause-keeps g c =
    let put = c.put_to_office-answer in
    let was = c.self.invariant in
    subst (λ (stood : StoodView _). stood.kept ≤ c.count_kept-settled.result.1) c.self.view_is
    (kept_asked g.K.Keeper.seen g.B.TablesBefore.kept c.args.number _ c.args.ask.now put.result c.self.inside.office put.new.office c.self.inside.kept _ _ was.2 put.ensures.asked c.count_kept-settled.ensures).1
