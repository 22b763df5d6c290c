use Rattle.std.proofs.Common.{subst, sym}
use Rattle.kept_rows.specs.Tables.{IsTold}
use Rattle.office_http.proofs.Settling.{kept_first}
use Rattle.office_http.proofs.stood.DeskOffice.new.Goals as goal

pub invariant_of-result : goal.invariant_of-result
invariant_of-result g c = (
  λ told. subst IsTold c.requires.tables told,
  c.new.ensures c.args.office.season c.args.office.state,
  kept_first g.K.Keeper.seen g.B.TablesBefore.kept c.args.office _ _ (sym c.requires.kept) c.count_kept-kept.ensures,
)
