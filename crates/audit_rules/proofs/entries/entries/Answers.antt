use Rattle.std.proofs.Common.{◌≡◌, Some}
use Rattle.std.specs.Prelude.{slice_get}
use Rattle.std.proofs.lemmas.Option.{slice_get-get_or}
use Rattle.audit_rules.proofs.Listing.{entries_more}
use Rattle.audit_rules.proofs.entries.entries.Goals as goal

pub loop-p-preserved : goal.loop-p-preserved
loop-p-preserved c =
    let there : slice_get c.args.lists.now c.loop-p.p ≡ Some c.index-lists-p.result =
    (let a = slice_get-get_or c.args.lists.now c.loop-p.p c.index-lists-p.result c.loop-p-test.true in let b = c.index-lists-p.is in cc) in
    entries_more c.args.lists.now c.loop-p.p c.index-lists-p.result c.loop-p.entries.items _ there c.loop-p.invariant c.in_ok-push_programme.ensures
