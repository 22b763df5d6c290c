use Rattle.std.proofs.Common.{List, take, subst, sym}
use Rattle.std.proofs.lemmas.List.{take_more}
use Rattle.audit_rules.specs.Entries.{AreMarking}
use Rattle.audit_rules.specs.declared.entries.Entry.{Entry}
use Rattle.audit_rules.proofs.unlisted.mark.Goals as goal

pub loop-entry-preserved : goal.loop-entry-preserved
loop-entry-preserved c = (
  subst (λ (z : List Entry). AreMarking c.args.register.now.people c.args.seats.now z c.mark_one-first.new.marks c.mark_one-first.result)
      (sym (take_more c.args.entries.now c.loop-entry.entry-index _ c.loop-entry-test.true))
      (c.mark_one-first.ensures.marking (take c.loop-entry.entry-index c.args.entries.now) c.loop-entry.invariant.0),
  c.mark_one-first.ensures.full,
)
