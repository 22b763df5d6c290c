use Rattle.std.proofs.Common.{◌∙◌, List, ap, subst, sym, take}
use Rattle.office_base.specs.CategorySteps.{category_steps}
use Rattle.office_base.specs.StepChoice.{AreRanked}
use Rattle.office_base.specs.declared.person.Person.{Person}
use Rattle.programme_lists.specs.Programme.{without}
use Rattle.programme_lists.specs.declared.programme.StepList.{StepList}
use Rattle.list_audit.specs.Clauses.{named_by}
use Rattle.list_audit.proofs.Left.{left_next, left_ranked, steps_of, taken_from}
use Rattle.list_audit.proofs.stand.left_over.Goals as goal

pub without-requires-clause-ranked : goal.without-requires-clause-ranked
without-requires-clause-ranked c = (
  c.requires.ranked.0,
  subst (AreRanked c.requires.ranked.0) (sym (c.as_slice.ensures ∙ c.loop-row.invariant.made)) (left_ranked c.requires.ranked.0 (steps_of (take c.loop-row.row-index category_steps)) c.args.rest.now (named_by c.args.programme.now) c.requires.ranked.1),
)

pub without-requires-clause-taken : goal.without-requires-clause-taken
without-requires-clause-taken c =
    taken_from c.args.rest.now (named_by c.args.programme.now) c.requires.ranked.1.distinct c.requires.members _ c.loop-row.row-index _ c.as_slice-named.result.now c.as_slice.result.now
    c.loop-row.invariant.rows c.loop-row-test.true (c.as_slice-named.ensures ∙ ap (λ (list : StepList). list.admitted) c.list_of.ensures) (c.as_slice.ensures ∙ c.loop-row.invariant.made)

pub loop-row-preserved : goal.loop-row-preserved
loop-row-preserved c =
    let named = c.as_slice-named.ensures ∙ ap (λ (list : StepList). list.admitted) c.list_of.ensures in
    let old = c.as_slice.ensures ∙ c.loop-row.invariant.made in
    record {
      rows = c.loop-row.invariant.rows;
      made = c.in_ok-left.ensures ∙ ap (λ (people : List Person). without people c.as_slice-named.result.now) old ∙ ap (without _) named
          ∙ sym (left_next _ c.loop-row.row-index _ c.args.rest.now (named_by c.args.programme.now) c.loop-row.invariant.rows c.loop-row-test.true);
    }
