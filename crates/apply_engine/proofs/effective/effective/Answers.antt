use Rattle.std.proofs.Common.{◌++◌, ◌∷◌, [], List, ap, ◌∙◌, arith}
use Rattle.std.specs.Prelude.{slice_index_or}
use Rattle.std.proofs.lemmas.Option.{slice_get-get_or}
use Rattle.office_base.specs.declared.person.ProgId.{ProgId}
use Rattle.seeks.specs.Seek.{seek_leaves}
use Rattle.seeks.specs.declared.seek.Seek.TheVariants.{Whole}
use Rattle.apply_engine.specs.Engine.{lists_in}
use Rattle.apply_engine.proofs.MadeLemmas.{leaves_next, list_at_row, one_more}
use Rattle.apply_engine.proofs.effective.effective.Goals as goal

pub push_left-requires-clause-within : goal.push_left-requires-clause-within
push_left-requires-clause-within c =
    let at = c.loop-at.at in
    let there = list_at_row c.args.choices.now at ∙ c.list_at.ensures in
    let sought = slice_get-get_or c.args.seeks.now at Whole (omega arith) in
    c.requires.seeks.within at _ _ there sought

pub push_left-requires-clause-below : goal.push_left-requires-clause-below
push_left-requires-clause-below c =
    let at = c.loop-at.at in
    let there = list_at_row c.args.choices.now at ∙ c.list_at.ensures in
    c.requires.below at _ there

pub loop-at-preserved : goal.loop-at-preserved
loop-at-preserved c =
    let at = c.loop-at.at in
    let there = list_at_row c.args.choices.now at ∙ c.list_at.ensures in
    let sought = slice_get-get_or c.args.seeks.now at Whole (omega arith) in
    let next = leaves_next c.args.matrix.now (lists_in c.args.choices.now) c.args.seeks.now at _ _ there sought in
    let left = c.deref.ensures.value ∙ (c.in_ok-push_left.ensures ∙ ap (λ (z : List ProgId). z ++ seek_leaves c.args.matrix.now (slice_index_or c.args.seeks.now at Whole) c.list_at.result.now) c.clear.ensures.items) in
    let made = c.in_ok-push.ensures ∙ ap (λ (z : List ProgId). c.loop-at.lists ++ z ∷ []) left in
    one_more _ _ _ _ _ _ made next c.loop-at.invariant
