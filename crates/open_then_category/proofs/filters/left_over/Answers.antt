use Rattle.std.proofs.Common.{◌≡◌, ◌+◌, ◌∙◌, ◌∷◌, ap, drop, subst, sym}
use Rattle.std.proofs.lemmas.List.{drop_more}
use Rattle.office_base.specs.StepChoice.{AreRanked}
use Rattle.programme_lists.specs.Programme.{without}
use Rattle.programme_lists.proofs.Walk.{ranked_without}
use Rattle.open_then_category.specs.Stepwise.{AreTaken, left_of}
use Rattle.open_then_category.proofs.filters.left_over.Goals as goal

pub loop-list-preserved : goal.loop-list-preserved
loop-list-preserved c =
    let i = c.loop-list.list-index in
    let below = c.loop-list-test.true in
    let lists = c.args.lists.now in
    let next = drop_more lists i c.list-item.result below ∙ ap (λ one. one ∷ drop (i + 1) lists) (sym c.list-item.is) in
    let left : c.in_ok-left.left ≡ without c.loop-list.left c.list-item.result.admitted = cc (c.in_ok-left.ensures, c.as_slice.ensures, c.as_slice-in-loop-list.ensures) in
    let ranked = c.loop-list.invariant.ranked in
    let taken = subst (AreTaken c.loop-list.left) next c.loop-list.invariant.taken in
    record {
      whole = ap (λ people. left_of people (drop (i + 1) lists)) left ∙ sym (ap (left_of c.loop-list.left) next) ∙ c.loop-list.invariant.whole;
      taken = subst (λ people. AreTaken people (drop (i + 1) lists)) (sym left) taken.1;
      ranked = (ranked.0, subst (AreRanked ranked.0) (sym left) (ranked_without ranked.0 c.loop-list.left c.list-item.result.admitted ranked.1));
    }
