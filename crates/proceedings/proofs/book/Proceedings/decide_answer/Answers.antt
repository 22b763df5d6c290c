use Rattle.std.proofs.Common.{◌≡◌, Some, ap, sym, subst, ◌∙◌}
use Rattle.rank_lists.specs.Register.{row_of}
use Rattle.office_moves.specs.Judge.{judge_answer}
use Rattle.office_moves.proofs.Decisions.{answer_keeps}
use Rattle.proceedings.specs.Changes.{IsAt}
use Rattle.proceedings.specs.Proceeding.{Proceeding}
use Rattle.proceedings.proofs.book.Proceedings.decide_answer.Goals as goal

pub returns-in-Some : goal.returns-in-Some
returns-in-Some c =
    let P = IsAt c.args.self.now.season c.in-Some.at in
    let here = subst (λ (p : Proceeding). row_of c.args.row.cand.0 p.season.people ≡ Some c.in-Some.at) c.self.view_is (sym c.in-Some.ensures.row) in (
      c.judge_answer.ensures ∙ ap (λ looks. judge_answer looks c.args.by c.args.row) c.answer_facts-looks.ensures,
      subst P (sym c.judge_answer.ensures) (answer_keeps P (λ r. tt) c.answer_facts-looks.result c.args.by c.args.row tt here),
    )
