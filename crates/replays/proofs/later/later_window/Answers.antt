use Rattle.std.proofs.Common.{◌∙◌, List, None, Some, ap, subst, sym}
use Rattle.kept_rows.specs.declared.rows.AnswerRow.{AnswerRow}
use Rattle.kept_rows.specs.declared.rows.RaiseRow.{RaiseRow}
use Rattle.replays.specs.Later.{IsLaterWindow, is_later, least_by}
use Rattle.replays.proofs.Least.{answer_later, no_answer_later, next_answer, next_raise}
use Rattle.replays.proofs.later.later_window.Goals as goal

pub returns-in-Some : goal.returns-in-Some
returns-in-Some c =
    let raises = c.later_row-raise.ensures ∙ ap (λ (rows : List RaiseRow). least_by (λ row. is_later c.args.kept.now.cuts row.window) (λ row. row.window) None rows) c.as_slice.ensures in
    let answers = c.in-Some.ensures ∙ ap (λ (rows : List AnswerRow). least_by (λ row. is_later c.args.kept.now.cuts row.window) (λ row. row.window) None rows) c.as_slice-2.ensures in
    subst (λ n. IsLaterWindow c.args.kept.now (Some n)) (sym c.lesser.ensures) (answer_later c.args.kept.now _ _ (next_raise c.args.kept.now _ raises) (next_answer c.args.kept.now _ answers))

pub returns-in-None : goal.returns-in-None
returns-in-None c =
    let raises = c.later_row-raise.ensures ∙ ap (λ (rows : List RaiseRow). least_by (λ row. is_later c.args.kept.now.cuts row.window) (λ row. row.window) None rows) c.as_slice.ensures in
    let answers = c.in-None.ensures ∙ ap (λ (rows : List AnswerRow). least_by (λ row. is_later c.args.kept.now.cuts row.window) (λ row. row.window) None rows) c.as_slice-2.ensures in
    no_answer_later c.args.kept.now _ (next_raise c.args.kept.now _ raises) (next_answer c.args.kept.now _ answers)
