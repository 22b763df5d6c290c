use Rattle.std.proofs.Common.{◌∙◌, ◌+◌, ap, sym}
use Rattle.season_generator.specs.Bundle.{answer_row, choice_name}
use Rattle.season_generator.specs.Draws.{state_after, drawn, next}
use Rattle.season_generator.proofs.DrawLemmas.{after_more, after_none}
use Rattle.season_generator.proofs.RowLemmas.{lines_draw_on, lines_none}
use Rattle.season_generator.proofs.requests.push_answers.Goals as goal

pub loop-candidate-init : goal.loop-candidate-init
loop-candidate-init c = record {
  written = lines_none _ _;
  state = sym (after_none _);
}

pub loop-candidate-preserved : goal.loop-candidate-preserved
loop-candidate-preserved c =
    let drawn_name = c.choice_name.ensures ∙ ap choice_name c.draw-number.ensures.number in
    record {
      written = lines_draw_on c.loop-candidate.candidate (λ k s. answer_row c.args.window (k + 1) (choice_name (drawn 20 s))) (λ k. state_after k c.args.draws.now.state) _ _ _ _
          c.loop-candidate.invariant.written c.loop-candidate.invariant.state (rw drawn_name at c.in_ok-push_answer.ensures);
      state = c.draw-number.ensures.state ∙ ap next c.loop-candidate.invariant.state ∙ sym (after_more c.loop-candidate.candidate c.args.draws.now.state);
    }
