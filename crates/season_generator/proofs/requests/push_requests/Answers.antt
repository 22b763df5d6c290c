use Rattle.std.proofs.Common.{◌≡◌, ◌++◌, ◌∙◌, ◌+◌, ◌*◌, ℕ, ap, arith, sym}
use Rattle.season_generator.specs.Bundle.{lines, requests_text, window_rows}
use Rattle.season_generator.specs.Draws.{state_after}
use Rattle.season_generator.proofs.DrawLemmas.{after_no_times, after_times}
use Rattle.season_generator.proofs.RowLemmas.{lines_draw_on, lines_none, put_three, put_two}
use Rattle.season_generator.proofs.requests.push_requests.Goals as goal

pub loop-before-init : goal.loop-before-init
loop-before-init c = record {
  written = lines_none _ _;
  state = sym (after_no_times _ _);
}

pub loop-before-preserved : goal.loop-before-preserved
unfolding window_rows
loop-before-preserved c = record {
  written = lines_draw_on c.loop-before.before (λ k s. window_rows c.args.n s (k + 1)) (λ k. state_after (c.args.n * k) c.args.draws.state) _ _ _ _
      c.loop-before.invariant.written c.loop-before.invariant.state (put_two _ _ _ _ _ c.in_ok-push_answers.ensures.rows c.in_ok-push_cut-2.ensures);
  state = c.in_ok-push_answers.ensures.state ∙ ap (state_after c.args.n) c.loop-before.invariant.state ∙ sym (after_times c.args.n c.loop-before.before c.args.draws.state);
}

pub returns : goal.returns
unfolding requests_text
returns c =
    let all : c.loop-before.before ≡ 6 = omega arith in
    let out = c.push_cut.new.out in
    put_three _ _ _ _ _ _ _ c.in_ok-extend_from_slice.ensures.ok c.in_ok-push_cut.ensures
    (c.loop-before.invariant.written ∙ ap (λ (k : ℕ). out ++ lines k (λ before. window_rows c.args.n (state_after (c.args.n * before) c.args.draws.state) (before + 1))) all)
