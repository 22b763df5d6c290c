use Rattle.std.proofs.Common.{◌≡◌, ◌++◌, ◌∙◌, ◌+◌, ◌*◌, ℕ, ap, arith, sym}
use Rattle.season_generator.specs.Bundle.{choices_row, choices_text, lines, profile_at, profile_of}
use Rattle.season_generator.specs.Draws.{state_after}
use Rattle.season_generator.proofs.DrawLemmas.{after_none, after_times}
use Rattle.season_generator.proofs.RowLemmas.{lines_draw_on, lines_none, put_two}
use Rattle.season_generator.proofs.candidates.push_choices.Goals as goal

pub loop-candidate-init : goal.loop-candidate-init
loop-candidate-init c = record {
  written = lines_none _ _;
  state = sym (after_none _);
}

pub loop-candidate-preserved : goal.loop-candidate-preserved
loop-candidate-preserved c = record {
  written = lines_draw_on c.loop-candidate.candidate (λ k s. choices_row (k + 1) (profile_at s)) (λ k. state_after (6 * k) c.args.draws.now.state) _ _ _ _
      c.loop-candidate.invariant.written c.loop-candidate.invariant.state (rw c.profile-profile.ensures.profile at c.in_ok-push_chosen.ensures);
  state = c.profile-profile.ensures.state ∙ ap (state_after 6) c.loop-candidate.invariant.state ∙ sym (after_times 6 c.loop-candidate.candidate c.args.draws.now.state);
}

pub returns-clause-rows : goal.returns-clause-rows
unfolding choices_text
returns-clause-rows c =
    let all : c.loop-candidate.candidate ≡ c.args.n = omega arith in
    let out = c.extend_from_slice.new.self in
    let row = λ (candidate : ℕ). choices_row (candidate + 1) (profile_of c.args.draws.now.state candidate) in
    put_two _ _ _ _ _ c.in_ok-extend_from_slice.ensures.ok
    (c.loop-candidate.invariant.written ∙ ap (λ (k : ℕ). out ++ lines k row) all)
