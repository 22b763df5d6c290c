use Rattle.std.proofs.Common.{◌≡◌, ◌++◌, ◌∙◌, ◌+◌, ◌*◌, ℕ, ap, arith, length, sym}
use Rattle.std.specs.Prelude.{slice_index}
use Rattle.season_generator.specs.Bundle.{lines, profile_at, profile_of, register_row, register_text}
use Rattle.season_generator.specs.Draws.{state_after}
use Rattle.season_generator.proofs.DrawLemmas.{after_none, after_times}
use Rattle.season_generator.proofs.RowLemmas.{lines_draw_on, lines_none, put_two}
use Rattle.season_generator.proofs.candidates.push_register.Goals as goal

pub loop-candidate-init : goal.loop-candidate-init
loop-candidate-init c = record {
  written = lines_none _ _;
  state = sym (after_none _);
}

pub loop-candidate-preserved : goal.loop-candidate-preserved
loop-candidate-preserved c = record {
  written = lines_draw_on c.loop-candidate.candidate (λ k s. register_row (k + 1) (profile_at s) (slice_index c.args.first.now k) (slice_index c.args.second.now k)) (λ k. state_after (6 * k) c.args.draws.state) _ _ _ _
      c.loop-candidate.invariant.written c.loop-candidate.invariant.state (rw c.profile-profile.ensures.profile at c.in_ok-push_registered.ensures);
  state = c.profile-profile.ensures.state ∙ ap (state_after 6) c.loop-candidate.invariant.state ∙ sym (after_times 6 c.loop-candidate.candidate c.args.draws.state);
}

pub returns : goal.returns
unfolding register_text
returns c =
    let all : c.loop-candidate.candidate ≡ length c.args.first.now = omega arith in
    let out = c.extend_from_slice.new.self in
    let row = λ (candidate : ℕ). register_row (candidate + 1) (profile_of c.args.draws.state candidate) (slice_index c.args.first.now candidate) (slice_index c.args.second.now candidate) in
    put_two _ _ _ _ _ c.in_ok-extend_from_slice.ensures.ok
    (c.loop-candidate.invariant.written ∙ ap (λ (k : ℕ). out ++ lines k row) all)
