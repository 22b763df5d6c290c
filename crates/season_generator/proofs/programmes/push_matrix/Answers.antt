use Rattle.std.proofs.Common.{◌≡◌, ◌++◌, ◌+◌, ◌/◌, ℕ, ap, arith, ◌∙◌}
use Rattle.season_generator.specs.Bundle.{lines, matrix_text, programme_rows}
use Rattle.season_generator.proofs.RowLemmas.{lines_go_on, lines_none, put_two}
use Rattle.season_generator.proofs.programmes.push_matrix.Goals as goal

pub loop-programme-init : goal.loop-programme-init
loop-programme-init c = lines_none _ _

pub loop-programme-preserved : goal.loop-programme-preserved
loop-programme-preserved c = lines_go_on _ _ _ _ _ c.loop-programme.invariant c.in_ok-push_programme.ensures

pub returns : goal.returns
unfolding matrix_text
returns c =
    let all : c.loop-programme.programme ≡ 100 = omega arith in
    let out = c.extend_from_slice.new.self in
    put_two _ _ _ _ _ c.in_ok-extend_from_slice.ensures.ok
    (c.loop-programme.invariant ∙ ap (λ (k : ℕ). out ++ lines k (programme_rows (c.args.n / 800 + 1))) all)
