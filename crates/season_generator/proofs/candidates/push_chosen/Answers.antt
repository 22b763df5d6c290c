use Rattle.std.proofs.Common.{◌≡◌, ◌++◌, ◌∙◌, ◌+◌, ◌*◌, ◌%◌, ℕ, ap, arith, codes}
use Rattle.std.proofs.lemmas.Result.{on_ok_weaker}
use Rattle.season_generator.specs.Bundle.{choices_row, lines, programme_code}
use Rattle.season_generator.proofs.RowLemmas.{lines_go_on, lines_none, put_three, put_two}
use Rattle.season_generator.proofs.candidates.push_chosen.Goals as goal

pub loop-place-init : goal.loop-place-init
loop-place-init c = lines_none _ _

pub loop-place-preserved : goal.loop-place-preserved
loop-place-preserved c = lines_go_on _ _ _ _ _ c.loop-place.invariant (put_two _ _ _ _ _ c.in_ok-extend_from_slice.ensures.ok c.in_ok-push_code.ensures)

pub returns : goal.returns
unfolding choices_row
returns c =
    let all : c.loop-place.place ≡ 40 = omega arith in
    let out = c.push_number.new.out in
    let programme = λ (place : ℕ). codes "," ++ programme_code ((c.args.profile.first + place * c.args.profile.stride) % 100) in
    let chosen = c.loop-place.invariant ∙ ap (λ (k : ℕ). out ++ lines k programme) all in
    on_ok_weaker c.extend_from_slice-2.result
    (λ e. put_three _ _ (lines 40 programme) (codes "\n") _ _ _ c.in_ok-push_number.ensures.ok chosen e)
    c.extend_from_slice-2.ensures.ok
