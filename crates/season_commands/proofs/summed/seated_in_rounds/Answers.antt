use Rattle.std.proofs.Common.{◌∷◌, [], ◌++◌, ℕ, arith, ap, map, sym, ◌∙◌}
use Rattle.std.proofs.lemmas.List.{take_all}
use Rattle.rounds.specs.Round.{seated}
use Rattle.rounds.specs.declared.round.Round.{Round}
use Rattle.season_commands.proofs.GeneratedEnds.{is_there, mapped_on, round_after}
use Rattle.season_commands.proofs.summed.seated_in_rounds.Goals as goal

pub unreachable-unreachable : goal.unreachable-unreachable
unreachable-unreachable g c =
    let within = c.loop-before-test.true in
    let end = c.published-before-end.ensures in
    is_there c.args.office.now.state.rounds c.loop-before.before (omega (arith, within, end)) (sym (c.in_default.ensures ∙ round_after c.args.office.now.state.rounds c.loop-before.before))

pub loop-before-preserved : goal.loop-before-preserved
loop-before-preserved g c =
    mapped_on (λ (round : Round). seated round.seats) c.args.office.now.state.rounds c.loop-before.before c.in-Some.round.now c.loop-before.counts c.push.new.self (sym (c.in-Some.ensures ∙ round_after c.args.office.now.state.rounds c.loop-before.before)) c.loop-before.invariant
    (c.in_ok-push.ensures.ok ∙ ap (λ (n : ℕ). c.loop-before.counts ++ n ∷ []) c.seated.ensures)

pub returns : goal.returns
returns g c =
    let over = c.loop-before-test.false in
    let end = c.published-before-end.ensures in
    c.loop-before.invariant ∙ ap (map (λ (round : Round). seated round.seats)) (take_all c.loop-before.before c.args.office.now.state.rounds (omega (arith, over, end)))
