use Rattle.std.proofs.Common.{◌≡◌, ◌∙◌, ℕ, ap, arith, refl, subst, ◌+◌}
use Rattle.replays.specs.Acts.{acts_before}
use Rattle.replays.specs.Counted.{Follow}
use Rattle.replays.proofs.Follows.{follow_last, follow_window}
use Rattle.replays.proofs.Numbers.{follow_none}
use Rattle.replays.proofs.Passed.{rows_lead}
use Rattle.replays.proofs.Windows.{one_more}
use Rattle.replays.proofs.course.replay_windows.Goals as goal

pub loop-window-init : goal.loop-window-init
loop-window-init c = record {
  passed = c.requires;
  now = ap (λ s. s.now) c.requires;
  season = refl;
  entries = follow_none _;
}

pub loop-window-preserved : goal.loop-window-preserved
loop-window-preserved c = record {
  passed = one_more _ _ _ _ _ _ c.loop-window.invariant.season c.loop-window.invariant.passed c.in_ok-replay_window.ensures.passes;
  now = c.in_ok-replay_window.ensures.now ∙ ap (λ n. n + 1) c.loop-window.invariant.now;
  season = c.replay_window.ensures.season ∙ c.loop-window.invariant.season;
  entries = follow_window c.args.kept.now c.loop-window.window _ _ _ c.loop-window.invariant.entries c.in_ok-replay_window.ensures.entries;
}

pub returns-clause-now : goal.returns-clause-now
returns-clause-now c =
    let same = (rows_lead _ _ _ _ _ c.in_ok-replay_rows.ensures.passed).now in
    let now = c.loop-window.invariant.now in
    let end = c.loop-window-test.false in
    let most = c.loop-window.auto.window-end in
    omega (arith, same, now, end, most)

-- after the last turn of the loop its window is the number of the counted cuts
pub returns-clause-entries : goal.returns-clause-entries
returns-clause-entries c =
    let end = c.loop-window-test.false in
    let most = c.loop-window.auto.window-end in
    let same : c.loop-window.window ≡ c.args.kept.now.cuts = omega (arith, end, most) in
    follow_last c.args.kept.now _ _ _ (subst (λ (n : ℕ). Follow (acts_before c.args.kept.now n) c.args.book.now.entries c.loop-window.book.entries) same c.loop-window.invariant.entries) c.in_ok-replay_rows.ensures.entries
