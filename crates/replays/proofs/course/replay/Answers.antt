use Rattle.std.proofs.Common.{[], subst, sym, ◌∙◌}
use Rattle.std.proofs.lemmas.Result.{err_from_is_err_and}
use Rattle.office_moves.specs.Facts.{IsSound, SeasonFacts}
use Rattle.office_moves.specs.State.{State}
use Rattle.replays.specs.Acts.{kept_acts}
use Rattle.replays.specs.Faults.{IsReplayFault}
use Rattle.replays.specs.Replay.{IsReplayed}
use Rattle.replays.proofs.Numbers.{follow_counted}
use Rattle.replays.proofs.Passed.{stand_for}
use Rattle.replays.proofs.Windows.{stops}
use Rattle.replays.proofs.course.replay.Goals as goal

pub returns-in_err-replay_windows-clause-fault : goal.returns-in_err-replay_windows-clause-fault
returns-in_err-replay_windows-clause-fault c =
    let p = err_from_is_err_and c.from_residual.result c.from_residual.ensures.1 in
    rw (p.1, p.2) (stops _ c.args.kept.now _ c.in_err-replay_windows.ensures.fault)

pub returns-in_err-check_later-clause-fault : goal.returns-in_err-check_later-clause-fault
returns-in_err-check_later-clause-fault c =
    let p = err_from_is_err_and c.from_residual-in_err-check_later.result c.from_residual-in_err-check_later.ensures.1 in
    rw (p.1, p.2) (subst (λ (f : SeasonFacts). IsReplayFault f c.args.kept.now c.in_err-check_later.field-0.0) c.replay_windows.ensures.season c.in_err-check_later.ensures.fault)

pub returns-clause-entries : goal.returns-clause-entries
returns-clause-entries c =
    c.in_ok-check_later.ensures.entries ∙ c.in_ok-replay_windows.ensures.entries [] c.requires.entries

pub returns-clause-counted : goal.returns-clause-counted
returns-clause-counted c = follow_counted (kept_acts c.args.kept.now) _ (returns-clause-entries c)

pub returns-clause-stands : goal.returns-clause-stands
returns-clause-stands c = λ text.
    let there = subst (λ (s : State). IsReplayed c.replay_windows.new.book.season c.args.kept.now s) (sym c.in_ok-check_later.ensures.state) c.in_ok-check_later.ensures.replayed in
    stand_for c.args.book.now.season c.args.kept.now _ (subst (λ (f : SeasonFacts). IsSound f) c.season.ensures c.says_what_is_sound.ensures).seats text
    (subst (λ (f : SeasonFacts). IsReplayed f c.args.kept.now c.check_later.new.book.state) c.replay_windows.ensures.season there)
