use Rattle.std.proofs.Common.{◌∙◌, sym}
use Rattle.std.proofs.lemmas.Result.{err_from_is_err_and}
use Rattle.replays.proofs.Follows.{follow_cut}
use Rattle.replays.proofs.Passed.{rows_lead}
use Rattle.replays.proofs.Windows.{cut_fault, seats_fault, stray_row, window_done, window_now}
use Rattle.replays.proofs.course.replay_window.Goals as goal

pub returns-clause-passes : goal.returns-clause-passes
returns-clause-passes c =
    window_done _ _ _ _ _ _ _ _ c.replay_rows.ensures.season (c.replay_cut.ensures.season ∙ c.replay_rows.ensures.season) c.requires.cut c.in_ok-replay_rows.ensures.passed c.in_ok-replay_cut.ensures.passes
    c.in_ok-compare_round.ensures.same

pub returns-clause-now : goal.returns-clause-now
returns-clause-now c = window_now _ _ _ _ _ _ _ c.replay_rows.ensures.season c.in_ok-replay_rows.ensures.passed c.in_ok-replay_cut.ensures.passes

pub returns-clause-entries : goal.returns-clause-entries
returns-clause-entries c =
    follow_cut c.args.kept.now c.args.window _ _ _ _ c.requires.cut ((rows_lead _ _ _ _ _ c.in_ok-replay_rows.ensures.passed).now ∙ sym c.requires.opened) c.in_ok-replay_rows.ensures.entries
    c.in_ok-replay_cut.ensures.entries

pub returns-in_err-replay_rows-clause-fault : goal.returns-in_err-replay_rows-clause-fault
returns-in_err-replay_rows-clause-fault c =
    let p = err_from_is_err_and c.from_residual.result c.from_residual.ensures.1 in
    rw (p.1, p.2) (stray_row c.args.book.now.season c.args.kept.now c.args.window c.args.book.now.state _ c.in_err-replay_rows.ensures.fault)

pub returns-in_err-replay_cut-clause-fault : goal.returns-in_err-replay_cut-clause-fault
returns-in_err-replay_cut-clause-fault c =
    let p = err_from_is_err_and c.from_residual-in_err-replay_cut.result c.from_residual-in_err-replay_cut.ensures.1 in
    rw (p.1, p.2) (cut_fault _ _ _ _ _ _ _ c.replay_rows.ensures.season c.requires.cut c.requires.opened c.in_ok-replay_rows.ensures.passed c.in_err-replay_cut.ensures.fault)

pub returns-in_err-compare_round-clause-fault : goal.returns-in_err-compare_round-clause-fault
returns-in_err-compare_round-clause-fault c =
    let p = err_from_is_err_and c.from_residual-in_err-compare_round.result c.from_residual-in_err-compare_round.ensures.1 in
    rw (p.1, p.2) (seats_fault _ _ _ _ _ _ _ _ _ c.replay_rows.ensures.season (c.replay_cut.ensures.season ∙ c.replay_rows.ensures.season) c.requires.cut c.in_ok-replay_rows.ensures.passed
    c.in_ok-replay_cut.ensures.passes c.in_err-compare_round.ensures.fault)
