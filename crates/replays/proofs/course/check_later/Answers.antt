use Rattle.std.proofs.Common.{subst}
use Rattle.std.proofs.lemmas.Result.{err_from_is_err_and}
use Rattle.office_moves.specs.Facts.{IsSound, SeasonFacts}
use Rattle.replays.proofs.Windows.{later_fault, not_ahead, not_uncounted, replayed, uncounted_fault}
use Rattle.replays.proofs.course.check_later.Goals as goal

pub returns-in_err-replay_rows-clause-fault : goal.returns-in_err-replay_rows-clause-fault
returns-in_err-replay_rows-clause-fault c =
    let p = err_from_is_err_and c.from_residual.result c.from_residual.ensures.1 in
    rw (p.1, p.2) (later_fault c.args.book.now.season c.args.kept.now c.args.book.now.state c.in-Some.window _ c.requires.passes c.in-Some.ensures c.in_err-replay_rows.ensures.fault)

pub unreachable-requires : goal.unreachable-requires
unreachable-requires c =
    let sound = subst (λ (f : SeasonFacts). IsSound f) c.season.ensures c.says_what_is_sound.ensures in
    not_ahead c.args.book.now.season c.args.kept.now c.args.book.now.state c.replay_rows.new.book.state c.in-Some.window sound.seats c.requires.now c.in-Some.ensures c.in_ok-replay_rows.ensures.passed

pub returns-in_err-compare_round-clause-fault : goal.returns-in_err-compare_round-clause-fault
returns-in_err-compare_round-clause-fault c =
    let p = err_from_is_err_and c.from_residual-in_err-compare_round.result c.from_residual-in_err-compare_round.ensures.1 in
    rw (p.1, p.2) (uncounted_fault c.args.book.now.season c.args.kept.now c.args.book.now.state c.in-Some-later_round.round _ c.entries-entries.ensures.orderly c.requires.now c.requires.passes
    c.in_default.ensures c.in-Some-later_round.ensures c.in_err-compare_round.ensures.fault)

pub unreachable-requires-in-Some-later_round : goal.unreachable-requires-in-Some-later_round
unreachable-requires-in-Some-later_round c =
    not_uncounted c.args.book.now.season c.args.kept.now c.args.book.now.state c.in-Some-later_round.round c.entries-entries.ensures.orderly c.requires.now c.in-Some-later_round.ensures
    c.in_ok-compare_round.ensures.same

pub returns-clause-replayed : goal.returns-clause-replayed
returns-clause-replayed c =
    replayed c.args.book.now.season c.args.kept.now c.args.book.now.state c.entries-entries.ensures.orderly c.requires.now c.requires.passes c.in_default.ensures c.in_default-later_round.ensures
