use Rattle.std.proofs.Common.{Err, refl, ap, ◌∙◌}
use Rattle.std.proofs.lemmas.Result.{err_from_is_err_and}
use Rattle.season_commands.specs.Steps.{moment_of}
use Rattle.season_commands.proofs.Running.{IsLeft, accepts_at_fault, begins, ends_at_fault, goes, next_at}
use Rattle.season_commands.proofs.script.answer_all.Goals as goal

pub requests-init : goal.requests-init
requests-init g c = record {
  running = begins c.args.office.now.season c.args.script.now (moment_of g.P.Keeper.seen c.args.office.now (g.K.Sink.written c.args.sink.now))
      c.requires.history c.check_order.ensures.word c.requires.stands;
  keeper = refl;
  sink = refl;
  told_before = λ told. told;
}

pub requests-preserved : goal.requests-preserved
requests-preserved g c =
    let next = next_at c.args.script.now c.requests.request-index c.request-item.result c.requests-test.true c.request-item.is in
    let ends = c.in_ok-answer_one.ensures in
    let left : IsLeft c.requests.office.season c.answer_one.new.office.season c.answer_one.new.office.entries c.answer_one.new.office.state (g.P.Keeper.seen c.answer_one.new.office.keeper).tables = record {
      same = ends.continues.season;
      history = ends.continues.history;
      word = ends.orderly.word;
      stands = ends.continues.stands;
    } in
    record {
      running = goes _ _ _ _ _ _ _ _ _ c.requests.invariant.running next ends.done left;
      keeper = ends.blamed.0.steady (λ e. cc) ∙ c.requests.invariant.keeper;
      sink = ends.blamed.1.steady (λ e. cc) ∙ c.requests.invariant.sink;
      told_before = λ told. c.requests.invariant.told_before (ends.continues.told_before told);
    }

pub returns-in_err-answer_one-clause-ended : goal.returns-in_err-answer_one-clause-ended
returns-in_err-answer_one-clause-ended g c =
    let next = next_at c.args.script.now c.requests.request-index c.request-item.result c.requests-test.true c.request-item.is in
    let ends = c.in_err-answer_one.ensures in
    let left : IsLeft c.requests.office.season c.answer_one.new.office.season c.answer_one.new.office.entries c.answer_one.new.office.state (g.P.Keeper.seen c.answer_one.new.office.keeper).tables = record {
      same = ends.continues.season;
      history = ends.continues.history;
      word = ends.orderly.word;
      stands = ends.continues.stands;
    } in
    let p = err_from_is_err_and c.from_residual.result c.from_residual.ensures.1 in
    rw (p.1, p.2) (ends_at_fault _ _ _ _ _ _ _ _ _ c.in_err-answer_one.field-0.0 c.requests.invariant.running next
    (λ e. ends.keeper (ap Err e)) (λ e. ends.memory (ap Err e)) (λ e. ends.write (ap Err e)) left)

pub returns-in_err-answer_one-clause-entries : goal.returns-in_err-answer_one-clause-entries
returns-in_err-answer_one-clause-entries g c =
    let next = next_at c.args.script.now c.requests.request-index c.request-item.result c.requests-test.true c.request-item.is in
    let ends = c.in_err-answer_one.ensures in
    accepts_at_fault _ _ _ _ _ _ _ _ c.in_err-answer_one.field-0.0 c.requests.invariant.running next
    (λ e. ends.keeper (ap Err e)) (λ e. ends.memory (ap Err e)) (λ e. ends.write (ap Err e))
