use Rattle.std.proofs.Common.{inr}
use Rattle.sqlite_wal.specs.Files.{image_at}
use Rattle.allocation_cli.proofs.Running.{err_wider, over_files}
use Rattle.allocation_cli.proofs.over_file.Goals as goal

pub returns-clause-runs : goal.returns-clause-runs
returns-clause-runs g c =
    over_files _ _ _ (image_at g.S.Start) c.args.words.now c.args.service.now _ c.in-Some.keeper c.answer_over-ended.result.1 c.in-Some.ensures.holds c.in-Some.ensures.records
    c.answer_over-ended.result.0 c.answer_over-ended.ensures.runs

pub returns-clause-unopened : goal.returns-clause-unopened
returns-clause-unopened g c = err_wider c.answer_over-ended.result.0 (λ what named. inr named) c.answer_over-ended.ensures.unbound
