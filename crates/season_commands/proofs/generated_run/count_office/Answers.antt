use Rattle.std.proofs.Common.{rules}
use Rattle.season_commands.proofs.GeneratedEnds.{counted_ends, summary_held, summary_told}
use Rattle.season_commands.proofs.generated_run.count_office.Goals as goal

pub returns-clause-written : goal.returns-clause-written
returns-clause-written g c =
    let s = c.counted_text-summary.ensures in
    rw c.into_keeper.ensures.same (counted_ends c.args.n c.args.seed c.args.office.season c.args.script.now _ c.counted_text-summary.result _ _ _ c.write_summary-status.result s.summed s.keeper s.memory c.write_summary-status.ensures.told)

pub returns-clause-no_read_fault : goal.returns-clause-no_read_fault
returns-clause-no_read_fault g c = (summary_told c.counted_text-summary.result _ _ _ c.write_summary-status.result c.write_summary-status.ensures.told).no_read

pub returns-clause-blamed : goal.returns-clause-blamed
returns-clause-blamed g c =
    let told = summary_told c.counted_text-summary.result _ _ _ c.write_summary-status.result c.write_summary-status.ensures.told in
    let b = c.counted_text-summary.ensures.blamed in
    rw c.into_keeper.ensures.same (record {
      write_fault = told.write;
      keeper_fault = λ is. b.cause (told.keeper is);
      sink_steady = search rules;
      keeper_count = b.count;
      keeper_steady = summary_held c.counted_text-summary.result _ _ _ _ c.write_summary-status.result c.write_summary-status.ensures.told b.steady;
    })

pub returns-clause-complete : goal.returns-clause-complete
returns-clause-complete g c =
    let told = summary_told c.counted_text-summary.result _ _ _ c.write_summary-status.result c.write_summary-status.ensures.told in
    rw c.into_keeper.ensures.same (λ wrote kept. told.complete wrote (λ failed. kept (c.counted_text-summary.ensures.blamed.cause failed)))
