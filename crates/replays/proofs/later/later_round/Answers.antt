use Rattle.std.proofs.Common.{◌∙◌, List, None, ap}
use Rattle.kept_rows.specs.declared.rows.AllotRow.{AllotRow}
use Rattle.replays.specs.Later.{is_uncounted, least_by}
use Rattle.replays.proofs.Least.{later_round}
use Rattle.replays.proofs.later.later_round.Goals as goal

pub returns : goal.returns
returns c =
    later_round c.args.kept.now _ (c.uncounted_round.ensures ∙ ap (λ (rows : List AllotRow). least_by (λ row. is_uncounted c.args.kept.now.cuts row.round) (λ row. row.round) None rows) c.as_slice.ensures)
