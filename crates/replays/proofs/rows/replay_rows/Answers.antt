use Rattle.std.proofs.Common.{List, subst}
use Rattle.std.specs.Prelude.{map}
use Rattle.kept_rows.specs.declared.rows.AnswerRow.{AnswerRow}
use Rattle.kept_rows.specs.declared.rows.RaiseRow.{RaiseRow}
use Rattle.office_moves.specs.declared.moves.Act.TheVariants.{Answer, Raise}
use Rattle.replays.specs.Acts.{acts_in}
use Rattle.replays.specs.Counted.{Follow}
use Rattle.replays.proofs.Follows.{follow_rows}
use Rattle.replays.proofs.rows.replay_rows.Goals as goal

pub returns-clause-entries : goal.returns-clause-entries
returns-clause-entries c =
    follow_rows c.args.kept.now c.args.window c.args.book.now.entries c.replay_table.new.book.entries c.replay_table-2.new.book.entries
    (subst (λ (rows : List RaiseRow). Follow (acts_in c.args.window (map Raise rows)) c.args.book.now.entries c.replay_table.new.book.entries) c.as_slice.ensures c.in_ok-replay_table.ensures.entries)
    (subst (λ (rows : List AnswerRow). Follow (acts_in c.args.window (map Answer rows)) c.replay_table.new.book.entries c.replay_table-2.new.book.entries) c.as_slice-2.ensures c.in_ok-replay_table-2.ensures.entries)
