use Rattle.std.proofs.Common.{sym, ◌∙◌}
use Rattle.std.proofs.lemmas.Bool.{false≢true}
use Rattle.sqlite_wal.specs.Reads.{IsClean}
use Rattle.system_edge.proofs.HiddenLemmas.{hides_later}
use Rattle.system_edge.proofs.hidden.hides_commit.Goals as goal

pub returns-clause-hides : goal.returns-clause-hides
returns-clause-hides g c =
    let log = g.D.Disk.seen c.args.log.now in
    rw (← c.bytes-page_size.ensures.value)
    (hides_later (IsClean g.D.Disk c.has_later_count.new.log) c.bytes-page_size.result c.args.taken log c.has_later_count.result
    (λ clean revealed. false≢true (sym c.if-branch.false ∙ (c.in_ok-is_revealed.ensures.revealed (c.has_later_count.ensures.same.clean clean)).1 (rw c.len.ensures.seen revealed)))
    (rw (c.in_ok-is_revealed.ensures.same.seen, c.len.ensures.seen) at c.has_later_count.ensures.later))
