use Rattle.std.proofs.Common.{rules, arith, ◌≡◌, length}
use Rattle.sqlite_wal.proofs.PartLemmas.{held_is_part}
use Rattle.system_edge.proofs.heads.read_head.Goals as goal

pub returns-clause-head : goal.returns-clause-head
returns-clause-head g c clean =
    let len : length c.read_at.new.buf ≡ 32 = search rules in
    held_is_part (g.D.Disk.seen c.args.log.now) _ 0 32 (c.in_ok-read_at.ensures.read clean (omega arith)) len
