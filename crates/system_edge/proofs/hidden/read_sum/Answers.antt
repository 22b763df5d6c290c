use Rattle.std.proofs.Common.{rules, arith, ◌≡◌, ◌+◌, List, ℕ, length, sym, ◌∙◌, ap, ap₂}
use Rattle.sqlite_wal.specs.Format.{part, be32}
use Rattle.sqlite_wal.proofs.FormatLemmas.{pair, be32-part}
use Rattle.sqlite_wal.proofs.PartLemmas.{held_is_part}
use Rattle.system_edge.proofs.hidden.read_sum.Goals as goal

pub returns-clause-sum : goal.returns-clause-sum
returns-clause-sum g c clean =
    let log = g.D.Disk.seen c.args.log.now in
    let at = c.args.at in
    let len : length c.read_at.new.buf ≡ 8 = search rules in
    let read : part log at 8 ≡ c.read_at.new.buf = held_is_part log _ at 8 (c.in_ok-read_at.ensures.read clean (omega arith)) len in
    let zero : at + 0 ≡ at = omega arith in
    ap₂ pair
    (c.number_at.ensures ∙ ap (λ (b : List ℕ). be32 b 0) (sym read) ∙ be32-part log at 8 0 (omega arith) ∙ ap (be32 log) zero)
    (c.number_at-2.ensures ∙ ap (λ (b : List ℕ). be32 b 4) (sym read) ∙ be32-part log at 8 4 (omega arith))
