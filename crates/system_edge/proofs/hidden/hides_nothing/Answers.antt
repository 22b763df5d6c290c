use Rattle.std.proofs.Common.{rules, arith, ◌≡◌, ◌≤◌, ℕ, true, List, length, sym, ◌∙◌, ap}
use Rattle.sqlite_wal.specs.Format.{be32, IsSigned}
use Rattle.sqlite_wal.specs.PageSize.{bytes_of}
use Rattle.sqlite_wal.specs.Recovery.{header}
use Rattle.sqlite_wal.proofs.FormatLemmas.{be32-part}
use Rattle.system_edge.proofs.HiddenLemmas.{nothing_if}
use Rattle.system_edge.proofs.hidden.hides_nothing.Goals as goal

pub returns-clause-nothing : goal.returns-clause-nothing
returns-clause-nothing g c clean =
    let log = g.D.Disk.seen c.args.log.now in
    let read = c.in_ok-head.ensures.same.seen ∙ c.len.ensures.seen in
    let taken_clean = c.in_ok-hides_commit.ensures.same.clean clean in
    let head_clean = c.in_ok-taken.ensures.same.clean taken_clean in
    let head : header log ≡ c.in_ok-head.head = rw (← c.len.ensures.seen) (c.in_ok-head.ensures.head head_clean) in
    let measured = c.in_ok-len.ensures.len (c.in_ok-head.ensures.same.clean head_clean) in
    let long : 32 ≤ length log = omega (arith, measured, c.if-branch-lt-HEAD_LEN.false) in
    let yes : c.is_signed.result ≡ true = search rules in
    let signed : IsSigned (header log) = rw head (c.is_signed.ensures.0 yes) in
    let size : bytes_of c.in-Some.size ≡ be32 log 8 =
    c.in-Some.ensures.value ∙ c.number_at.ensures ∙ ap (λ (b : List ℕ). be32 b 8) (sym head) ∙ be32-part log 0 32 8 (omega arith) in
    nothing_if (bytes_of c.in-Some.size) c.in_ok-taken.taken log c.in_ok-hides_commit.field-0 size long signed
    (rw (← read) (c.in_ok-taken.ensures.taken taken_clean))
    (rw (← read, ← c.in_ok-taken.ensures.same.seen) (c.in_ok-hides_commit.ensures.hides clean))
