use Rattle.std.proofs.Common.{rules, arith, ◌≡◌, ◌+◌, suc, length, sym, ◌∙◌, ap}
use Rattle.std.proofs.lemmas.Bool.{false≢true}
use Rattle.sqlite_wal.specs.Format.{stored_sum}
use Rattle.sqlite_wal.specs.Recovery.{frame_at}
use Rattle.system_edge.proofs.HiddenLemmas.{next_at, is_read, counts_nothing, ends_if_checks, stored_in}
use Rattle.system_edge.proofs.hidden.ends_commit.Goals as goal

pub returns-then-number_at-clause-ends : goal.returns-then-number_at-clause-ends
returns-then-number_at-clause-ends g c clean =
    let log = g.D.Disk.seen c.args.log.now in
    let len : length c.read_at.new.buf ≡ 24 + c.args.page_size = search rules in
    let begins = next_at c.args.page_size c.args.last in
    let next : c.args.at + length c.args.frame.now ≡ frame_at c.args.page_size (suc c.args.last) = omega (arith, begins, c.requires.place.0, c.requires.frame) in
    let is = is_read c.args.page_size (suc c.args.last) _ log c.read_at.new.buf next (c.in_ok-read_at.ensures.read clean (omega arith)) len in (
      λ no. absurd (false≢true no),
      λ ends. absurd (counts_nothing c.args.page_size c.args.last log c.args.head.now c.read_at.new.buf is (λ same. c.if-number_at.true (c.number_at.ensures ∙ same)) ends),
    )

pub returns-clause-ends : goal.returns-clause-ends
returns-clause-ends g c clean =
    let log = g.D.Disk.seen c.args.log.now in
    let read = c.in_ok-before.ensures.same.clean clean in
    let first = c.read_at.ensures.clean read in
    let len : length c.read_at.new.buf ≡ 24 + c.args.page_size = search rules in
    let begins = next_at c.args.page_size c.args.last in
    let next : c.args.at + length c.args.frame.now ≡ frame_at c.args.page_size (suc c.args.last) = omega (arith, begins, c.requires.place.0, c.requires.frame) in
    let is = is_read c.args.page_size (suc c.args.last) _ log c.read_at.new.buf next (c.in_ok-read_at.ensures.read read (omega arith)) len in
    let sum = c.in_ok-before.ensures.sum clean ∙ ap (λ file. stored_sum file (c.args.at + 16)) c.read_at.ensures.seen ∙ stored_in c.args.page_size c.args.last c.args.at log c.requires.place.0 in
    let within = c.requires.within first in
    ends_if_checks c.args.page_size c.args.last log c.args.head.now c.read_at.new.buf is _ _ (c.requires.head first) (omega (arith, within, c.requires.place.0)) sum
    (sym c.number_at.ensures ∙ c.if-number_at.false) c.is_frame.ensures
