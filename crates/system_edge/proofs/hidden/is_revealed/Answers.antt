use Rattle.std.proofs.Common.{rules, arith, ◌≡◌, ◌+◌, length, sym, ◌∙◌, ap}
use Rattle.std.proofs.lemmas.Bool.{false≢true}
use Rattle.sqlite_wal.specs.Format.{page_number}
use Rattle.system_edge.proofs.HiddenLemmas.{is_read, revealed_if_salts}
use Rattle.system_edge.proofs.hidden.is_revealed.Goals.{then-page-eq0-via-then-page-eq0, then-page-eq0-via-else-page-eq0+then-page}
use Rattle.system_edge.proofs.hidden.is_revealed.Goals as goal

pub returns-then-page-eq0-clause-revealed : goal.returns-then-page-eq0-clause-revealed
returns-then-page-eq0-clause-revealed g c clean =
    let log = g.D.Disk.seen c.args.log.now in
    let len : length c.read_at.new.buf ≡ 24 + c.args.page_size = search rules in
    let is = is_read c.args.page_size c.args.taken _ log c.read_at.new.buf c.frame_offset-at.ensures.at (c.in_ok-read_at.ensures.read clean (omega arith)) len in
    let page = ap page_number is ∙ sym c.number_at-page.ensures in (
      λ no. absurd (false≢true no),
      λ revealed. elim (c.then-page-eq0.branch) [
        | then-page-eq0-via-then-page-eq0 w ↦ absurd (revealed.some (page ∙ w.if-page-eq0.true))
        | then-page-eq0-via-else-page-eq0+then-page w ↦ absurd (revealed.plain (page ∙ w.if-page.true))
      ],
    )

pub returns-clause-revealed : goal.returns-clause-revealed
returns-clause-revealed g c clean =
    let log = g.D.Disk.seen c.args.log.now in
    let len : length c.read_at.new.buf ≡ 24 + c.args.page_size = search rules in
    let holds = c.in_ok-read_at.ensures.read clean (omega arith) in
    let is = is_read c.args.page_size c.args.taken _ log c.read_at.new.buf c.frame_offset-at.ensures.at holds len in
    let within = holds.within in
    revealed_if_salts c.args.page_size c.args.taken log c.args.head.now c.read_at.new.buf _ is (c.requires.head (c.read_at.ensures.clean clean))
    (omega (arith, within, len, c.frame_offset-at.ensures.at))
    (λ none. c.if-page-eq0.false (c.number_at-page.ensures ∙ none)) (λ count. c.if-page.false (c.number_at-page.ensures ∙ count)) c.has_salts.ensures
