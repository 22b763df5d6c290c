use Rattle.std.proofs.Common.{rules, arith, ◌≡◌, ◌+◌, ◌*◌, ◌<◌, length, sym, ◌∙◌, subst, add-one, inl, inr}
use Rattle.std.proofs.lemmas.Bool.{cases_eq, cases_lt, false≢true}
use Rattle.sqlite_wal.specs.Recovery.{frame_at}
use Rattle.system_edge.specs.Hidden.{EndsCommit}
use Rattle.system_edge.proofs.HiddenLemmas.{next_at, frames_reach, ends_within}
use Rattle.system_edge.proofs.hidden.has_later_count.Goals as goal

pub loop-at-init : goal.loop-at-init
loop-at-init g c =
    let reach = frames_reach c.args.page_size c.args.taken in
    (search rules, c.frame_offset-at.ensures.at, omega (arith, reach, c.frame_offset-at.ensures.at), omega arith, c.requires.frame, λ _ i low high. absurd (omega (arith, low, high)))

pub loop-at-preserved : goal.loop-at-preserved
loop-at-preserved g c =
    let inv = c.loop-at.invariant in
    let last = c.loop-at.last in
    let log = g.D.Disk.seen c.args.log.now in
    let next = next_at c.args.page_size last in
    let len : length c.ends_commit.new.frame ≡ 24 + c.args.page_size = search rules in (
      search rules,
      rw (add-one last) (omega (arith, next, inv.1, len)),
      omega (arith, inv.2, len),
      omega (arith, inv.3),
      len,
      λ clean i low high ends. elim (cases_eq i last) [
        | inl same ↦ false≢true (sym c.if-branch.false ∙ (c.in_ok-ends_commit.ensures.ends clean).1 (rw inv.0.seen (subst (EndsCommit c.args.page_size log) same ends)))
        | inr other ↦ inv.5 (c.in_ok-ends_commit.ensures.same.clean clean) i low (omega (arith, high, other)) ends
      ],
    )

pub returns-else-frame-len-clause-later : goal.returns-else-frame-len-clause-later
returns-else-frame-len-clause-later g c clean =
    let inv = c.loop-at.invariant in
    let log = g.D.Disk.seen c.args.log.now in
    let len = c.requires.len (inv.0.clean clean) in
    let short : length log < frame_at c.args.page_size c.loop-at.last + 2 * (24 + c.args.page_size) = omega (arith, len, inv.1, inv.4, c.loop-at-test.true, c.if-frame-len.false) in (
      λ no. absurd (false≢true no),
      λ found. elim (cases_lt found.0 c.loop-at.last) [
        | inl early ↦ absurd (inv.5 clean found.0 found.1 early found.2)
        | inr late ↦ absurd (ends_within c.args.page_size c.loop-at.last found.0 log late short found.2)
      ],
    )

pub returns-after-loop-at-clause-later : goal.returns-after-loop-at-clause-later
returns-after-loop-at-clause-later g c clean =
    let inv = c.loop-at.invariant in
    let log = g.D.Disk.seen c.args.log.now in
    let len = c.requires.len (inv.0.clean clean) in
    let short : length log < frame_at c.args.page_size c.loop-at.last + 2 * (24 + c.args.page_size) = omega (arith, len, inv.1, inv.4, c.loop-at-test.false) in (
      λ no. absurd (false≢true no),
      λ found. elim (cases_lt found.0 c.loop-at.last) [
        | inl early ↦ absurd (inv.5 clean found.0 found.1 early found.2)
        | inr late ↦ absurd (ends_within c.args.page_size c.loop-at.last found.0 log late short found.2)
      ],
    )
