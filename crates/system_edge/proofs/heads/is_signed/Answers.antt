use Rattle.std.proofs.Common.{◌≡◌, ℕ, true, sym, ◌∙◌, ap, ap₂, rules}
use Rattle.sqlite_wal.specs.Format.{checksum, is_big}
use Rattle.sqlite_wal.proofs.FormatLemmas.{same_sums, part_front}
use Rattle.system_edge.proofs.heads.is_signed.Goals as goal

pub returns : goal.returns
returns c =
    let is_magic : c.has_magic_end.result ≡ true = search rules in
    let magic = c.has_magic_end.ensures.0 is_magic in
    let decides = same_sums _ _ _ c.eq.ensures in
    let ours = ap (checksum (is_big c.args.head.now) (0, 0)) (part_front c.args.head.now 24) ∙ sym c.checksum_of-sum.ensures in
    let stored = ap₂ (λ (p q : ℕ). let both : ℕ × ℕ = (p, q) in both) c.number_at.ensures c.number_at-2.ensures in (
      λ same. record {
        first = c.if-head-ne55.false;
        second = magic.second;
        third = magic.third;
        fourth = magic.fourth;
        sum = ours ∙ decides.0 same ∙ stored;
      },
      λ signed. decides.1 (sym ours ∙ signed.sum ∙ sym stored),
    )
