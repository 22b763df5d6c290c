use Rattle.std.proofs.Common.{rules, ◌≡◌, true, sym, ◌∙◌, ap, ap₂}
use Rattle.std.proofs.lemmas.List.{take_rest}
use Rattle.sqlite_wal.specs.Format.{checksum, is_big}
use Rattle.sqlite_wal.proofs.FormatLemmas.{pair, same_sums, part_front}
use Rattle.system_edge.proofs.hidden.is_frame.Goals as goal

pub returns : goal.returns
returns c =
    let salts : c.has_salts.result ≡ true = search rules in
    let decides = same_sums _ _ _ c.eq.ensures in
    let big = is_big c.args.head.now in
    let front = ap (checksum big c.args.before) (part_front c.args.frame.now 8) ∙ sym c.checksum_of-front.ensures in
    let ours = ap₂ (checksum big) front (sym (take_rest c.args.frame.now 24)) ∙ sym c.checksum_of.ensures in
    let stored = ap₂ pair c.number_at-2.ensures c.number_at-3.ensures in (
      λ same. record {
        salt = c.has_salts.ensures.0 salts;
        page = λ none. c.if-number_at-eq0.false (c.number_at.ensures ∙ none);
        sum = ours ∙ decides.0 same ∙ stored;
      },
      λ passes. decides.1 (sym ours ∙ passes.sum ∙ sym stored),
    )
