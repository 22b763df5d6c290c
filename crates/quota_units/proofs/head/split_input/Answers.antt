use Rattle.std.proofs.Common.{◌≡◌, ◌++◌, ◌∙◌, List, ℕ, Ok, Err, length, sym, ap, length-append, arith, true}
use Rattle.std.specs.Prelude.{bytes_eq, codes}
use Rattle.season_file.specs.Bundle.{title}
use Rattle.quota_units.proofs.HeadLemmas.{after-le, input-made, line-fault, skip-le}
use Rattle.quota_units.proofs.head.split_input.Goals as goal

pub line_of_last-requires-clause-within : goal.line_of_last-requires-clause-within
line_of_last-requires-clause-within c =
    omega (
      arith,
      c.in-Err.ensures.0,
      ap (λ (l : List ℕ). length l) c.skip_empty.ensures,
      skip-le c.split_at.result.0.now,
      c.split_at.ensures.front_len,
      c.split_at.ensures.back_len,
      c.before_bundle.ensures.within,
      ap (λ (l : List ℕ). length l) c.after_line-rest.ensures,
      after-le c.args.text.now,
    )

pub returns-in-Ok : goal.returns-in-Ok
returns-in-Ok c =
    let titled : bytes_eq (title c.args.text.now) (codes "office units 1") ≡ true = sym c.begins_input.ensures ∙ c.if-not-begins_input.false in
    input-made c.args.text.now c.after_line-rest.result.now c.split_at.result.0.now c.split_at.result.1.now c.skip_empty.result.now c.before_bundle.result (Ok _) titled c.after_line-rest.ensures
    c.before_bundle.ensures.value c.split_at.ensures.front c.split_at.ensures.back c.skip_empty.ensures c.in-Ok.ensures

pub returns-in-Err : goal.returns-in-Err
returns-in-Err c =
    let titled : bytes_eq (title c.args.text.now) (codes "office units 1") ≡ true = sym c.begins_input.ensures ∙ c.if-not-begins_input.false in
    let rest : List ℕ = c.in-Err.left.now ++ c.split_at.result.1.now in
    input-made c.args.text.now c.after_line-rest.result.now c.split_at.result.0.now c.split_at.result.1.now c.skip_empty.result.now c.before_bundle.result (Err rest) titled c.after_line-rest.ensures
    c.before_bundle.ensures.value c.split_at.ensures.front c.split_at.ensures.back c.skip_empty.ensures c.in-Err.ensures.1
    ∙ line-fault c.args.text.now c.line_of_last.result rest (c.line_of_last.ensures rest (length-append c.in-Err.left.now c.split_at.result.1.now))
