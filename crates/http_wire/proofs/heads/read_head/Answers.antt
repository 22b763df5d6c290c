use Rattle.std.proofs.Common.{◌≡◌, List, ℕ, true, sym, ◌∙◌, subst}
use Rattle.std.specs.Str.{is_utf8}
use Rattle.std.proofs.lemmas.Str.{is_utf8-from_IsUtf8}
use Rattle.http_wire.proofs.heads.read_head.Goals as goal

pub invariant_of-result : goal.invariant_of-result
invariant_of-result c =
    let found = rw c.in-Ok-Complete.field-0-is at c.in-Ok-Complete.ensures.complete in
    record { text = subst (λ (text : List ℕ). is_utf8 text ≡ true) (sym (c.of-in-Ok-Complete.ensures ∙ found.1.path)) (is_utf8-from_IsUtf8 found.0.target found.1.reads.0.target_text) }
