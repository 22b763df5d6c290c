use Rattle.std.proofs.Common.{[], ◌∷◌, sym, ◌∙◌}
use Rattle.text_readers.proofs.PieceLemmas.{prefix-nothing}
use Rattle.text_readers.proofs.parts.begins_whole.Goals as goal

pub returns-in-Some-left_after : goal.returns-in-Some-left_after
returns-in-Some-left_after c =
    c.is_empty.ensures ∙ sym (prefix-nothing c.in-Some-left_after.rest.now) ∙ sym (c.in-Some-left_after.ensures.some.same []) ∙ sym (c.in-Some.ensures.some.same (10 ∷ []))
