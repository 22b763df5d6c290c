use Rattle.std.proofs.Common.{◌∙◌, ℕ, List, ap, sym, take}
use Rattle.season_file.proofs.KeptLemmas.{text_gives}
use Rattle.season_file.proofs.season.Season.of_text.Goals as goal

pub with_text-requires-clause-given : goal.with_text-requires-clause-given
with_text-requires-clause-given c =
    text_gives c.args.requests c.as_slice.result.now c.in-Ok.given.content c.in-Ok.given.script c.shrink_to_fit.new.self c.in-Ok.ensures.value
    (c.shrink_to_fit.ensures ∙ c.truncate.ensures ∙ ap (λ (bytes : List ℕ). take c.in-Ok.given.end bytes) (sym c.as_slice.ensures) ∙ c.in-Ok.ensures.end)
