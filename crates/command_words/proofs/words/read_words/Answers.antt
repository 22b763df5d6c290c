use Rattle.std.proofs.Common.{Err, ◌≡◌, ◌∙◌, ℕ, List, ap, map, subst}
use Rattle.std.specs.Prelude.{IfOk}
use Rattle.command_words.specs.Words.{Spell, SpellNothing}
use Rattle.command_words.specs.declared.words.WordsFault.TheVariants.{Usage}
use Rattle.command_words.proofs.Spelling.{flags_spell_nothing}
use Rattle.command_words.proofs.words.read_words.Goals as goal

pub returns-in-Ok-clause-command : goal.returns-in-Ok-clause-command
returns-in-Ok-clause-command c =
    let same : c.as_slice.result.now ≡ c.in-Ok.line.items = cc in
    subst (λ (ws : List (List ℕ)). IfOk c.read_line.result (Spell ws)) (ap (map (λ word. word.now)) same ∙ c.in-Ok.ensures.line) c.read_line.ensures.command

pub returns-in-Ok-clause-usage : goal.returns-in-Ok-clause-usage
returns-in-Ok-clause-usage c usage =
    let same : c.as_slice.result.now ≡ c.in-Ok.line.items = cc in
    subst SpellNothing (ap (map (λ word. word.now)) same ∙ c.in-Ok.ensures.line) (c.read_line.ensures.usage usage)

pub returns-in-Err-clause-usage : goal.returns-in-Err-clause-usage
returns-in-Err-clause-usage c usage =
    let told : c.in-Err.fault ≡ Usage = cc usage in
    flags_spell_nothing c.numbers_are_inverse.ensures c.args.words.now (c.in-Err.ensures.usage (ap Err told))
