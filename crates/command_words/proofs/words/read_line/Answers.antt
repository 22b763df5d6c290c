use Rattle.std.proofs.Common.{Err, ◌≡◌, ◌∙◌, inl, inr, ap, arith, length, map}
use Rattle.std.proofs.lemmas.List.{length-map}
use Rattle.command_words.specs.declared.words.WordsFault.TheVariants.{Usage}
use Rattle.command_words.proofs.Spelling.{many_spell_nothing, named_plain}
use Rattle.command_words.proofs.words.read_line.Goals as goal

pub returns-in-Err-clause-usage : goal.returns-in-Err-clause-usage
returns-in-Err-clause-usage c usage =
    let told : c.in-Err.fault ≡ Usage = cc usage in
    let same : length (map (λ word. word.now) c.args.line.now) ≡ length c.args.line.now = length-map c.args.line.now (λ word. word.now) in
    many_spell_nothing (map (λ word. word.now) c.args.line.now) (elim (c.in-Err.ensures.usage (ap Err told)) [ inl none ↦ inl (same ∙ none) | inr more ↦ inr (omega (arith, same, more)) ])

pub command_of-requires : goal.command_of-requires
command_of-requires c = named_plain (map (λ word. word.now) c.args.line.now) c.in-Ok.parts c.requires c.in-Ok.ensures.parts

pub returns-in-Ok-clause-usage : goal.returns-in-Ok-clause-usage
returns-in-Ok-clause-usage c usage = c.command_of.ensures.none usage (map (λ word. word.now) c.args.line.now) c.in-Ok.ensures.parts
