use Rattle.std.proofs.Common.{◌≡◌, ◌∙◌, inl, inr, ap, arith, length, map, subst, sym, List, []}
use Rattle.std.proofs.lemmas.List.{length-map}
use Rattle.clap.specs.Faults.{fault_of, is_simple_and_free}
use Rattle.clap.specs.Kinds.{IsAmong, Kinds}
use Rattle.clap.specs.Simple.{is_simple, matches_of}
use Rattle.clap.specs.Walk.{Text}
use Rattle.clap.specs.Words.{App, app_of, found_of, rows_of}
use Rattle.command_words.specs.Parts.{program}
use Rattle.command_words.specs.declared.words.WordsFault.TheVariants.{OutOfMemory, Usage}
use Rattle.command_words.proofs.Divided.{as_rows, divides, is_free_program, is_simple_program}
use Rattle.command_words.proofs.parts.divided.Goals as goal

pub returns-in-Ok-clause-rows : goal.returns-in-Ok-clause-rows
returns-in-Ok-clause-rows c =
    let words : List Text = map (λ word. word.now) c.args.line.now in
    let parser_is : app_of c.in_ok-parser.parser ≡ program = c.in_ok-parser.ensures in
    let faultless : fault_of program words ≡ [] = ap (λ (a : App). fault_of a words) (sym parser_is) ∙ c.in-Ok.ensures.kinds (ap is_simple_and_free parser_is ∙ is_free_program) in
    let rows = (c.in-Ok.ensures.matches (ap is_simple parser_is ∙ is_simple_program)).0 ∙ ap (λ (a : App). matches_of a words) parser_is in
    as_rows words (matches_of program words) (rows_of (found_of c.in-Ok.matches)) rows ((divides words c.requires).0 faultless)

pub returns-in-Err-clause-usage : goal.returns-in-Err-clause-usage
returns-in-Err-clause-usage c usage =
    let words : List Text = map (λ word. word.now) c.args.line.now in
    let parser_is : app_of c.in_ok-parser.parser ≡ program = c.in_ok-parser.ensures in
    let has = c.in-Err.ensures.kinds (ap is_simple_and_free parser_is ∙ is_free_program) in
    let told : c.fault_of.result ≡ Usage = cc usage in
    let many = (divides words c.requires).1 (λ none. elim has [
      | inl memory ↦ let wrong : Usage ≡ OutOfMemory = sym told ∙ c.fault_of.ensures.1 memory in cc wrong
      | inr among ↦ subst (λ (kinds : Kinds). IsAmong c.in-Err.error.kind kinds) (ap (λ (a : App). fault_of a words) parser_is ∙ none) among
    ]) in
    let same : length words ≡ length c.args.line.now = length-map c.args.line.now (λ word. word.now) in
    elim many [ inl none ↦ inl (sym same ∙ none) | inr more ↦ inr (omega (arith, more, same)) ]
