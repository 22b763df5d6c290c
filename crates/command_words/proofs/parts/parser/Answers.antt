use Rattle.std.proofs.Common.{rules, ap₂, codes, false, ◌≡◌, ◌∙◌}
use Rattle.std.proofs.lemmas.Result.{IfOk-weaker}
use Rattle.clap.specs.Words.{app_of, new_rule, rule_of, with_rule}
use Rattle.command_words.specs.Parts.{short_program}
use Rattle.command_words.proofs.parts.parser.Goals as goal

pub returns : goal.returns
returns c =
    let third_is : rule_of c.new-third.result ≡ new_rule (codes "third") = search rules in
    let fourth_is : rule_of c.new-fourth.result ≡ new_rule (codes "fourth") = search rules in
    let fifth_is : rule_of c.new-fifth.result ≡ new_rule (codes "fifth") = search rules in
    let fifth_local : c.new-fifth.result.global ≡ false = search rules in
    let named_is : app_of c.in_ok-named.named ≡ short_program = c.in_ok-named.ensures in
    let one = c.in_ok-arg.ensures.shape (search rules) ∙ ap₂ with_rule named_is third_is in
    let two = c.in_ok-arg-2.ensures.shape (search rules) ∙ ap₂ with_rule one fourth_is in
    IfOk-weaker c.arg-3.result _ _ (λ r added. added.shape fifth_local ∙ ap₂ with_rule two fifth_is) c.arg-3.ensures
