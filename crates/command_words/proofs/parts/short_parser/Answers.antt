use Rattle.std.proofs.Common.{rules, ap, ap₂, codes, true, false, ◌≡◌, ◌∙◌}
use Rattle.std.proofs.lemmas.Result.{IfOk-weaker}
use Rattle.clap.specs.Simple.{Shape, app_of_fields, on_top}
use Rattle.clap.specs.Words.{app_of, new_app, new_rule, rule_of, with_rule}
use Rattle.command_words.proofs.parts.short_parser.Goals as goal

abbrev unnamed : Shape → Shape
unnamed s = record s { no_binary_name = true }

pub returns : goal.returns
returns c =
    let command_is : rule_of c.required-command.result ≡ record (new_rule (codes "command")) { required = true } = search rules in
    let first_is : rule_of c.new-first.result ≡ new_rule (codes "first") = search rules in
    let second_is : rule_of c.new-second.result ≡ new_rule (codes "second") = search rules in
    let second_local : c.new-second.result.global ≡ false = search rules in
    let named_is : app_of c.no_binary_name-named.result ≡ on_top unnamed (new_app (codes "allocation_cli")) =
    ap app_of_fields c.no_binary_name-named.ensures ∙ ap (on_top unnamed) c.new-2.ensures.app in
    let one = c.in_ok-arg.ensures.shape (search rules) ∙ ap₂ with_rule named_is command_is in
    let two = c.in_ok-arg-2.ensures.shape (search rules) ∙ ap₂ with_rule one first_is in
    IfOk-weaker c.arg-3.result _ _ (λ r added. added.shape second_local ∙ ap₂ with_rule two second_is) c.arg-3.ensures
