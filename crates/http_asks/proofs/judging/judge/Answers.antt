use Rattle.std.proofs.Common.{◌≡◌, ◌∙◌, ℕ, Bool, true, false, not, List, Option, Some, refl, ap, rules, sym}
use Rattle.std.specs.Prelude.{bytes_eq}
use Rattle.std.proofs.lemmas.Bool.{cond-false}
use Rattle.std.proofs.lemmas.Str.{IsUtf8-from_is_utf8}
use Rattle.http_wire.specs.Messages.{Message}
use Rattle.http_wire.specs.Methods.{method_name}
use Rattle.http_wire.specs.Told.{told_message}
use Rattle.http_wire.specs.declared.methods.Method.{Method}
use Rattle.http_asks.specs.Pages.{method_of, page_of}
use Rattle.http_asks.specs.Verdicts.{has_method, refuses, verdict_at, verdict_of}
use Rattle.http_asks.specs.declared.pages.Page.{Page}
use Rattle.http_asks.proofs.judging.judge.Goals as goal

-- a test whose denial is true fails
denied : (is : Bool) → not is ≡ true → is ≡ false
denied true e = cc
denied false e = refl

-- a message with another method than its page has
other_method : (message : Message) (page : Page) (name : List ℕ) → page_of message.target ≡ Some page → name ≡ method_name (method_of page) → not (bytes_eq message.method name) ≡ true
    → verdict_of message ≡ refuses 405 (Some (method_name (method_of page)))
other_method message page name is named other =
    ap (λ (o : Option Page). verdict_at o message) is
    ∙ cond-false (has_method page message) _ _ (denied _ (ap (λ (text : List ℕ). not (bytes_eq message.method text)) (sym named) ∙ other))

pub unreachable-requires : goal.unreachable-requires
unreachable-requires c = c.in_default.ensures.cases.0 (IsUtf8-from_is_utf8 _ c.args.message.now.text)

pub returns-then-ne-clause-exact : goal.returns-then-ne-clause-exact
returns-then-ne-clause-exact c =
    let target : c.in-Ok.target.now ≡ c.args.message.now.target.now = search rules in
    let is = ap page_of (sym target) ∙ sym c.page_of.ensures ∙ c.in-Some.is in
    let named = c.name.ensures.name ∙ ap method_name c.method-method.ensures in
    let verdict = other_method (told_message c.args.message.now) c.in-Some.page c.name.result.now is named (sym c.ne.ensures ∙ c.if-ne.true) in
    ap (λ (method : Method). refuses 405 (Some (method_name method))) c.method-method.ensures ∙ sym verdict
