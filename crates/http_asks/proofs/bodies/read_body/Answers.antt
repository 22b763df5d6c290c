use Rattle.std.proofs.Common.{◌≡◌, ◌∙◌, Bool, true, false, cond, Option, None, IsTrue, refl, sym}
use Rattle.std.proofs.lemmas.Bool.{cond-true}
use Rattle.std.proofs.lemmas.Str.{IsUtf8-from_is_utf8, is_utf8-from_IsUtf8}
use Rattle.std.specs.Str.{is_utf8}
use Rattle.serde_json.specs.Data.{Data}
use Rattle.serde_json.specs.Read.{read}
use Rattle.http_asks.proofs.bodies.read_body.Goals as goal

-- if no text is read, nothing is
none-read : (is : Bool) (value : Option Data) → (is ≡ true → value ≡ None) → None ≡ cond is value None
none-read true value none = sym (none refl)
none-read false value none = refl

-- no test that came out false holds
not-true : IsTrue false → ⊥
not-true holds = cc

pub returns-in-Ok-clause-value : goal.returns-in-Ok-clause-value
returns-in-Ok-clause-value c =
    let read = c.in-Ok.ensures.ok in
    sym (cond-true (is_utf8 c.args.body.now) _ None (is_utf8-from_IsUtf8 _ read.0) ∙ read.1)

pub returns-in-Err-2-clause-value : goal.returns-in-Err-2-clause-value
returns-in-Err-2-clause-value c =
    none-read (is_utf8 c.args.body.now) (read c.args.body.now) (λ is. c.in-Err.ensures.err (λ memory. not-true (c.if-is_memory.ensures.1 memory)) (IsUtf8-from_is_utf8 _ is))
