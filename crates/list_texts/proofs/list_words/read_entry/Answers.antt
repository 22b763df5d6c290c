use Rattle.std.proofs.Common.{◌≢◌, ◌<◌, ◌^◌, ◌∷◌, ◌++◌, [], ℕ, Option, IfSome, sym, ap, ◌∙◌, arith}
use Rattle.std.specs.Fmt.{decimal}
use Rattle.step_lines.specs.Lines.{slot_letter}
use Rattle.text_readers.proofs.PartsLemmas.{if-none}
use Rattle.list_texts.proofs.NumberLines.{numbers-one}
use Rattle.list_texts.proofs.list_words.read_entry.Goals as goal

pub returns-in_err-id-clause-none : goal.returns-in_err-id-clause-none
returns-in_err-id-clause-none c =
    if-none c.from_residual.result ((id : ℕ) (slot : Option ℕ) → id < 2 ^ 32 → IfSome slot (λ t. t < 6) → c.args.line.now ≢ decimal id ++ 32 ∷ slot_letter slot ∷ []) (λ id slot small known same.
    c.in_err-id.ensures.none id (slot_letter slot ∷ []) (omega (arith, small)) same)

pub returns-in_err-slot-clause-none : goal.returns-in_err-slot-clause-none
returns-in_err-slot-clause-none c =
    if-none c.from_residual-in_err-slot.result ((id : ℕ) (slot : Option ℕ) → id < 2 ^ 32 → IfSome slot (λ t. t < 6) → c.args.line.now ≢ decimal id ++ 32 ∷ slot_letter slot ∷ []) (λ id slot small known same.
    c.in_err-slot.ensures.none slot known (numbers-one [] c.in_ok-id.id id c.in_ok-id.slot.now (slot_letter slot ∷ []) (omega (arith, c.in_ok-id.ensures.small)) small (sym c.in_ok-id.ensures.some ∙ same)).1)

pub returns-clause-some : goal.returns-clause-some
returns-clause-some c = c.in_ok-id.ensures.some ∙ ap (λ z. decimal c.in_ok-id.id ++ 32 ∷ z) c.in_ok-slot.ensures.some
