use Rattle.std.proofs.Common.{ap, refl, ◌∙◌, sym, arith, ◌++◌, ◌∷◌, []}
use Rattle.std.proofs.lemmas.List.{map-append}
use Rattle.std.proofs.lemmas.List.Elements.{All-push}
use Rattle.answer_table.proofs.TurnLemmas.{no_turns_more}
use Rattle.answer_table.specs.Turns.{choices_of, IsTurns}
use Rattle.answer_table.proofs.turns.AnswerTable.new.Goals as goal

pub slots-preserved : goal.slots-preserved
slots-preserved c = rw c.in_ok-push.ensures.items (
  All-push IsTurns c.slots.slots.items _ c.slots.invariant.0 (record { few = omega arith; room = refl }),
  map-append choices_of c.slots.slots.items _ ∙ (ap (λ xs. xs ++ [] ∷ []) c.slots.invariant.1 ∙ sym (no_turns_more c.slots.counter)),
)
