use Rattle.std.proofs.Common.{◌≡◌, ◌<◌, ◌∷◌, [], ℕ, false}
use Rattle.office_text.specs.Traits.{letter}
use Rattle.text_readers.specs.Parts.{is_prefix}
use Rattle.list_texts.proofs.list_pieces.begins_letter.Given as goal

abbrev pub invariant-loop-slot : goal.invariant-loop-slot
invariant-loop-slot l = (k : ℕ) → k < l.slot → is_prefix l.piece (letter k ∷ 10 ∷ []) ≡ false
