use Rattle.std.proofs.Common.{◌≡◌, ◌<◌, ◌++◌, ◌∷◌, [], ℕ, false}
use Rattle.published_texts.specs.Texts.{code_in}
use Rattle.text_readers.specs.Parts.{is_prefix}
use Rattle.list_texts.proofs.list_pieces.begins_list_code.Given as goal

abbrev pub invariant-loop-prog : goal.invariant-loop-prog
invariant-loop-prog l = (k : ℕ) → k < l.prog → is_prefix l.piece (code_in l.matrix k ++ 10 ∷ []) ≡ false
