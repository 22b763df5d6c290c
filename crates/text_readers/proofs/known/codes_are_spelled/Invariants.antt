use Rattle.std.proofs.Common.{◌≡◌, ◌<◌, ℕ, true}
use Rattle.office_base.specs.Codes.{is_code}
use Rattle.published_texts.specs.Texts.{code_in}
use Rattle.text_readers.proofs.known.codes_are_spelled.Given as goal

abbrev pub invariant-loop-prog : goal.invariant-loop-prog
invariant-loop-prog l = (k : ℕ) → k < l.prog → is_code (code_in l.matrix k) ≡ true
