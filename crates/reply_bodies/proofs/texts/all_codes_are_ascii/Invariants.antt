use Rattle.std.proofs.Common.{ℕ, ◌<◌}
use Rattle.std.specs.Str.{IsAscii}
use Rattle.published_texts.specs.Texts.{code_in}
use Rattle.reply_bodies.proofs.texts.all_codes_are_ascii.Given as goal

abbrev pub invariant-loop-number : goal.invariant-loop-number
invariant-loop-number l = (prog : ℕ) → prog < l.number → IsAscii (code_in l.matrix prog)
