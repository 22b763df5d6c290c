-- Codes as text.
use Rattle.std.specs.Prelude.{◌<◌, ℕ, length}
use Rattle.std.specs.Str.{IsAscii}
use Rattle.published_texts.specs.Texts.{code_in}
use Rattle.reasons.specs.declared.reason.WhyAnswer.{WhyAnswer}
use Rattle.reasons.specs.declared.reason.WhyAnswer.TheVariants.{Reason as ReasonIs, Better, NotSought}
use Rattle.seat_matrix.specs.Matrix.{SeatTable}

-- the code of each programme is all ASCII
abbrev pub ArePlainCodes : SeatTable → Type 0
ArePlainCodes table = (prog : ℕ) → prog < length table.programmes → IsAscii (code_in table prog)

-- the code of the programme that an answer names is all ASCII
abbrev pub HasPlainCode : SeatTable → WhyAnswer → Type 0
HasPlainCode table (ReasonIs reason) = Unit {0}
HasPlainCode table (Better held) = IsAscii (code_in table held.0)
HasPlainCode table NotSought = Unit {0}
