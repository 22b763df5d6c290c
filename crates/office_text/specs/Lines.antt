-- How bytes are cut into lines, and a line into fields.
use Rattle.std.specs.Prelude.{ℕ, ◌==◌, ◌&&◌, List, [], ◌∷◌, map, if◌then◌else◌}

-- the byte before the first piece
abbrev pub onto_first : ℕ → List (List ℕ) → List (List ℕ)
onto_first byte [] = (byte ∷ []) ∷ []
onto_first byte (piece ∷ pieces) = (byte ∷ piece) ∷ pieces

-- the pieces of bytes, cut at each separator: one more than there are separators
abbrev pub split_at_each : ℕ → List ℕ → List (List ℕ)
split_at_each separator [] = [] ∷ []
split_at_each separator (byte ∷ bytes) = if byte == separator then [] ∷ split_at_each separator bytes else onto_first byte (split_at_each separator bytes)

-- the fields of a line, cut at its commas
abbrev pub fields_of : List ℕ → List (List ℕ)
fields_of line = split_at_each 44 line

-- a byte, unless it is this one and the last
abbrev pub unless_last : ℕ → ℕ → List ℕ → List ℕ
unless_last other byte [] = if byte == other then [] else byte ∷ []
unless_last other byte (next ∷ bytes) = byte ∷ next ∷ bytes

-- the bytes of a line without one CR at its end
abbrev pub drop_cr : List ℕ → List ℕ
drop_cr [] = []
drop_cr (byte ∷ []) = unless_last 13 byte []
drop_cr (byte ∷ next ∷ bytes) = byte ∷ drop_cr (next ∷ bytes)

-- the bytes of a line without the commas at its end
abbrev pub trimmed : List ℕ → List ℕ
trimmed [] = []
trimmed (byte ∷ line) = unless_last 44 byte (trimmed line)

-- the pieces without the last one, where that one is empty
abbrev pub without_empty_last : List (List ℕ) → List (List ℕ)
without_empty_last [] = []
without_empty_last ([] ∷ []) = []
without_empty_last ((byte ∷ piece) ∷ []) = (byte ∷ piece) ∷ []
without_empty_last (piece ∷ next ∷ pieces) = piece ∷ without_empty_last (next ∷ pieces)

-- The lines of bytes that no mark begins. They end with LF or CR LF. What follows the last LF is a line too, unless
-- it is empty. A CR at the end of a line is no part of it.
abbrev pub lines_of : List ℕ → List (List ℕ)
lines_of bytes = without_empty_last (map drop_cr (split_at_each 10 bytes))

-- the bytes after a byte order mark, or all where none begins them
abbrev pub skip_mark : List ℕ → List ℕ
skip_mark [] = []
skip_mark (a ∷ []) = a ∷ []
skip_mark (a ∷ b ∷ []) = a ∷ b ∷ []
skip_mark (a ∷ b ∷ c ∷ bytes) = if a == 239 && b == 187 && c == 191 then bytes else a ∷ b ∷ c ∷ bytes

-- the lines of a text, which may begin with a byte order mark
abbrev pub text_lines : List ℕ → List (List ℕ)
text_lines bytes = lines_of (skip_mark bytes)
