-- Where the head of a message ends.
use Rattle.std.specs.Prelude.{ℕ, ◌+◌, ◌==◌, Bool, true, false, List, [], ◌∷◌, length, Option, None, Some, option_map, if◌then◌else◌}
use Rattle.office_text.specs.Lines.{split_at_each}

-- the pieces without the last one
abbrev pub without_last : List (List ℕ) → List (List ℕ)
without_last [] = []
without_last (piece ∷ []) = []
without_last (piece ∷ next ∷ pieces) = piece ∷ without_last (next ∷ pieces)

-- the lines that an LF ended, without that LF
abbrev pub closed_lines : List ℕ → List (List ℕ)
closed_lines bytes = without_last (split_at_each 10 bytes)

-- nothing, or a CR alone
abbrev pub is_empty_line : List ℕ → Bool
is_empty_line [] = true
is_empty_line (byte ∷ []) = byte == 13
is_empty_line (byte ∷ next ∷ line) = false

-- a line before other lines, where they are there
abbrev pub onto_lines : List ℕ → Option (List (List ℕ)) → Option (List (List ℕ))
onto_lines line lines = option_map (λ more. line ∷ more) lines

-- the lines up to the first empty one, with it; None where there is none
abbrev pub to_empty : List (List ℕ) → Option (List (List ℕ))
to_empty [] = None
to_empty (line ∷ lines) = if is_empty_line line then Some (line ∷ []) else onto_lines line (to_empty lines)

-- the lines of a head: the empty lines that come first, and then all up to the next empty one, with it
abbrev pub head_lines : List (List ℕ) → Option (List (List ℕ))
head_lines [] = None
head_lines (line ∷ lines) = onto_lines line (if is_empty_line line then head_lines lines else to_empty lines)

-- how many bytes lines have with their LFs
abbrev pub bytes_of : List (List ℕ) → ℕ
bytes_of [] = 0
bytes_of (line ∷ lines) = length line + 1 + bytes_of lines

-- how many bytes the head takes that begins these bytes; None where none has ended
abbrev pub head_len : List ℕ → Option ℕ
head_len bytes = option_map bytes_of (head_lines (closed_lines bytes))
