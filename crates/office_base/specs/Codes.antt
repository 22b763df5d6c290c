-- How codes and tokens are spelled, and how they are kept in memory.
use Rattle.std.specs.Prelude.{◌≡◌, ◌≤◌, ◌++◌, ◌-◌, ℕ, Bool, ◌==◌, ◌&&◌, ◌||◌, nat_le, List, length, replicate}
use Rattle.std.specs.Char.{is_ascii_alphanumeric}
use Rattle.std.specs.List.{list_all}
use Rattle.office_base.specs.Limits.{shortest_code, longest_code, shortest_token, longest_token}

-- a letter A to Z or a to z, a digit, or a dash
abbrev pub is_code_byte : ℕ → Bool
is_code_byte byte = is_ascii_alphanumeric byte || byte == 45

-- the code of a programme or an institute: 1 to 16 letters, digits and dashes
abbrev pub is_code : List ℕ → Bool
is_code text = nat_le shortest_code (length text) && nat_le (length text) longest_code && list_all is_code_byte text

-- a token: 8 to 32 letters and digits
abbrev pub is_token : List ℕ → Bool
is_token text = nat_le shortest_token (length text) && nat_le (length text) longest_token && list_all is_ascii_alphanumeric text

-- bytes and then zeros, up to n in all
abbrev pub padded : ℕ → List ℕ → List ℕ
padded n bytes = bytes ++ replicate (n - length bytes) 0

-- Zeros follow the bytes in memory, so that equal bytes are equal in memory.
pub record IsPadded (n : ℕ) (all bytes : List ℕ) (used : ℕ) : Type 0 where
  pub within : used ≤ n
  pub same : all ≡ padded n bytes
  pub long : length bytes ≡ used
