-- How long a message may be.
use Rattle.std.specs.Prelude.{ℕ}

-- bytes of a head
abbrev pub most_head_bytes : ℕ
most_head_bytes = 8192

-- bytes of a body
abbrev pub most_body_bytes : ℕ
most_body_bytes = 4096

-- bytes of a message
abbrev pub most_message_bytes : ℕ
most_message_bytes = 12288
