-- How many messages a connection may have.
use Rattle.std.specs.Prelude.{ℕ}

abbrev pub most_messages : ℕ
most_messages = 100
