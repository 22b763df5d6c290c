-- The row with this number, of this writer, the nth of the writer's.
use Rattle.std.specs.Prelude.{ℕ}
use Rattle.serve_trials.specs.declared.book.Row.{Row}

abbrev pub row : ℕ → ℕ → ℕ → Row
row number by nth = record { number = number; by = by; nth = nth }
