-- What an output holds and what it passed on, if the bytes of its writer are visible.
use Rattle.std.specs.Prelude.{◌≡◌, ◌≤◌, ℕ, true, List, [], Option, Result, IfOk, OnOk, length, take}
use Rattle.std.specs.Io.Buffered.{writer_buffer, writer_contents, writer_inner}
use Rattle.std.specs.Io.KnownBytes.{Keeps, Appends, append_known}
use Rattle.standard_streams.specs.declared.streams.StandardOutput.{StandardOutput}

-- what is written to
abbrev pub inner_writer : {W : Type 0} → StandardOutput W → W
inner_writer output = writer_inner output.writer

-- the bytes that are held, and not yet given on
abbrev pub held : {W : Type 0} → StandardOutput W → List ℕ
held output = writer_buffer output.writer

-- what the writer has, and then the bytes held
abbrev pub given_or_held : {W : Type 0} → (W → Option (List ℕ)) → StandardOutput W → Option (List ℕ)
given_or_held contents output = writer_contents contents output.writer

-- some bytes of the piece, from its first on and perhaps none, follow the known bytes
abbrev pub AppendsFront : Option (List ℕ) → Option (List ℕ) → List ℕ → Type 0
AppendsFront old new piece = (n : ℕ) × (n ≤ length piece) × Appends old new (take n piece)

-- the known bytes of all begin with those that are given, and some rest follows
abbrev pub AreFront : Option (List ℕ) → Option (List ℕ) → Type 0
AreFront given all = (rest : List ℕ) × Keeps all (append_known given rest)

-- The prefix that is reported follows what was given on and held, once.
-- If the output gives on at once, nothing is still held.
-- A failed write leaves a front of the piece held or given on.
pub record Outputs {W X : Type 0} (contents : W → Option (List ℕ)) (piece : List ℕ) (old new : StandardOutput W) (result : Result ℕ X) : Type 0 where
  pub bytes : IfOk result (λ n. Appends (given_or_held contents old) (given_or_held contents new) (take n piece))
  pub front : AppendsFront (given_or_held contents old) (given_or_held contents new) piece
  pub seen : OnOk result (old.at_once ≡ true → held new ≡ [])
  pub at_once : new.at_once ≡ old.at_once
