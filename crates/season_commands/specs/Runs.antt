-- Requests that are answered one after another, each reply written before the next request is handled.
use Rattle.std.specs.Prelude.{◌≡◌, ◌<◌, ◌+◌, ◌⊎◌, ℕ, List, [], ◌∷◌, ◌++◌, Some, Result, Ok, Err, length, take, slice_get}
use Rattle.office_asks.specs.declared.ask.Request.{Request}
use Rattle.kept_rows.specs.Tables.{Tables}
use Rattle.office_moves.specs.Facts.{SeasonFacts}
use Rattle.office_moves.specs.State.{State}
use Rattle.office_moves.specs.Decided.{decided}
use Rattle.office_moves.specs.Moves.{IsMove}
use Rattle.office_moves.specs.History.{IsHistory, grown, newly}
use Rattle.office_moves.specs.Promise.{KeepsItsWord}
use Rattle.office_moves.specs.Stands.{Stand}
use Rattle.office_moves.specs.declared.moves.Entry.{Entry}
use Rattle.office_moves.specs.declared.moves.Reply.{Reply}
use Rattle.proceedings.specs.Proceeding.{last_of}
use Rattle.shown_replies.specs.Shown.{reply_bytes}
use Rattle.season_commands.specs.declared.fault.RunFault.{RunFault}
use Rattle.season_commands.specs.declared.fault.RunFault.TheVariants.{KeeperFault, OutOfMemory, WriteFault}

-- ---- a run

-- requests are answered from a state with this output, and leave this state
abbrev pub Answers : SeasonFacts → State → List Request → List ℕ → State → Type 0
Answers facts old [] output new = (output ≡ []) × (new ≡ old)
Answers facts old (request ∷ requests) output new = (reply : Reply) × (mid : State) × (rest : List ℕ) × IsMove facts old request reply mid
    × (output ≡ reply_bytes facts mid reply ++ rest) × Answers facts mid requests rest new

-- the entries after requests: each one that was newly accepted is put at the end, under the number after the last one
abbrev pub Accepts : SeasonFacts → State → List Entry → List Request → State → List Entry → Type 0
Accepts facts old held [] new kept = (new ≡ old) × (kept ≡ held)
Accepts facts old held (request ∷ requests) new kept = (reply : Reply) × (mid : State) × IsMove facts old request reply mid
    × Accepts facts mid (grown held (last_of held + 1) (newly old.now (decided facts old request))) requests new kept

-- Requests are answered, with this output.
-- A history leads to the state, in which the office keeps its word, and the tables represent it.
pub record AfterSome (facts : SeasonFacts) (start : State) (requests : List Request) (output : List ℕ) (state : State) (tables : Tables) : Type 0 where
  pub answers : Answers facts start requests output state
  pub history : (entries : List Entry) × IsHistory facts entries state
  pub promise : KeepsItsWord facts state
  pub stands : Stand facts state tables

-- ---- where a run ends: with this output, in this state, over these tables; after all requests by `AfterSome`

-- before the next request: the first j are answered, and it is not
abbrev pub EndsBefore : SeasonFacts → State → List Request → List ℕ → State → Tables → Type 0
EndsBefore facts start script output state tables = (j : ℕ) × (j < length script) × AfterSome facts start (take j script) output state tables

-- Within a reply: one request more than the first j is answered, and of its reply n bytes are written.
pub record EndsWithin (facts : SeasonFacts) (start : State) (script : List Request) (n : ℕ) (output : List ℕ) (state : State) (tables : Tables) : Type 0 where
  pub j : ℕ
  pub some : List ℕ
  pub mid : State
  pub request : Request
  pub reply : Reply
  pub before : Answers facts start (take j script) some mid
  pub there : slice_get script j ≡ Some request
  pub moves : IsMove facts mid request reply state
  pub after : AfterSome facts start (take (j + 1) script) (some ++ reply_bytes facts state reply) state tables
  pub written : output ≡ some ++ take n (reply_bytes facts state reply)

-- by the result: if memory runs out, the next request is not answered, or its reply is not written at all;
-- if the sink fails, of the reply to the last answered request a prefix is written
abbrev pub EndsBy : SeasonFacts → State → List Request → Result (Unit {0}) RunFault → List ℕ → State → Tables → Type 0
EndsBy facts start script (Ok done) output state tables = AfterSome facts start script output state tables
EndsBy facts start script (Err KeeperFault) output state tables = EndsBefore facts start script output state tables
EndsBy facts start script (Err OutOfMemory) output state tables = EndsBefore facts start script output state tables ⊎ EndsWithin facts start script 0 output state tables
EndsBy facts start script (Err WriteFault) output state tables = (n : ℕ) × EndsWithin facts start script n output state tables
