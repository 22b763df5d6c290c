-- What holds of runs, over the definitions alone.
use Rattle.std.specs.Prelude.{◌≡◌, ◌+◌, ℕ, List, [], ◌∷◌, ◌++◌}
use Rattle.office_asks.specs.declared.ask.Request.{Request}
use Rattle.office_moves.specs.Facts.{IsSound, SeasonFacts}
use Rattle.office_moves.specs.State.{State}
use Rattle.office_moves.specs.Moves.{IsMove}
use Rattle.office_moves.specs.History.{IsHistory}
use Rattle.office_moves.specs.declared.moves.Entry.{Entry}
use Rattle.office_moves.specs.declared.moves.Reply.{Reply}
use Rattle.season_commands.specs.Runs.{Answers}
use Rattle.shown_replies.specs.Shown.{reply_bytes}
use Rattle.season_commands.specs.Tally.{AreHandled, Handled, answers_in, noted_in, refused_in, requests_of}

-- A run continues with one request at its end, whose reply follows the others.
abbrev pub GoesOn : SeasonFacts → Type 0
GoesOn facts = (old mid new : State) (requests : List Request) (request : Request) (reply : Reply) (output : List ℕ) → Answers facts old requests output mid
    → IsMove facts mid request reply new → Answers facts old (requests ++ request ∷ []) (output ++ reply_bytes facts new reply) new

-- A run of some requests and more is a run of the first, and from there one of the rest.
pub record IsSplit (facts : SeasonFacts) (old : State) (requests more : List Request) (output : List ℕ) (new : State) : Type 0 where
  pub mid : State
  pub some : List ℕ
  pub rest : List ℕ
  pub before : Answers facts old requests some mid
  pub after : Answers facts mid more rest new
  pub whole : output ≡ some ++ rest

-- A prefix of a run is a run, and the rest of it is one from there.
abbrev pub PrefixIsARun : SeasonFacts → Type 0
PrefixIsARun facts = (old new : State) (requests more : List Request) (output : List ℕ) → Answers facts old (requests ++ more) output new → IsSplit facts old requests more output new

-- Requests that are answered after a history have one output, and leave one state.
abbrev pub OneRun : SeasonFacts → Type 0
OneRun facts = IsSound facts → (entries : List Entry) (old new then : State) (requests : List Request) (output other : List ℕ) → IsHistory facts entries old
    → Answers facts old requests output new → Answers facts old requests other then → (output ≡ other) × (new ≡ then)

-- Each answer among the requests is noted or refused, and no other request is counted.
abbrev pub EachAnswerIsCounted : SeasonFacts → Type 0
EachAnswerIsCounted facts = (old new : State) (handled : List Handled) → AreHandled facts old handled new → noted_in handled + refused_in handled ≡ answers_in (requests_of handled)

-- Requests that are answered after a history have the same replies, and leave one state.
abbrev pub OneTally : SeasonFacts → Type 0
OneTally facts = IsSound facts → (entries : List Entry) (old new then : State) (handled other : List Handled) → IsHistory facts entries old → AreHandled facts old handled new
    → AreHandled facts old other then → requests_of handled ≡ requests_of other → (handled ≡ other) × (new ≡ then)
