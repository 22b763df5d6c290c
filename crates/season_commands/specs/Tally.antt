-- Requests that are answered one after another, no reply written:
-- what was asked and replied, and what is counted of it.
use Rattle.std.specs.Prelude.{◌≡◌, ◌<◌, ◌+◌, ◌&&◌, ℕ, Bool, true, false, List, [], ◌∷◌, cond, count_by, length, map, take}
use Rattle.office_asks.specs.declared.ask.Ask.{Ask}
use Rattle.office_asks.specs.declared.ask.Ask.TheVariants.{Answer}
use Rattle.office_asks.specs.declared.ask.Request.{Request}
use Rattle.kept_rows.specs.Tables.{Tables}
use Rattle.office_moves.specs.Facts.{SeasonFacts}
use Rattle.office_moves.specs.State.{State}
use Rattle.office_moves.specs.Moves.{IsMove}
use Rattle.office_moves.specs.History.{IsHistory}
use Rattle.office_moves.specs.Promise.{KeepsItsWord}
use Rattle.office_moves.specs.Stands.{Stand}
use Rattle.office_moves.specs.declared.moves.Entry.{Entry}
use Rattle.office_moves.specs.declared.moves.Reply.{Reply}
use Rattle.office_moves.specs.declared.moves.Reply.TheVariants.{Noted, Refused}
use Rattle.season_commands.specs.declared.tally.Tally.{Tally}

-- ---- requests with their replies

-- a request, and the reply to it
pub record Handled : Type 0 where
  pub request : Request
  pub reply : Reply

-- each request leads from the state that the one before it left, with its reply, and the last one leaves this state
abbrev pub AreHandled : SeasonFacts → State → List Handled → State → Type 0
AreHandled facts old [] new = new ≡ old
AreHandled facts old (one ∷ handled) new = (mid : State) × IsMove facts old one.request one.reply mid × AreHandled facts mid handled new

-- the requests
abbrev pub requests_of : List Handled → List Request
requests_of handled = map (λ one. one.request) handled

-- ---- what is counted

-- the request is an answer
abbrev pub is_answer : Ask → Bool
is_answer (Answer cand window turn choice) = true
is_answer _ = false

-- the reply is the receipt of an answer
abbrev pub is_receipt : Reply → Bool
is_receipt (Noted cand window turn choice) = true
is_receipt _ = false

-- the reply is a refusal
abbrev pub is_refusal : Reply → Bool
is_refusal (Refused refusal) = true
is_refusal _ = false

-- the request is an answer that was refused
abbrev pub is_refused_answer : Request → Reply → Bool
is_refused_answer request reply = is_answer request.ask && is_refusal reply

-- how many answers were noted, and how many refused
abbrev pub noted_in : List Handled → ℕ
noted_in handled = count_by (λ one. is_receipt one.reply) handled

abbrev pub refused_in : List Handled → ℕ
refused_in handled = count_by (λ one. is_refused_answer one.request one.reply) handled

abbrev pub tally_of : List Handled → Tally
tally_of handled = record { noted = noted_in handled; refused = refused_in handled }

-- how many of the requests are answers
abbrev pub answers_in : List Request → ℕ
answers_in requests = count_by (λ request. is_answer request.ask) requests

-- the request led from one state to the next, and its reply is counted
pub record IsCounted (facts : SeasonFacts) (old : State) (request : Request) (new : State) (before after : Tally) : Type 0 where
  pub reply : Reply
  pub moves : IsMove facts old request reply new
  pub noted : after.noted ≡ before.noted + cond (is_receipt reply) 1 0
  pub refused : after.refused ≡ before.refused + cond (is_refused_answer request reply) 1 0

-- ---- how they end

-- Requests were answered in this way. A history leads to the state, in which the office keeps its word,
-- and the tables represent it.
pub record AfterHandled (facts : SeasonFacts) (start : State) (handled : List Handled) (state : State) (tables : Tables) : Type 0 where
  pub moves : AreHandled facts start handled state
  pub history : (entries : List Entry) × IsHistory facts entries state
  pub promise : KeepsItsWord facts state
  pub stands : Stand facts state tables

-- all requests are answered, and this is the tally of the answers among them
abbrev pub CountsAll : SeasonFacts → State → List Request → State → Tables → Tally → Type 0
CountsAll facts start script state tables tally =
    (handled : List Handled) × (requests_of handled ≡ script) × AfterHandled facts start handled state tables × (tally ≡ tally_of handled)

-- the requests before one of them are answered, and it and those after it are not
abbrev pub StopsBefore : SeasonFacts → State → List Request → State → Tables → Type 0
StopsBefore facts start script state tables =
    (j : ℕ) × (handled : List Handled) × (j < length script) × (requests_of handled ≡ take j script) × AfterHandled facts start handled state tables
