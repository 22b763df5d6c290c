-- The status of each answer in a turn is one that replies have.
use Rattle.std.specs.Prelude.{◌≡◌, Bool, true, ℕ, List, Option, Ok}
use Rattle.office_asks.specs.declared.ask.Ask.{Ask}
use Rattle.office_moves.specs.Facts.{SeasonFacts}
use Rattle.office_moves.specs.declared.moves.Entry.{Entry}
use Rattle.http_sessions.specs.Replies.{is_reply_status}
use Rattle.http_sessions.specs.declared.counter.Answered.{Answered}
use Rattle.door_crews.specs.Desk.{Known}
use Rattle.office_http.specs.Asking.{AnswersAt}
use Rattle.office_http.specs.Statuses as asks
use Rattle.office_http.specs.Knowing.{AsksInTurn}

at_place : (facts : SeasonFacts) (place : List Entry) (token : Option (List ℕ)) (ask : Ask) (answered : Answered) (added : List Entry) → AnswersAt facts place token ask answered added
    → is_reply_status answered.status ≡ true
at_place facts place token ask answered added at = asks.replied facts at.new at.reply answered at.answer

-- the status of an answer is that of a reply
pub replied : (facts : SeasonFacts) (room : Bool) (waits : Type 0) (before : Known Entry) (token : Option (List ℕ)) (ask : Ask) (answered : Answered) (after : Known Entry)
    → AsksInTurn facts room waits before token ask (Ok answered) after → is_reply_status answered.status ≡ true
replied facts room waits before token ask answered after asked = at_place facts asked.0 token ask answered asked.1 asked.3
