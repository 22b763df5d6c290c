-- Which text a reply has, in the state after it.
use Rattle.std.specs.Prelude.{ℕ, List, [], Option, None}
use Rattle.std.specs.Option.{unwrap_or}
use Rattle.office_asks.specs.declared.ask.Request.{Request}
use Rattle.kept_rows.specs.declared.rows.AllotRow.{AllotRow}
use Rattle.rounds.specs.declared.round.Round.{Round}
use Rattle.office_moves.specs.Facts.{SeasonFacts}
use Rattle.office_moves.specs.State.{State, round_at}
use Rattle.office_moves.specs.Moves.{IsMove}
use Rattle.office_moves.specs.declared.moves.Reply.{Reply}
use Rattle.office_moves.specs.declared.moves.Reply.TheVariants.{Published, RoundIs}
use Rattle.reply_texts.specs.Replies.{IsReplyOf, reply_text}

-- the round that the text of a reply shows: the one that the cut published, or the one that was asked for, and none with any other reply
abbrev pub round_shown : State → Reply → Option Round
round_shown state (Published number seated) = round_at state.rounds number
round_shown state (RoundIs number) = round_at state.rounds number
round_shown state _ = None

-- the final rows, once they are
abbrev pub rows_shown : State → List AllotRow
rows_shown state = unwrap_or state.finals []

-- the text of a reply, in the state after it
unfoldable pub reply_bytes : SeasonFacts → State → Reply → List ℕ
reply_bytes facts state reply = reply_text facts.matrix facts.people (round_shown state reply) (rows_shown state) reply

-- a request led to this state, with this reply
pub record CameOf (facts : SeasonFacts) (state : State) (reply : Reply) : Type 0 where
  pub old : State
  pub request : Request
  pub moves : IsMove facts old request reply state

-- the reply can be shown in the state after it
unfoldable pub CanBeShown : SeasonFacts → State → Reply → Type 0
CanBeShown facts state reply = IsReplyOf facts.matrix facts.people (round_shown state reply) (rows_shown state) reply
