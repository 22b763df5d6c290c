-- The bodies of published rounds and of the final admissions that were made before.
use Rattle.std.specs.Prelude.{◌≡◌, ◌||◌, ℕ, Bool, true, List, is_some, nat_lt}
use Rattle.std.specs.List.{AllByRecursion}
use Rattle.office_moves.specs.Facts.{SeasonFacts}
use Rattle.office_moves.specs.State.{State, round_at}
use Rattle.office_moves.specs.declared.moves.Reply.{Reply}
use Rattle.office_moves.specs.declared.moves.Reply.TheVariants.{RoundIs}
use Rattle.reply_bodies.specs.Bodies.{reply_body}
use Rattle.shown_replies.specs.Shown.{round_shown, rows_shown}
use Rattle.office_http.specs.declared.bodies.Bodies.{Bodies}
use Rattle.office_http.specs.declared.bodies.RoundBody.{RoundBody}

-- the body of a reply, in the state after it
abbrev pub shown_body : SeasonFacts → State → Reply → List ℕ
shown_body facts state reply = reply_body facts.matrix facts.people (round_shown state reply) (rows_shown state) reply

-- what a question for this number shows stays for good: the round is published, or the last cut was made
abbrev pub lasts : SeasonFacts → State → ℕ → Bool
lasts facts state number = is_some (round_at state.rounds number) || nat_lt facts.rounds state.now

-- This is the body of the question for this number, and what it shows stays.
pub record IsShownBy (facts : SeasonFacts) (state : State) (number : ℕ) (body : List ℕ) : Type 0 where
  pub stays : lasts facts state number ≡ true
  pub is : body ≡ shown_body facts state (RoundIs number)

-- each is the body of the question for its number
abbrev pub AreBodies : SeasonFacts → State → Bodies → Type 0
AreBodies facts state bodies = AllByRecursion (λ made. IsShownBy facts state made.number made.body) bodies.made.items
