-- What was published stays, word for word.
use Rattle.std.specs.Prelude.{◌≡◌, ◌+◌, ◌++◌, ℕ, List, Some}
use Rattle.office_asks.specs.declared.ask.Request.{Request}
use Rattle.kept_rows.specs.declared.rows.AllotRow.{AllotRow}
use Rattle.rounds.specs.declared.round.Round.{Round}
use Rattle.office_moves.specs.Facts.{SeasonFacts}
use Rattle.office_moves.specs.State.{State, opening, round_at}
use Rattle.office_moves.specs.Decided.{decided}
use Rattle.office_moves.specs.Moves.{IsMove}
use Rattle.office_moves.specs.History.{Reaches, newly}
use Rattle.office_moves.specs.declared.moves.Act.{Act}
use Rattle.office_moves.specs.declared.moves.Entry.{Entry}
use Rattle.office_moves.specs.declared.moves.Reply.{Reply}
use Rattle.office_moves.specs.declared.moves.Reply.TheVariants.{Published, RoundIs}
use Rattle.published_texts.specs.Texts.{final_text, round_text}
use Rattle.reply_texts.specs.Replies.{published_line}
use Rattle.shown_replies.specs.Shown.{reply_bytes}

-- A state has a round of this number. Whatever is accepted later, a question for the number shows the text of that round, word for word.
abbrev pub RoundTextsStay : SeasonFacts → Type 0
RoundTextsStay facts = (more : List Entry) (old new : State) (number : ℕ) (round : Round) → Reaches facts old more new → round_at old.rounds number ≡ Some round
    → reply_bytes facts new (RoundIs number) ≡ round_text facts.matrix facts.people round

-- A history has led to final rows. Whatever is asked later, a question for the number of the last cut shows their text, word for word.
abbrev pub FinalTextsStay : SeasonFacts → Type 0
FinalTextsStay facts = (before more : List Entry) (old new : State) (rows : List AllotRow) → Reaches facts opening before old → old.finals ≡ Some rows → Reaches facts old more new
    → reply_bytes facts new (RoundIs (facts.rounds + 1)) ≡ final_text facts.matrix rows

-- A request was newly accepted, and something more was. Asked again it is shown the first text again, word for word: of a cut the whole round, or all final rows.
abbrev pub ReceiptsStay : SeasonFacts → Type 0
ReceiptsStay facts = (before more : List Entry) (old new later after : State) (request : Request) (act : Act) (reply again : Reply)
    → Reaches facts opening before old → newly old.now (decided facts old request) ≡ Some act → IsMove facts old request reply new → Reaches facts new more later
    → IsMove facts later request again after → reply_bytes facts after again ≡ reply_bytes facts new reply

-- What a cut writes of its round, at that moment, is the text of the round that every later state has under its number.
abbrev pub CutsShowTheirRounds : SeasonFacts → Type 0
CutsShowTheirRounds facts = (before more : List Entry) (old new later : State) (request : Request) (act : Act) (number seated : ℕ)
    → Reaches facts opening before old → newly old.now (decided facts old request) ≡ Some act → IsMove facts old request (Published number seated) new → Reaches facts new more later
    → (round : Round) × (round_at later.rounds number ≡ Some round)
    × (reply_bytes facts new (Published number seated) ≡ published_line number seated ++ round_text facts.matrix facts.people round)
