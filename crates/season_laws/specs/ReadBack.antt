-- That what an office publishes is read back.
use Rattle.std.specs.Prelude.{◌≡◌, ◌+◌, ℕ, List, Some, slice_get}
use Rattle.kept_rows.specs.declared.rows.AllotRow.{AllotRow}
use Rattle.office_base.specs.declared.person.ProgId.{ProgId}
use Rattle.programme_lists.specs.declared.programme.Programme.{Programme}
use Rattle.published_texts.specs.Texts.{final_text, list_text, round_text}
use Rattle.text_readers.specs.Parts.{AreSpelled}
use Rattle.list_texts.specs.Listing.{IsListText}
use Rattle.list_texts.specs.declared.lists.ListRead.{ListRead}
use Rattle.publish.specs.Rows.{IsFinalText, IsRoundText}
use Rattle.publish.specs.declared.reads.FinalRead.{FinalRead}
use Rattle.publish.specs.declared.reads.RoundRead.{RoundRead}
use Rattle.rounds.specs.declared.round.Round.{Round}
use Rattle.office_moves.specs.Facts.{IsSound, SeasonFacts}
use Rattle.office_moves.specs.State.{State}
use Rattle.office_moves.specs.Moves.{allot_rows}
use Rattle.history_laws.specs.Orderly.{IsOrderly}

-- The texts of what a state shows are such as their readers take, and say what the state does.
pub record IsReadBack (facts : SeasonFacts) (state : State) : Type 0 where
  -- each round, as its number and its rows
  pub rounds : (before : ℕ) (round : Round) → slice_get state.rounds before ≡ Some round
      → IsRoundText facts.matrix facts.people (round_text facts.matrix facts.people round) (record { round = round.number; rows = allot_rows facts round })
  -- each list of a round
  pub lists : (before : ℕ) (round : Round) (prog : ProgId) (programme : Programme) → slice_get state.rounds before ≡ Some round → slice_get round.programmes prog.0 ≡ Some programme
      → IsListText facts.matrix facts.people (list_text facts.matrix round.number prog.0 programme) (record { round = round.number; prog = prog; programme = programme })
  -- the final admissions
  pub finals : (rows : List AllotRow) → state.finals ≡ Some rows → IsFinalText facts.matrix facts.people (facts.rounds + 1) (final_text facts.matrix rows) (record { rows = rows })

-- What is published of a state in which all is in order is read back.
abbrev pub PublishedIsRead : SeasonFacts → Type 0
PublishedIsRead facts = (state : State) → IsSound facts → IsOrderly facts state → IsReadBack facts state

-- And they are read as nothing else.
pub record IsReadAlone (facts : SeasonFacts) (state : State) : Type 0 where
  pub rounds : (before : ℕ) (round : Round) (read : RoundRead) → slice_get state.rounds before ≡ Some round
      → IsRoundText facts.matrix facts.people (round_text facts.matrix facts.people round) read → (read.round ≡ round.number) × (read.rows ≡ allot_rows facts round)
  pub lists : (before : ℕ) (round : Round) (prog : ProgId) (programme : Programme) (read : ListRead) → slice_get state.rounds before ≡ Some round
      → slice_get round.programmes prog.0 ≡ Some programme → IsListText facts.matrix facts.people (list_text facts.matrix round.number prog.0 programme) read
      → read ≡ record { round = round.number; prog = prog; programme = programme }
  pub finals : (rows : List AllotRow) (read : FinalRead) → state.finals ≡ Some rows → IsFinalText facts.matrix facts.people (facts.rounds + 1) (final_text facts.matrix rows) read
      → read.rows ≡ rows

-- Where each programme has a code, as in every matrix that was read, what is published is read as it was written and as nothing else.
abbrev pub PublishedIsReadAlone : SeasonFacts → Type 0
PublishedIsReadAlone facts = (state : State) → IsSound facts → AreSpelled facts.matrix → IsOrderly facts state → IsReadAlone facts state
