-- The rounds and the final admissions of a dossier are the office's own, if no clause is broken and each round is the best one.
use Rattle.std.specs.Prelude.{◌≡◌, ◌+◌, ℕ, List, Some, slice_get}
use Rattle.office_asks.specs.declared.ask.Request.{Request}
use Rattle.kept_rows.specs.declared.rows.AllotRow.{AllotRow}
use Rattle.season_file.specs.declared.season.Season.{Season}
use Rattle.rounds.specs.declared.round.Round.{Round}
use Rattle.published_texts.specs.Texts.{final_text, round_text}
use Rattle.publish.specs.Rows.{IsFinalText, IsRoundText}
use Rattle.publish.specs.declared.reads.FinalRead.{FinalRead}
use Rattle.publish.specs.declared.reads.RoundRead.{RoundRead}
use Rattle.office_moves.specs.Facts.{SeasonFacts}
use Rattle.office_moves.specs.State.{State, opening}
use Rattle.season_facts.specs.Season.{facts_of}
use Rattle.season_commands.specs.Runs.{Answers}
use Rattle.dossier_file.specs.Dossier.{AreDossier}
use Rattle.dossier_file.specs.declared.papers.Papers.{Papers as Read}
use Rattle.audit_rules.specs.Verdict.{IsVerdict}
use Rattle.audit_rules.specs.declared.verdict.Verdict.TheVariants.{Sound}
use Rattle.best_audit.specs.Best.{IsBestVerdict}
use Rattle.best_audit.specs.declared.verdict.BestVerdict.TheVariants.{Best}
use Rattle.same_input_laws.specs.SeasonDossiers.{audited_papers, papers_told}

-- The rounds and the final admissions of the papers are those of a state of the office, and their texts are the office's, byte for byte.
pub record AreOwn (facts : SeasonFacts) (state : State) (papers : Read) : Type 0 where
  pub rounds : papers.rounds ≡ (papers_told facts state).rounds
  pub last : papers.last ≡ (papers_told facts state).last
  pub round_texts : (k : ℕ) (read : RoundRead) (round : Round) (text : List ℕ) → slice_get papers.rounds k ≡ Some read → slice_get state.rounds k ≡ Some round
      → IsRoundText facts.matrix facts.people text read → text ≡ round_text facts.matrix facts.people round
  pub final_texts : (read : FinalRead) (rows : List AllotRow) (text : List ℕ) → papers.last ≡ Some read → state.finals ≡ Some rows
      → IsFinalText facts.matrix facts.people (facts.rounds + 1) text read → text ≡ final_text facts.matrix rows

-- In a dossier of which no clause is broken and each round is the best one, rounds and final admissions are those that the office publishes while it
-- answers the dossier's requests.
abbrev pub SoundAndBestAreOwn : Type 0
SoundAndBestAreOwn = (bytes : List ℕ) (season : Season) (script : List Request) (papers : Read) (rounds : ℕ) (output : List ℕ) (state : State) → AreDossier bytes season script papers
    → IsVerdict (facts_of season) script (audited_papers papers) (Sound rounds) → IsBestVerdict (facts_of season) script (audited_papers papers) Best
    → Answers (facts_of season) opening script output state → AreOwn (facts_of season) state papers
