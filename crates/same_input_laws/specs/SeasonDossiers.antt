-- Each season with its requests has a dossier: the texts that are due by them exist, and they say what the office holds.
use Rattle.std.specs.Prelude.{◌≡◌, ◌≤◌, ℕ, suc, List, [], ◌∷◌, ◌++◌, Option, Some, None, length, map, option_map}
use Rattle.std.specs.List.{flat_map}
use Rattle.office_base.specs.Limits.{most_bundle_bytes}
use Rattle.office_asks.specs.declared.ask.Request.{Request}
use Rattle.kept_rows.specs.declared.rows.AllotRow.{AllotRow}
use Rattle.seat_matrix.specs.Matrix.{SeatTable}
use Rattle.season_file.specs.Season.{IsSeason}
use Rattle.season_file.specs.declared.season.Season.{Season}
use Rattle.programme_lists.specs.declared.programme.Programme.{Programme}
use Rattle.rounds.specs.declared.round.Round.{Round}
use Rattle.published_texts.specs.Texts.{final_text, list_text, round_text}
use Rattle.list_texts.specs.declared.lists.ListRead.{ListRead}
use Rattle.publish.specs.declared.reads.RoundRead.{RoundRead}
use Rattle.office_moves.specs.Facts.{SeasonFacts}
use Rattle.office_moves.specs.Moves.{allot_rows}
use Rattle.office_moves.specs.State.{State, opening}
use Rattle.season_facts.specs.Season.{facts_of}
use Rattle.season_commands.specs.Runs.{Answers}
use Rattle.dossier_file.specs.Split.{IsSplit}
use Rattle.dossier_file.specs.Dossier.{AreDossier, IsScript}
use Rattle.dossier_file.specs.Papers.{AreDuePapers}
use Rattle.dossier_file.specs.declared.papers.Papers.{Papers as Read}
use Rattle.same_input_laws.specs.Joined.{CanBeJoined, joined_bytes}
use Rattle.audit_rules.specs.Papers.{Papers}
use Rattle.audit_rules.specs.Verdict.{IsVerdict}
use Rattle.audit_rules.specs.declared.verdict.Verdict.TheVariants.{Sound}
use Rattle.command_answers.specs.Status.{IsAnswered}
use Rattle.command_answers.specs.Writes.{Writes}
use Rattle.command_answers.specs.declared.status.Status.{Status}
use Rattle.command_answers.specs.declared.status.Status.TheVariants.{Ok as Done}
use Rattle.audit_command.specs.Audit.{IsAuditText}
use Rattle.audit_command.specs.Best.{IsBestText, second_line}
use Rattle.audit_command.specs.Texts.{sound_line}
use Rattle.audit_command.specs.declared.second.Second.TheVariants.{AllBest}
use Rattle.best_audit.specs.Best.{IsBestVerdict}
use Rattle.best_audit.specs.declared.verdict.BestVerdict.TheVariants.{Best}

-- ---- what a state holds, as its texts say it

-- a round: its number and its rows
abbrev pub round_told : SeasonFacts → Round → RoundRead
round_told facts round = record { round = round.number; rows = allot_rows facts round }

-- the lists of a round, for some programmes from this number on
abbrev pub lists_from : ℕ → ℕ → List Programme → List ListRead
lists_from number prog [] = []
lists_from number prog (programme ∷ programmes) = record { round = number; prog = record { 0 = prog }; programme = programme } ∷ lists_from number (suc prog) programmes

-- all lists of a round
abbrev pub lists_told : Round → List ListRead
lists_told round = lists_from round.number 0 round.programmes

-- the rounds of a state with their lists, and its final admissions
abbrev pub papers_told : SeasonFacts → State → Read
papers_told facts state = record {
  rounds = map (round_told facts) state.rounds;
  lists = flat_map lists_told state.rounds;
  last = option_map (λ rows. record { rows = rows }) state.finals;
}

-- ---- the texts of a state, one after another

-- the texts of the lists of a round, for some programmes from this number on
abbrev pub list_texts_from : SeatTable → ℕ → ℕ → List Programme → List ℕ
list_texts_from table number prog [] = []
list_texts_from table number prog (programme ∷ programmes) = list_text table number prog programme ++ list_texts_from table number (suc prog) programmes

-- the text of a round, and then those of its lists
abbrev pub round_texts : SeasonFacts → Round → List ℕ
round_texts facts round = round_text facts.matrix facts.people round ++ list_texts_from facts.matrix round.number 0 round.programmes

-- the text of the final admissions, if there are some
abbrev pub final_texts : SeatTable → Option (List AllotRow) → List ℕ
final_texts table None = []
final_texts table (Some rows) = final_text table rows

-- all texts of a state
abbrev pub texts_told : SeasonFacts → State → List ℕ
texts_told facts state = flat_map (round_texts facts) state.rounds ++ final_texts facts.matrix state.finals

-- what papers say, as an audit reads them off
abbrev pub audited_papers : Read → Papers
audited_papers papers = record {
  rounds = map (λ read. read.rows) papers.rounds;
  lists = map (λ read. read.programme) papers.lists;
  finals = option_map (λ read. read.rows) papers.last;
}

-- ---- a dossier of each season

-- A dossier is audited well: if they end with an answer, `audit` writes that no clause of so many rounds is broken, and
-- `audit best` also that each round is the best one.
pub record AreAuditedWell (bytes : List ℕ) (rounds : ℕ) : Type 0 where
  pub audit : (status : Status) (output : List ℕ) → IsAnswered status → Writes (IsAuditText (Some bytes)) status output → (status ≡ Done) × (output ≡ sound_line rounds)
  pub best : (status : Status) (output : List ℕ) → IsAnswered status → Writes (IsBestText (Some bytes)) status output → (status ≡ Done) × (output ≡ sound_line rounds ++ second_line AllBest)

-- What the office published in a state is a dossier of the season with these requests.
pub record IsOwnDossier (bundle requests : List ℕ) (season : Season) (script : List Request) (state : State) : Type 0 where
  -- its texts are the ones that are due, and say what the state holds
  pub due : AreDuePapers season.matrix season.register.people season.rounds script (texts_told (facts_of season) state) (papers_told (facts_of season) state)
  -- bytes that are cut into the bundle, the requests and these texts are a dossier
  pub whole : (bytes : List ℕ) → length bytes ≤ most_bundle_bytes → IsSplit bytes bundle requests (texts_told (facts_of season) state)
      → AreDossier bytes season script (papers_told (facts_of season) state)
  -- so are the three put together, unless these bytes are too many
  pub together : CanBeJoined bundle requests → length (joined_bytes bundle requests (texts_told (facts_of season) state)) ≤ most_bundle_bytes
      → AreDossier (joined_bytes bundle requests (texts_told (facts_of season) state)) season script (papers_told (facts_of season) state)
  -- an audit finds no broken clause in it, and each of its rounds is the best one
  pub sound : IsVerdict (facts_of season) script (audited_papers (papers_told (facts_of season) state)) (Sound (length state.rounds))
  pub best : IsBestVerdict (facts_of season) script (audited_papers (papers_told (facts_of season) state)) Best
  -- and this is what an audit of such bytes writes
  pub audited : (bytes : List ℕ) → length bytes ≤ most_bundle_bytes → IsSplit bytes bundle requests (texts_told (facts_of season) state) → AreAuditedWell bytes (length state.rounds)

-- A season with its requests has a dossier: the office answers them all, and what it publishes in doing so is one.
pub record HasDossier (bundle requests : List ℕ) (season : Season) (script : List Request) : Type 0 where
  pub some : (output : List ℕ) × (state : State) × Answers (facts_of season) opening script output state
  pub each : (output : List ℕ) (state : State) → Answers (facts_of season) opening script output state → IsOwnDossier bundle requests season script state

-- Each season with its requests has a dossier.
abbrev pub SeasonsHaveDossiers : Type 0
SeasonsHaveDossiers = (bundle requests : List ℕ) (season : Season) (script : List Request) → IsSeason bundle season → IsScript requests script
    → HasDossier bundle requests season script
