-- The papers of a special round, as a dossier of the season that the final admissions left.
use Rattle.std.specs.Prelude.{◌≡◌, ◌≢◌, ℕ, List, [], ◌∷◌, length}
use Rattle.office_asks.specs.declared.ask.Ask.TheVariants.{Cut}
use Rattle.office_asks.specs.declared.ask.By.TheVariants.{Clerk}
use Rattle.office_asks.specs.declared.ask.Request.{Request}
use Rattle.season_file.specs.declared.season.Season.{Season}
use Rattle.season_facts.specs.Season.{facts_of}
use Rattle.office_moves.specs.State.{State}
use Rattle.text_readers.specs.Reading.{IsFaultLine}
use Rattle.audit_rules.specs.Replay.{before}
use Rattle.season_audit.specs.Audit.{papers_in}
use Rattle.dossier_file.specs.Dossier.{papers_of}
use Rattle.dossier_file.specs.Papers.{AreDuePapers}
use Rattle.dossier_file.specs.declared.dossier.Dossier.{Dossier}
use Rattle.special_round.specs.Season.{IsRemainingSeason, IsSpecialFault}
use Rattle.special_round.specs.declared.fault.SpecialFault.{SpecialFault}
use Rattle.special_round.specs.declared.fault.SpecialFault.TheVariants.{OutOfMemory as NoListMemory}
use Rattle.text_readers.specs.declared.fault.TextFault.{TextFault}
use Rattle.text_readers.specs.declared.fault.TextFault.TheVariants.{Line as TextLine, OutOfMemory as NoTextMemory}
use Rattle.special_audit.specs.declared.special.SpecialError.{SpecialError}
use Rattle.special_audit.specs.declared.special.SpecialError.TheVariants.{Lists, Line, OutOfMemory}

-- the requests of a special round: the clerk cuts its one window
abbrev pub one_cut : List Request
one_cut = record { by = Clerk; ask = Cut 0 } ∷ []

-- the state to which all requests of a dossier lead, each round as its text gives it
abbrev pub state_after : Dossier → State
state_after dossier = before (facts_of dossier.season) dossier.script (papers_in dossier) (length dossier.script)

-- the final admissions of a dossier leave this season of the raised matrix, with these lists
abbrev pub Leaves : Dossier → List ℕ → Season → Type 0
Leaves dossier lists season = IsRemainingSeason (facts_of dossier.season) (state_after dossier) lists season

-- Lists and texts behind a dossier are those of a special round: its season is what the final admissions leave with these lists, and the texts are the round
-- and the lists that its one cut publishes.
pub record IsSpecialOf (dossier : Dossier) (lists published : List ℕ) (special : Dossier) : Type 0 where
  pub season : Leaves dossier lists special.season
  pub script : special.script ≡ one_cut
  pub papers : AreDuePapers special.season.matrix special.season.register.people 1 one_cut published (papers_of special)

-- the lists behind a dossier have this fault: the season is not over, or it is their first
abbrev pub HasListsFault : Dossier → List ℕ → SpecialFault → Type 0
HasListsFault dossier lists fault = IsSpecialFault (facts_of dossier.season) (state_after dossier) lists fault × (fault ≢ NoListMemory)

-- The lists behind a dossier have no fault, and this line of the texts is the first up to which they begin no such texts as are due.
pub record HasSpecialLine (dossier : Dossier) (lists published : List ℕ) (line : ℕ) : Type 0 where
  pub season : Season
  pub left : Leaves dossier lists season
  pub is : IsFaultLine (AreDuePapers season.matrix season.register.people 1 one_cut) published line

-- the first fault of the lists and the texts; `OutOfMemory` says nothing of them
abbrev pub HasSpecialFault : Dossier → List ℕ → List ℕ → SpecialError → Type 0
HasSpecialFault dossier lists published (Lists fault) = HasListsFault dossier lists fault
HasSpecialFault dossier lists published (Line line) = HasSpecialLine dossier lists published line
HasSpecialFault dossier lists published OutOfMemory = Unit {0}

-- a fault of the lists as one of the special round's papers
abbrev pub lists_error : SpecialFault → SpecialError
lists_error NoListMemory = OutOfMemory
lists_error fault = Lists fault

-- a fault of the texts as one of them
abbrev pub texts_error : TextFault → SpecialError
texts_error (TextLine line) = Line line
texts_error NoTextMemory = OutOfMemory
