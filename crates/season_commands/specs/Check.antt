-- The command `check`: its input is a season bundle with requests or without, its output how much the season has.
use Rattle.std.specs.Prelude.{◌≡◌, ℕ, Bool, true, List, Option}
use Rattle.office_base.specs.Outside.{AreLeft}
use Rattle.office_asks.specs.declared.ask.Request.{Request}
use Rattle.season_file.specs.Laws.{HasFault}
use Rattle.season_file.specs.Season.{BundleGives, IsSeasonWith}
use Rattle.season_file.specs.declared.content.Content.{Content}
use Rattle.season_file.specs.declared.fault.SeasonFault.{SeasonFault}
use Rattle.season_file.specs.declared.fault.SeasonFault.TheVariants.{ReadFault, OutOfMemory}
use Rattle.season_file.specs.declared.season.Season.{Season}
use Rattle.season_texts.specs.Texts.{counts_line, fault_line}
use Rattle.command_answers.specs.Answers.{Answers}
use Rattle.command_answers.specs.declared.failure.Failure.{Failure}
use Rattle.command_answers.specs.declared.failure.Failure.TheVariants.{Read, Bad, NoMemory}

-- ---- a season bundle with requests, or without: then their section is a fault

-- the bytes are such a bundle without faults
abbrev pub IsBundle : Bool → List ℕ → Type 0
IsBundle requests bytes = (content : Content) × (script : List Request) × BundleGives requests bytes content script

-- the bytes that were left are such a bundle without faults, and these are its season and its requests
abbrev pub IsLeftBundle : Bool → Option (List ℕ) → Season → List Request → Type 0
IsLeftBundle requests left season script = (bytes : List ℕ) × AreLeft bytes left × IsSeasonWith requests bytes season script

-- the bytes have a fault as such a bundle
abbrev pub IsFaultyBundle : Bool → List ℕ → Type 0
IsFaultyBundle requests bytes = (fault : SeasonFault) × HasFault requests bytes fault

-- the bytes have a fault as such a bundle, and this is its line
abbrev pub IsBundleFaultLine : Bool → List ℕ → List ℕ → Type 0
IsBundleFaultLine requests bytes line = (fault : SeasonFault) × HasFault requests bytes fault × (line ≡ fault_line fault)

-- what is answered to the bytes alone: the line of a fault, and no output
abbrev pub bundle_answers : Bool → Answers
bundle_answers requests = record { IsInput = IsBundle requests; IsFaulty = IsFaultyBundle requests; IsOutput = λ bytes output. ⊥; IsFaultLine = IsBundleFaultLine requests }

-- the bytes are a season bundle, and this is what `check` writes for its season
abbrev pub IsCheckOutput : List ℕ → List ℕ → Type 0
IsCheckOutput bytes output = (season : Season) × (script : List Request) × IsSeasonWith true bytes season script × (output ≡ counts_line season)

-- what `check` answers: that output, or the line of a fault
abbrev pub check_answers : Answers
check_answers = record (bundle_answers true) { IsOutput = IsCheckOutput }

-- The failure reports this fault of a season by its line, or that the source failed.
-- If memory ran out, the source did not fail.
abbrev pub TellsSeasonFault : SeasonFault → Failure → Type 0
TellsSeasonFault fault Read = fault ≡ ReadFault
TellsSeasonFault fault (Bad line) = (fault ≡ ReadFault → ⊥) × (fault ≡ OutOfMemory → ⊥) × (line ≡ fault_line fault)
TellsSeasonFault fault NoMemory = fault ≡ ReadFault → ⊥
