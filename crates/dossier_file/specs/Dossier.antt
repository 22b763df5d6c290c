-- Which dossier bytes are, and which fault of theirs is the first.
use Rattle.std.specs.Prelude.{◌≡◌, ◌<◌, ◌≤◌, ◌⊎◌, ℕ, false, List, [], Option, Ok, Err, length}
use Rattle.std.specs.Str.{IsUtf8}
use Rattle.office_base.specs.Limits.{most_bundle_bytes}
use Rattle.office_base.specs.Outside.{IsAtEnd, Took, TookMore}
use Rattle.office_asks.specs.declared.ask.Request.{Request}
use Rattle.section_rows.specs.Rows.{rows_of}
use Rattle.request_rows.specs.Requests.{script_of}
use Rattle.season_file.specs.Laws.{HasFault}
use Rattle.season_file.specs.Season.{BundleGives, IsSeason}
use Rattle.season_file.specs.declared.content.Content.{Content}
use Rattle.season_file.specs.declared.fault.SeasonFault.{SeasonFault}
use Rattle.season_file.specs.declared.fault.SeasonFault.TheVariants.{NotUtf8, BadRequest, OutOfMemory as NoSeasonMemory}
use Rattle.season_file.specs.declared.season.Season.{Season}
use Rattle.text_readers.specs.Reading.{IsFaultLine}
use Rattle.text_readers.specs.declared.fault.TextFault.{TextFault}
use Rattle.text_readers.specs.declared.fault.TextFault.TheVariants.{Line, OutOfMemory as NoTextMemory}
use Rattle.dossier_file.specs.Split.{HasNoSection, IsSplit}
use Rattle.dossier_file.specs.Papers.{AreDuePapers}
use Rattle.dossier_file.specs.declared.dossier.Dossier.{Dossier}
use Rattle.dossier_file.specs.declared.papers.Papers.{Papers}
use Rattle.dossier_file.specs.declared.fault.DossierFault.{DossierFault}
use Rattle.dossier_file.specs.declared.fault.DossierFault.TheVariants.{ReadFault, TooLong, NoSection, Season as BadSeason, Published, OutOfMemory}

-- ---- dossiers

-- the body of a section of requests spells these, without a fault
abbrev pub IsScript : List ℕ → List Request → Type 0
IsScript requests script = IsUtf8 requests × (script_of (rows_of requests) ≡ Ok script)

-- The bytes are cut into a bundle, which is this season's, the body of these requests, and texts that the accepted cuts of the
-- requests publish, which say this.
pub record AreDossier (bytes : List ℕ) (season : Season) (script : List Request) (papers : Papers) : Type 0 where
  pub short : length bytes ≤ most_bundle_bytes
  pub bundle : List ℕ
  pub requests : List ℕ
  pub published : List ℕ
  pub cut : IsSplit bytes bundle requests published
  pub of_season : IsSeason bundle season
  pub of_script : IsScript requests script
  pub of_papers : AreDuePapers season.matrix season.register.people season.rounds script published papers

-- what was published, by a dossier
abbrev pub papers_of : Dossier → Papers
papers_of dossier = record { rounds = dossier.rounds; lists = dossier.lists; last = dossier.last }

-- the bytes are this dossier
abbrev pub IsDossier : List ℕ → Dossier → Type 0
IsDossier bytes dossier = AreDossier bytes dossier.season dossier.script (papers_of dossier)

-- the bytes that a source gave up to its end are this dossier
abbrev pub GaveDossier : Option (List ℕ) → Option (List ℕ) → Dossier → Type 0
GaveDossier before after dossier = (bytes : List ℕ) × Took bytes before after × IsAtEnd after × IsDossier bytes dossier

-- ---- faults

-- the first fault of the body of requests, where the bundle has no fault: it is no UTF-8, or a row is no request
abbrev pub IsRequestsFault : List ℕ → SeasonFault → Type 0
IsRequestsFault requests NotUtf8 = IsUtf8 requests → ⊥
IsRequestsFault requests (BadRequest row) = IsUtf8 requests × (script_of (rows_of requests) ≡ Err row)
IsRequestsFault requests fault = ⊥

-- the bundle has no fault, and gives this
abbrev pub GivesContent : List ℕ → Content → Type 0
GivesContent bundle content = BundleGives false bundle content []

-- the first fault of a bundle, or else of its requests
abbrev pub IsBundleFault : List ℕ → List ℕ → SeasonFault → Type 0
IsBundleFault bundle requests fault = HasFault false bundle fault ⊎ ((content : Content) × GivesContent bundle content × IsRequestsFault requests fault)

-- The bytes are cut, and the season or the requests have this first fault.
pub record HasSeasonFault (bytes : List ℕ) (fault : SeasonFault) : Type 0 where
  pub short : length bytes ≤ most_bundle_bytes
  pub bundle : List ℕ
  pub requests : List ℕ
  pub published : List ℕ
  pub cut : IsSplit bytes bundle requests published
  pub is : IsBundleFault bundle requests fault

-- The bytes are cut, neither the season nor the requests have a fault, and this line of the published texts is the first up to
-- which they begin no such texts as are due.
pub record HasPublishedFault (bytes : List ℕ) (line : ℕ) : Type 0 where
  pub short : length bytes ≤ most_bundle_bytes
  pub bundle : List ℕ
  pub requests : List ℕ
  pub published : List ℕ
  pub cut : IsSplit bytes bundle requests published
  pub content : Content
  pub script : List Request
  pub of_season : GivesContent bundle content
  pub of_script : IsScript requests script
  pub is : IsFaultLine (AreDuePapers content.matrix content.register.people content.head.rounds script) published line

-- the first fault of a dossier's bytes, in this order; `ReadFault` and `OutOfMemory` are none of theirs
abbrev pub HasDossierFault : List ℕ → DossierFault → Type 0
HasDossierFault bytes ReadFault = ⊥
HasDossierFault bytes TooLong = most_bundle_bytes < length bytes
HasDossierFault bytes NoSection = (length bytes ≤ most_bundle_bytes) × HasNoSection bytes
HasDossierFault bytes (BadSeason fault) = HasSeasonFault bytes fault
HasDossierFault bytes (Published line) = HasPublishedFault bytes line
HasDossierFault bytes OutOfMemory = ⊥

-- the first fault of given bytes; `OutOfMemory` says nothing of them
abbrev pub IsBytesFault : List ℕ → DossierFault → Type 0
IsBytesFault bytes ReadFault = ⊥
IsBytesFault bytes OutOfMemory = Unit {0}
IsBytesFault bytes fault = HasDossierFault bytes fault

-- the first fault of a body of requests; `OutOfMemory` says nothing of it
abbrev pub IsRequestsError : List ℕ → SeasonFault → Type 0
IsRequestsError requests NoSeasonMemory = Unit {0}
IsRequestsError requests fault = IsRequestsFault requests fault

-- a season's fault as the dossier's
abbrev pub season_error : SeasonFault → DossierFault
season_error NoSeasonMemory = OutOfMemory
season_error fault = BadSeason fault

-- the fault of published texts as the dossier's
abbrev pub papers_error : TextFault → DossierFault
papers_error (Line line) = Published line
papers_error NoTextMemory = OutOfMemory

-- a source was not read to its end: it failed, or gave too many bytes, or there was no memory; there is no other fault
abbrev pub IsUnread : Option (List ℕ) → Option (List ℕ) → DossierFault → Type 0
IsUnread before after ReadFault = Unit {0}
IsUnread before after TooLong = TookMore most_bundle_bytes before after
IsUnread before after OutOfMemory = Unit {0}
IsUnread before after fault = ⊥

-- the first fault of the bytes that a source gave up to its end
abbrev pub GaveFault : Option (List ℕ) → Option (List ℕ) → DossierFault → Type 0
GaveFault before after fault = (bytes : List ℕ) × Took bytes before after × IsAtEnd after × HasDossierFault bytes fault

-- The fault of a source: that of its bytes, if it gave all of them; or there are too many. `ReadFault` and
-- `OutOfMemory` say nothing of them.
abbrev pub GaveDossierFault : Option (List ℕ) → Option (List ℕ) → DossierFault → Type 0
GaveDossierFault before after ReadFault = Unit {0}
GaveDossierFault before after TooLong = TookMore most_bundle_bytes before after
GaveDossierFault before after OutOfMemory = Unit {0}
GaveDossierFault before after fault = GaveFault before after fault
