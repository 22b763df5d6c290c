-- That bytes are a dossier or have one first fault, and not both, and that published texts say one thing alone.
use Rattle.std.specs.Prelude.{◌≡◌, ◌<◌, ◌-◌, ◌^◌, ℕ, List}
use Rattle.office_asks.specs.declared.ask.Request.{Request}
use Rattle.office_base.specs.declared.person.Person.{Person}
use Rattle.seat_matrix.specs.Matrix.{SeatTable}
use Rattle.season_file.specs.declared.season.Season.{Season}
use Rattle.dossier_file.specs.Dossier.{AreDossier, HasDossierFault}
use Rattle.dossier_file.specs.Papers.{AreDuePapers}
use Rattle.dossier_file.specs.Texts.{AreReadable}
use Rattle.dossier_file.specs.declared.fault.DossierFault.{DossierFault}
use Rattle.dossier_file.specs.declared.papers.Papers.{Papers}

-- Bytes that are a dossier have no fault, and bytes have one first fault at most. Texts by the season of a dossier can be read.
pub record HaveOneDossier (bytes : List ℕ) : Type 0 where
  pub apart : (season : Season) (script : List Request) (papers : Papers) (fault : DossierFault) → AreDossier bytes season script papers → HasDossierFault bytes fault → ⊥
  pub readable : (season : Season) (script : List Request) (papers : Papers) → AreDossier bytes season script papers → AreReadable season.matrix season.register.people
  pub one_fault : (fault other : DossierFault) → HasDossierFault bytes fault → HasDossierFault bytes other → fault ≡ other

-- Texts that are due say one thing alone, where codes and ids are distinct, as in every matrix and register.
abbrev pub TextsAreOne : Type 0
TextsAreOne = (table : SeatTable) (people : List Person) (rounds : ℕ) (script : List Request) (text : List ℕ) (papers more : Papers) → rounds < 2 ^ 16 - 1 → AreReadable table people
    → AreDuePapers table people rounds script text papers → AreDuePapers table people rounds script text more → papers ≡ more
