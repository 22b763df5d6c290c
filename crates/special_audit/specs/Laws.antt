-- That bytes have one finding or one fault, and what a sound special round is worth.
use Rattle.std.specs.Prelude.{◌≡◌, ◌<◌, ℕ, List}
use Rattle.kept_rows.specs.declared.rows.AllotRow.{AllotRow}
use Rattle.seat_matrix.specs.Matrix.{AreSeats, SeatTable}
use Rattle.office_base.specs.Lists.{Pairwise}
use Rattle.office_base.specs.declared.person.Person.{Person}
use Rattle.one_output.specs.VerdictLaws.{AreSame}
use Rattle.special_round.specs.Remaining.{IsRemaining}
use Rattle.special_audit.specs.Found.{IsFound, IsFoundFault}
use Rattle.special_audit.specs.declared.found.Found.{Found}
use Rattle.special_audit.specs.declared.found.Found.TheVariants.{OfSeason, OfSpecial}
use Rattle.special_audit.specs.declared.found.FoundFault.{FoundFault}
use Rattle.special_audit.specs.declared.found.FoundFault.TheVariants.{Dossier as BadDossier, Special as BadSpecial}
use Rattle.special_audit.specs.declared.special.SpecialError.TheVariants.{OutOfMemory as NoSpecialMemory}
use Rattle.dossier_file.specs.declared.fault.DossierFault.TheVariants.{OutOfMemory as NoDossierMemory}

-- What final rows of rising ids leave of a matrix is one.
abbrev pub OneRemaining : Type 0
OneRemaining = (people : List Person) (rows : List AllotRow) (table left other : SeatTable) → Pairwise (λ a b. a.cand.0 < b.cand.0) rows → AreSeats left → AreSeats other
    → IsRemaining people rows table left → IsRemaining people rows table other → left ≡ other

-- the papers and the verdict of two findings are the same
abbrev pub AreAlike : Found → Found → Type 0
AreAlike (OfSeason dossier verdict) (OfSeason other more) = AreSame dossier other × (verdict ≡ more)
AreAlike (OfSpecial dossier rounds special verdict) (OfSpecial other number again more) = AreSame dossier other × (rounds ≡ number) × AreSame special again × (verdict ≡ more)
AreAlike _ _ = ⊥

-- the fault is one of the bytes, and not that memory ran out
abbrev pub IsOfBytes : FoundFault → Type 0
IsOfBytes (BadDossier NoDossierMemory) = ⊥
IsOfBytes (BadSpecial NoSpecialMemory) = ⊥
IsOfBytes fault = Unit {0}

-- the first fault of bytes
abbrev pub HasFoundFault : List ℕ → FoundFault → Type 0
HasFoundFault bytes fault = IsOfBytes fault × IsFoundFault bytes fault

-- Bytes of which an audit finds something have no fault; what it finds is one, and so is their first fault.
pub record HaveOneFinding (bytes : List ℕ) : Type 0 where
  pub apart : (found : Found) (fault : FoundFault) → IsFound bytes found → HasFoundFault bytes fault → ⊥
  pub one_found : (found other : Found) → IsFound bytes found → IsFound bytes other → AreAlike found other
  pub one_fault : (fault other : FoundFault) → HasFoundFault bytes fault → HasFoundFault bytes other → fault ≡ other
