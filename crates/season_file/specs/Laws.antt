-- That bytes give one season with its requests, which is sound, or have one fault.
use Rattle.std.specs.Prelude.{◌≡◌, ◌⊎◌, ℕ, Bool, List}
use Rattle.office_asks.specs.declared.ask.Request.{Request}
use Rattle.rank_lists.specs.Register.{AreRanks}
use Rattle.seat_matrix.specs.Laws.{AreCodes}
use Rattle.seat_matrix.specs.Matrix.{AreSeats, codes_in}
use Rattle.season_file.specs.Season.{BundleGives, IsSeasonFault}
use Rattle.season_file.specs.declared.fault.SeasonFault.{SeasonFault}
use Rattle.season_file.specs.declared.fault.SeasonFault.TheVariants.{OutOfMemory}
use Rattle.season_file.specs.declared.content.Content.{Content}

-- a fault of the bytes themselves: `OutOfMemory` is none
abbrev pub HasFault : Bool → List ℕ → SeasonFault → Type 0
HasFault requests bytes OutOfMemory = ⊥
HasFault requests bytes fault = IsSeasonFault requests bytes fault

-- What holds of each register and matrix that bytes give: both are sound, and codes of programmes are spelled as codes are.
pub record AreSound (content : Content) : Type 0 where
  pub ranks : AreRanks content.register
  pub seats : AreSeats content.matrix
  pub spelled : AreCodes (codes_in content.matrix.programmes)

-- Bytes give a season's content, which is sound, with its requests or have a fault; never both, never two that differ.
pub record HaveOneReading (requests : Bool) (bytes : List ℕ) : Type 0 where
  pub some : ((content : Content) × (script : List Request) × BundleGives requests bytes content script) ⊎ ((fault : SeasonFault) × HasFault requests bytes fault)
  pub apart : (content : Content) (script : List Request) (fault : SeasonFault) → BundleGives requests bytes content script → HasFault requests bytes fault → ⊥
  pub sound : (content : Content) (script : List Request) → BundleGives requests bytes content script → AreSound content
  pub one_content : (content other : Content) (script more : List Request) → BundleGives requests bytes content script → BundleGives requests bytes other more → content ≡ other
  pub one_script : (content other : Content) (script more : List Request) → BundleGives requests bytes content script → BundleGives requests bytes other more → script ≡ more
  pub one_fault : (fault other : SeasonFault) → HasFault requests bytes fault → HasFault requests bytes other → fault ≡ other
