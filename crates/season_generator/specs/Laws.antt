-- That a season that is made up is a season bundle, and has no fault.
use Rattle.std.specs.Prelude.{◌≤◌, ℕ, true, List}
use Rattle.office_base.specs.Limits.{most_generated}
use Rattle.office_asks.specs.declared.ask.Request.{Request}
use Rattle.season_generator.specs.Bundle.{generated}
use Rattle.season_file.specs.Laws.{HasFault}
use Rattle.season_file.specs.Season.{BundleGives}
use Rattle.season_file.specs.declared.content.Content.{Content}
use Rattle.season_file.specs.declared.fault.SeasonFault.{SeasonFault}

-- the bytes give the content of a season and requests
abbrev pub IsSeasonBundle : List ℕ → Type 0
IsSeasonBundle bytes = (content : Content) × (script : List Request) × BundleGives true bytes content script

-- For up to 100,000 candidates, whatever the seed, what is generated is a season bundle.
abbrev pub GeneratedIsBundle : Type 0
GeneratedIsBundle = (n seed : ℕ) → n ≤ most_generated → IsSeasonBundle (generated n seed)

-- So it has no fault.
abbrev pub GeneratedHasNoFault : Type 0
GeneratedHasNoFault = (n seed : ℕ) (fault : SeasonFault) → n ≤ most_generated → HasFault true (generated n seed) fault → ⊥
