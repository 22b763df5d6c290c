-- How a plain bundle reads that came from one with units, and what its choice lists are.
use Rattle.std.specs.Prelude.{◌≡◌, ◌≢◌, ◌⊎◌, ℕ, true, List, ◌++◌, Some, Ok, slice_get, option_map}
use Rattle.std.specs.Fmt.{decimal}
use Rattle.office_base.specs.Lists.{IsAmong}
use Rattle.office_asks.specs.declared.ask.Request.{Request}
use Rattle.office_base.specs.declared.person.ProgId.{ProgId}
use Rattle.section_rows.specs.Rows.{Row, rows_of}
use Rattle.request_rows.specs.Requests.{script_of}
use Rattle.choice_lists.specs.Choices.{list_of}
use Rattle.season_file.specs.Bundle.{Parts, bundle_of}
use Rattle.season_file.specs.Laws.{HasFault}
use Rattle.season_file.specs.Replaced.{with_choices}
use Rattle.season_file.specs.Season.{BundleGives, IsClerkApart, IsSectionFault, IsText, SectionsGive, request_rows_of}
use Rattle.season_file.specs.declared.content.Content.{Content}
use Rattle.season_file.specs.declared.fault.SeasonFault.{SeasonFault}
use Rattle.season_file.specs.declared.fault.SeasonFault.TheVariants.{BadFirstLine, NotUtf8, Section, TooLong}
use Rattle.quota_units.specs.Homes.{Homes, home_at}
use Rattle.quota_units.specs.Mapping.{home_end, mapped_rows, other_end}

-- A bundle is cut so, its rows of choices are mapped, and this is a body of the mapped rows.
pub record HasMapped (units states bundle : _) : Type 0 where
  pub parts : Parts
  pub cut : bundle_of true bundle ≡ Ok parts
  pub rows : List Row
  pub mapped : mapped_rows units states (rows_of parts.choices) ≡ Ok rows
  pub body : List ℕ
  pub spelled : rows_of body ≡ rows

-- the bundle with every row of its choices mapped gives this
abbrev pub MappedGives : Homes → Homes → List ℕ → Content → List Request → Type 0
MappedGives units states bundle content script =
    IsText bundle × ((m : HasMapped units states bundle) × SectionsGive (with_choices m.parts m.body) content × (script_of (request_rows_of m.parts) ≡ Ok script)) × IsClerkApart content

-- and so this is its first fault: one of its bytes or its lines, which no row changes, or one in the contents of its
-- sections
abbrev pub HasMappedFault : Homes → Homes → List ℕ → SeasonFault → Type 0
HasMappedFault units states bundle NotUtf8 = HasFault true bundle NotUtf8
HasMappedFault units states bundle BadFirstLine = HasFault true bundle BadFirstLine
HasMappedFault units states bundle (Section line) = HasFault true bundle (Section line)
HasMappedFault units states bundle fault = IsText bundle × ((m : HasMapped units states bundle) × IsSectionFault (with_choices m.parts m.body) fault)

-- Reading the text is reading the bundle with every row of its choices mapped, but that the text may be too long.
pub record ReadsMapped (units states bundle text : _) : Type 0 where
  pub gives : (content : Content) (script : List Request) → BundleGives true text content script → MappedGives units states bundle content script
  pub fault : (fault : SeasonFault) → HasFault true text fault → (fault ≡ TooLong) ⊎ HasMappedFault units states bundle fault

-- A candidate with a unit of a divided programme on the list: with the home unit if the candidate is of the home state,
-- and with the other unit if of another state.
pub record LivesRight (units states : Homes) (candidate : ℕ) (code : List ℕ) : Type 0 where
  pub home : (base state : List ℕ) → home_at base units ≡ Some state → code ≡ base ++ home_end → home_at (decimal candidate) states ≡ Some state
  pub other : (base state : List ℕ) → home_at base units ≡ Some state → code ≡ base ++ other_end → (own : List ℕ) × (home_at (decimal candidate) states ≡ Some own) × (own ≢ state)

-- all who are on the lists
abbrev pub AllLiveRight : Homes → Homes → Content → Type 0
AllLiveRight units states content = (candidate : ℕ) (prog : ProgId) (code : List ℕ) → IsAmong prog (list_of content.choices candidate)
    → option_map (λ held. held.0) (slice_get content.matrix.programmes prog.0) ≡ Some code → LivesRight units states candidate code
