-- Offices with one history keep the same records.
use Rattle.std.specs.Prelude.{◌≡◌, ℕ, List}
use Rattle.rank_lists.specs.Register.{find_holder}
use Rattle.kept_rows.specs.Tables.{Tables, Untold, NoSeason, Records}
use Rattle.kept_rows.specs.declared.rows.Kept.{Kept}
use Rattle.office_moves.specs.Facts.{IsSound, SeasonFacts}
use Rattle.office_moves.specs.History.{IsHistory}
use Rattle.office_moves.specs.Stands.{Stand, first_allot, raises_in}
use Rattle.office_moves.specs.State.{State, in_window}
use Rattle.office_moves.specs.declared.moves.Entry.{Entry}

-- Two seasons say the same. Only the order in which a register keeps its tokens may differ; each token has the same holder.
pub record SayTheSame (facts other : SeasonFacts) : Type 0 where
  pub version : facts.version ≡ other.version
  pub rounds : facts.rounds ≡ other.rounds
  pub clerk : facts.clerk ≡ other.clerk
  pub people : facts.people ≡ other.people
  pub holders : (token : List ℕ) → find_holder token facts.holders ≡ find_holder token other.holders
  pub matrix : facts.matrix ≡ other.matrix
  pub lists : facts.lists ≡ other.lists
  pub text : facts.text ≡ other.text

-- Records say the same: they have the same text and as many cuts, in each window the same answers and the same raises, in
-- their order, and in each round the same seat of each candidate.
pub record AreSameRecords (records other : Kept) : Type 0 where
  pub season : records.season ≡ other.season
  pub cuts : records.cuts ≡ other.cuts
  pub answers : (window : ℕ) → in_window window records.answers ≡ in_window window other.answers
  pub raises : (window : ℕ) → raises_in window records.raises ≡ raises_in window other.raises
  pub allots : (number id : ℕ) → first_allot number id records.allots ≡ first_allot number id other.allots

-- Tables hold the same, if both are visible: no season, or records that say the same.
abbrev pub HoldTheSame : Tables → Tables → Type 0
HoldTheSame Untold other = Unit {0}
HoldTheSame NoSeason Untold = Unit {0}
HoldTheSame NoSeason NoSeason = Unit {0}
HoldTheSame NoSeason (Records other) = ⊥
HoldTheSame (Records records) Untold = Unit {0}
HoldTheSame (Records records) NoSeason = ⊥
HoldTheSame (Records records) (Records other) = AreSameRecords records other

-- Two offices of one season with one history keep the same. Their registers may keep tokens in different orders.
abbrev pub HistoriesKeepOne : Type 0
HistoriesKeepOne = (facts other : SeasonFacts) (entries : List Entry) (state then : State) (tables more : Tables) → IsSound facts → SayTheSame facts other
    → IsHistory facts entries state → IsHistory other entries then → Stand facts state tables → Stand other then more → HoldTheSame tables more
