-- The second verdict of an audit: every published round is the best one, or which round is the first that is not.
use Rattle.std.specs.Prelude.{◌≡◌, ◌<◌, ◌+◌, ℕ, List, Option, Some, length, slice_get}
use Rattle.office_asks.specs.declared.ask.Request.{Request}
use Rattle.office_base.specs.declared.seat.Seat.{Seat}
use Rattle.office_base.specs.declared.person.CandId.{CandId}
use Rattle.allocations.specs.Fair.{IsBest}
use Rattle.allocations.specs.Market.{Seeker, rank_of}
use Rattle.rounds.specs.Rule.{nobody, rule_of}
use Rattle.office_moves.specs.Decided.{decided}
use Rattle.office_moves.specs.Facts.{SeasonFacts}
use Rattle.office_moves.specs.Raised.{matrix_at}
use Rattle.office_moves.specs.State.{State}
use Rattle.office_moves.specs.declared.decide.Decision.TheVariants.{Publish}
use Rattle.audit_rules.specs.Cut.{seekers_at}
use Rattle.audit_rules.specs.Papers.{Papers, rows_after, seats_told}
use Rattle.audit_rules.specs.Replay.{before}
use Rattle.best_audit.specs.declared.verdict.BestVerdict.{BestVerdict}
use Rattle.best_audit.specs.declared.verdict.BestVerdict.TheVariants.{Best, NotBest}

-- ---- one cut

-- the seats are the best allocation at a cut: by the matrix as it was raised, on what everybody sought
abbrev pub AreBestAt : SeasonFacts → State → List (Option Seat) → Type 0
AreBestAt facts state seats = IsBest (rule_of facts.version nobody (matrix_at facts state)) (length facts.matrix.programmes) (seekers_at facts state) seats

-- the seats that the text of the round gives, along the people
abbrev pub seats_given : SeasonFacts → Papers → State → List (Option Seat)
seats_given facts papers state = seats_told (rows_after papers state.now) facts.people

-- the round that the text gives is the best one
abbrev pub IsBestCut : SeasonFacts → Papers → State → Type 0
IsBestCut facts papers state = AreBestAt facts state (seats_given facts papers state)

-- The first seats give the seeker at this place an earlier place of what the seeker sought than the second seats do.
pub record IsBetter (seekers : List Seeker) (seats others : List (Option Seat)) (at : ℕ) : Type 0 where
  pub s : Seeker
  pub there : slice_get seekers at ≡ Some s
  pub seat : Option Seat
  pub has : slice_get seats at ≡ Some seat
  pub other : Option Seat
  pub had : slice_get others at ≡ Some other
  pub better : rank_of s.list seat < rank_of s.list other

-- The best round gives the candidate at this place of the register a better place than the text does.
pub record Gains (facts : SeasonFacts) (papers : Papers) (state : State) (at : ℕ) : Type 0 where
  pub best : List (Option Seat)
  pub is_best : AreBestAt facts state best
  pub gain : IsBetter (seekers_at facts state) best (seats_given facts papers state) at

-- The candidate is the first of the register whom the best round gives a better place.
pub record GainsFirst (facts : SeasonFacts) (papers : Papers) (state : State) (cand : CandId) : Type 0 where
  pub at : ℕ
  pub gains : Gains facts papers state at
  pub is : gains.gain.s.person.id ≡ cand
  pub earlier : (k : ℕ) → k < at → Gains facts papers state k → ⊥

-- ---- a script

-- the request at this place of a script is a cut that publishes a round
abbrev pub PublishesAt : SeasonFacts → List Request → Papers → ℕ → Type 0
PublishesAt facts script papers j = (request : Request) × (slice_get script j ≡ Some request) × (decided facts (before facts script papers j) request ≡ Publish)

-- every round that the cuts of the script publish is the best one on what everybody sought at its cut
abbrev pub AreBestRounds : SeasonFacts → List Request → Papers → Type 0
AreBestRounds facts script papers = (j : ℕ) → PublishesAt facts script papers j → IsBestCut facts papers (before facts script papers j)

-- The round of this number is the first that is not the best one, and the candidate is the first whom the best round gives a better place.
pub record IsFirstNotBest (facts : SeasonFacts) (script : List Request) (papers : Papers) (round : ℕ) (cand : CandId) : Type 0 where
  pub at : ℕ
  pub publishes : PublishesAt facts script papers at
  pub earlier : (j : ℕ) → j < at → PublishesAt facts script papers j → IsBestCut facts papers (before facts script papers j)
  pub number : round ≡ (before facts script papers at).now + 1
  pub first : GainsFirst facts papers (before facts script papers at) cand

-- Every published round is the best one; or the first round that is not.
abbrev pub IsBestVerdict : SeasonFacts → List Request → Papers → BestVerdict → Type 0
IsBestVerdict facts script papers Best = AreBestRounds facts script papers
IsBestVerdict facts script papers (NotBest round cand) = IsFirstNotBest facts script papers round cand
