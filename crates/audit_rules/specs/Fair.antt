-- What a season's papers are worth where no clause is broken.
use Rattle.std.specs.Prelude.{◌≡◌, ◌<◌, ◌+◌, ◌*◌, ℕ, true, Bool, ◌==◌, ◌&&◌, nat_le, List, [], ◌∷◌, Some, IsSome, min, length, slice_get, if◌then◌else◌}
use Rattle.office_asks.specs.declared.ask.Ask.{Ask}
use Rattle.office_asks.specs.declared.ask.Ask.TheVariants.{Cut}
use Rattle.office_asks.specs.declared.ask.Request.{Request}
use Rattle.office_base.specs.declared.seat.Seat.{Seat}
use Rattle.allocations.specs.Fair.{HasClaim, IsFair}
use Rattle.allocations.specs.Market.{applicants}
use Rattle.list_audit.specs.Clauses.{named_by}
use Rattle.office_moves.specs.Decided.{decided}
use Rattle.office_moves.specs.Facts.{SeasonFacts, lists_in_order}
use Rattle.office_moves.specs.Judge.{is_clerk}
use Rattle.office_moves.specs.Moves.{final_rows}
use Rattle.office_moves.specs.Promise.{IsNoWorse}
use Rattle.office_moves.specs.Raised.{matrix_at}
use Rattle.office_moves.specs.State.{State, last_seat, seat_of, standing_at, view_of}
use Rattle.office_moves.specs.declared.decide.Decision.{Decision}
use Rattle.office_moves.specs.declared.decide.Decision.TheVariants.{Publish, Finish}
use Rattle.programme_lists.specs.Chosen.{ChoosesFrom}
use Rattle.programme_lists.specs.declared.programme.Programme.{Programme}
use Rattle.round_options.specs.Options.{holds}
use Rattle.rounds.specs.Rule.{nobody, rule_of, seekers_of}
use Rattle.rounds.specs.declared.round.Round.{Round}
use Rattle.seat_matrix.specs.Matrix.{seats_in}
use Rattle.audit_rules.specs.Papers.{Papers}
use Rattle.audit_rules.specs.Replay.{before, round_of}

-- ---- the papers that a script needs

-- how many windows are cut, where so many are, after a request: a cut of the open window by the clerk, up to the one after the last round, is one more
abbrev pub cut_by : ℕ → ℕ → Bool → Ask → ℕ
cut_by rounds now clerk (Cut window) = if clerk && (window == now && nat_le now rounds) then now + 1 else now
cut_by rounds now clerk _ = now

-- and after a script
abbrev pub cuts_of : ℕ → ℕ → List Request → ℕ
cuts_of rounds now [] = now
cuts_of rounds now (request ∷ requests) = cuts_of rounds (cut_by rounds now (is_clerk request.by) request.ask) requests

-- There is a text of each round that the script's cuts publish, and of each a list of each programme.
pub record AreWhole (facts : SeasonFacts) (script : List Request) (papers : Papers) : Type 0 where
  pub rounds : length papers.rounds ≡ min facts.rounds (cuts_of facts.rounds 0 script)
  pub lists : length papers.lists ≡ length papers.rounds * length facts.matrix.programmes

-- ---- fair rounds

-- A round that follows a state is fair. Its seats are those of a fair allocation by the raised matrix, on what everybody sought.
-- The lists of each programme name its choice from those who apply to it, and nobody has a justified claim.
-- A candidate whose standing was freeze, float or slide had a seat, and has one that is no worse.
pub record IsFairCut (facts : SeasonFacts) (state : State) (round : Round) : Type 0 where
  pub fair : IsFair (rule_of facts.version nobody (matrix_at facts state)) (length facts.matrix.programmes) (seekers_of (matrix_at facts state) facts.people (lists_in_order facts) round.seeks) round.seats
  pub count : length round.programmes ≡ length facts.matrix.programmes
  pub shown : (p : ℕ) (programme : Programme) → slice_get round.programmes p ≡ Some programme
      → ChoosesFrom facts.version (seats_in (matrix_at facts state) p)
      (applicants p (seekers_of (matrix_at facts state) facts.people (lists_in_order facts) round.seeks) round.seats) (named_by programme)
  pub no_claim : (p i : ℕ) → p < length facts.matrix.programmes
      → HasClaim (rule_of facts.version nobody (matrix_at facts state)) (seekers_of (matrix_at facts state) facts.people (lists_in_order facts) round.seeks) round.seats i p → ⊥
  pub nobody_falls : (id : ℕ) → holds (standing_at facts (view_of state id) id state.now) ≡ true
      → (old new : Seat) × (last_seat facts state.rounds id ≡ Some old) × (seat_of facts (Some round) id ≡ Some new)
      × IsNoWorse facts (standing_at facts (view_of state id) id state.now) id old new

-- The last cut is fair. The final rows are those of the candidates whose standing is freeze, float or slide.
-- Each of these has a seat of the last round.
pub record IsFairEnd (facts : SeasonFacts) (state : State) (papers : Papers) : Type 0 where
  pub finals : papers.finals ≡ Some (final_rows facts state)
  pub nobody_falls : (id : ℕ) → holds (standing_at facts (view_of state id) id state.now) ≡ true → IsSome (last_seat facts state.rounds id)

-- A request of the script cuts this window, and comes to this decision.
pub record IsCutBy (facts : SeasonFacts) (script : List Request) (papers : Papers) (window : ℕ) (decision : Decision) : Type 0 where
  pub at : ℕ
  pub request : Request
  pub there : slice_get script at ≡ Some request
  pub now : (before facts script papers at).now ≡ window
  pub decides : decided facts (before facts script papers at) request ≡ decision

-- Each text of a round is taken: a request of the script publishes the round of this number.
-- If the script makes the cut after the last round, a request makes it, and takes the text of the final admissions.
pub record AreTaken (facts : SeasonFacts) (script : List Request) (papers : Papers) : Type 0 where
  pub rounds : (number : ℕ) → number < length papers.rounds → IsCutBy facts script papers number Publish
  pub finals : facts.rounds < cuts_of facts.rounds 0 script → IsCutBy facts script papers facts.rounds Finish

-- Every round that the script's cuts publish is fair, and so is the last cut. Each text is taken by such a cut.
pub record AreFairRounds (facts : SeasonFacts) (script : List Request) (papers : Papers) : Type 0 where
  pub rounds : (j : ℕ) (request : Request) → slice_get script j ≡ Some request → decided facts (before facts script papers j) request ≡ Publish
      → IsFairCut facts (before facts script papers j) (round_of facts papers (before facts script papers j))
  pub finals : (j : ℕ) (request : Request) → slice_get script j ≡ Some request → decided facts (before facts script papers j) request ≡ Finish
      → IsFairEnd facts (before facts script papers j) papers
  pub taken : AreTaken facts script papers
