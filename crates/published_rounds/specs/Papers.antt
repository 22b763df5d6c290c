-- What the seats of a special round, and of papers that break no clause, are worth to each person.
use Rattle.std.specs.Prelude.{◌≡◌, ◌<◌, ◌≤◌, ◌+◌, ℕ, suc, List, Option, Some, count_by, length, slice_get}
use Rattle.office_asks.specs.declared.ask.Request.{Request}
use Rattle.office_base.specs.declared.seat.Seat.{Seat}
use Rattle.kept_rows.specs.declared.rows.AllotRow.{AllotRow}
use Rattle.allocations.specs.Market.{is_of}
use Rattle.seat_matrix.specs.Matrix.{SeatTable, seats_in}
use Rattle.choice_lists.specs.Choices.{list_of}
use Rattle.office_moves.specs.Decided.{decided}
use Rattle.office_moves.specs.Facts.{IsSound, SeasonFacts}
use Rattle.office_moves.specs.Raised.{matrix_at}
use Rattle.office_moves.specs.State.{seat_of}
use Rattle.office_moves.specs.declared.decide.Decision.TheVariants.{Publish}
use Rattle.published_rounds.specs.Fair.{newly_seated, raised_in}
use Rattle.published_rounds.specs.People.{AreJustified}
use Rattle.special_round.specs.Special.{IsSpecialOver}
use Rattle.special_round.specs.declared.round_over.Special.{Special}
use Rattle.audit_rules.specs.Cut.{seat_given, sought_by}
use Rattle.audit_rules.specs.Fair.{AreWhole, IsCutBy}
use Rattle.audit_rules.specs.Papers.{Papers, rows_after, seats_told}
use Rattle.audit_rules.specs.Replay.{before}
use Rattle.audit_rules.specs.Verdict.{IsVerdict}
use Rattle.audit_rules.specs.declared.verdict.Verdict.TheVariants.{Sound}

-- The seats of a special round can be justified to each person: by the seats and protections that the final admissions left, and by the lists that were handed in.
abbrev pub SpecialRoundsAreJustified : Type 0
SpecialRoundsAreJustified = (facts : SeasonFacts) (table : SeatTable) (rows : List AllotRow) (body : List ℕ) (special : Special) → IsSound facts → IsSpecialOver facts table rows body special
    → AreJustified facts.version special.season.matrix facts.people (list_of special.season.choices) (seat_of facts (Some special.round))

-- The papers of a season have a text of each round and break no clause, and a request of the script publishes a round.
-- Then the seats that its text gives can be justified to each person: by the matrix with the raises so far, and by what everybody sought at this cut.
abbrev pub SoundPapersAreJustified : Type 0
SoundPapersAreJustified = (facts : SeasonFacts) (script : List Request) (papers : Papers) (rounds j : ℕ) (request : Request) → IsSound facts → AreWhole facts script papers
    → IsVerdict facts script papers (Sound rounds) → slice_get script j ≡ Some request → decided facts (before facts script papers j) request ≡ Publish
    → AreJustified facts.version (matrix_at facts (before facts script papers j)) facts.people (sought_by facts (before facts script papers j)) (seat_given papers (before facts script papers j))

-- From the first seats to the others, a programme gains at most as many holders as its steps gained seats, and none if its seats stayed the same.
-- So those who are newly seated are at most those who lost a seat of it, and the seats that were raised.
pub record HasFewNewHolders (table more : SeatTable) (seats others : List (Option Seat)) (prog : ℕ) : Type 0 where
  pub raised : count_by (is_of prog) others ≤ count_by (is_of prog) seats + raised_in table more prog
  pub unraised : seats_in more prog ≡ seats_in table prog → count_by (is_of prog) others ≤ count_by (is_of prog) seats
  pub newly : newly_seated prog seats others ≤ newly_seated prog others seats + raised_in table more prog

-- No vacancy fills by itself. The papers of a season have a text of each round and break no clause, one request of the script publishes a round, and one the
-- next round. Then each programme gains few holders from the first text to the second, by the matrices at the two cuts.
abbrev pub NoVacancyFillsInSoundPapers : Type 0
NoVacancyFillsInSoundPapers = (facts : SeasonFacts) (script : List Request) (papers : Papers) (rounds window prog : ℕ) → IsSound facts → AreWhole facts script papers
    → IsVerdict facts script papers (Sound rounds) → (first : IsCutBy facts script papers window Publish) → (next : IsCutBy facts script papers (suc window) Publish)
    → prog < length facts.matrix.programmes
    → HasFewNewHolders (matrix_at facts (before facts script papers first.at)) (matrix_at facts (before facts script papers next.at))
    (seats_told (rows_after papers window) facts.people) (seats_told (rows_after papers (suc window)) facts.people) prog
