-- The special round: one round over what final admissions left.
use Rattle.std.specs.Prelude.{◌≡◌, ◌<◌, ◌≤◌, ◌+◌, ◌-◌, ℕ, List, Some, None, length, map}
use Rattle.std.specs.List.{AllByRecursion}
use Rattle.office_base.specs.declared.person.Person.{Person}
use Rattle.kept_rows.specs.declared.rows.AllotRow.{AllotRow}
use Rattle.seat_matrix.specs.Matrix.{SeatTable, steps_in}
use Rattle.seeks.specs.declared.seek.Seek.{Seek}
use Rattle.seeks.specs.declared.seek.Seek.TheVariants.{Whole}
use Rattle.round_laws.specs.Laws.{lists_in}
use Rattle.rounds.specs.Round.{IsRound}
use Rattle.rounds.specs.Rule.{nobody}
use Rattle.office_moves.specs.Facts.{SeasonFacts}
use Rattle.office_moves.specs.Raised.{matrix_at, seats_in_all, total_seats}
use Rattle.office_moves.specs.State.{State, seat_of}
use Rattle.special_round.specs.Rows.{rows_in, seats_held}
use Rattle.special_round.specs.Season.{IsLeftSeason}
use Rattle.special_round.specs.declared.round_over.Special.{Special}

-- everybody seeks the whole own list
abbrev pub all_whole : List Person → List Seek
all_whole people = map (λ person. Whole) people

-- A special round over final rows, the seats of a matrix, and new lists.
pub record IsSpecialOver (facts : SeasonFacts) (table : SeatTable) (rows : List AllotRow) (body : List ℕ) (special : Special) : Type 0 where
  -- its season is what the final rows left
  pub season : IsLeftSeason facts table rows body special.season
  -- so many seats they left vacant
  pub vacant : special.vacant ≡ total_seats table - length rows
  -- its round is the round of that season, on the whole lists
  pub round : IsRound facts.version nobody special.season.matrix facts.people (lists_in special.season.choices) 1 (all_whole facts.people) special.round
  -- nobody has both a final row and a seat of the round
  pub apart : AllByRecursion (λ row. seat_of facts (Some special.round) row.cand.0 ≡ None) rows
  -- the final rows and the seats of the round of a programme are together at most its seats
  pub within : (prog : ℕ) → prog < length facts.matrix.programmes → rows_in rows prog + seats_held special.round.seats prog ≤ seats_in_all (steps_in table prog)

-- The special round of an office, by the raised matrix and its final admissions.
abbrev pub IsSpecial : SeasonFacts → State → List ℕ → Special → Type 0
IsSpecial facts state body special = (rows : List AllotRow) × (state.finals ≡ Some rows) × IsSpecialOver facts (matrix_at facts state) rows body special
