-- The remaining season: what final rows left of a season, with new lists.
use Rattle.std.specs.Prelude.{◌≡◌, ◌+◌, ℕ, Bool, false, ◌==◌, ◌||◌, List, [], ◌∷◌, Option, Some, None, if◌then◌else◌}
use Rattle.office_base.specs.Limits.{last_id}
use Rattle.office_text.specs.Number.{number_within}
use Rattle.section_rows.specs.Rows.{Row, field, rows_of}
use Rattle.section_rows.specs.declared.fault.TableFault.TheVariants.{Bad, OutOfMemory as NoMemory}
use Rattle.kept_rows.specs.declared.rows.AllotRow.{AllotRow}
use Rattle.seat_matrix.specs.Matrix.{AreSeats, SeatTable}
use Rattle.choice_lists.specs.Choices.{IsFault, IsRead, Lists as ChoiceLists}
use Rattle.season_file.specs.declared.season.Season.{Season}
use Rattle.office_moves.specs.Facts.{SeasonFacts, register_of}
use Rattle.office_moves.specs.Raised.{matrix_at}
use Rattle.office_moves.specs.State.{State}
use Rattle.special_round.specs.Remaining.{IsRemaining}
use Rattle.special_round.specs.declared.fault.SpecialFault.{SpecialFault}
use Rattle.special_round.specs.declared.fault.SpecialFault.TheVariants.{Admitted, Lists, NotFinal, OutOfMemory}

-- ---- lists of those without an admission

-- a candidate of this id has a final row
abbrev pub has_final : ℕ → List AllotRow → Bool
has_final id [] = false
has_final id (row ∷ rows) = row.cand.0 == id || has_final id rows

-- the number is one of such a candidate
abbrev pub is_admitted : Option ℕ → List AllotRow → Bool
is_admitted None rows = false
is_admitted (Some id) rows = has_final id rows

-- the number of the first of these rows whose first field spells the id of a candidate with a final row; the first of them has this number
abbrev pub admitted_from : List AllotRow → ℕ → List Row → Option ℕ
admitted_from finals number [] = None
admitted_from finals number (row ∷ rows) =
    if is_admitted (number_within 1 last_id (field row 0)) finals then Some number else admitted_from finals (number + 1) rows

-- the first such row after the header, which is row 1
abbrev pub first_admitted : List AllotRow → List Row → Option ℕ
first_admitted finals [] = None
first_admitted finals (header ∷ rows) = admitted_from finals 2 rows

-- ---- the season

-- Final rows and the seats of this matrix leave this season: one round for the people of the season, with the lists of the body, in which nobody has a row who
-- has a final row.
pub record IsLeftSeason (facts : SeasonFacts) (table : SeatTable) (rows : List AllotRow) (body : List ℕ) (season : Season) : Type 0 where
  pub version : season.version ≡ facts.version
  pub rounds : season.rounds ≡ 1
  pub clerk : season.clerk ≡ facts.clerk
  pub register : season.register ≡ register_of facts
  pub matrix : IsRemaining facts.people rows table season.matrix
  pub seats : AreSeats season.matrix
  pub lists : IsRead (register_of facts) facts.matrix (rows_of body) season.choices
  pub nobody : first_admitted rows (rows_of body) ≡ None
  pub text : season.text ≡ []

-- the remaining season of an office: its final admissions leave it of the raised matrix
abbrev pub IsRemainingSeason : SeasonFacts → State → List ℕ → Season → Type 0
IsRemainingSeason facts state body season = (rows : List AllotRow) × (state.finals ≡ Some rows) × IsLeftSeason facts (matrix_at facts state) rows body season

-- ---- faults

-- why lists must be refused, given the final rows: their own first fault; otherwise their first row of a candidate with a
-- final row; running out of memory is always possible
abbrev pub AreRefused : SeasonFacts → List AllotRow → List ℕ → SpecialFault → Type 0
AreRefused facts rows body (NotFinal now) = ⊥
AreRefused facts rows body (Lists (Bad row kind)) = IsFault (register_of facts) facts.matrix (rows_of body) (Bad row kind)
AreRefused facts rows body (Lists NoMemory) = ⊥
AreRefused facts rows body (Admitted row) = ((lists : ChoiceLists) × IsRead (register_of facts) facts.matrix (rows_of body) lists) × (first_admitted rows (rows_of body) ≡ Some row)
AreRefused facts rows body OutOfMemory = Unit {0}

-- Why there is no special round: the final cut is not made; or the lists have a fault; or else a candidate with a final row has a row in them. Want of memory
-- tells nothing.
abbrev pub IsSpecialFault : SeasonFacts → State → List ℕ → SpecialFault → Type 0
IsSpecialFault facts state body (NotFinal now) = (state.finals ≡ None) × (now ≡ state.now)
IsSpecialFault facts state body (Lists fault) = (rows : List AllotRow) × (state.finals ≡ Some rows) × AreRefused facts rows body (Lists fault)
IsSpecialFault facts state body (Admitted row) = (rows : List AllotRow) × (state.finals ≡ Some rows) × AreRefused facts rows body (Admitted row)
IsSpecialFault facts state body OutOfMemory = Unit {0}

-- ---- one answer

-- lists that may be handed in: the final cut is made, the lists have no fault, and nobody with a final row has a row in them
abbrev pub MayBeHeld : SeasonFacts → State → List ℕ → Type 0
MayBeHeld facts state body = (rows : List AllotRow) × (state.finals ≡ Some rows) × ((lists : ChoiceLists) × IsRead (register_of facts) facts.matrix (rows_of body) lists)
    × (first_admitted rows (rows_of body) ≡ None)
