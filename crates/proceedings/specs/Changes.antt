-- What changes count, and whom an accepted answer is of.
use Rattle.std.specs.Prelude.{◌≡◌, ◌+◌, ℕ, Some}
use Rattle.office_base.specs.declared.choice.Choice.{Choice}
use Rattle.office_base.specs.declared.choice.Choice.TheVariants.{Freeze, Float, Slide, Withdraw}
use Rattle.kept_rows.specs.declared.rows.AnswerRow.{AnswerRow}
use Rattle.rank_lists.specs.Register.{row_of}
use Rattle.office_moves.specs.Decided.{decided}
use Rattle.office_moves.specs.Facts.{SeasonFacts}
use Rattle.office_moves.specs.History.{asked}
use Rattle.office_moves.specs.State.{State}
use Rattle.office_moves.specs.declared.decide.Decision.{Decision}
use Rattle.office_moves.specs.declared.decide.Decision.TheVariants.{Note}
use Rattle.office_moves.specs.declared.moves.Act.TheVariants.{Answer}

-- how many are still in after an accepted choice: one fewer after a withdrawal, else as many
abbrev pub StillAfter : Choice → ℕ → ℕ → Type 0
StillAfter Freeze old new = new ≡ old
StillAfter Float old new = new ≡ old
StillAfter Slide old new = new ≡ old
StillAfter Withdraw old new = new + 1 ≡ old

-- if the decision accepts an answer, its candidate is at this position of the register
abbrev pub IsAt : SeasonFacts → ℕ → Decision → Type 0
IsAt facts at (Note row) = row_of row.cand.0 facts.people ≡ Some at
IsAt facts at _ = Unit {0}

-- it is this decision, and with an accepted answer the position of its candidate
abbrev pub IsDecided : SeasonFacts → Decision → Decision × ℕ → Type 0
IsDecided facts right made = (made.0 ≡ right) × IsAt facts made.1 made.0

-- the answer is newly accepted, and its candidate is at this position of the register
abbrev pub IsAnswerAt : SeasonFacts → State → AnswerRow → ℕ → Type 0
IsAnswerAt facts state row at = (decided facts state (asked facts (Answer row)) ≡ Note row) × (row_of row.cand.0 facts.people ≡ Some at)
