-- The replay of a season from its papers: the office's own moves over a script, but each cut takes what the papers tell and computes nothing.
use Rattle.std.specs.Prelude.{◌+◌, ℕ, List, [], ◌∷◌, length, take}
use Rattle.std.specs.Option.{unwrap_or}
use Rattle.office_asks.specs.declared.ask.Request.{Request}
use Rattle.kept_rows.specs.declared.rows.AllotRow.{AllotRow}
use Rattle.rounds.specs.declared.round.Round.{Round}
use Rattle.office_moves.specs.Decided.{decided}
use Rattle.office_moves.specs.Facts.{SeasonFacts}
use Rattle.office_moves.specs.Moves.{next_seeks}
use Rattle.office_moves.specs.State.{State, opening, with_finals, with_raise, with_round, with_row}
use Rattle.office_moves.specs.declared.decide.Decision.{Decision}
use Rattle.office_moves.specs.declared.decide.Decision.TheVariants.{Refuse, NotedAgain, RaisedAgain, CutAgain, Note, Lift, Publish, Finish, Tell}
use Rattle.audit_rules.specs.Papers.{Papers, lists_after, rows_after, seats_told}

-- The round that the papers give at a cut. Its seeks are those of the state. Its seats and its lists are those of the papers.
abbrev pub round_of : SeasonFacts → Papers → State → Round
round_of facts papers state = record {
  number = state.now + 1;
  seeks = next_seeks facts state;
  seats = seats_told (rows_after papers state.now) facts.people;
  programmes = lists_after papers (length facts.matrix.programmes) state.now;
}

-- the final rows that the papers tell; none where no text tells of them
abbrev pub finals_of : Papers → List AllotRow
finals_of papers = unwrap_or papers.finals []

-- What a decision makes of a state.
abbrev pub taken : SeasonFacts → Papers → State → Decision → State
taken facts papers state (Refuse refusal) = state
taken facts papers state (NotedAgain row) = state
taken facts papers state (RaisedAgain row) = state
taken facts papers state (CutAgain window) = state
taken facts papers state (Note row) = with_row state row
taken facts papers state (Lift row) = with_raise state row
taken facts papers state Publish = with_round state (round_of facts papers state)
taken facts papers state Finish = with_finals state (finals_of papers)
taken facts papers state (Tell question) = state

-- The state after some requests.
abbrev pub replayed : SeasonFacts → Papers → State → List Request → State
replayed facts papers state [] = state
replayed facts papers state (request ∷ requests) = replayed facts papers (taken facts papers state (decided facts state request)) requests

-- the state before the request at this place of a script, from 0
abbrev pub before : SeasonFacts → List Request → Papers → ℕ → State
before facts script papers j = replayed facts papers opening (take j script)
