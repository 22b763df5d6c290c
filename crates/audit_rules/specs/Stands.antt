-- The standing of each candidate in the open window of a replay.
use Rattle.std.specs.Prelude.{ℕ, Bool, not, ◌&&◌, ◌||◌, ◌==◌, ◌+◌, nat_le, List, Option, None, is_some, map, option_map}
use Rattle.office_base.specs.Limits.{most_turns}
use Rattle.office_asks.specs.declared.ask.By.{By}
use Rattle.office_base.specs.declared.seat.Seat.{Seat}
use Rattle.office_base.specs.declared.person.ProgId.{ProgId}
use Rattle.allocations.specs.Market.{place_of}
use Rattle.kept_rows.specs.declared.rows.AnswerRow.{AnswerRow}
use Rattle.round_options.specs.Options.{after_cut, may_follow, seek_after, standing_of}
use Rattle.seeks.specs.declared.seek.Seek.{Seek}
use Rattle.office_moves.specs.Facts.{SeasonFacts}
use Rattle.office_moves.specs.Judge.{is_candidate, is_gone, is_withdraw}
use Rattle.office_moves.specs.State.{State, in_window, last_seat, last_turn, left_by, rows_of, standing_at, view_of}
use Rattle.round_options.specs.declared.standing.Standing.TheVariants.{Waiting}
use Rattle.audit_rules.specs.declared.stand.Stand.{Stand}

-- what a replay keeps of the candidate of this id in a state
abbrev pub stand_of : SeasonFacts → State → ℕ → Stand
stand_of facts state id = record {
  left = left_by facts (view_of state id) id state.now;
  last = last_turn (in_window state.now (rows_of id state.answers));
  standing = standing_at facts (view_of state id) id state.now;
  seat = last_seat facts state.rounds id;
}

-- without a seat and without an answer, and waiting
abbrev pub first_stand : Stand
first_stand = record { left = Waiting; last = 0; standing = Waiting; seat = None }

-- all of them, along the people
abbrev pub stands_along : SeasonFacts → State → List Stand
stands_along facts state = map (λ person. stand_of facts state person.id.0) facts.people

-- after an answer
abbrev pub after_answer : Stand → AnswerRow → Stand
after_answer stand row = record { left = stand.left; last = row.turn; standing = standing_of row.choice; seat = stand.seat }

-- after a cut that gives this seat
abbrev pub cut : Stand → Option Seat → Stand
cut stand seat = record { left = after_cut stand.standing seat; last = 0; standing = after_cut stand.standing seat; seat = seat }

-- what a candidate with this choice list seeks at a cut
abbrev pub seek_by : List ProgId → Stand → Seek
seek_by list stand = seek_after stand.standing (option_map (λ seat. place_of list seat.prog.0) stand.seat)

-- ---- an answer of the open window

-- a candidate with this `Stand` may give this answer
abbrev pub may_answer : Stand → AnswerRow → Bool
may_answer stand row = not (is_gone stand.standing) && ((is_some stand.seat || is_withdraw row.choice)
    && (may_follow stand.left row.choice && (nat_le row.turn most_turns || is_withdraw row.choice)))

-- the answer is the candidate's own, is of the next turn, and may be given
abbrev pub notes : Stand → By → AnswerRow → Bool
notes stand by row = is_candidate by row.cand && ((row.turn == stand.last + 1) && may_answer stand row)
