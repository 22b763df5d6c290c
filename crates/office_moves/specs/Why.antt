-- Why a candidate has no seat of a programme, or has one.
use Rattle.std.specs.Prelude.{Bool, false, ◌==◌, nat_lt, Option, Some, None, slice_get, if◌then◌else◌}
use Rattle.office_base.specs.Person.{at_person}
use Rattle.office_base.specs.declared.seat.Seat.{Seat}
use Rattle.office_base.specs.declared.person.CandId.{CandId}
use Rattle.office_base.specs.declared.person.Person.{Person}
use Rattle.office_base.specs.declared.person.ProgId.{ProgId}
use Rattle.allocations.specs.Market.{place_of}
use Rattle.rank_lists.specs.Register.{find_person}
use Rattle.seat_matrix.specs.Matrix.{list_in}
use Rattle.choice_lists.specs.Choices.{list_of}
use Rattle.seeks.specs.Seek.{is_listed, seek_leaves}
use Rattle.seeks.specs.declared.seek.Seek.{Seek}
use Rattle.programme_lists.specs.declared.programme.Programme.{Programme}
use Rattle.reasons.specs.declared.reason.Reason.TheVariants.{Admitted}
use Rattle.explain.specs.Reason.{reason_of}
use Rattle.reasons.specs.declared.reason.WhyAnswer.{WhyAnswer}
use Rattle.reasons.specs.declared.reason.WhyAnswer.TheVariants.{Reason as Because, Better, NotSought}
use Rattle.rounds.specs.declared.round.Round.{Round}
use Rattle.office_moves.specs.Facts.{SeasonFacts}
use Rattle.office_moves.specs.State.{seat_of}

-- what a seek left of the candidate's list holds the programme
abbrev pub is_sought_by : SeasonFacts → CandId → ProgId → Option Seek → Bool
is_sought_by facts cand prog None = false
is_sought_by facts cand prog (Some seek) = is_listed prog.0 (seek_leaves facts.matrix seek (list_of facts.lists cand.0))

-- the reason that a programme of the round gives a person of the register
abbrev pub reason_in : SeasonFacts → ProgId → Option Programme → Option Person → WhyAnswer
reason_in facts prog None person = NotSought
reason_in facts prog (Some programme) None = NotSought
reason_in facts prog (Some programme) (Some person) = Because (reason_of (list_in facts.matrix prog.0) programme person)

-- the answer for a candidate who does not hold the programme: that it was not sought, or the reason
abbrev pub why_refused : SeasonFacts → Round → CandId → ProgId → WhyAnswer
why_refused facts round cand prog =
    if is_sought_by facts cand prog (at_person cand.0 facts.people round.seeks)
    then reason_in facts prog (slice_get round.programmes prog.0) (find_person cand.0 facts.people) else NotSought

-- The answer by the seat that the candidate has. For a seat of the programme it is the step that admitted the candidate.
-- For a seat of a programme earlier on the list it is that programme. Otherwise it is the answer of `why_refused`.
abbrev pub why_beside : SeasonFacts → Round → CandId → ProgId → Option Seat → WhyAnswer
why_beside facts round cand prog None = why_refused facts round cand prog
why_beside facts round cand prog (Some seat) =
    if seat.prog.0 == prog.0 then Because (Admitted seat.step)
    else if nat_lt (place_of (list_of facts.lists cand.0) seat.prog.0) (place_of (list_of facts.lists cand.0) prog.0) then Better seat.prog
    else why_refused facts round cand prog

-- The answer to why, by a round. Without a round there is none, and the request is refused before.
abbrev pub why_answer : SeasonFacts → Option Round → CandId → ProgId → WhyAnswer
why_answer facts None cand prog = NotSought
why_answer facts (Some round) cand prog = why_beside facts round cand prog (seat_of facts (Some round) cand.0)
