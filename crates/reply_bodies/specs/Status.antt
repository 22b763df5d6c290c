-- The status of each reply over HTTP.
use Rattle.std.specs.Prelude.{ℕ}
use Rattle.office_moves.specs.declared.moves.Reply.{Reply}
use Rattle.office_moves.specs.declared.moves.Reply.TheVariants.{Refused}
use Rattle.office_moves.specs.declared.refusal.Refusal.{Refusal}
use Rattle.office_moves.specs.declared.refusal.Refusal.TheVariants.{UnknownCandidate, UnknownProgramme, Denied, TurnUsed, Late, Ahead, Gap, Gone, NoSeat, Widening, TooManyTurns, NotChosen, NoSuchRound, LastWindow, StepFixed, Falling, SeatLimit}

-- The status of a refusal: 403 if the one who asks may not; 404 if there is no such thing;
-- 409 if the state of the office rules it out.
abbrev pub refusal_status : Refusal → ℕ
refusal_status UnknownCandidate = 404
refusal_status UnknownProgramme = 404
refusal_status (Denied rule) = 403
refusal_status (TurnUsed kept) = 409
refusal_status (Late window) = 409
refusal_status (Ahead window) = 409
refusal_status (Gap last) = 409
refusal_status (Gone how) = 409
refusal_status NoSeat = 409
refusal_status (Widening standing) = 409
refusal_status TooManyTurns = 409
refusal_status NotChosen = 404
refusal_status (NoSuchRound published) = 404
refusal_status LastWindow = 409
refusal_status StepFixed = 409
refusal_status (Falling seats) = 409
refusal_status (SeatLimit total) = 409

-- The status of a reply: 200 for each but a refusal.
abbrev pub status_of : Reply → ℕ
status_of (Refused refusal) = refusal_status refusal
status_of _ = 200
