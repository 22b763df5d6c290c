-- The status of each answer is one that replies have.
use Rattle.std.specs.Prelude.{◌≡◌, true}
use Rattle.std.proofs.Common.{refl, ap, ◌∙◌}
use Rattle.http_sessions.specs.Replies.{is_reply_status}
use Rattle.http_sessions.specs.declared.counter.Answered.{Answered}
use Rattle.office_moves.specs.Facts.{SeasonFacts}
use Rattle.office_moves.specs.State.{State}
use Rattle.office_moves.specs.declared.moves.Reply.{Reply}
use Rattle.office_moves.specs.declared.moves.Reply.TheVariants.{Noted, Raised, Published, Final, SeatIs, WhyIs, ListIs, RoundIs, ChoicesAre, CutoffsAre, RegisterIs, AnswersAre, StateIs, Refused}
use Rattle.office_moves.specs.declared.refusal.Refusal.{Refusal}
use Rattle.office_moves.specs.declared.refusal.Refusal.TheVariants.{UnknownCandidate, UnknownProgramme, Denied, TurnUsed, Late, Ahead, Gap, Gone, NoSeat, Widening, TooManyTurns, NotChosen, NoSuchRound, LastWindow, StepFixed, Falling, SeatLimit}
use Rattle.reply_bodies.specs.Status.{refusal_status, status_of}
use Rattle.office_http.specs.Asking.{IsAnswerOf}

of_refusal : (refusal : Refusal) → is_reply_status (refusal_status refusal) ≡ true
of_refusal UnknownCandidate = refl
of_refusal UnknownProgramme = refl
of_refusal (Denied rule) = refl
of_refusal (TurnUsed kept) = refl
of_refusal (Late window) = refl
of_refusal (Ahead window) = refl
of_refusal (Gap last) = refl
of_refusal (Gone how) = refl
of_refusal NoSeat = refl
of_refusal (Widening standing) = refl
of_refusal TooManyTurns = refl
of_refusal NotChosen = refl
of_refusal (NoSuchRound published) = refl
of_refusal LastWindow = refl
of_refusal StepFixed = refl
of_refusal (Falling seats) = refl
of_refusal (SeatLimit total) = refl

of_reply : (reply : Reply) → is_reply_status (status_of reply) ≡ true
of_reply (Noted cand window turn choice) = refl
of_reply (Raised window prog step seats) = refl
of_reply (Published number seated) = refl
of_reply (Final admitted) = refl
of_reply (SeatIs cand number standing seat) = refl
of_reply (WhyIs cand prog answer) = refl
of_reply (ListIs number prog programme) = refl
of_reply (RoundIs number) = refl
of_reply (ChoicesAre cand progs) = refl
of_reply (CutoffsAre number prog lines) = refl
of_reply (RegisterIs person) = refl
of_reply (AnswersAre cand rows) = refl
of_reply (StateIs now rounds published) = refl
of_reply (Refused refusal) = of_refusal refusal

-- the status of an answer is that of a reply
pub replied : (facts : SeasonFacts) (state : State) (reply : Reply) (answered : Answered) → IsAnswerOf facts state reply answered → is_reply_status answered.status ≡ true
replied facts state reply answered answer = ap is_reply_status answer.0 ∙ of_reply reply
