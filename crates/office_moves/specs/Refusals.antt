-- The numbers and the names of the refusals.
use Rattle.std.specs.Prelude.{ℕ, List, codes}
use Rattle.office_moves.specs.declared.refusal.Refusal.{Refusal}
use Rattle.office_moves.specs.declared.refusal.Refusal.TheVariants.{UnknownCandidate, UnknownProgramme, Denied, TurnUsed, Late, Ahead, Gap, Gone, NoSeat, Widening, TooManyTurns, NotChosen, NoSuchRound, LastWindow, StepFixed, Falling, SeatLimit}

-- the number of a refusal; number 4 is the receipt of what was accepted before
abbrev pub number_of : Refusal → ℕ
number_of UnknownCandidate = 1
number_of UnknownProgramme = 2
number_of (Denied rule) = 3
number_of (TurnUsed kept) = 5
number_of (Late window) = 6
number_of (Ahead window) = 7
number_of (Gap last) = 8
number_of (Gone how) = 9
number_of NoSeat = 10
number_of (Widening standing) = 11
number_of TooManyTurns = 12
number_of NotChosen = 13
number_of (NoSuchRound published) = 14
number_of LastWindow = 15
number_of StepFixed = 16
number_of (Falling seats) = 17
number_of (SeatLimit total) = 18

-- the name of a refusal
abbrev pub name_of : Refusal → List ℕ
name_of UnknownCandidate = codes "UnknownCandidate"
name_of UnknownProgramme = codes "UnknownProgramme"
name_of (Denied rule) = codes "Denied"
name_of (TurnUsed kept) = codes "TurnUsed"
name_of (Late window) = codes "Late"
name_of (Ahead window) = codes "Ahead"
name_of (Gap last) = codes "Gap"
name_of (Gone how) = codes "Gone"
name_of NoSeat = codes "NoSeat"
name_of (Widening standing) = codes "Widening"
name_of TooManyTurns = codes "TooManyTurns"
name_of NotChosen = codes "NotChosen"
name_of (NoSuchRound published) = codes "NoSuchRound"
name_of LastWindow = codes "LastWindow"
name_of StepFixed = codes "StepFixed"
name_of (Falling seats) = codes "Falling"
name_of (SeatLimit total) = codes "SeatLimit"
