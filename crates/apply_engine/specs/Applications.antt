-- How many applications a round takes (Gale and Shapley 1962): everybody has applied to each programme of their list
-- down to the one that holds them.
use Rattle.std.specs.Prelude.{◌+◌, ℕ, List, [], ◌∷◌, Option, Some, None, length}
use Rattle.office_base.specs.declared.seat.Seat.{Seat}
use Rattle.office_base.specs.declared.person.ProgId.{ProgId}
use Rattle.allocations.specs.Market.{Seeker, place_of}

-- to how many programmes of their list a seeker applies who has this seat in the end: to each down to the one that
-- holds; to all of them, if none does
abbrev pub own_applications : List ProgId → Option Seat → ℕ
own_applications list None = length list
own_applications list (Some seat) = place_of list seat.prog.0 + 1

-- the applications of all whose seats these are; the order in which they apply changes nothing of it
abbrev pub applications : List Seeker → List (Option Seat) → ℕ
applications [] seats = 0
applications (s ∷ seekers) [] = 0
applications (s ∷ seekers) (seat ∷ seats) = own_applications s.list seat + applications seekers seats
