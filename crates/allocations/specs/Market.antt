-- Candidates who seek seats, and who of them applies where (Baswana and others 2019: candidate-proposing rounds over programmes' merit lists).
use Rattle.std.specs.Prelude.{◌≡◌, ◌<◌, ◌+◌, ℕ, Bool, List, [], ◌∷◌, Option, Some, None, length, nat_lt, nat_le, ◌&&◌, ◌||◌, ◌==◌, if◌then◌else◌, false}
use Rattle.office_base.specs.declared.person.Person.{Person}
use Rattle.office_base.specs.declared.person.ProgId.{ProgId}
use Rattle.office_base.specs.declared.seat.Seat.{Seat}
use Rattle.office_base.specs.declared.seat.SeatKind.{SeatKind}

-- one who seeks a seat: the person, and the programmes wanted in this round, the most preferred first
pub record Seeker : Type 0 where
  pub person : Person
  pub list : List ProgId

-- how far down the list a programme is, from 0; the length of the list if it is not on the list
abbrev pub place_of : List ProgId → ℕ → ℕ
place_of [] p = 0
place_of (q ∷ qs) p = if q.0 == p then 0 else place_of qs p + 1

-- how far down the list a seat is; the length of the list if there is no seat
abbrev pub rank_of : List ProgId → Option Seat → ℕ
rank_of list None = length list
rank_of list (Some seat) = place_of list seat.prog.0

-- the seat of a programme under a step
abbrev pub seat_at : ℕ → SeatKind → Seat
seat_at p kind = record { prog = record { 0 = p }; step = kind }

-- the list holds the programme
abbrev pub wants : ℕ → List ProgId → Bool
wants p list = nat_lt (place_of list p) (length list)

-- the list holds the programme at or before the seat, or anywhere where there is no seat
abbrev pub applies : ℕ → List ProgId → Option Seat → Bool
applies p list seat = wants p list && nat_le (place_of list p) (rank_of list seat)

-- the seat is one of the programme
abbrev pub is_of : ℕ → Option Seat → Bool
is_of p None = false
is_of p (Some seat) = seat.prog.0 == p

-- the persons of those seekers who pass a test together with the entry at their place in a second list
abbrev pub those : {X : Type 0} → (Seeker → X → Bool) → List Seeker → List X → List Person
those test [] xs = []
those test (s ∷ seekers) [] = []
those test (s ∷ seekers) (x ∷ xs) = if test s x then s.person ∷ those test seekers xs else those test seekers xs

-- those who apply to a programme, in the order of the seekers
abbrev pub applicants : ℕ → List Seeker → List (Option Seat) → List Person
applicants p seekers seats = those (λ s seat. applies p s.list seat) seekers seats

-- those who hold a seat of it
abbrev pub holders : ℕ → List Seeker → List (Option Seat) → List Person
holders p seekers seats = those (λ s seat. is_of p seat) seekers seats

-- those who hold a seat of it, and the person of this id
abbrev pub holders_and : ℕ → ℕ → List Seeker → List (Option Seat) → List Person
holders_and p id seekers seats = those (λ s seat. is_of p seat || s.person.id.0 == id) seekers seats

-- those who want it
abbrev pub wanting : ℕ → List Seeker → List Person
wanting p seekers = those (λ s other. wants p s.list) seekers seekers
