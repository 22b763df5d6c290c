-- What all candidates seek next, along the people.
use Rattle.std.specs.Prelude.{◌≡◌, ℕ, true, List, [], ◌∷◌, Option, Some, IsSome, option_map, slice_get}
use Rattle.office_base.specs.declared.seat.Seat.{Seat}
use Rattle.office_base.specs.declared.person.Person.{Person}
use Rattle.office_base.specs.declared.person.ProgId.{ProgId}
use Rattle.allocations.specs.Market.{place_of}
use Rattle.choice_lists.specs.Choices.{Lists, list_of}
use Rattle.seeks.specs.declared.seek.Seek.{Seek}
use Rattle.round_options.specs.Options.{holds, seek_after}
use Rattle.round_options.specs.declared.standing.Standing.{Standing}

-- what a candidate with this choice list seeks next, by the standing and the seat
abbrev pub seek_for : List ProgId → Standing → Option Seat → Seek
seek_for list standing seat = seek_after standing (option_map (λ seat. place_of list seat.prog.0) seat)

-- what all seek next
abbrev pub seeks_after : Lists → List Person → List Standing → List (Option Seat) → List Seek
seeks_after lists [] standings seats = []
seeks_after lists (person ∷ people) [] seats = []
seeks_after lists (person ∷ people) (standing ∷ standings) [] = []
seeks_after lists (person ∷ people) (standing ∷ standings) (seat ∷ seats) = seek_for (list_of lists person.id.0) standing seat ∷ seeks_after lists people standings seats

-- each candidate who keeps a seat has one
pub record AreSeated (standings : List Standing) (seats : List (Option Seat)) : Type 0 where
  pub each : (at : ℕ) (standing : Standing) (seat : Option Seat) → slice_get standings at ≡ Some standing → slice_get seats at ≡ Some seat
      → holds standing ≡ true → IsSome seat
