-- Rules of rounds: what gives seats to seekers, whatever it is.
use Rattle.std.specs.Prelude.{◌≡◌, ◌≤◌, ℕ, List, Option, Some, slice_get}
use Rattle.office_base.specs.declared.seat.Seat.{Seat}
use Rattle.office_base.specs.declared.person.Person.{Person}
use Rattle.allocations.specs.Compared.{TellsAnother}
use Rattle.allocations.specs.Fair.{IsBest, IsFair, IsMarket}
use Rattle.allocations.specs.Market.{Seeker, rank_of}
use Rattle.allocations.specs.Rule.{Rule}

-- a rule of rounds: the seats that it gives for each list of seekers
abbrev pub Procedure : Type 0
Procedure = List Seeker → List (Option Seat)

-- its seats are fair in every market
abbrev pub IsAlwaysFair : Rule → (ℕ → List Person → Type 0) → ℕ → Procedure → Type 0
IsAlwaysFair rule MayApply count gives = (seekers : List Seeker) → IsMarket MayApply count seekers → IsFair rule count seekers (gives seekers)

-- Nobody gains under it by another list: anyone who submits another one, with all others as they are, gets no seat that is earlier on their own list.
abbrev pub IsSafe : (ℕ → List Person → Type 0) → ℕ → Procedure → Type 0
IsSafe MayApply count gives = (i : ℕ) (seekers told : List Seeker) (s : Seeker) (seat other : Option Seat) → IsMarket MayApply count seekers → IsMarket MayApply count told
    → TellsAnother i seekers told → slice_get seekers i ≡ Some s → slice_get (gives seekers) i ≡ Some seat → slice_get (gives told) i ≡ Some other → rank_of s.list seat ≤ rank_of s.list other

-- in every market it gives the fair seats than which no fair ones give anybody better
abbrev pub IsAlwaysBest : Rule → (ℕ → List Person → Type 0) → ℕ → Procedure → Type 0
IsAlwaysBest rule MayApply count gives = (seekers : List Seeker) → IsMarket MayApply count seekers → IsBest rule count seekers (gives seekers)
