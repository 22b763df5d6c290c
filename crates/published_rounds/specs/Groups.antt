-- Groups who hand in other lists together.
use Rattle.std.specs.Prelude.{◌≡◌, ◌<◌, ℕ, Bool, true, false, List, Option, Some, length, slice_get}
use Rattle.office_base.specs.declared.seat.Seat.{Seat}
use Rattle.office_base.specs.declared.person.Person.{Person}
use Rattle.allocations.specs.Fair.{IsBest, IsFair, IsMarket}
use Rattle.allocations.specs.Market.{Seeker, rank_of}
use Rattle.allocations.specs.Rule.{Rule}

-- The same persons seek. Those at the places of the group submit any lists, and all others their own.
pub record TellTogether (group : ℕ → Bool) (seekers told : List Seeker) : Type 0 where
  pub same : length told ≡ length seekers
  pub persons : (i : ℕ) (s t : Seeker) → slice_get seekers i ≡ Some s → slice_get told i ≡ Some t → s.person ≡ t.person
  pub others : (i : ℕ) (s t : Seeker) → group i ≡ false → slice_get seekers i ≡ Some s → slice_get told i ≡ Some t → t.list ≡ s.list

-- everybody of the group has by the second seats one that is earlier on their own list
abbrev pub AllGain : (ℕ → Bool) → List Seeker → List (Option Seat) → List (Option Seat) → Type 0
AllGain group seekers seats others = (i : ℕ) (s : Seeker) (seat other : Option Seat) → group i ≡ true → slice_get seekers i ≡ Some s → slice_get seats i ≡ Some seat
    → slice_get others i ≡ Some other → rank_of s.list other < rank_of s.list seat

-- No group gains. Some submit other lists together, all others as they are. Then in no fair allocation does every one of them have a seat that is earlier on their
-- own list than their seat of the best allocation by their own lists (Hatfield and Kojima 2009).
abbrev pub NoGroupGains : Rule → (ℕ → List Person → Type 0) → Type 0
NoGroupGains rule MayApply = (count : ℕ) (group : ℕ → Bool) (seekers told : List Seeker) (seats others : List (Option Seat)) (i : ℕ) (s : Seeker) → IsMarket MayApply count seekers
    → IsMarket MayApply count told → TellTogether group seekers told → IsBest rule count seekers seats → IsFair rule count told others → group i ≡ true → slice_get seekers i ≡ Some s
    → AllGain group seekers seats others → ⊥
