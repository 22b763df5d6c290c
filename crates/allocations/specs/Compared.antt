-- Allocations compared: the fair ones of one market, those of two markets that differ in what one seeker submits, and
-- those before and after some leave or seats are added.
use Rattle.std.specs.Prelude.{◌≡◌, ◌≢◌, ◌<◌, ◌≤◌, ◌↔◌, ◌⊎◌, ℕ, List, [], Option, Some, None, slice_get, length, take}
use Rattle.office_base.specs.declared.person.Person.{Person}
use Rattle.office_base.specs.declared.person.ProgId.{ProgId}
use Rattle.office_base.specs.declared.seat.Seat.{Seat}
use Rattle.allocations.specs.Market.{Seeker, place_of, rank_of, holders}
use Rattle.allocations.specs.Rule.{Rule}
use Rattle.allocations.specs.Fair.{IsMarket, IsFair, IsBest}

-- Both leave the same seekers without a seat, and each programme seats as many in one as in the other.
pub record SeatAlike (count : ℕ) (seekers : List Seeker) (seats others : List (Option Seat)) : Type 0 where
  pub unseated : (i : ℕ) → (slice_get seats i ≡ Some None) ↔ (slice_get others i ≡ Some None)
  pub programmes : (p : ℕ) → p < count → length (holders p seekers seats) ≡ length (holders p seekers others)

-- any two fair allocations of a market seat the same seekers, and each programme as many (the rural hospitals theorem: Roth 1986, Hatfield and Milgrom 2005)
abbrev pub FairSeatAlike : Rule → (ℕ → List Person → Type 0) → Type 0
FairSeatAlike rule MayApply = (count : ℕ) (seekers : List Seeker) (seats others : List (Option Seat)) → IsMarket MayApply count seekers
    → IsFair rule count seekers seats → IsFair rule count seekers others → SeatAlike count seekers seats others

-- The same persons seek, all by the same lists except the one at this place, who submits another list.
pub record TellsAnother (i : ℕ) (seekers told : List Seeker) : Type 0 where
  pub same : length told ≡ length seekers
  pub others : (j : ℕ) → j ≢ i → slice_get told j ≡ slice_get seekers j
  pub person : (s t : Seeker) → slice_get seekers i ≡ Some s → slice_get told i ≡ Some t → s.person ≡ t.person

-- No list that a seeker submits in place of their own gives, in any fair allocation, a seat at an earlier place of
-- their own list than the best allocation by their own list gives (Dubins and Freedman 1981; Hatfield and Milgrom
-- 2005 for rules of choice).
abbrev pub TruthIsBest : Rule → (ℕ → List Person → Type 0) → Type 0
TruthIsBest rule MayApply = (count i : ℕ) (seekers told : List Seeker) (seats others : List (Option Seat)) (s : Seeker) (seat other : Option Seat) → IsMarket MayApply count seekers
    → IsMarket MayApply count told → TellsAnother i seekers told → IsBest rule count seekers seats → IsFair rule count told others
    → slice_get seekers i ≡ Some s → slice_get seats i ≡ Some seat → slice_get others i ≡ Some other → rank_of s.list seat ≤ rank_of s.list other

-- If a seeker may submit only the first places of a list, no list of these places gives a seat at an earlier place of
-- the list than all of them in their order.
abbrev pub AllOfTheFrontIsBest : Rule → (ℕ → List Person → Type 0) → Type 0
AllOfTheFrontIsBest rule MayApply = (count i n : ℕ) (seekers told : List Seeker) (seats others : List (Option Seat)) (s t : Seeker) (list : List ProgId) (seat other : Option Seat)
    → IsMarket MayApply count seekers → IsMarket MayApply count told → TellsAnother i seekers told → IsBest rule count seekers seats → IsFair rule count told others
    → slice_get seekers i ≡ Some s → slice_get told i ≡ Some t → s.list ≡ take n list
    → ((p : ℕ) → place_of t.list p < length t.list → place_of s.list p < length s.list)
    → slice_get seats i ≡ Some seat → slice_get others i ≡ Some other → rank_of list seat ≤ rank_of list other

-- The same persons seek, each by the same list or, having left, by none.
pub record SomeLeave (seekers next : List Seeker) : Type 0 where
  pub same : length next ≡ length seekers
  pub persons : (i : ℕ) (s t : Seeker) → slice_get seekers i ≡ Some s → slice_get next i ≡ Some t → s.person ≡ t.person
  pub lists : (i : ℕ) (s t : Seeker) → slice_get seekers i ≡ Some s → slice_get next i ≡ Some t → (t.list ≡ s.list) ⊎ (t.list ≡ [])

-- where some leave, and programmes still admit whom they admitted, nobody else does worse by the best allocation than by any fair one before
abbrev pub HurtsNobody : Rule → Rule → (ℕ → List Person → Type 0) → Type 0
HurtsNobody rule more MayApply = (count i : ℕ) (seekers next : List Seeker) (seats others : List (Option Seat)) (s t : Seeker) (seat other : Option Seat) → IsMarket MayApply count seekers
    → SomeLeave seekers next → IsFair rule count seekers seats → IsBest more count next others → slice_get seekers i ≡ Some s → slice_get next i ≡ Some t → t.list ≡ s.list
    → slice_get seats i ≡ Some seat → slice_get others i ≡ Some other → rank_of s.list other ≤ rank_of s.list seat
