-- How many applications were made: in the end everybody has tried their list down to their seat, or the whole of it.
use Rattle.std.proofs.Common.{◌≡◌, ◌≤◌, ◌+◌, inl, inr, ℕ, suc, List, [], ◌∷◌, Option, Some, None, length, arith, refl}
use Rattle.std.specs.Prelude.{slice_get, sum}
use Rattle.std.proofs.lemmas.List.Sums.{sum_by-cons}
use Rattle.office_base.specs.declared.seat.Seat.{Seat}
use Rattle.allocations.specs.Course.{AreSeatsOf, IsSettled, IsUnderway, places, places_left}
use Rattle.allocations.specs.Market.{Seeker}
use Rattle.allocations.specs.Rule.{Rule}
use Rattle.apply_engine.specs.Applications.{applications, own_applications}

-- what was tried and what is left to try are all places
pub tried_and_left : (seekers : List Seeker) (next : List ℕ) → length next ≡ length seekers → ((i n : ℕ) (s : Seeker) → slice_get seekers i ≡ Some s → slice_get next i ≡ Some n → n ≤ length s.list)
    → sum next + places_left seekers next ≡ places seekers
tried_and_left [] [] full within = refl
tried_and_left [] (n ∷ next) full within = absurd (omega (arith, full))
tried_and_left (s ∷ seekers) [] full within = absurd (omega (arith, full))
tried_and_left (s ∷ seekers) (n ∷ next) full within =
    let first = within 0 n s refl refl in
    let more = sum_by-cons (λ x. x) n next in
    let rest = tried_and_left seekers next (omega (arith, full)) (λ i. within (suc i)) in
    omega (arith, first, rest, more)

-- if each seeker tried the list down to their seat, as many places were tried as there are applications
pub tried_down : (seekers : List Seeker) (next : List ℕ) (seats : List (Option Seat)) → length next ≡ length seekers → length seats ≡ length seekers
    → ((i n : ℕ) (s : Seeker) (seat : Option Seat) → slice_get seekers i ≡ Some s → slice_get next i ≡ Some n → slice_get seats i ≡ Some seat → n ≡ own_applications s.list seat)
    → sum next ≡ applications seekers seats
tried_down [] [] seats full full' each = refl
tried_down [] (n ∷ next) seats full full' each = absurd (omega (arith, full))
tried_down (s ∷ seekers) [] seats full full' each = absurd (omega (arith, full))
tried_down (s ∷ seekers) (n ∷ next) [] full full' each = absurd (omega (arith, full'))
tried_down (s ∷ seekers) (n ∷ next) (seat ∷ seats) full full' each =
    let first = each 0 n s seat refl refl refl in
    let more = sum_by-cons (λ x. x) n next in
    let rest = tried_down seekers next seats (omega (arith, full)) (omega (arith, full')) (λ i. each (suc i)) in
    omega (arith, first, rest, more)

-- a seeker who is settled tried the list down to their seat
settled_down : (rule : Rule) (count i n : ℕ) (seekers : List Seeker) (next : List ℕ) (seats : List (Option Seat)) (s : Seeker) (seat : Option Seat)
    → IsUnderway rule count seekers next → AreSeatsOf rule count seekers next seats → slice_get seekers i ≡ Some s → slice_get next i ≡ Some n → slice_get seats i ≡ Some seat
    → IsSettled rule count seekers next s n → n ≡ own_applications s.list seat
settled_down rule count i n seekers next seats s None underway are there at has settled = elim settled [
  | inl held ↦ absurd (
      let other = (are.each held.0 i s held.3.0 held.1 there).0 held.3.1 in
      cc)
  | inr end ↦ end
]
settled_down rule count i n seekers next seats s (Some seat) underway are there at has settled =
    let below = are.below i seat has in
    underway.last seat.prog.0 i n s seat.step below there at ((are.each seat.prog.0 i s seat.step below there).1 has)

-- Where all are settled, as many places were tried as there are applications down to the seats.
pub settled_applications : (rule : Rule) (count : ℕ) (seekers : List Seeker) (next : List ℕ) (seats : List (Option Seat)) → IsUnderway rule count seekers next
    → AreSeatsOf rule count seekers next seats
    → ((i n : ℕ) (s : Seeker) → slice_get seekers i ≡ Some s → slice_get next i ≡ Some n → IsSettled rule count seekers next s n) → sum next ≡ applications seekers seats
settled_applications rule count seekers next seats underway are settled =
    tried_down seekers next seats underway.full are.full
    (λ i n s seat there at has. settled_down rule count i n seekers next seats s seat underway are there at has (settled i n s there at))
