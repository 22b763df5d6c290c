-- Each kind of seat has a number, which is its place in the order of the kinds.
use Rattle.std.proofs.Common.{◌≡◌, ◌<◌, ◌+◌, ◌&&◌, ℕ, zero, suc, Bool, true, false, eqb, List, [], ◌∷◌, Some, None, length, arith, refl, sym, subst, ap}
use Rattle.std.proofs.lemmas.Bool.{and_parts, eqb-true}
use Rattle.std.specs.Prelude.{find, slice_get}
use Rattle.office_base.specs.declared.seat.SeatKind.{SeatKind}
use Rattle.office_base.specs.declared.seat.SeatKind.TheVariants.{Kept, Under}
use Rattle.office_base.specs.declared.step.StepKind.{StepKind}
use Rattle.office_base.specs.declared.step.StepKind.TheVariants.{Open}
use Rattle.office_base.specs.SeatKinds.{all_seat_kinds, seat_kind_number}
use Rattle.office_base.specs.StepNumbers.{step_number}
use Rattle.office_base.proofs.StepNumbers.{below_all, found_among, none_among}

-- each kind of seat is at the place of its number
pub seat_kind_at : (kind : SeatKind) → slice_get all_seat_kinds (seat_kind_number kind) ≡ Some kind
seat_kind_at (Under Open) = refl
seat_kind_at (Under step) = refl
seat_kind_at Kept = refl

-- the kinds have the numbers from this one on
abbrev numbered : ℕ → List SeatKind → Bool
numbered number [] = true
numbered number (kind ∷ more) = eqb (seat_kind_number kind) number && numbered (suc number) more

numbered_at : (number : ℕ) (kinds : List SeatKind) (j : ℕ) (kind : SeatKind) → numbered number kinds ≡ true → slice_get kinds j ≡ Some kind → seat_kind_number kind ≡ number + j
numbered_at number [] j kind all at = absurd (cc)
numbered_at number (first ∷ kinds) zero kind all at =
    let one = eqb-true (seat_kind_number first) number (and_parts (eqb (seat_kind_number first) number) (numbered (suc number) kinds) all).0 in
    let same : seat_kind_number first ≡ seat_kind_number kind = ap seat_kind_number (let it : first ≡ kind = cc in it) in
    omega arith
numbered_at number (first ∷ kinds) (suc j) kind all at =
    let later = numbered_at (suc number) kinds j kind (and_parts (eqb (seat_kind_number first) number) (numbered (suc number) kinds) all).1 at in
    omega (arith, later)

-- the number of a kind of seat is its place
pub seat_kind_number_at : (j : ℕ) (kind : SeatKind) → slice_get all_seat_kinds j ≡ Some kind → seat_kind_number kind ≡ j
seat_kind_number_at j kind at = let is = numbered_at 0 all_seat_kinds j kind refl at in omega (arith, is)

-- different kinds have different numbers
pub one_seat_kind : (kind other : SeatKind) → seat_kind_number kind ≡ seat_kind_number other → kind ≡ other
one_seat_kind kind other same =
    let one = seat_kind_at kind in
    let two = subst (λ n. slice_get all_seat_kinds n ≡ Some other) (sym same) (seat_kind_at other) in
    cc

-- each is below their count
pub below_all_kinds : (kind : SeatKind) → seat_kind_number kind < length all_seat_kinds
below_all_kinds (Under step) = let below = below_all step in omega (arith, below)
below_all_kinds Kept = omega arith

-- a kind of seat that a search finds passes the test
pub found_kind : (test : SeatKind → Bool) (kind : SeatKind) → find test all_seat_kinds ≡ Some kind → test kind ≡ true
found_kind test kind found = found_among test all_seat_kinds kind found

-- where a search finds none, no kind of seat passes the test
pub no_kind : (test : SeatKind → Bool) → find test all_seat_kinds ≡ None → (kind : SeatKind) → test kind ≡ false
no_kind test none kind = none_among test all_seat_kinds (seat_kind_number kind) kind none (seat_kind_at kind)
