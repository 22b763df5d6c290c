-- Those who hold seats of a programme under one step are admitted there, so they are no more than those admitted.
use Rattle.std.proofs.Common.{◌≡◌, ◌≢◌, ◌≤◌, inl, inr, ℕ, suc, Bool, true, false, List, [], ◌∷◌, Option, Some, None, length, arith, refl, sym, ap, ◌∙◌, subst, ◌==◌, if◌then◌else◌}
use Rattle.std.specs.Prelude.{slice_get}
use Rattle.std.specs.List.{AllByRecursion}
use Rattle.std.proofs.lemmas.Bool.{eqb-true, and_parts}
use Rattle.office_base.specs.Lists.{AnyByRecursion, IsAmong, Pairwise}
use Rattle.office_base.specs.declared.seat.Seat.{Seat}
use Rattle.office_base.specs.declared.seat.SeatKind.{SeatKind}
use Rattle.office_base.specs.declared.seat.SeatKind.TheVariants.{Under}
use Rattle.office_base.specs.declared.person.CandId.{CandId}
use Rattle.office_base.specs.declared.person.Person.{Person}
use Rattle.office_base.specs.declared.step.StepKind.{StepKind}
use Rattle.office_base.specs.SeatKinds.{seat_kind_number}
use Rattle.office_base.specs.StepNumbers.{step_number}
use Rattle.office_base.proofs.SeatKinds.{one_seat_kind}
use Rattle.placements.specs.Ranks.{AreAmong, AreDistinct, without}
use Rattle.placements.proofs.Without.{among_without, length_without}
use Rattle.allocations.specs.Market.{Seeker, seat_at, those}
use Rattle.rounds.proofs.Entrants.{all_when}
use Rattle.special_round.specs.Rows.{is_seat_of, seats_of_step}

-- ---- no more distinct people than there are

is_there : (person : Person) (ys : List Person) → IsAmong person ys → AnyByRecursion (λ member. member.id ≡ person.id) ys
is_there person [] one = absurd one
is_there person (y ∷ ys) one = elim one [
  | inl here ↦ inl (ap (λ (z : Person). z.id) (sym here))
  | inr later ↦ inr (is_there person ys later)
]

all_among_without : (cand : CandId) (xs ys : List Person) → AllByRecursion (λ other. cand ≢ other.id) xs → AreAmong xs ys → AreAmong xs (without cand ys)
all_among_without cand [] ys apart among = tt
all_among_without cand (x ∷ xs) ys apart among = (among_without cand x ys among.0 (λ e. apart.0 (sym e)), all_among_without cand xs ys apart.1 among.1)

pub no_more : (xs ys : List Person) → AreDistinct xs → AreAmong xs ys → length xs ≤ length ys
no_more [] ys distinct among = omega arith
no_more (x ∷ xs) ys distinct among =
    let fewer = length_without x.id ys (is_there x ys among.0) in
    let rest = no_more xs (without x.id ys) distinct.1 (all_among_without x.id xs ys distinct.0 among.1) in
    omega (arith, fewer, rest)

-- ---- the seat of a step

same_seat : (seat : Seat) (prog : ℕ) (step : SeatKind) → seat.prog.0 ≡ prog → seat.step ≡ step → seat ≡ seat_at prog step
same_seat seat prog step first second = ap (λ n. seat_at n seat.step) first ∙ ap (λ k. seat_at prog k) second

pub seat_is : (prog : ℕ) (step : StepKind) (seat : Option Seat) → is_seat_of prog step seat ≡ true → seat ≡ Some (seat_at prog (Under step))
seat_is prog step None e = absurd (cc)
seat_is prog step (Some seat) e =
    let parts = and_parts (seat.prog.0 == prog) (seat_kind_number seat.step == step_number step) e in
    ap Some (same_seat seat prog (Under step) (eqb-true seat.prog.0 prog parts.0) (one_seat_kind seat.step (Under step) (eqb-true (seat_kind_number seat.step) (step_number step) parts.1)))

-- ---- those who hold one

-- the persons of those seekers who hold a seat of the programme under the step
abbrev pub those_under : ℕ → StepKind → List Seeker → List (Option Seat) → List Person
those_under prog step seekers seats = those (λ s seat. is_seat_of prog step seat) seekers seats

longer : (b : Bool) (x : Person) (xs : List Person) (n : ℕ) → length xs ≡ n → length (if b then x ∷ xs else xs) ≡ (if b then suc n else n)
longer true x xs n e = ap suc e
longer false x xs n e = e

pub length_those : (prog : ℕ) (step : StepKind) (seekers : List Seeker) (seats : List (Option Seat)) → length seats ≡ length seekers
    → length (those_under prog step seekers seats) ≡ seats_of_step seats prog step
length_those prog step [] [] full = refl
length_those prog step [] (seat ∷ seats) full = absurd (omega (arith, full))
length_those prog step (s ∷ seekers) [] full = absurd (omega (arith, full))
length_those prog step (s ∷ seekers) (seat ∷ seats) full =
    longer (is_seat_of prog step seat) s.person (those_under prog step seekers seats) (seats_of_step seats prog step) (length_those prog step seekers seats (omega (arith, full)))

-- each of them is one of those of whom every holder is one
pub all_under : (P : Person → Type 0) (prog : ℕ) (step : StepKind) (seekers : List Seeker) (seats : List (Option Seat))
    → ((i : ℕ) (s : Seeker) → slice_get seekers i ≡ Some s → slice_get seats i ≡ Some (Some (seat_at prog (Under step))) → P s.person)
    → AllByRecursion P (those_under prog step seekers seats)
all_under P prog step [] seats h = tt
all_under P prog step (s ∷ seekers) [] h = tt
all_under P prog step (s ∷ seekers) (seat ∷ seats) h =
    all_when P (is_seat_of prog step seat) s.person _ (λ e. h 0 s refl (ap Some (seat_is prog step seat e))) (all_under P prog step seekers seats (λ i. h (suc i)))

apart_from : (x : Person) (prog : ℕ) (step : StepKind) (seekers : List Seeker) (seats : List (Option Seat)) → AllByRecursion (λ (s : Seeker). x.id ≢ s.person.id) seekers
    → AllByRecursion (λ (other : Person). x.id ≢ other.id) (those_under prog step seekers seats)
apart_from x prog step [] seats apart = tt
apart_from x prog step (s ∷ seekers) [] apart = tt
apart_from x prog step (s ∷ seekers) (seat ∷ seats) apart =
    all_when (λ other. x.id ≢ other.id) (is_seat_of prog step seat) s.person _ (λ e. apart.0) (apart_from x prog step seekers seats apart.1)

distinct_when : (b : Bool) (x : Person) (xs : List Person) → AllByRecursion (λ (other : Person). x.id ≢ other.id) xs → AreDistinct xs → AreDistinct (if b then x ∷ xs else xs)
distinct_when true x xs apart distinct = (apart, distinct)
distinct_when false x xs apart distinct = distinct

pub distinct_under : (prog : ℕ) (step : StepKind) (seekers : List Seeker) (seats : List (Option Seat)) → Pairwise (λ (a b : Seeker). a.person.id ≢ b.person.id) seekers
    → AreDistinct (those_under prog step seekers seats)
distinct_under prog step [] seats distinct = tt
distinct_under prog step (s ∷ seekers) [] distinct = tt
distinct_under prog step (s ∷ seekers) (seat ∷ seats) distinct =
    distinct_when (is_seat_of prog step seat) s.person _ (apart_from s.person prog step seekers seats distinct.0) (distinct_under prog step seekers seats distinct.1)

-- Where everybody who holds a seat of the programme under the step is one of these people, no more seats of it are held than they are.
pub held_within : (prog : ℕ) (step : StepKind) (seekers : List Seeker) (seats : List (Option Seat)) (admitted : List Person) → length seats ≡ length seekers
    → Pairwise (λ (a b : Seeker). a.person.id ≢ b.person.id) seekers
    → ((i : ℕ) (s : Seeker) → slice_get seekers i ≡ Some s → slice_get seats i ≡ Some (Some (seat_at prog (Under step))) → IsAmong s.person admitted)
    → seats_of_step seats prog step ≤ length admitted
held_within prog step seekers seats admitted full distinct holds =
    let less = no_more (those_under prog step seekers seats) admitted (distinct_under prog step seekers seats distinct)
    (all_under (λ person. IsAmong person admitted) prog step seekers seats holds) in
    subst (λ n. n ≤ length admitted) (length_those prog step seekers seats full) less
