-- The steps of a programme: everybody whom they admit, who stands for each, and its seats.
use Rattle.std.proofs.Common.{◌≡◌, ◌++◌, inl, inr, ℕ, false, List, [], ◌∷◌, Option, Some, None, sym, refl, subst}
use Rattle.office_base.specs.CategorySteps.{all_steps, own_steps, row_of}
use Rattle.office_base.specs.Lists.{IsAmong, IsSublist}
use Rattle.office_base.specs.Person.{is_common}
use Rattle.office_base.specs.StepNumbers.{step_number}
use Rattle.office_base.specs.declared.category_steps.CategoryStep.{CategoryStep}
use Rattle.office_base.specs.declared.person.ListId.{ListId}
use Rattle.office_base.specs.declared.person.Person.{Person}
use Rattle.office_base.specs.declared.step.StepKind.{StepKind}
use Rattle.office_base.specs.declared.step.StepKind.TheVariants.{Open, Dereserved}
use Rattle.office_base.proofs.Lists.{among_left, among_right, at_among}
use Rattle.office_base.proofs.StepNumbers.{kind_at}
use Rattle.placements.specs.Ranks.{AreDistinct}
use Rattle.placements.proofs.Filters.{filter-sublist}
use Rattle.placements.proofs.Ranks.{any_append, pairwise_sublist}
use Rattle.placements.proofs.Sublists.{IsSublist-nil, IsSublist-same, sublist_again}
use Rattle.seat_matrix.specs.Seats.{is_dereserved, seats_of}
use Rattle.seat_matrix.specs.declared.seats.ProgrammeSeats.{ProgrammeSeats}
use Rattle.programme_lists.specs.Chosen.{IsAdmitted, all_by, everybody}
use Rattle.programme_lists.specs.Listing.{seats_filled}
use Rattle.programme_lists.specs.Programme.{Admissions, admitted_by, is_of, left_by, left_over, members_by, people_of, without}
use Rattle.programme_lists.proofs.Parts.{any_step}

-- ---- who is among them

among_steps : (admissions : Admissions) (kinds : List StepKind) (kind : StepKind) (person : Person) → IsAmong kind kinds → IsAmong person (admissions kind) → IsAmong person (all_by kinds admissions)
among_steps admissions [] kind person here there = absurd here
among_steps admissions (one ∷ kinds) kind person here there = elim here [
  | inl same ↦ among_left person (admissions one) (all_by kinds admissions) (subst (λ k. IsAmong person (admissions k)) same there)
  | inr later ↦ among_right person (admissions one) (all_by kinds admissions) (among_steps admissions kinds kind person later there)
]

of_steps : (admissions : Admissions) (kinds : List StepKind) (person : Person) → IsAmong person (all_by kinds admissions) → IsAdmitted admissions person
of_steps admissions [] person there = absurd there
of_steps admissions (kind ∷ kinds) person there = elim (any_append (λ other. person ≡ other) (admissions kind) (all_by kinds admissions) there) [
  | inl here ↦ (kind, here)
  | inr later ↦ of_steps admissions kinds person later
]

-- a person whom a step admits is one of all who are admitted
pub admitted_is_there : (admissions : Admissions) (person : Person) → IsAdmitted admissions person → IsAmong person (everybody admissions)
admitted_is_there admissions person admitted = among_steps admissions all_steps admitted.0 person (any_step admitted.0) admitted.1

-- and is admitted by one of the steps
pub there_is_admitted : (admissions : Admissions) (person : Person) → IsAmong person (everybody admissions) → IsAdmitted admissions person
there_is_admitted admissions person there = of_steps admissions all_steps person there

-- ---- distinct persons

front_part : {X : Type 0} (xs ys : List X) → IsSublist xs (xs ++ ys)
front_part [] ys = IsSublist-nil ys
front_part (x ∷ xs) ys = inr (xs, refl, front_part xs ys)

back_part : {X : Type 0} (xs ys zs : List X) → IsSublist zs ys → IsSublist zs (xs ++ ys)
back_part [] ys zs h = h
back_part (x ∷ xs) ys zs h = inl (back_part xs ys zs h)

steps_distinct : (admissions : Admissions) (kinds : List StepKind) (kind : StepKind) → IsAmong kind kinds → AreDistinct (all_by kinds admissions) → AreDistinct (admissions kind)
steps_distinct admissions [] kind here distinct = absurd here
steps_distinct admissions (one ∷ kinds) kind here distinct =
    let rest : List Person = all_by kinds admissions in
    elim here [
      | inl same ↦ subst (λ k. AreDistinct (admissions k)) (sym same) (pairwise_sublist _ _ _ (front_part (admissions one) rest) distinct)
      | inr later ↦ steps_distinct admissions kinds kind later (pairwise_sublist _ _ _ (back_part (admissions one) rest rest (IsSublist-same rest)) distinct)
    ]

-- those whom a step admits are distinct, where all who are admitted are
pub step_distinct : (admissions : Admissions) (kind : StepKind) → AreDistinct (everybody admissions) → AreDistinct (admitted_by admissions kind)
step_distinct admissions kind distinct = steps_distinct admissions all_steps kind (any_step kind) distinct

-- ---- who stands for a step

-- a step with seats of its own fills these
pub own_filled : (version : ℕ) (seats : ProgrammeSeats) (admissions : Admissions) (kind : StepKind) → is_dereserved kind ≡ false
    → seats_filled version seats admissions kind ≡ (seats_of seats kind).seats
own_filled version seats admissions Dereserved own = absurd (cc)
own_filled version seats admissions kind own = refl
