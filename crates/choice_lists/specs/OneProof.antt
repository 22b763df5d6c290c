-- That choices are sound has one proof at most, so that a type may keep it.
use Rattle.std.specs.Prelude.{◌<◌, ◌≤◌, ℕ, List, [], ◌∷◌, IsTrue, length}
use Rattle.std.specs.Coded.{×_prop, Π_prop, →_prop, Unit-prop, le_prop}
use Rattle.std.specs.List.{AllByRecursion, AllByRecursion-prop}
use mathlib.Core.Bool.{Bool-set}
use Rattle.office_base.specs.Limits.{most_row_choices}
use Rattle.office_base.specs.Lists.{Pairwise}
use Rattle.office_base.specs.declared.person.ProgId.{ProgId}
use Rattle.rank_lists.specs.Register.{Ranks, find_person}
use Rattle.seat_matrix.specs.Matrix.{SeatTable}
use Rattle.choice_lists.specs.Choices.{AreChoices, AreDistinct, IsChoice, Lists, is_ranked_there, list_of}

Pairwise-prop : {X : Type 0} (R : X → X → Type 0) → ((x y : X) → IsProp (R x y)) → (xs : List X) → IsProp (Pairwise R xs)
Pairwise-prop R each [] = Unit-prop
Pairwise-prop R each (x ∷ xs) = ×_prop (AllByRecursion-prop (R x) (each x) xs) (Pairwise-prop R each xs)

IsChoice-prop : (ranks : Ranks) (seats : SeatTable) (candidate : ℕ) (progs : List ProgId) → IsProp (IsChoice ranks seats candidate progs)
IsChoice-prop ranks seats candidate progs x y =
    let distinct : IsProp (AreDistinct progs) = Pairwise-prop _ (λ a b. →_prop (λ p q. absurd p)) progs in
    let short : IsProp (length progs ≤ most_row_choices) = le_prop in
    let numbers : IsProp (AllByRecursion (λ prog. prog.0 < length seats.programmes) progs) = AllByRecursion-prop _ (λ prog. le_prop) progs in
    let ranked : IsProp (AllByRecursion (λ prog. IsTrue (is_ranked_there seats (find_person candidate ranks.people) prog.0)) progs) = AllByRecursion-prop _ (λ prog. Bool-set _ _) progs in
    λ i. record {
      distinct = distinct x.distinct y.distinct i;
      short = short x.short y.short i;
      numbers = numbers x.numbers y.numbers i;
      ranked = ranked x.ranked y.ranked i;
    }

-- Choices are sound in one way at most.
pub AreChoices-prop : (ranks : Ranks) (seats : SeatTable) (lists : Lists) → IsProp (AreChoices ranks seats lists)
AreChoices-prop ranks seats lists = Π_prop (λ candidate. IsChoice-prop ranks seats candidate (list_of lists candidate))
