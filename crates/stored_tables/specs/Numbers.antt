-- The numbers that stand for choices in the tables.
use Rattle.std.specs.Prelude.{◌≡◌, ◌==◌, ℕ, Option, Some, None, if◌then◌else◌}
use Rattle.office_base.specs.declared.choice.Choice.{Choice}
use Rattle.office_base.specs.declared.choice.Choice.TheVariants.{Freeze, Float, Slide, Withdraw}

abbrev pub choice_number : Choice → ℕ
choice_number Freeze = 0
choice_number Float = 1
choice_number Slide = 2
choice_number Withdraw = 3

-- the choice of a number, where there is one
abbrev pub choice_of : ℕ → Option Choice
choice_of n =
    if n == 0 then Some Freeze
    else (if n == 1 then Some Float
    else (if n == 2 then Some Slide
    else (if n == 3 then Some Withdraw else None)))

-- Inverse: a choice is the one of its number, and the number of that choice is no other.
abbrev pub ChoiceNumbersLaw : Type 0
ChoiceNumbersLaw = ((choice : Choice) → choice_of (choice_number choice) ≡ Some choice)
    × ((n : ℕ) (choice : Choice) → choice_of n ≡ Some choice → choice_number choice ≡ n)
