-- The turns of a candidate as a list.
use Rattle.std.specs.Prelude.{◌≡◌, ◌≤◌, ◌-◌, ◌/◌, ◌%◌, ℕ, zero, suc, List, [], ◌∷◌, Option, None, length, slice_get, take, flat_map}
use Rattle.office_base.specs.declared.choice.Choice.{Choice}
use Rattle.office_base.specs.declared.choice.Choice.TheVariants.{Freeze, Float, Slide, Withdraw}
use Rattle.answer_table.specs.declared.turns.Turns.{Turns}

-- the digit to base 4 that represents a choice
abbrev pub digit_of : Choice → ℕ
digit_of Freeze = 0
digit_of Float = 1
digit_of Slide = 2
digit_of Withdraw = 3

-- the choice that a digit to base 4 represents
abbrev pub of_digit : ℕ → Choice
of_digit zero = Freeze
of_digit (suc zero) = Float
of_digit (suc (suc zero)) = Slide
of_digit (suc (suc (suc _))) = Withdraw

-- the choices that the four digits of a byte to base 4 stand for, from the lowest
abbrev pub four_of : ℕ → List Choice
four_of byte = of_digit (byte % 4) ∷ of_digit (byte / 4 % 4) ∷ of_digit (byte / 16 % 4) ∷ of_digit (byte / 64 % 4) ∷ []

-- the choices of the turns that were taken
abbrev pub choices_of : Turns → List Choice
choices_of turns = take turns.count (flat_map four_of turns.packed)

-- there is a place for each turn
pub record IsTurns (turns : Turns) : Type 0 where
  pub few : turns.count ≤ 17
  pub room : length turns.packed ≡ 5

-- so many candidates, who have taken no turn
abbrev pub no_turns : ℕ → List (List Choice)
no_turns zero = []
no_turns (suc count) = [] ∷ no_turns count

-- the choice of a turn, from 1
abbrev pub choice_at : List Choice → ℕ → Option Choice
choice_at choices zero = None
choice_at choices (suc before) = slice_get choices before

-- the choice of the last turn
abbrev pub last_choice : List Choice → Option Choice
last_choice choices = slice_get choices (length choices - 1)
