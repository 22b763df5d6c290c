-- How the candidates stand at the end of a window, in lists along the people.
use Rattle.std.specs.Prelude.{◌+◌, ℕ, List, [], ◌∷◌, Option, Some, None, replicate, if◌then◌else◌}
use Rattle.office_base.specs.declared.choice.Choice.{Choice}
use Rattle.office_base.specs.declared.seat.Seat.{Seat}
use Rattle.rounds.specs.declared.round.Round.{Round}
use Rattle.round_options.specs.Options.{after_cut, standing_of}
use Rattle.round_options.specs.declared.standing.Standing.{Standing}
use Rattle.office_moves.specs.Judge.{is_gone}

-- the standing of a candidate after the choices of a window: that of the last choice, or unchanged if there is none
abbrev pub stands : Standing → List Choice → Standing
stands standing [] = standing
stands standing (choice ∷ choices) = stands (standing_of choice) choices

-- how all stand after the choices of a window, by how the last cut left them
abbrev pub standings : List Standing → List (List Choice) → List Standing
standings [] table = []
standings (left ∷ all) [] = []
standings (left ∷ all) (choices ∷ table) = stands left choices ∷ standings all table

-- how a cut leaves all, by how they stand and the seats that the new round gives
abbrev pub after_cuts : List Standing → List (Option Seat) → List Standing
after_cuts [] seats = []
after_cuts (standing ∷ all) [] = []
after_cuts (standing ∷ all) (seat ∷ seats) = after_cut standing seat ∷ after_cuts all seats

-- how many are not out
abbrev pub still_in : List Standing → ℕ
still_in [] = 0
still_in (standing ∷ all) = if is_gone standing then still_in all else still_in all + 1

-- the seats that so many have: nobody has one where none are given
abbrev pub seats_given : ℕ → Option (List (Option Seat)) → List (Option Seat)
seats_given count None = replicate count None
seats_given count (Some seats) = seats

-- the seats of a round; nobody has one where there is no round
abbrev pub seats_of : ℕ → Option Round → List (Option Seat)
seats_of count None = replicate count None
seats_of count (Some round) = round.seats
