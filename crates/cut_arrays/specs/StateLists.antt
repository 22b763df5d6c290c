-- What a state says of each of the people, as lists along them.
use Rattle.std.specs.Prelude.{ℕ, List, map}
use Rattle.office_base.specs.declared.choice.Choice.{Choice}
use Rattle.round_options.specs.declared.standing.Standing.{Standing}
use Rattle.office_moves.specs.Facts.{SeasonFacts}
use Rattle.office_moves.specs.State.{State, in_window, left_by, rows_of, standing_at, view_of}

-- how the last cut left them
abbrev pub left_along : SeasonFacts → State → List Standing
left_along facts state = map (λ person. left_by facts (view_of state person.id.0) person.id.0 state.now) facts.people

-- how they stand now
abbrev pub standings_along : SeasonFacts → State → List Standing
standings_along facts state = map (λ person. standing_at facts (view_of state person.id.0) person.id.0 state.now) facts.people

-- their choices in a window, in the order of the turns
abbrev pub choices_along : SeasonFacts → State → ℕ → List (List Choice)
choices_along facts state window = map (λ person. map (λ row. row.choice) (in_window window (rows_of person.id.0 state.answers))) facts.people
