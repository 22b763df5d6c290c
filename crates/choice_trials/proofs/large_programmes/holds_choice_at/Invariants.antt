use Rattle.choice_trials.proofs.large_programmes.holds_choice_at.Given as goal

abbrev pub ghosts-holds_choice : goal.ghosts-holds_choice
ghosts-holds_choice a = record { name = a.blank.name; parts = a.blank.parts }
