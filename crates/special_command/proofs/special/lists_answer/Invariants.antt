use Rattle.special_command.proofs.special.lists_answer.Given as goal

abbrev pub ghosts-round_of : goal.ghosts-round_of
ghosts-round_of g a = record { name = a.blank.name; parts = a.blank.parts }
