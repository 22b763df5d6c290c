use Rattle.office_desk.proofs.handles.Pass.split.Given as goal

abbrev pub ghosts-cut : goal.ghosts-cut
ghosts-cut g a = record { turns = a.turns }
