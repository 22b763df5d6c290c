use Rattle.office_http.proofs.serving.serve.Given as goal

abbrev pub ghosts-serve_stood : goal.ghosts-serve_stood
ghosts-serve_stood g a = record { tables = (g.K.Keeper.seen a.office.keeper).tables; kept = (g.K.Keeper.seen a.office.keeper).kept }
