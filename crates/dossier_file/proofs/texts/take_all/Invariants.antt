use Rattle.std.proofs.Common.{drop}
use Rattle.dossier_file.proofs.DueLemmas.{IsAlong}
use Rattle.dossier_file.proofs.texts.take_all.Given as goal

abbrev pub invariant-loop-due : goal.invariant-loop-due
invariant-loop-due l = IsAlong l.season.matrix l.season.register.people l.season.rounds l.dues (drop l.due-index l.dues) l.bytes l.rest l.before l.papers
