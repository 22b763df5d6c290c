-- How the clauses are called in an answer.
use Rattle.std.specs.Prelude.{ℕ, List, codes}
use Rattle.list_audit.specs.declared.clause.Clause.{Clause}
use Rattle.list_audit.specs.declared.clause.Clause.TheVariants.{NotSought, Fell, Unlisted, WrongNumbers, NotCandidate, WrongSize, BadCertificate, Overtaken, FinalDiffers}

-- the name of a clause
abbrev pub name_of : Clause → List ℕ
name_of NotSought = codes "NotSought"
name_of Fell = codes "Fell"
name_of Unlisted = codes "Unlisted"
name_of WrongNumbers = codes "WrongNumbers"
name_of NotCandidate = codes "NotCandidate"
name_of WrongSize = codes "WrongSize"
name_of BadCertificate = codes "BadCertificate"
name_of Overtaken = codes "Overtaken"
name_of FinalDiffers = codes "FinalDiffers"
