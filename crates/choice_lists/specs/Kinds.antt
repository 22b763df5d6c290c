-- How the kinds of faults are spelled and numbered.
use Rattle.std.specs.Prelude.{ℕ, List, codes}
use Rattle.choice_lists.specs.declared.fault.ChoiceKind.{ChoiceKind}
use Rattle.choice_lists.specs.declared.fault.ChoiceKind.TheVariants.{BadHeader, UnknownCandidate, RepeatedCandidate, UnknownProgramme, RepeatedProgramme, NotRankedThere, TooLong, TooMany}

-- the name of a kind of fault
abbrev pub kind_name : ChoiceKind → List ℕ
kind_name BadHeader = codes "BadHeader"
kind_name UnknownCandidate = codes "UnknownCandidate"
kind_name RepeatedCandidate = codes "RepeatedCandidate"
kind_name UnknownProgramme = codes "UnknownProgramme"
kind_name RepeatedProgramme = codes "RepeatedProgramme"
kind_name NotRankedThere = codes "NotRankedThere"
kind_name TooLong = codes "TooLong"
kind_name TooMany = codes "TooMany"

-- the number of a kind of fault
abbrev pub kind_number : ChoiceKind → ℕ
kind_number BadHeader = 0
kind_number UnknownCandidate = 1
kind_number RepeatedCandidate = 2
kind_number UnknownProgramme = 3
kind_number RepeatedProgramme = 4
kind_number NotRankedThere = 5
kind_number TooLong = 6
kind_number TooMany = 7
