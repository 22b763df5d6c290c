-- How the kinds of faults are spelled and numbered.
use Rattle.std.specs.Prelude.{ℕ, List, codes}
use Rattle.rank_lists.specs.declared.fault.RankKind.{RankKind}
use Rattle.rank_lists.specs.declared.fault.RankKind.TheVariants.{BadHeader, BadId, RepeatedId, BadCategory, BadTrait, BadPlace, RepeatedPlace, RelaxedGeneral, BadToken, TooMany}

-- the name of a kind of fault
abbrev pub kind_name : RankKind → List ℕ
kind_name BadHeader = codes "BadHeader"
kind_name BadId = codes "BadId"
kind_name RepeatedId = codes "RepeatedId"
kind_name BadCategory = codes "BadCategory"
kind_name BadTrait = codes "BadTrait"
kind_name BadPlace = codes "BadPlace"
kind_name RepeatedPlace = codes "RepeatedPlace"
kind_name RelaxedGeneral = codes "RelaxedGeneral"
kind_name BadToken = codes "BadToken"
kind_name TooMany = codes "TooMany"

-- the number of a kind of fault
abbrev pub kind_number : RankKind → ℕ
kind_number BadHeader = 1
kind_number BadId = 2
kind_number RepeatedId = 3
kind_number BadCategory = 4
kind_number BadTrait = 5
kind_number BadPlace = 6
kind_number RepeatedPlace = 7
kind_number RelaxedGeneral = 8
kind_number BadToken = 9
kind_number TooMany = 10
