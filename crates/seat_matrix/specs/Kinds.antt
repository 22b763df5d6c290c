-- How the kinds of faults are spelled and numbered.
use Rattle.std.specs.Prelude.{ℕ, List, codes}
use Rattle.seat_matrix.specs.declared.fault.MatrixKind.{MatrixKind}
use Rattle.seat_matrix.specs.declared.fault.MatrixKind.TheVariants.{BadHeader, BadCode, RepeatedRow, BadNumber, ProtectionsExceedSeats, UnknownList, TwoInstitutes, TwoLists, TooMany}

-- the name of a kind of fault
abbrev pub kind_name : MatrixKind → List ℕ
kind_name BadHeader = codes "BadHeader"
kind_name BadCode = codes "BadCode"
kind_name RepeatedRow = codes "RepeatedRow"
kind_name BadNumber = codes "BadNumber"
kind_name ProtectionsExceedSeats = codes "ProtectionsExceedSeats"
kind_name UnknownList = codes "UnknownList"
kind_name TwoInstitutes = codes "TwoInstitutes"
kind_name TwoLists = codes "TwoLists"
kind_name TooMany = codes "TooMany"

-- the number of a kind of fault
abbrev pub kind_number : MatrixKind → ℕ
kind_number BadHeader = 1
kind_number BadCode = 2
kind_number RepeatedRow = 3
kind_number BadNumber = 4
kind_number ProtectionsExceedSeats = 5
kind_number UnknownList = 6
kind_number TwoInstitutes = 7
kind_number TwoLists = 8
kind_number TooMany = 9
