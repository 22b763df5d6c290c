-- The number by which people are sorted.
use Rattle.std.specs.Prelude.{ℕ}
use Rattle.std.specs.Option.{unwrap_or}
use Rattle.office_base.specs.Person.{number_in}
use Rattle.office_base.specs.declared.person.ListId.{ListId}
use Rattle.office_base.specs.declared.person.Person.{Person}

-- the number of a person's place in the list, 0 where there is none
abbrev pub merit_in : ListId → Person → ℕ
merit_in list person = unwrap_or (number_in list person) 0
