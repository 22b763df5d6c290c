-- All sublists of people.
use Rattle.std.specs.Prelude.{List, [], ◌∷◌, ◌++◌, map}
use Rattle.office_base.specs.declared.person.Person.{Person}

-- those without the first of them, and the same with the first in front
abbrev pub sublists_of : List Person → List (List Person)
sublists_of [] = [] ∷ []
sublists_of (person ∷ people) = sublists_of people ++ map (λ set. person ∷ set) (sublists_of people)
