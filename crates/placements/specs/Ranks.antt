-- When all of some people can be placed at once, and who is among whom.
use Rattle.std.specs.Prelude.{◌≡◌, ◌≢◌, List, [], ◌∷◌, length, ◌==◌, if◌then◌else◌}
use Rattle.std.specs.List.{AllByRecursion}
use Rattle.office_base.specs.Lists.{IsAmong, Pairwise}
use Rattle.office_base.specs.Placement.{IsPlacement}
use Rattle.office_base.specs.declared.person.CandId.{CandId}
use Rattle.office_base.specs.declared.person.Person.{Person}
use Rattle.office_base.specs.declared.step.Pair.{Pair}
use Rattle.office_base.specs.declared.step.Protections.{Protections}

-- some placement leaves none of the people out
abbrev pub CanBePlaced : Protections → List Person → Type 0
CanBePlaced protections people = (pairs : List Pair) × IsPlacement protections people pairs × (length pairs ≡ length people)

-- no two of the people have one number
abbrev pub AreDistinct : List Person → Type 0
AreDistinct people = Pairwise (λ a b. a.id ≢ b.id) people

-- each of the first is one of the second
abbrev pub AreAmong : List Person → List Person → Type 0
AreAmong some all = AllByRecursion (λ person. IsAmong person all) some

-- these are the people with the person, in any order
abbrev pub AreWith : Person → List Person → List Person → Type 0
AreWith person people all = AreAmong all (person ∷ people) × AreAmong (person ∷ people) all

-- the people without the first one of this number
abbrev pub without : CandId → List Person → List Person
without cand [] = []
without cand (person ∷ people) = if person.id.0 == cand.0 then people else person ∷ without cand people
