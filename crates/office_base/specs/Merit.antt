-- People by merit: in order, and with one person put into it.
use Rattle.std.specs.Prelude.{◌≢◌, ℕ, List, [], ◌∷◌, Bool, false, Option, Some, None, nat_lt, IsSome, if◌then◌else◌}
use Rattle.std.specs.List.{AllByRecursion}
use Rattle.office_base.specs.Lists.{Pairwise}
use Rattle.office_base.specs.Person.{IsTraitSet, number_in}
use Rattle.office_base.specs.declared.person.ListId.{ListId}
use Rattle.office_base.specs.declared.person.Person.{Person}

-- the first number is there, and so is the second, and the first is smaller
abbrev pub is_ahead : Option ℕ → Option ℕ → Bool
is_ahead (Some m) (Some n) = nat_lt m n
is_ahead (Some m) None = false
is_ahead None _ = false

-- both have a place in the list, and the first one's number is smaller
abbrev pub is_better : ListId → Person → Person → Bool
is_better list a b = is_ahead (number_in list a) (number_in list b)

-- the people in merit order, with the person before the first who is worse
abbrev pub with_person : ListId → Person → List Person → List Person
with_person list person [] = person ∷ []
with_person list person (other ∷ people) = if is_better list person other then person ∷ other ∷ people else other ∷ with_person list person people

-- the people by merit
abbrev pub in_merit : ListId → List Person → List Person
in_merit list [] = []
in_merit list (person ∷ people) = with_person list person (in_merit list people)

-- The people can be put in merit order: they are distinct persons with distinct places in the list.
pub record CanBeRanked (list : ListId) (people : List Person) : Type 0 where
  pub traits : AllByRecursion (λ person. IsTraitSet person.traits) people
  pub placed : AllByRecursion (λ person. IsSome (number_in list person)) people
  pub numbers : Pairwise (λ a b. number_in list a ≢ number_in list b) people
  pub distinct : Pairwise (λ a b. a.id ≢ b.id) people

-- The person is none of the people, and has a place in the list that none of them has.
pub record IsNewTo (list : ListId) (people : List Person) (person : Person) : Type 0 where
  pub traits : IsTraitSet person.traits
  pub placed : IsSome (number_in list person)
  pub distinct : AllByRecursion (λ other. person.id ≢ other.id) people
  pub numbers : AllByRecursion (λ other. number_in list person ≢ number_in list other) people
