-- The laws of people by merit: only who the people are matters.
use Rattle.std.specs.Prelude.{◌≡◌, List, ◌∷◌, length}
use Rattle.office_base.specs.Lists.{IsSublist}
pub use Rattle.office_base.specs.Merit.{is_ahead, is_better, with_person, in_merit, CanBeRanked, IsNewTo}
use Rattle.office_base.specs.StepChoice.{AreRanked}
use Rattle.office_base.specs.declared.person.ListId.{ListId}
use Rattle.office_base.specs.declared.person.Person.{Person}
use Rattle.placements.specs.Ranks.{AreAmong, AreDistinct}

-- people by merit are the same persons, each better than all who follow
abbrev pub InMeritRanks : Type 0
InMeritRanks = (list : ListId) (people : List Person) → CanBeRanked list people
    → AreRanked list (in_merit list people) × AreAmong people (in_merit list people) × AreAmong (in_merit list people) people × (length (in_merit list people) ≡ length people)

-- ranked persons are all there are in one order alone
abbrev pub OneMeritOrder : Type 0
OneMeritOrder = (list : ListId) (people ranked : List Person) → CanBeRanked list people → AreRanked list ranked → AreAmong people ranked → AreAmong ranked people → ranked ≡ in_merit list people

-- the same persons, given in any two orders, are the same people by merit
abbrev pub SameMeritOrder : Type 0
SameMeritOrder = (list : ListId) (some others : List Person) → CanBeRanked list some → CanBeRanked list others → AreAmong some others → AreAmong others some
    → in_merit list some ≡ in_merit list others

-- some of the people can be put in merit order too
abbrev pub PartCanBeRanked : Type 0
PartCanBeRanked = (list : ListId) (some all : List Person) → AreDistinct some → CanBeRanked list all → AreAmong some all → CanBeRanked list some

-- some of the people by merit are a part of all of them by merit
abbrev pub PartInMerit : Type 0
PartInMerit = (list : ListId) (some all : List Person) → AreDistinct some → CanBeRanked list all → AreAmong some all → IsSublist (in_merit list some) (in_merit list all)

-- people in merit order stay where they are
abbrev pub RankedInMerit : Type 0
RankedInMerit = (list : ListId) (people : List Person) → AreRanked list people → CanBeRanked list people × (in_merit list people ≡ people)

-- if both are in merit order, persons who are among others are a part of these
abbrev pub RankedPart : Type 0
RankedPart = (list : ListId) (some all : List Person) → AreRanked list some → AreRanked list all → AreAmong some all → IsSublist some all

-- people in merit order with a person who is new to them are in merit order, and are these persons
abbrev pub WithPersonRanks : Type 0
WithPersonRanks = (list : ListId) (people : List Person) (person : Person) → AreRanked list people → IsNewTo list people person
    → AreRanked list (with_person list person people) × AreAmong (person ∷ people) (with_person list person people)
    × AreAmong (with_person list person people) (person ∷ people) × IsSublist people (with_person list person people)
