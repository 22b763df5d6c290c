-- Laws of certificates, over the definitions alone.
use Rattle.std.specs.Prelude.{◌≡◌, ◌<◌, List}
use Rattle.std.specs.List.{AllByRecursion}
use Rattle.office_base.specs.Certificate.{IsCanonical}
use Rattle.office_base.specs.Person.{IsTraitSet}
use Rattle.office_base.specs.Placement.{IsPlacement}
use Rattle.office_base.specs.declared.person.Person.{Person}
use Rattle.office_base.specs.declared.step.Pair.{Pair}
use Rattle.office_base.specs.declared.step.Protections.{Protections}
use Rattle.placements.specs.Ranks.{AreDistinct}

-- people with distinct numbers have at most one canonical certificate
abbrev pub OneCertificate : Type 0
OneCertificate = (protections : Protections) (people : List Person) (first second : List Pair) → AreDistinct people
    → IsCanonical protections people first → IsCanonical protections people second → first ≡ second

-- each slot of a placement is the number of a trait
abbrev pub SlotsAreTraits : Type 0
SlotsAreTraits = (protections : Protections) (people : List Person) (pairs : List Pair) → AllByRecursion (λ person. IsTraitSet person.traits) people
    → IsPlacement protections people pairs → AllByRecursion (λ pair. pair.slot < 6) pairs
