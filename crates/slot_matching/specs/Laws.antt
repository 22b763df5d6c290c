-- Laws of the numbers honoured and of people who can all be placed at once, over the definitions alone. The lists may
-- be in any order: where one must have the people of another, each of the other's is among its own.
use Rattle.std.specs.Prelude.{◌≡◌, ◌≢◌, ◌≤◌, ◌<◌, ◌+◌, ◌⊎◌, ◌↔◌, ℕ, suc, List, [], ◌∷◌, ◌++◌, length}
use Rattle.std.specs.List.{AllByRecursion}
use Rattle.office_base.specs.Lists.{IsAmong, IsSublist}
use Rattle.office_base.specs.Person.{IsTraitSet}
use Rattle.office_base.specs.Placement.{IsHonoured}
use Rattle.office_base.specs.declared.person.Person.{Person}
use Rattle.office_base.specs.declared.step.Protections.{Protections}
use Rattle.placements.specs.Demand.{asking, positions}
use Rattle.placements.specs.Ranks.{AreDistinct, AreAmong, AreWith, CanBePlaced}

-- Exchange: of two lists of people who can all be placed, the longer one has a person who is not in the shorter one and can be placed with it.
abbrev pub ExchangeLaw : Type 0
ExchangeLaw = (protections : Protections) (all some more : List Person) → AreDistinct all → AreAmong some all → AreAmong more all
    → CanBePlaced protections some → CanBePlaced protections more → length some < length more
    → (person : Person) × IsAmong person more × AllByRecursion (λ other. person.id ≢ other.id) some
    × CanBePlaced protections (person ∷ some) × CanBePlaced protections (some ++ person ∷ [])

-- Extension: some of the people who can all be placed are among such people as many as all the people honour.
abbrev pub ExtensionLaw : Type 0
ExtensionLaw = (protections : Protections) (people some : List Person) (n : ℕ) → AreDistinct people → AreAmong some people
    → CanBePlaced protections some → IsHonoured protections people n
    → (more : List Person) × IsSublist more people × AreAmong some more × CanBePlaced protections more × (length more ≡ n)

-- Any order: the same people honour as much in any order.
abbrev pub AnyOrderLaw : Type 0
AnyOrderLaw = (protections : Protections) (people others : List Person) (n : ℕ) → AreAmong people others → AreAmong others people
    → IsHonoured protections people n → IsHonoured protections others n

-- Monotone: some of the people honour at most as much.
abbrev pub MonotoneLaw : Type 0
MonotoneLaw = (protections : Protections) (some people : List Person) (m n : ℕ) → AreAmong some people
    → IsHonoured protections some m → IsHonoured protections people n → m ≤ n

-- One step: one person more honours as much, or one more.
abbrev pub OneStepLaw : Type 0
OneStepLaw = (protections : Protections) (people all : List Person) (person : Person) (m n : ℕ) → AreWith person people all
    → IsHonoured protections people m → IsHonoured protections all n → (n ≡ m) ⊎ (n ≡ suc m)

-- Outside: all honour at most as much as some of them, and one for each of the others.
abbrev pub OutsideLaw : Type 0
OutsideLaw = (protections : Protections) (people others all : List Person) (m n : ℕ) → AreAmong all (others ++ people)
    → IsHonoured protections people m → IsHonoured protections all n → n ≤ m + length others

-- Diminishing returns: one person more raises the number of more people by at most as much as that of some of them.
abbrev pub DiminishingLaw : Type 0
DiminishingLaw = (protections : Protections) (some people some_with people_with : List Person) (person : Person) (m m' n n' : ℕ) → AreDistinct (person ∷ people)
    → AreAmong some people → AreWith person some some_with → AreWith person people people_with
    → IsHonoured protections some m → IsHonoured protections people m' → IsHonoured protections some_with n → IsHonoured protections people_with n'
    → n' + m ≤ n + m'

-- One after another: where the chosen of the people can all be placed and are as many as the people honour, one person more raises the
-- number exactly where this person can be placed with the chosen.
abbrev pub OneByOneLaw : Type 0
OneByOneLaw = (protections : Protections) (people chosen all : List Person) (person : Person) → AreDistinct (person ∷ people)
    → AreAmong chosen people → AreWith person people all → CanBePlaced protections chosen → IsHonoured protections people (length chosen)
    → (CanBePlaced protections (chosen ++ person ∷ []) → IsHonoured protections all (suc (length chosen)))
    × ((¬ CanBePlaced protections (chosen ++ person ∷ [])) → IsHonoured protections all (length chosen))

-- Sets of traits: people can all be placed exactly where no set of traits is asked for, and nothing else, by more of them than it has positions.
abbrev pub TraitSetLaw : Type 0
TraitSetLaw = (protections : Protections) (people : List Person) → AreDistinct people → AllByRecursion (λ person. IsTraitSet person.traits) people
    → CanBePlaced protections people ↔ ((m : ℕ) → m < 64 → asking (record { 0 = m }) people ≤ positions protections (record { 0 = m }))
