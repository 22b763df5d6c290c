-- What comes of one person.
use Rattle.std.specs.Prelude.{◌≡◌, ◌⊎◌, [], ◌∷◌, ◌++◌, Option, Some, None}
use Rattle.std.specs.List.{AllByRecursion}
use Rattle.office_base.specs.Lists.{IsAmong}
use Rattle.office_base.specs.Person.{IsBetter}
use Rattle.office_base.specs.declared.person.CandId.{CandId}
use Rattle.office_base.specs.declared.person.Person.{Person}
use Rattle.placements.specs.Ranks.{CanBePlaced, without}
use Rattle.slot_matching.specs.Kept.{Kept, with_member}
use Rattle.slot_matching.specs.declared.matching.Augment.{Augment}
use Rattle.slot_matching.specs.declared.matching.Augment.TheVariants.{Raised, Held}

-- the members can all be placed with the person in the member's place
abbrev pub CanReplace : Kept → Person → Person → Type 0
CanReplace kept person member = CanBePlaced kept.protections (without member.id kept.members ++ person ∷ [])

-- The worst in merit of the members whom the person can replace; None where there is none.
abbrev pub IsWorstFor : Kept → Person → Option CandId → Type 0
IsWorstFor kept person None = AllByRecursion (λ member. ¬ CanReplace kept person member) kept.members
IsWorstFor kept person (Some cand) = (worst : Person) × (worst.id ≡ cand) × IsAmong worst kept.members
    × CanReplace kept person worst
    × AllByRecursion (λ member. CanReplace kept person member → (member ≡ worst) ⊎ IsBetter kept.list member worst) kept.members

-- The person joins the members if and only if all members can be placed together with the person. Otherwise the
-- members stay unchanged, and the answer names the worst whom the person can replace.
abbrev pub IsAugmented : Kept → Person → Augment → Kept → Type 0
IsAugmented before person Raised after =
    CanBePlaced before.protections (with_member before person).members × (after ≡ with_member before person)
IsAugmented before person (Held worst) after =
    (¬ CanBePlaced before.protections (with_member before person).members) × (after ≡ before) × IsWorstFor before person worst
