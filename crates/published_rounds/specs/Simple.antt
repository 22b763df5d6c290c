-- The simple rule of a step: for each trait its best holders up to the protected number, and then the best of the others (as in the judgments on reserved seats for women).
use Rattle.std.specs.Prelude.{◌≡◌, ◌<◌, ◌+◌, ◌-◌, ◌↔◌, ℕ, Bool, true, List, [], ◌∷◌, IsTrue, if◌then◌else◌}
use Rattle.office_base.specs.Lists.{IsAmong}
use Rattle.office_base.specs.Person.{has_trait}
use Rattle.office_base.specs.Placement.{protected}
use Rattle.office_base.specs.StepChoice.{IsStep, IsStepChoice}
use Rattle.office_base.specs.declared.person.Person.{Person}
use Rattle.office_base.specs.declared.step.Protections.{Protections}
use Rattle.office_base.specs.declared.step.Step.{Step}
use Rattle.merit_choice.specs.Marks.{filled_up, kept, marked}

-- how many of some people hold the trait
abbrev pub holders_of : ℕ → List Person → ℕ
holders_of t [] = 0
holders_of t (person ∷ people) = (if has_trait person.traits t then 1 else 0) + holders_of t people

-- nobody holds two traits that are protected
abbrev pub HoldOneAtMost : Protections → List Person → Type 0
HoldOneAtMost protections people = (person : Person) (s t : ℕ) → IsAmong person people → IsTrue (has_trait person.traits s) → IsTrue (has_trait person.traits t)
    → 0 < protected protections s → 0 < protected protections t → s ≡ t

-- The person is one of the best holders of a trait, up to the protected number: fewer of the better people hold it than seats are protected for it.
abbrev pub IsOneOfTheBest : Protections → List Person → Person → Type 0
IsOneOfTheBest protections better person = (t : ℕ) × IsTrue (has_trait person.traits t) × (holders_of t better < protected protections t)

-- one mark for each of the people, down the merit order: whether the person is one of the best holders of a trait
abbrev pub AreBestHolders : Protections → List Person → List Person → List Bool → Type 0
AreBestHolders protections better [] [] = Unit {0}
AreBestHolders protections better [] (mark ∷ marks) = ⊥
AreBestHolders protections better (person ∷ people) [] = ⊥
AreBestHolders protections better (person ∷ people) (mark ∷ marks) = ((mark ≡ true) ↔ IsOneOfTheBest protections better person) × AreBestHolders protections (person ∷ better) people marks

-- If nobody at a step holds two of its protected traits, its choice is the best holders of each trait up to the protected number, and the best of the others on the
-- seats that are left.
abbrev pub TheSimpleRule : Type 0
TheSimpleRule = (step : Step) (marks : List Bool) → IsStep step → HoldOneAtMost step.protections step.people → AreBestHolders step.protections [] step.people marks
    → IsStepChoice step (kept step.people (filled_up marks (step.seats - marked marks)))
