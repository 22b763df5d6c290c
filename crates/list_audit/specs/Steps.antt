-- What one step of a programme's lists comes to.
use Rattle.std.specs.Prelude.{◌≡◌, ◌⊎◌, ◌<◌, ℕ, Option, Some, None, List, length}
use Rattle.office_base.specs.CategorySteps.{category_steps}
use Rattle.office_base.specs.Lists.{IsAmong}
use Rattle.office_base.specs.Person.{IsBetter}
use Rattle.office_base.specs.Placement.{IsHonoured, IsPlacement}
use Rattle.office_base.specs.declared.person.CandId.{CandId}
use Rattle.office_base.specs.declared.person.ListId.{ListId}
use Rattle.office_base.specs.declared.person.Person.{Person}
use Rattle.office_base.specs.declared.step.Pair.{Pair}
use Rattle.office_base.specs.declared.step.Protections.{Protections}
use Rattle.office_base.specs.StepNumbers.{step_number}
use Rattle.office_base.specs.declared.category_steps.CategoryStep.{CategoryStep}
use Rattle.programme_lists.specs.declared.programme.Programme.{Programme}
use Rattle.programme_lists.specs.declared.programme.StepList.{StepList}
use Rattle.seat_matrix.specs.declared.seats.ProgrammeSeats.{ProgrammeSeats}
use Rattle.list_audit.specs.Clauses.{Audited, BreaksFirst, IsSound, audited}
use Rattle.axiom_laws.specs.Exchanges.{Overtakes}
use Rattle.list_audit.specs.declared.clause.Clause.{Clause}
use Rattle.list_audit.specs.declared.clause.Clause.TheVariants.{BadCertificate, Overtaken}

-- no clause is broken in the step, or this one first
abbrev pub IsStepFault : Audited → Option (Clause × Option CandId) → Type 0
IsStepFault step None = IsSound step
IsStepFault step (Some fault) = BreaksFirst step fault.0 fault.1

-- the pairs place some of those named, and are as many as all people honour
abbrev pub Certifies : Protections → List Person → List Person → List Pair → Type 0
Certifies protections people named pairs = IsPlacement protections named pairs × IsHonoured protections people (length pairs)

-- the person overtakes one of those named
abbrev pub OvertakesSome : ListId → Protections → List Person → List Person → Person → Type 0
OvertakesSome list protections people named person = (worse : Person) × Overtakes list protections people named person worse

-- the best of those who overtake somebody; None where nobody does
abbrev pub IsBestOf : ListId → Protections → List Person → List Person → Option CandId → Type 0
IsBestOf list protections people named None = (person : Person) → OvertakesSome list protections people named person → ⊥
IsBestOf list protections people named (Some cand) = (person : Person) × (person.id ≡ cand) × OvertakesSome list protections people named person
    × ((other : Person) → OvertakesSome list protections people named other → (other ≡ person) ⊎ IsBetter list person other)

-- of people of whom those named are a part of the right size: the certificate is bad, or somebody overtakes, or neither
abbrev pub BreaksChoice : ListId → Protections → List Person → StepList → Clause → Option CandId → Type 0
BreaksChoice list protections people shown BadCertificate None = Certifies protections people shown.admitted shown.cert.pairs → ⊥
BreaksChoice list protections people shown Overtaken (Some cand) =
    Certifies protections people shown.admitted shown.cert.pairs × IsBestOf list protections people shown.admitted (Some cand)
BreaksChoice list protections people shown _ _ = ⊥

abbrev pub IsChoiceFault : ListId → Protections → List Person → StepList → Option (Clause × Option CandId) → Type 0
IsChoiceFault list protections people shown None =
    Certifies protections people shown.admitted shown.cert.pairs × IsBestOf list protections people shown.admitted None
IsChoiceFault list protections people shown (Some fault) = BreaksChoice list protections people shown fault.0 fault.1

-- no step of a category breaks a clause, or this one first
abbrev pub IsCategoryFault : ℕ → ProgrammeSeats → List Person → Programme → Option (Clause × Option CandId) → Type 0
IsCategoryFault version seats people programme None = (row : CategoryStep) → IsAmong row category_steps → IsSound (audited version seats people programme row.step)
IsCategoryFault version seats people programme (Some fault) = (row : CategoryStep) × IsAmong row category_steps
    × ((other : CategoryStep) → IsAmong other category_steps → step_number other.step < step_number row.step → IsSound (audited version seats people programme other.step))
    × BreaksFirst (audited version seats people programme row.step) fault.0 fault.1
