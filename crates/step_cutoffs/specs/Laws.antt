-- The laws of cutoffs, over the choice of a step.
use Rattle.std.specs.Prelude.{◌≡◌, ◌≤◌, ◌⊎◌, ◌↔◌, ℕ, List, Option, IsTrue}
use Rattle.office_base.specs.Lists.{IsAmong}
use Rattle.office_base.specs.Merit.{IsNewTo}
use Rattle.office_base.specs.Person.{IsTraitSet, has_trait, number_in}
use Rattle.office_base.specs.StepChoice.{IsStep, IsStepChoice}
use Rattle.office_base.specs.declared.person.Person.{Person}
use Rattle.office_base.specs.declared.person.TraitSet.{TraitSet}
use Rattle.office_base.specs.declared.step.Step.{Step}
use Rattle.placements.specs.Ranks.{AreAmong}
use Rattle.merit_choice.specs.Laws.{HasMorePeople}
use Rattle.merit_choice.specs.State.{IsStepKept, StepKept, step_with}
use Rattle.step_cutoffs.specs.Cutoff.{IsCutoff, IsCutoffFor, IsNoWider, IsWithin}
use Rattle.step_cutoffs.specs.declared.cutoff.Cutoff.{Cutoff}

-- the step, and whom it admits
abbrev pub kept_of : Step → List Person → StepKept
kept_of step chosen = record { list = step.list; seats = step.seats; protections = step.protections; held = chosen }

-- The second step has the people of the first and this person, who may be one of those.
pub record IsJoinedBy (step more : Step) (person : Person) : Type 0 where
  pub both : HasMorePeople step more
  pub there : IsAmong person more.people
  pub nobody_else : (other : Person) → IsAmong other more.people → IsAmong other step.people ⊎ (other ≡ person)

-- The cutoff decides. A person joins all who competed for a step, or was one of them. Then the person is admitted from all these exactly if their place is within
-- the cutoff of their traits.
abbrev pub CutoffsDecide : Type 0
CutoffsDecide = (step more : Step) (chosen others : List Person) (person : Person) (cutoff : Cutoff) → IsJoinedBy step more person → IsStepChoice step chosen → IsStepChoice more others
    → IsCutoff (kept_of step chosen) person.traits cutoff → IsAmong person others ↔ IsWithin cutoff (number_in step.list person)

-- So each person admitted is within the cutoff of their traits: somebody else with these traits can take their place.
abbrev pub AdmittedAreWithin : Type 0
AdmittedAreWithin = (kept : StepKept) (person : Person) (cutoff : Cutoff) → IsStepKept kept → IsAmong person kept.held → IsCutoff kept person.traits cutoff
    → IsWithin cutoff (number_in kept.list person)

-- And a person who competed and is refused is not.
abbrev pub RefusedAreOutside : Type 0
RefusedAreOutside = (step : Step) (chosen : List Person) (person : Person) (cutoff : Cutoff) → IsStep step → IsStepChoice step chosen → IsAmong person step.people
    → (IsAmong person chosen → ⊥) → IsCutoff (kept_of step chosen) person.traits cutoff → IsWithin cutoff (number_in step.list person) → ⊥

-- and where people come one at a time, a person who comes is admitted exactly if within the cutoff
abbrev pub CutoffsDecideOffers : Type 0
CutoffsDecideOffers = (kept : StepKept) (person : Person) (chosen : List Person) (cutoff : Cutoff) → IsStepKept kept → IsNewTo kept.list kept.held person
    → IsStepChoice (step_with kept person) chosen → IsCutoff kept person.traits cutoff → IsAmong person chosen ↔ IsWithin cutoff (number_in kept.list person)

-- The cutoff depends on the traits alone: the one for a newcomer is that of their traits.
abbrev pub CutoffIsOfTraits : Type 0
CutoffIsOfTraits = (kept : StepKept) (person : Person) (cutoff : Cutoff) → IsStepKept kept → IsNewTo kept.list kept.held person → IsCutoffFor kept person cutoff → IsCutoff kept person.traits cutoff

-- each set of traits has a cutoff
abbrev pub CutoffExists : Type 0
CutoffExists = (kept : StepKept) (traits : TraitSet) → IsStepKept kept → IsTraitSet traits → (cutoff : Cutoff) × IsCutoff kept traits cutoff

-- and no other
abbrev pub OneCutoff : Type 0
OneCutoff = (kept : StepKept) (traits : TraitSet) (first second : Cutoff) → IsStepKept kept → IsTraitSet traits → IsCutoff kept traits first → IsCutoff kept traits second → first ≡ second

-- each trait of the first set is in the second
abbrev pub AreHeldBy : TraitSet → TraitSet → Type 0
AreHeldBy traits more = (t : ℕ) → IsTrue (has_trait traits t) → IsTrue (has_trait more t)

-- A trait more never hurts: the cutoff of more traits is no narrower, and each place within that of some traits is within that of more.
abbrev pub MoreTraitsWiden : Type 0
MoreTraitsWiden = (kept : StepKept) (traits more : TraitSet) (cutoff wider : Cutoff) → IsStepKept kept → IsTraitSet traits → IsTraitSet more → AreHeldBy traits more
    → IsCutoff kept traits cutoff → IsCutoff kept more wider → IsNoWider cutoff wider × ((place : Option ℕ) → IsWithin cutoff place → IsWithin wider place)

-- The second step is the first with no fewer seats, for some of the people.
pub record IsEased (step later : Step) : Type 0 where
  pub is_step : IsStep step
  pub later_is_step : IsStep later
  pub list : later.list ≡ step.list
  pub protections : later.protections ≡ step.protections
  pub seats : step.seats ≤ later.seats
  pub people : AreAmong later.people step.people

-- whoever is admitted stays admitted, if they still compete
abbrev pub AdmittedStay : Type 0
AdmittedStay = (step later : Step) (chosen others : List Person) (person : Person) → IsEased step later → IsStepChoice step chosen → IsStepChoice later others
    → IsAmong person chosen → IsAmong person later.people → IsAmong person others

-- Cutoffs only widen: the cutoff of each set of traits is no narrower at the eased step, and each place within the one is within the other.
abbrev pub EasedIsWider : Type 0
EasedIsWider = (step later : Step) (chosen others : List Person) (traits : TraitSet) (cutoff wider : Cutoff) → IsEased step later → IsStepChoice step chosen → IsStepChoice later others
    → IsTraitSet traits → IsCutoff (kept_of step chosen) traits cutoff → IsCutoff (kept_of later others) traits wider
    → IsNoWider cutoff wider × ((place : Option ℕ) → IsWithin cutoff place → IsWithin wider place)
