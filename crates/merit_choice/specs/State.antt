-- What a step keeps while people come one at a time, and what comes of one of them.
use Rattle.std.specs.Prelude.{◌≡◌, ◌≤◌, ◌<◌, ℕ, List, Bool, Option, Some, None, length, sum}
use Rattle.std.specs.List.{AllZip}
use Rattle.office_base.specs.Lists.{AnyByRecursion, IsAmong}
use Rattle.office_base.specs.Person.{IsList}
use Rattle.office_base.specs.StepChoice.{AreRanked}
use Rattle.office_base.specs.declared.person.ListId.{ListId}
use Rattle.office_base.specs.declared.person.Person.{Person}
use Rattle.office_base.specs.declared.step.Protections.{Protections}
use Rattle.office_base.specs.declared.step.Step.{Step}
use Rattle.placements.specs.Ranks.{without}
use Rattle.slot_matching.specs.Kept.{Kept}
use Rattle.merit_choice.specs.InMerit.{with_person}
use Rattle.merit_choice.specs.Needed.{AreNeeded, Tells}
use Rattle.merit_choice.specs.declared.state.Offered.{Offered}
use Rattle.merit_choice.specs.declared.state.Offered.TheVariants.{Taken, Displaced, Refused}

-- the merit list, the seats and their protections, and whom the seats hold
pub record StepKept : Type 0 where
  pub list : ListId
  pub seats : ℕ
  pub protections : Protections
  pub held : List Person

-- Those held are in merit order, and the seats hold them.
pub record IsStepKept (state : StepKept) : Type 0 where
  pub list : IsList state.list
  pub ranked : AreRanked state.list state.held
  pub few : length state.held ≤ state.seats
  -- the protected positions are among the seats
  pub protections : sum state.protections.counts ≤ state.seats

-- the step whose people are those held and one more
abbrev pub step_with : StepKept → Person → Step
step_with state person = record { list = state.list; seats = state.seats; protections = state.protections; people = with_person state.list person state.held }

-- who is left without a seat: nobody, if fewer were held than there are seats; otherwise one of those held or the
-- person
abbrev pub HandsOn : StepKept → Person → Option Person → StepKept → Type 0
HandsOn before person None after = (length before.held < before.seats) × (after.held ≡ with_person before.list person before.held)
HandsOn before person (Some gone) after = (length before.held ≡ before.seats) × IsAmong gone (with_person before.list person before.held)
    × (after.held ≡ without gone.id (with_person before.list person before.held))

-- Where fewer were held than there are seats, the person is held too. Else one of those held leaves, or the person does.
abbrev pub IsAnswered : StepKept → Person → Offered → StepKept → Type 0
IsAnswered before person Taken after = (length before.held < before.seats) × (after.held ≡ with_person before.list person before.held)
IsAnswered before person (Displaced cand) after = (length before.held ≡ before.seats) × AnyByRecursion (λ other. other.id ≡ cand) before.held
    × (after.held ≡ without cand (with_person before.list person before.held))
IsAnswered before person Refused after = (length before.held ≡ before.seats) × (after.held ≡ before.held)

-- ---- within

-- The matching has the needed of those held, and each of these is marked so or not.
pub record IsMatched (list : ListId) (held : List Person) (marks : List Bool) (kept : Kept) : Type 0 where
  pub same_list : kept.list ≡ list
  pub needs : AreNeeded list kept.protections held kept.members
  pub told : AllZip (Tells kept.members) held marks

-- what the step keeps true of those held, of their marks, and of the room for one more than the seats
pub record IsWorked (state : StepKept) (kept : Kept) (marks : List Bool) (size marks_size : ℕ) : Type 0 where
  pub is_kept : IsStepKept state
  pub matched : IsMatched state.list state.held marks kept
  pub room : state.seats < size
  pub marks_room : state.seats < marks_size
