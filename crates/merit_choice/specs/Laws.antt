-- The laws of the choice of a step, as statements over the definitions of the base.
use Rattle.std.specs.Prelude.{◌≡◌, ◌≤◌, ◌<◌, ◌-◌, ℕ, suc, min, Bool, List, [], ◌∷◌, length, sum, IsTrue}
pub use Rattle.office_base.specs.Lists.{IsAmong}
use Rattle.office_base.specs.Person.{IsBetter, IsList, has_trait}
use Rattle.office_base.specs.Placement.{IsHonoured}
use Rattle.office_base.specs.StepChoice.{IsStep, IsStepChoice}
use Rattle.office_base.specs.declared.person.ListId.{ListId}
use Rattle.office_base.specs.declared.person.Person.{Person}
use Rattle.office_base.specs.declared.step.Protections.{Protections}
use Rattle.office_base.specs.declared.step.Step.{Step}
use Rattle.placements.specs.Ranks.{AreAmong, without}
use Rattle.merit_choice.specs.InMerit.{CanBeRanked, in_merit, with_person}
use Rattle.merit_choice.specs.Marks.{marked, kept, filled_up, AreMarkedByHand}

-- a step has at most one choice
abbrev pub OneChoice : Type 0
OneChoice = (step : Step) (first second : List Person) → IsStep step → IsStepChoice step first → IsStepChoice step second → first ≡ second

-- a step has a choice
abbrev pub ChoiceExists : Type 0
ChoiceExists = (step : Step) → IsStep step → (chosen : List Person) × IsStepChoice step chosen

-- every seat is taken where there are people for it
abbrev pub ChoiceSize : Type 0
ChoiceSize = (step : Step) (chosen : List Person) → IsStep step → IsStepChoice step chosen → length chosen ≡ min step.seats (length step.people)

-- the two steps differ in their people alone, and the second has those of the first and maybe more
pub record HasMorePeople (step more : Step) : Type 0 where
  pub is_step : IsStep step
  pub more_is_step : IsStep more
  pub list : more.list ≡ step.list
  pub seats : more.seats ≡ step.seats
  pub protections : more.protections ≡ step.protections
  pub people : AreAmong step.people more.people

-- who is not chosen from some people is not chosen from more
abbrev pub RefusedStaysRefused : Type 0
RefusedStaysRefused = (step more : Step) (chosen others : List Person) (person : Person) → HasMorePeople step more → IsStepChoice step chosen → IsStepChoice more others
    → IsAmong person step.people → (IsAmong person chosen → ⊥) → IsAmong person others → ⊥

-- from more people no fewer are chosen
abbrev pub NoFewer : Type 0
NoFewer = (step more : Step) (chosen others : List Person) → HasMorePeople step more → IsStepChoice step chosen → IsStepChoice more others → length chosen ≤ length others

-- without some people who were not chosen the choice is the same
abbrev pub LeavingOutRefused : Type 0
LeavingOutRefused = (step more : Step) (chosen others : List Person) → HasMorePeople step more → IsStepChoice step chosen → IsStepChoice more others
    → ((person : Person) → IsAmong person more.people → (IsAmong person step.people → ⊥) → IsAmong person others → ⊥) → chosen ≡ others

-- the two steps differ in their seats alone, and the second has no fewer
pub record HasMoreSeats (step more : Step) : Type 0 where
  pub is_step : IsStep step
  pub more_is_step : IsStep more
  pub list : more.list ≡ step.list
  pub seats : step.seats ≤ more.seats
  pub protections : more.protections ≡ step.protections
  pub people : more.people ≡ step.people

-- who is chosen stays chosen where there are more seats for the same protections
abbrev pub MoreSeats : Type 0
MoreSeats = (step more : Step) (chosen others : List Person) (person : Person) → HasMoreSeats step more → IsStepChoice step chosen → IsStepChoice more others
    → IsAmong person chosen → IsAmong person others

-- nobody is passed over for one who is worse and holds no other trait: a person who is better than one of the chosen,
-- and holds each trait of that one, is chosen
abbrev pub NobodyPassedOver : Type 0
NobodyPassedOver = (step : Step) (chosen : List Person) (better worse : Person) → IsStep step → IsStepChoice step chosen → IsAmong better step.people → IsAmong worse chosen
    → IsBetter step.list better worse → ((t : ℕ) → IsTrue (has_trait worse.traits t) → IsTrue (has_trait better.traits t)) → IsAmong better chosen

-- the chosen honour as many protections as all who compete would
abbrev pub HonoursAsAll : Type 0
HonoursAsAll = (step : Step) (chosen : List Person) (m n : ℕ) → IsStep step → IsStepChoice step chosen → IsHonoured step.protections step.people m → IsHonoured step.protections chosen n → m ≡ n

-- No envy is justified: a person who is not chosen and is better than one of the chosen could take the place of that
-- one only where fewer protections are honoured.
abbrev pub NoJustifiedEnvy : Type 0
NoJustifiedEnvy = (step : Step) (chosen : List Person) (better worse : Person) (m n : ℕ) → IsStep step → IsStepChoice step chosen → IsAmong better step.people → (IsAmong better chosen → ⊥)
    → IsAmong worse chosen → IsBetter step.list better worse → IsHonoured step.protections (better ∷ without worse.id chosen) m → IsHonoured step.protections chosen n → m < n

-- By hand: going down the people, mark each person who raises the number that those marked before honour. The marked,
-- with the best of the others on the seats that are left, are the choice.
abbrev pub ByHand : Type 0
ByHand = (step : Step) (marks : List Bool) → IsStep step → AreMarkedByHand step.protections [] step.people marks
    → IsStepChoice step (kept step.people (filled_up marks (step.seats - marked marks)))

-- so people can be marked
abbrev pub MarksByHand : Type 0
MarksByHand = (step : Step) → IsStep step → (marks : List Bool) × AreMarkedByHand step.protections [] step.people marks

-- One too many: of one person more than there are seats, the choice leaves out the worst without whom as many protections are honoured.
abbrev pub OneTooMany : Type 0
OneTooMany = (step : Step) (out : Person) (n : ℕ) → IsStep step → length step.people ≡ suc step.seats → IsAmong out step.people
    → IsHonoured step.protections step.people n → IsHonoured step.protections (without out.id step.people) n
    → ((other : Person) (m : ℕ) → IsAmong other step.people → IsBetter step.list out other → IsHonoured step.protections (without other.id step.people) m → m < n)
    → IsStepChoice step (without out.id step.people)

-- everybody is chosen where there are seats for all
abbrev pub SeatsForAll : Type 0
SeatsForAll = (step : Step) → IsStep step → length step.people ≤ step.seats → IsStepChoice step step.people

-- A step chooses again: some were among the people of an earlier step with the same seats, and were not chosen there; without them the choice is the same.
abbrev pub RefusedBefore : Type 0
RefusedBefore = (step small more : Step) (chosen some others : List Person) → HasMorePeople step more → HasMorePeople small more
    → IsStepChoice step chosen → IsStepChoice small some → IsStepChoice more others
    → ((person : Person) → IsAmong person more.people → (IsAmong person small.people → ⊥) → IsAmong person step.people × (IsAmong person chosen → ⊥))
    → some ≡ others

-- Whom the seats hold after people came one after another, the last of them first: nobody at first, and then each time the choice from those held and
-- the one who came.
abbrev pub AreHeldAfter : ListId → ℕ → Protections → List Person → List Person → Type 0
AreHeldAfter list seats protections [] held = held ≡ []
AreHeldAfter list seats protections (person ∷ offered) held =
    (before : List Person) × AreHeldAfter list seats protections offered before
    × IsStepChoice (record { list = list; seats = seats; protections = protections; people = with_person list person before }) held

-- One by one: these are the choice from all who came.
abbrev pub OneByOne : Type 0
OneByOne = (list : ListId) (seats : ℕ) (protections : Protections) (offered held : List Person) → IsList list → sum protections.counts ≤ seats → CanBeRanked list offered
    → AreHeldAfter list seats protections offered held
    → IsStepChoice (record { list = list; seats = seats; protections = protections; people = in_merit list offered }) held
