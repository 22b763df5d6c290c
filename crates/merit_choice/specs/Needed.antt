-- Who of those held is needed for the protections, as a step keeps it while people come one by one.
use Rattle.std.specs.Prelude.{List, ◌∷◌, Bool, true, false}
use Rattle.office_base.specs.Person.{IsBetter}
use Rattle.office_base.specs.declared.person.ListId.{ListId}
use Rattle.office_base.specs.declared.person.Person.{Person}
use Rattle.office_base.specs.declared.step.Protections.{Protections}
use Rattle.placements.specs.Ranks.{AreAmong, AreDistinct, CanBePlaced, without}
use Rattle.merit_choice.specs.Laws.{IsAmong}

-- The needed are some of those held who can all be placed. Nobody else of those held can be placed with them, nor in the place of one of them who is worse.
pub record AreNeeded (list : ListId) (protections : Protections) (held needed : List Person) : Type 0 where
  pub among : AreAmong needed held
  pub distinct : AreDistinct needed
  pub placed : CanBePlaced protections needed
  pub most : (other : Person) → IsAmong other held → (IsAmong other needed → ⊥) → CanBePlaced protections (other ∷ needed) → ⊥
  pub best : (one other : Person) → IsAmong one needed → IsAmong other held → (IsAmong other needed → ⊥) → IsBetter list other one
      → CanBePlaced protections (other ∷ without one.id needed) → ⊥

-- whether the person is one of the needed
abbrev pub Tells : List Person → Person → Bool → Type 0
Tells needed person true = IsAmong person needed
Tells needed person false = IsAmong person needed → ⊥
