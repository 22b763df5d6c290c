-- Cutoffs: after a step has admitted some persons, one number decides for everybody with the same traits (Azevedo and Leshno 2016, for steps that honour protections).
use Rattle.std.specs.Prelude.{◌≡◌, ◌≤◌, ◌<◌, ◌⊎◌, ℕ, ◌∷◌, true, false, Option, Some, None, length, IsSome}
use Rattle.office_base.specs.Lists.{IsAmong}
use Rattle.office_base.specs.Merit.{IsNewTo}
use Rattle.office_base.specs.Person.{IsBetter, number_in}
use Rattle.office_base.specs.Placement.{IsHonoured}
use Rattle.office_base.specs.declared.person.Person.{Person}
use Rattle.office_base.specs.declared.person.TraitSet.{TraitSet}
use Rattle.placements.specs.Ranks.{without}
use Rattle.merit_choice.specs.Marks.{IsRaise}
use Rattle.merit_choice.specs.State.{StepKept}
use Rattle.step_cutoffs.specs.declared.cutoff.Cutoff.{Cutoff}
use Rattle.step_cutoffs.specs.declared.cutoff.Cutoff.TheVariants.{Nobody, UpTo, Anybody}

-- the place is within the cutoff: there is one, and it is the last place of the cutoff or a better one
abbrev pub IsWithin : Cutoff → Option ℕ → Type 0
IsWithin Nobody place = ⊥
IsWithin (UpTo last) None = ⊥
IsWithin (UpTo last) (Some number) = number ≤ last
IsWithin Anybody place = IsSome place

-- the second cutoff is no narrower than the first
abbrev pub IsNoWider : Cutoff → Cutoff → Type 0
IsNoWider Nobody other = Unit {0}
IsNoWider (UpTo last) Nobody = ⊥
IsNoWider (UpTo last) (UpTo other) = last ≤ other
IsNoWider (UpTo last) Anybody = Unit {0}
IsNoWider Anybody Nobody = ⊥
IsNoWider Anybody (UpTo other) = ⊥
IsNoWider Anybody Anybody = Unit {0}

-- with the person in the place of one of those held, as many protections are honoured as before
abbrev pub CanTakePlaceOf : StepKept → Person → Person → Type 0
CanTakePlaceOf kept person held = (n : ℕ) → IsHonoured kept.protections kept.held n → IsHonoured kept.protections (person ∷ without held.id kept.held) n

-- all seats are taken, and no more protections are honoured with the person than without
pub record IsFullFor (kept : StepKept) (person : Person) : Type 0 where
  pub full : length kept.held ≡ kept.seats
  pub no_more : IsRaise kept.protections kept.held person false

-- The cutoff for one newcomer. It is every place if a seat is free, or if more protections are honoured with the person. Otherwise its last place is that of
-- the worst person held whom the newcomer can replace. It is no place if the newcomer can replace nobody.
abbrev pub IsCutoffFor : StepKept → Person → Cutoff → Type 0
IsCutoffFor kept person Nobody = IsFullFor kept person × ((other : Person) → IsAmong other kept.held → CanTakePlaceOf kept person other → ⊥)
IsCutoffFor kept person (UpTo last) = IsFullFor kept person × (worst : Person) × IsAmong worst kept.held × CanTakePlaceOf kept person worst × (number_in kept.list worst ≡ Some last)
    × ((other : Person) → IsAmong other kept.held → CanTakePlaceOf kept person other → IsBetter kept.list worst other → ⊥)
IsCutoffFor kept person Anybody = (length kept.held < kept.seats) ⊎ IsRaise kept.protections kept.held person true

-- The cutoff for a set of traits: it is the one for each newcomer who holds just these.
abbrev pub IsCutoff : StepKept → TraitSet → Cutoff → Type 0
IsCutoff kept traits cutoff = (person : Person) → IsNewTo kept.list kept.held person → person.traits ≡ traits → IsCutoffFor kept person cutoff
