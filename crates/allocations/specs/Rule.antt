-- A rule says whom a programme admits, under which step, from which people.
use Rattle.std.specs.Prelude.{◌≡◌, ◌≤◌, ◌↔◌, ◌⊎◌, ℕ, List, length}
use Rattle.office_base.specs.Lists.{IsAmong, IsSublist}
use Rattle.office_base.specs.declared.person.Person.{Person}
use Rattle.office_base.specs.declared.seat.SeatKind.{SeatKind}

-- whether the programme of this number admits, from these people, this person in this way
abbrev pub RuleBy : Type 0 → Type 1
RuleBy Kind = ℕ → List Person → Person → Kind → Type 0

-- in one of the ways in which a seat is had
abbrev pub Rule : Type 1
Rule = RuleBy SeatKind

-- the programme admits the person from the people
abbrev pub Admits : {Kind : Type 0} → RuleBy Kind → ℕ → List Person → Person → Type 0
Admits {Kind} rule p people person = (kind : Kind) × rule p people person kind

-- the person is refused from the people
abbrev pub Refuses : {Kind : Type 0} → RuleBy Kind → ℕ → List Person → Person → Type 0
Refuses {Kind} rule p people person = (kind : Kind) → rule p people person kind → ⊥

-- Some of all the people, with one person more who is refused from them.
pub record IsRefusedBeside {Kind : Type 0} (rule : RuleBy Kind) (p : ℕ) (some all : List Person) (person : Person) : Type 0 where
  pub people : List Person
  pub some_within : IsSublist some people
  pub within : IsSublist people all
  pub there : IsAmong person people
  pub refused : Refuses rule p people person

-- What a rule must be, for the people who may apply to a programme together.
pub record ChoosesWell {Kind : Type 0} (rule : RuleBy Kind) (MayApply : ℕ → List Person → Type 0) : Type 0 where
  -- people who may apply together may apply without some of them
  pub part : (p : ℕ) (some all : List Person) → MayApply p all → IsSublist some all → MayApply p some
  -- a programme admits a person or refuses the person
  pub decided : (p : ℕ) (people : List Person) (x : Person) → MayApply p people → Admits rule p people x ⊎ Refuses rule p people x
  -- it admits only those who apply
  pub among : (p : ℕ) (people : List Person) (x : Person) (kind : Kind) → MayApply p people → rule p people x kind → IsAmong x people
  -- under one step
  pub one_step : (p : ℕ) (people : List Person) (x : Person) (kind other : Kind) → MayApply p people → rule p people x kind → rule p people x other → kind ≡ other
  -- who is admitted from more people is admitted from fewer
  pub fewer : (p : ℕ) (some all : List Person) (x : Person) → MayApply p all → IsSublist some all → IsAmong x some → Admits rule p all x → Admits rule p some x
  -- without some who are refused, each step admits the same persons
  pub without : (p : ℕ) (some all : List Person) → MayApply p all → IsSublist some all
      → ((x : Person) → IsAmong x all → (IsAmong x some → ⊥) → Refuses rule p all x)
      → (x : Person) (kind : Kind) → rule p some x kind ↔ rule p all x kind
  -- persons who are each refused alone next to some are refused together
  pub together : (p : ℕ) (some all : List Person) → MayApply p all → IsSublist some all
      → ((x : Person) → IsAmong x all → (IsAmong x some → ⊥) → IsRefusedBeside rule p some all x)
      → (x : Person) → IsAmong x all → (IsAmong x some → ⊥) → Refuses rule p all x

-- a person whom the first rule admits is admitted by the second, perhaps under another step: as when seats were added
abbrev pub Grows : {Kind : Type 0} → RuleBy Kind → RuleBy Kind → (ℕ → List Person → Type 0) → Type 0
Grows rule more MayApply = (p : ℕ) (people : List Person) (x : Person) → MayApply p people → Admits rule p people x → Admits more p people x

-- Those whom the programme admits from the people, in their order.
pub record AreAdmitted {Kind : Type 0} (rule : RuleBy Kind) (p : ℕ) (people admitted : List Person) : Type 0 where
  pub part : IsSublist admitted people
  pub each : (x : Person) → IsAmong x people → IsAmong x admitted ↔ Admits rule p people x

-- from more people a programme admits no fewer (the law of aggregate demand: Hatfield and Milgrom 2005)
abbrev pub AdmitsNoFewer : {Kind : Type 0} → RuleBy Kind → (ℕ → List Person → Type 0) → Type 0
AdmitsNoFewer rule MayApply = (p : ℕ) (some all before after : List Person) → MayApply p all → IsSublist some all
    → AreAdmitted rule p some before → AreAdmitted rule p all after → length before ≤ length after
