-- What a programme's lists are audited against, and which clause they break first.
use Rattle.std.specs.Prelude.{◌≡◌, ◌<◌, ◌⊎◌, ◌+◌, ◌++◌, ℕ, List, [], ◌∷◌, Option, Some, None, min, length, map, sum, slice_index_or, if◌then◌else◌}
use Rattle.std.specs.List.{AllByRecursion}
use Rattle.office_base.specs.CategorySteps.{category_steps, gives_up}
use Rattle.office_base.specs.Lists.{IsAmong, Pairwise}
use Rattle.office_base.specs.Merit.{in_merit}
use Rattle.office_base.specs.Person.{IsBetter}
use Rattle.office_base.specs.Placement.{IsHonoured, IsPlacement}
use Rattle.office_base.specs.StepNumbers.{step_number}
use Rattle.office_base.specs.declared.person.CandId.{CandId}
use Rattle.office_base.specs.declared.person.ListId.{ListId}
use Rattle.office_base.specs.declared.person.Person.{Person}
use Rattle.office_base.specs.declared.step.Protections.{Protections}
use Rattle.office_base.specs.declared.step.StepKind.{StepKind}
use Rattle.office_base.specs.declared.step.StepKind.TheVariants.{Open, Dereserved}
use Rattle.seat_matrix.specs.Seats.{seats_of}
use Rattle.seat_matrix.specs.declared.seats.ProgrammeSeats.{ProgrammeSeats}
use Rattle.programme_lists.specs.Programme.{Admissions, people_of}
use Rattle.programme_lists.specs.declared.programme.Programme.{Programme}
use Rattle.programme_lists.specs.declared.programme.StepList.{StepList}
use Rattle.axiom_laws.specs.Exchanges.{Overtakes}
use Rattle.list_audit.specs.declared.clause.Clause.{Clause}
use Rattle.list_audit.specs.declared.clause.Clause.TheVariants.{WrongNumbers, NotCandidate, WrongSize, BadCertificate, Overtaken}

-- ---- what the lists say

-- in place of a list that is not there
abbrev pub no_list : StepList
no_list = record { kind = Open; seats = 0; candidates = 0; admitted = []; cert = record { pairs = [] } }

-- the list of a step
abbrev pub list_of_step : Programme → StepKind → StepList
list_of_step programme kind = slice_index_or programme.steps (step_number kind) no_list

-- whom the lists name
abbrev pub named_by : Programme → Admissions
named_by programme kind = (list_of_step programme kind).admitted

-- ---- one step

-- One step as it is audited: by the version and the seats, from the applicants by merit, with all that the lists name.
pub record Audited : Type 0 where
  pub version : ℕ
  pub seats : ProgrammeSeats
  pub applicants : List Person
  pub programme : Programme
  pub kind : StepKind

-- a step of a programme, with these people, in any order
abbrev pub audited : ℕ → ProgrammeSeats → List Person → Programme → StepKind → Audited
audited version seats people programme kind = record { version = version; seats = seats; applicants = in_merit seats.list people; programme = programme; kind = kind }

-- its list, and whom that names
abbrev pub list_at : Audited → StepList
list_at step = list_of_step step.programme step.kind

abbrev pub named_at : Audited → List Person
named_at step = (list_at step).admitted

-- its people, after those whom the lists before it name
abbrev pub people_at : Audited → List Person
people_at step = people_of step.seats.list step.applicants (named_by step.programme) step.kind

abbrev pub protections_at : Audited → Protections
protections_at step = (seats_of step.seats step.kind).protections

-- a number of each step, summed over the categories whose unfilled seats go to the last step
abbrev pub shared : ℕ → (StepKind → ℕ) → ℕ
shared version number = sum (map (λ row. if gives_up row version then number row.step else 0) category_steps)

-- the seats of these categories, and how many persons their lists name
abbrev pub seats_shared : ℕ → ProgrammeSeats → ℕ
seats_shared version seats = shared version (λ kind. (seats_of seats kind).seats)

abbrev pub seats_held : ℕ → Admissions → ℕ
seats_held version named = shared version (λ kind. length (named kind))

-- A step has its own seats; the last one has so many that with the persons of those categories they make up these categories' seats.
abbrev pub HasSeats : ℕ → ProgrammeSeats → Admissions → StepKind → ℕ → Type 0
HasSeats version seats named Dereserved n = n + seats_held version named ≡ seats_shared version seats
HasSeats version seats named kind n = n ≡ (seats_of seats kind).seats

-- ---- the clauses

-- the published numbers are those of the step after the lists before it
pub record AreRightNumbers (step : Audited) : Type 0 where
  pub seats : HasSeats step.version step.seats (named_by step.programme) step.kind (list_at step).seats
  pub candidates : (list_at step).candidates ≡ length (people_at step)

-- everyone named is one of the step's people, and they are in merit order
pub record AreCandidates (step : Audited) : Type 0 where
  pub people : AllByRecursion (λ person. IsAmong person (people_at step)) (named_at step)
  pub in_order : Pairwise (IsBetter step.seats.list) (named_at step)

-- as many are named as there are seats or people
abbrev pub IsRightSize : Audited → Type 0
IsRightSize step = length (named_at step) ≡ min (list_at step).seats (length (people_at step))

-- the pairs place some of those named, and are as many as all the step's people honour
pub record IsCertified (step : Audited) : Type 0 where
  pub placement : IsPlacement (protections_at step) (named_at step) (list_at step).cert.pairs
  pub most : IsHonoured (protections_at step) (people_at step) (length (list_at step).cert.pairs)

-- in the place of nobody who is named a better person, who is not, leaves as many protections honoured
abbrev pub IsOvertaking : Audited → Person → Type 0
IsOvertaking step person = (worse : Person) × Overtakes step.seats.list (protections_at step) (people_at step) (named_at step) person worse

abbrev pub NobodyOvertakes : Audited → Type 0
NobodyOvertakes step = (person : Person) → IsOvertaking step person → ⊥

-- No clause is broken in the step.
pub record IsSound (step : Audited) : Type 0 where
  pub numbers : AreRightNumbers step
  pub candidates : AreCandidates step
  pub size : IsRightSize step
  pub certified : IsCertified step
  pub best : NobodyOvertakes step

-- ---- what is broken

-- The first of those named who is not one of the people, or is better than the one named before.
pub record IsFirstOutside (list : ListId) (people named : List Person) (cand : CandId) : Type 0 where
  pub before : List Person
  pub person : Person
  pub after : List Person
  pub told : named ≡ before ++ person ∷ after
  pub is : person.id ≡ cand
  pub good : AllByRecursion (λ one. IsAmong one people) before
  pub in_order : Pairwise (IsBetter list) before
  -- if one of the people, then one who is better than the one before
  pub bad : IsAmong person people → (front : List Person) × (last : Person) × (before ≡ front ++ last ∷ []) × IsBetter list person last

-- The best of those who overtake somebody.
pub record IsBestOvertaking (step : Audited) (cand : CandId) : Type 0 where
  pub person : Person
  pub is : person.id ≡ cand
  pub overtakes : IsOvertaking step person
  pub best : (other : Person) → IsOvertaking step other → (other ≡ person) ⊎ IsBetter step.seats.list person other

-- The first clause that the step breaks, with the candidate whom it names.
abbrev pub BreaksFirst : Audited → Clause → Option CandId → Type 0
BreaksFirst step WrongNumbers None = AreRightNumbers step → ⊥
BreaksFirst step NotCandidate (Some cand) = AreRightNumbers step × IsFirstOutside step.seats.list (people_at step) (named_at step) cand
BreaksFirst step WrongSize None = AreRightNumbers step × AreCandidates step × (IsRightSize step → ⊥)
BreaksFirst step BadCertificate None = AreRightNumbers step × AreCandidates step × IsRightSize step × (IsCertified step → ⊥)
BreaksFirst step Overtaken (Some cand) = AreRightNumbers step × AreCandidates step × IsRightSize step × IsCertified step × IsBestOvertaking step cand
BreaksFirst step _ _ = ⊥

-- The steps before are sound, and this one is the first that breaks a clause.
pub record IsFirstBroken (version : ℕ) (seats : ProgrammeSeats) (people : List Person) (programme : Programme) (clause : Clause) (cand : Option CandId) : Type 0 where
  pub kind : StepKind
  pub before : (other : StepKind) → step_number other < step_number kind → IsSound (audited version seats people programme other)
  pub here : BreaksFirst (audited version seats people programme kind) clause cand

-- What a programme's lists come to: no clause is broken in any step, or this one first.
abbrev pub IsListFault : ℕ → ProgrammeSeats → List Person → Programme → Option (Clause × Option CandId) → Type 0
IsListFault version seats people programme None = (kind : StepKind) → IsSound (audited version seats people programme kind)
IsListFault version seats people programme (Some fault) = IsFirstBroken version seats people programme fault.0 fault.1
