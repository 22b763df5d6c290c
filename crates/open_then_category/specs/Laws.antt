-- The laws of the choice of a programme, as statements over its definition. The people come in any order.
use Rattle.std.specs.Prelude.{◌≡◌, ◌≢◌, ◌⊎◌, ◌≤◌, ◌<◌, [], ◌∷◌, ℕ, List, length, map, sum, true, if◌then◌else◌}
use Rattle.std.specs.List.{AllByRecursion, filter}
use Rattle.office_base.specs.CategorySteps.{all_steps, category_steps, gives_up}
use Rattle.office_base.specs.Lists.{IsAmong}
use Rattle.office_base.specs.Person.{IsBetter, is_common}
use Rattle.office_base.specs.Placement.{IsHonoured}
use Rattle.office_base.specs.StepChoice.{AreRanked, IsStepChoice, MayAdmit}
use Rattle.office_base.specs.declared.category_steps.CategoryStep.{CategoryStep}
use Rattle.office_base.specs.declared.person.Category.{Category}
use Rattle.office_base.specs.declared.person.Category.TheVariants.{Gen}
use Rattle.office_base.specs.declared.person.Person.{Person}
use Rattle.office_base.specs.declared.step.Step.{Step}
use Rattle.office_base.specs.declared.step.StepKind.{StepKind}
use Rattle.office_base.specs.declared.step.StepKind.TheVariants.{Open, Dereserved}
use Rattle.placements.specs.Ranks.{AreAmong, AreDistinct, without}
use Rattle.allocations.specs.Rule.{AdmitsNoFewer, ChoosesWell, Grows}
use Rattle.seat_matrix.specs.Seats.{AreProgrammeSeats, HaveMoreSeats, seats_of}
use Rattle.seat_matrix.specs.declared.seats.ProgrammeSeats.{ProgrammeSeats}
use Rattle.programme_lists.specs.Chosen.{AdmitsUnder, AreApplicants, ChoosesFrom, IsAdmitted, IsRefused, IsWith, ShowsFrom, everybody}
use Rattle.programme_lists.specs.Listing.{seats_filled}
use Rattle.programme_lists.specs.Programme.{Admissions, IsProgrammeChoice, admitted_by, is_same, people_of, step_with, unfilled}
use Rattle.programme_lists.specs.declared.programme.Programme.{Programme}

-- how many persons the steps admit in all
abbrev pub admitted_in_all : Admissions → ℕ
admitted_in_all admissions = sum (map (λ kind. length (admissions kind)) all_steps)

-- a programme has at most one choice
abbrev pub OneProgrammeChoice : Type 0
OneProgrammeChoice = (version : ℕ) (seats : ProgrammeSeats) (people : List Person) (first second : Admissions) → AreProgrammeSeats seats → AreApplicants seats.list people
    → ChoosesFrom version seats people first → ChoosesFrom version seats people second → first ≡ second

-- a programme has a choice
abbrev pub ProgrammeChoiceExists : Type 0
ProgrammeChoiceExists = (version : ℕ) (seats : ProgrammeSeats) (people : List Person) → AreProgrammeSeats seats → AreApplicants seats.list people
    → (admissions : Admissions) × ChoosesFrom version seats people admissions

-- one programme chooses from some people, and from those and maybe more
pub record ChoosesFromMore (version : ℕ) (seats : ProgrammeSeats) (some all : List Person) (before after : Admissions) : Type 0 where
  pub are_seats : AreProgrammeSeats seats
  pub distinct : AreDistinct some
  pub may : AreApplicants seats.list all
  pub part : AreAmong some all
  pub choice : ChoosesFrom version seats some before
  pub more_choice : ChoosesFrom version seats all after

-- who is refused from some people is refused from more
abbrev pub RefusedFromMore : Type 0
RefusedFromMore = (version : ℕ) (seats : ProgrammeSeats) (some all : List Person) (before after : Admissions) (person : Person)
    → ChoosesFromMore version seats some all before after → IsAmong person some → IsRefused before person → IsRefused after person

-- the de-reserved step has no more seats where there are more people
abbrev pub UnfilledFalls : Type 0
UnfilledFalls = (version : ℕ) (seats : ProgrammeSeats) (some all : List Person) (before after : Admissions)
    → ChoosesFromMore version seats some all before after → unfilled version seats after ≤ unfilled version seats before

-- from more people no fewer are admitted in all
abbrev pub NoFewerAdmitted : Type 0
NoFewerAdmitted = (version : ℕ) (seats : ProgrammeSeats) (some all : List Person) (before after : Admissions)
    → ChoosesFromMore version seats some all before after → admitted_in_all before ≤ admitted_in_all after

-- without some people who are refused each step admits the same persons
abbrev pub LeavingOutTheRefused : Type 0
LeavingOutTheRefused = (version : ℕ) (seats : ProgrammeSeats) (some all : List Person) (before after : Admissions)
    → ChoosesFromMore version seats some all before after
    → ((person : Person) → IsAmong person all → (IsAmong person some → ⊥) → IsRefused after person) → before ≡ after

-- the person is among some of the people, with those who are in any case there and maybe others, and is refused from
-- them
pub record IsRefusedAlone (version : ℕ) (seats : ProgrammeSeats) (kept all : List Person) (person : Person) : Type 0 where
  pub people : List Person
  pub distinct : AreDistinct people
  pub with_kept : AreAmong kept people
  pub within : AreAmong people all
  pub there : IsAmong person people
  pub admissions : Admissions
  pub choice : ChoosesFrom version seats people admissions
  pub refused : IsRefused admissions person

-- where each of some persons alone is refused when added to others, all of them are refused when added together, and the choice stays
abbrev pub EachRefusedAllRefused : Type 0
EachRefusedAllRefused = (version : ℕ) (seats : ProgrammeSeats) (kept all : List Person) (before after : Admissions)
    → ChoosesFromMore version seats kept all before after
    → ((person : Person) → IsAmong person all → (IsAmong person kept → ⊥) → IsRefusedAlone version seats kept all person)
    → ((person : Person) → IsAmong person all → (IsAmong person kept → ⊥) → IsRefused after person) × (before ≡ after)

-- each person is admitted once, and is one of the people
abbrev pub AdmittedOnce : Type 0
AdmittedOnce = (version : ℕ) (seats : ProgrammeSeats) (people : List Person) (admissions : Admissions) → AreProgrammeSeats seats → AreApplicants seats.list people
    → ChoosesFrom version seats people admissions → AreDistinct (everybody admissions) × AreAmong (everybody admissions) people

-- under one step
abbrev pub OneStep : Type 0
OneStep = (version : ℕ) (seats : ProgrammeSeats) (people : List Person) (admissions : Admissions) (person : Person) (kind other : StepKind) → AreProgrammeSeats seats → AreApplicants seats.list people
    → ChoosesFrom version seats people admissions → IsAmong person (admitted_by admissions kind) → IsAmong person (admitted_by admissions other) → kind ≡ other

-- each protected position of a programme's lists is one of the six traits
abbrev pub SlotsAreTraits : Type 0
SlotsAreTraits = (version : ℕ) (seats : ProgrammeSeats) (people : List Person) (programme : Programme) → AreProgrammeSeats seats → AreApplicants seats.list people
    → ShowsFrom version seats people programme → AllByRecursion (λ list. AllByRecursion (λ pair. pair.slot < 6) list.cert.pairs) programme.steps

-- where steps have more seats, with the same protections, everyone who was admitted from the same people is still
-- admitted, perhaps under another step
abbrev pub MoreSeatsKeepAll : Type 0
MoreSeatsKeepAll = (version : ℕ) (seats more : ProgrammeSeats) (people : List Person) (before after : Admissions) (person : Person) → AreProgrammeSeats seats → AreProgrammeSeats more
    → HaveMoreSeats seats more → AreApplicants seats.list people → ChoosesFrom version seats people before → ChoosesFrom version more people after
    → IsAdmitted before person → IsAdmitted after person

-- A programme chooses again: some were among the people of an earlier choice and were refused there; without them the choice is the same.
abbrev pub RefusedBefore : Type 0
RefusedBefore = (version : ℕ) (seats : ProgrammeSeats) (earlier small all : List Person) (before some after : Admissions)
    → ChoosesFromMore version seats earlier all before after → ChoosesFromMore version seats small all some after
    → ((person : Person) → IsAmong person all → (IsAmong person small → ⊥) → IsAmong person earlier × IsRefused before person)
    → some ≡ after

-- The choice from those admitted from some people, with one person more, is the choice from all these people with that one.
abbrev pub Resumes : Type 0
Resumes = (version : ℕ) (seats : ProgrammeSeats) (some all : List Person) (person : Person) (before after : Admissions) → AreProgrammeSeats seats → AreDistinct some → AreApplicants seats.list all
    → IsWith person some all → (IsAmong person some → ⊥) → ChoosesFrom version seats some before → ChoosesFrom version seats (person ∷ everybody before) after
    → ChoosesFrom version seats all after

-- programmes with sound seats choose well, as the theory of rounds asks of a rule
abbrev pub ChosenWell : Type 0
ChosenWell = (version : ℕ) (seats : ℕ → ProgrammeSeats) → ((p : ℕ) → AreProgrammeSeats (seats p))
    → ChoosesWell (λ p. AdmitsUnder version (seats p)) (λ p. AreApplicants (seats p).list)

-- and admit no fewer from more people, as it asks too where it counts seats
abbrev pub NoFewerFromMore : Type 0
NoFewerFromMore = (version : ℕ) (seats : ℕ → ProgrammeSeats) → ((p : ℕ) → AreProgrammeSeats (seats p))
    → AdmitsNoFewer (λ p. AdmitsUnder version (seats p)) (λ p. AreApplicants (seats p).list)

-- and admit everybody whom they admitted before where steps have more seats, with all protections as before
abbrev pub GrowsWithSeats : Type 0
GrowsWithSeats = (version : ℕ) (seats more : ℕ → ProgrammeSeats) → ((p : ℕ) → AreProgrammeSeats (seats p)) → ((p : ℕ) → AreProgrammeSeats (more p)) → ((p : ℕ) → HaveMoreSeats (seats p) (more p))
    → Grows (λ p. AdmitsUnder version (seats p)) (λ p. AdmitsUnder version (more p)) (λ p. AreApplicants (seats p).list)

-- ---- de-reservation comes last

-- the step that has the seats of a category; a person of none has the open ones alone
abbrev pub step_among : Category → List CategoryStep → StepKind
step_among category [] = Open
step_among category (row ∷ rows) = if is_same category row.category then row.step else step_among category rows

abbrev pub own_step : Category → StepKind
own_step category = step_among category category_steps

-- a seat of the category is empty after its own step
abbrev pub HasEmptySeat : ProgrammeSeats → Admissions → Category → Type 0
HasEmptySeat seats admissions category = length (admitted_by admissions (own_step category)) < (seats_of seats (own_step category)).seats

-- each of the people who is of the category is admitted by the open step or by the category's own
abbrev pub AreAllAdmitted : List Person → Admissions → Category → Type 0
AreAllAdmitted people admissions category =
    (person : Person) → IsAmong person people → person.category ≡ category → IsAmong person (admissions Open) ⊎ IsAmong person (admitted_by admissions (own_step category))

-- No seat of a category stays empty while one of its members is not admitted: where one is empty, the open step or the category's own admits every
-- applicant of the category, whatever their places.
abbrev pub NoSeatStaysEmpty : Type 0
NoSeatStaysEmpty = (version : ℕ) (seats : ProgrammeSeats) (people : List Person) (admissions : Admissions) (category : Category) → AreProgrammeSeats seats → AreApplicants seats.list people
    → ChoosesFrom version seats people admissions → category ≢ Gen → HasEmptySeat seats admissions category → AreAllAdmitted people admissions category

-- The category of the row left a seat empty, and has nobody left for it, and its empty seats go to the de-reserved step in this version.
pub record IsServed (version : ℕ) (seats : ProgrammeSeats) (people : List Person) (admissions : Admissions) (row : CategoryStep) : Type 0 where
  pub listed : IsAmong row category_steps
  pub given : gives_up row version ≡ true
  pub empty : HasEmptySeat seats admissions row.category
  pub served : AreAllAdmitted people admissions row.category

-- De-reservation comes last: where the de-reserved step has a seat, or admits somebody, a category whose empty seats go to it in this version left
-- one empty and has nobody left for it. (Where several left some, none of them has anybody left: NoSeatStaysEmpty.)
abbrev pub DereservationComesLast : Type 0
DereservationComesLast = (version : ℕ) (seats : ProgrammeSeats) (people : List Person) (admissions : Admissions) → AreProgrammeSeats seats → AreApplicants seats.list people
    → ChoosesFrom version seats people admissions → (0 < unfilled version seats admissions) ⊎ (0 < length (admissions Dereserved))
    → (row : CategoryStep) × IsServed version seats people admissions row

-- ---- the axioms

-- a step of a programme with the seats that it fills, those of the de-reserved step too
abbrev pub whole_step : ℕ → ProgrammeSeats → List Person → Admissions → StepKind → Step
whole_step version seats applicants admissions kind =
    record { list = seats.list; seats = seats_filled version seats admissions kind; protections = (seats_of seats kind).protections; people = people_of seats.list applicants admissions kind }

-- What is asked of the choice of the seats of one kind (Sönmez and Yenmez, Econometrica 2022: non-wastefulness, maximal accommodation of horizontal
-- protections, no justified envy).
pub record MeetsStepAxioms (step : Step) (chosen : List Person) : Type 0 where
  -- a seat stays empty only if everybody who competes for it is chosen
  pub non_wasteful : length chosen < step.seats → (person : Person) → IsAmong person step.people → IsAmong person chosen
  -- no set within the seats, of those who compete for them, honours more protections
  pub greatest : (other : List Person) (m n : ℕ) → MayAdmit step other → IsHonoured step.protections other m → IsHonoured step.protections chosen n → m ≤ n
  -- and not even all who compete for them would honour more, were there seats for all
  pub as_all : (m n : ℕ) → IsHonoured step.protections step.people m → IsHonoured step.protections chosen n → m ≡ n
  -- a person who competes for the seats, is not chosen and is better than one of the chosen could take that one's
  -- place only where fewer protections are honoured
  pub no_justified_envy : (better worse : Person) (m n : ℕ) → IsAmong better step.people → (IsAmong better chosen → ⊥) → IsAmong worse chosen → IsBetter step.list better worse
      → IsHonoured step.protections (better ∷ without worse.id chosen) m → IsHonoured step.protections chosen n → m < n

-- A person who could have an open seat takes no other (there: compliance with vertical protections). If another step
-- admits a person with a common place, all open seats are taken. In the place of somebody worse there, the person
-- would make the step honour fewer protections. In addition to those there, the person would make it honour no more.
pub record IsOverAndAbove (seats : ProgrammeSeats) (admissions : Admissions) (person : Person) : Type 0 where
  pub full : length (admissions Open) ≡ (seats_of seats Open).seats
  pub no_place : (worse : Person) (m n : ℕ) → IsAmong worse (admissions Open) → IsBetter seats.list person worse
      → IsHonoured (seats_of seats Open).protections (person ∷ without worse.id (admissions Open)) m → IsHonoured (seats_of seats Open).protections (admissions Open) n → m < n
  pub no_more : (m n : ℕ) → IsHonoured (seats_of seats Open).protections (person ∷ (admissions Open)) m → IsHonoured (seats_of seats Open).protections (admissions Open) n → m ≤ n

-- The axioms of Sönmez and Yenmez (Econometrica 2022), for a programme with open seats first and a de-reserved step last.
pub record MeetsAxioms (version : ℕ) (seats : ProgrammeSeats) (applicants : List Person) (admissions : Admissions) : Type 0 where
  -- open first: the open step chooses from all applicants with a common place, whatever the categories do
  pub open_first : IsStepChoice (step_with seats.list (seats_of seats Open) (filter (is_common seats.list) applicants)) (admissions Open)
  -- the seats of a category are over and above the open ones
  pub over_and_above : (kind : StepKind) (person : Person) → kind ≢ Open → IsAmong person (admitted_by admissions kind) → is_common seats.list person ≡ true → IsOverAndAbove seats admissions person
  -- each step, the de-reserved one too, meets those of the seats of one kind
  pub at_steps : (kind : StepKind) → MeetsStepAxioms (whole_step version seats applicants admissions kind) (admitted_by admissions kind)

-- each choice of a programme meets the axioms
abbrev pub ChoicesMeetAxioms : Type 0
ChoicesMeetAxioms = (version : ℕ) (seats : ProgrammeSeats) (applicants : List Person) (admissions : Admissions) → AreProgrammeSeats seats → AreRanked seats.list applicants
    → IsProgrammeChoice version seats applicants admissions → MeetsAxioms version seats applicants admissions

-- The open step does not look at categories: with the same open seats, whatever the seats of categories and the version, it admits the same persons.
abbrev pub OpenComesFirst : Type 0
OpenComesFirst = (version other : ℕ) (seats others : ProgrammeSeats) (applicants : List Person) (one two : Admissions) → AreProgrammeSeats seats → AreRanked seats.list applicants
    → others.list ≡ seats.list → seats_of others Open ≡ seats_of seats Open
    → IsProgrammeChoice version seats applicants one → IsProgrammeChoice other others applicants two → one Open ≡ two Open
