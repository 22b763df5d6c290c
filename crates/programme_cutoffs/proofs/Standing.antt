-- Who stands for which step of a programme, and that each step chooses from these.
use Rattle.std.proofs.Common.{◌≡◌, ◌∙◌, ℕ, ◌≤◌, ◌<◌, List, [], ◌∷◌, Option, Some, None, false, arith, refl, sym, ap, subst, inl, inr}
use Rattle.std.specs.Prelude.{sum}
use Rattle.office_base.specs.CategorySteps.{own_steps, row_of}
use Rattle.office_base.specs.Lists.{IsAmong, IsSublist}
use Rattle.office_base.specs.Merit.{in_merit}
use Rattle.office_base.specs.Person.{is_common}
use Rattle.office_base.specs.StepChoice.{AreRanked, IsStep, IsStepChoice}
use Rattle.office_base.specs.StepNumbers.{step_number}
use Rattle.office_base.specs.declared.category_steps.CategoryStep.{CategoryStep}
use Rattle.office_base.specs.declared.person.Person.{Person}
use Rattle.office_base.specs.declared.step.StepKind.{StepKind}
use Rattle.office_base.specs.declared.step.StepKind.TheVariants.{Open, Dereserved}
use Rattle.placements.specs.Ranks.{AreAmong, AreDistinct}
use Rattle.placements.proofs.Filters.{among_filter, among_filter_from, filter-sublist}
use Rattle.placements.proofs.Ranks.{among_again, among_itself, among_sublist, ranked_sublist}
use Rattle.placements.proofs.Sublists.{sublist_again}
use Rattle.merit_choice.specs.State.{IsStepKept}
use Rattle.merit_choice.proofs.InMerit.{in_merit_ranks}
use Rattle.seat_matrix.specs.Seats.{AreProgrammeSeats, is_dereserved, seats_of}
use Rattle.seat_matrix.specs.declared.seats.ProgrammeSeats.{ProgrammeSeats}
use Rattle.seat_matrix.proofs.SeatsLemmas.{own_number}
use Rattle.programme_lists.specs.Listing.{seats_filled}
use Rattle.programme_lists.specs.Programme.{Admissions, IsProgrammeChoice, admitted_by, is_of, is_same, left_by, left_over, members_by, people_of, without}
use Rattle.programme_lists.proofs.Categories.{same_itself}
use Rattle.programme_lists.proofs.Taken.{among_without, among_without_from}
use Rattle.programme_lists.proofs.Walk.{same_category}
use Rattle.open_then_category.specs.Laws.{whole_step}
use Rattle.programme_laws.specs.Laws.{IsMember, MayStandFor}
use Rattle.programme_cutoffs.specs.Cutoffs.{kept_by}
use Rattle.programme_cutoffs.specs.Laws.{StepsAreKept}
use Rattle.programme_cutoffs.proofs.Last.{LastStepChooses}
use Rattle.programme_lists.proofs.Parts.{by_own, left_part, members_part, own_among}

-- ---- the people of a step

-- who is left is one of the people, and none of those whom the steps took
left_means : (kinds : List StepKind) (people : List Person) (admissions : Admissions) (person : Person) → IsAmong person (left_by kinds people admissions)
    → IsAmong person people × ((kind : StepKind) → IsAmong kind kinds → IsAmong person (admissions kind) → ⊥)
left_means [] people admissions person here = (here, λ kind there. absurd there)
left_means (first ∷ kinds) people admissions person here =
    let later = left_means kinds (without people (admissions first)) admissions person here in
    let one = among_without person people (admissions first) later.0 in (
      one.0,
      λ kind there. elim there [
        | inl same ↦ subst (λ k. IsAmong person (admissions k) → ⊥) (sym same) one.1
        | inr rest ↦ later.1 kind rest
      ],
    )

-- and the other way round
left_from : (all : List Person) (kinds : List StepKind) (people : List Person) (admissions : Admissions) (person : Person) → AreDistinct all → AreAmong people all
    → ((kind : StepKind) → AreAmong (admissions kind) all) → IsAmong person people → ((kind : StepKind) → IsAmong person (admissions kind) → ⊥) → IsAmong person (left_by kinds people admissions)
left_from all [] people admissions person distinct part within there gone = there
left_from all (kind ∷ kinds) people admissions person distinct part within there gone =
    left_from all kinds (without people (admissions kind)) admissions person distinct
    (among_again _ people all (among_sublist (without people (admissions kind)) people (filter-sublist _ people)) part) within
    (among_without_from all people (admissions kind) person distinct part (within kind) there (gone kind)) gone

-- and those of the category of the row
members_are : (row : Option CategoryStep) (people : List Person) (person : Person) → IsAmong person (members_by row people) → IsAmong person people × IsMember row person
members_are None people person here = absurd here
members_are (Some row) people person here =
    let of = among_filter (is_of row.category) person people here in
    (of.0, sym (same_category row.category person.category of.1))

members_from : (row : Option CategoryStep) (people : List Person) (person : Person) → IsAmong person people → IsMember row person → IsAmong person (members_by row people)
members_from None people person there of = absurd of
members_from (Some row) people person there of = among_filter_from (is_of row.category) person people there (ap (λ c. is_same row.category c) of ∙ same_itself row.category)

-- ---- who is taken

-- a step with seats of its own is one of those before the last
pub below_last : (kind : StepKind) → is_dereserved kind ≡ false → step_number kind < step_number Dereserved
below_last kind own = own_number kind own

-- no step took the person whose people the step does not see
abbrev pub IsNotTaken : Admissions → StepKind → Person → Type 0
IsNotTaken admissions Open person = Unit {0}
IsNotTaken admissions Dereserved person = (kind : StepKind) → is_dereserved kind ≡ false → IsAmong person (admitted_by admissions kind) → ⊥
IsNotTaken admissions kind person = IsAmong person (admissions Open) → ⊥

module _ (last : LastStepChooses) (version : ℕ) (seats : ProgrammeSeats) (people : List Person) (admissions : Admissions) (ok : AreProgrammeSeats seats) (ranked : AreRanked seats.list people)
    (choice : IsProgrammeChoice version seats people admissions) where
  some_of : (kind : StepKind) → IsSublist (people_of seats.list people admissions kind) people
  some_of Open = filter-sublist _ people
  some_of Dereserved = sublist_again _ _ _ (filter-sublist _ _) (left_part own_steps people admissions)
  some_of kind = sublist_again _ _ _ (members_part (row_of kind) (without people (admissions Open))) (filter-sublist _ people)

  protected : (kind : StepKind) → sum (seats_of seats kind).protections.counts ≤ seats_filled version seats admissions kind
  protected Dereserved = omega arith
  protected kind = (ok.steps kind).protections

  pub is_step : (kind : StepKind) → IsStep (whole_step version seats people admissions kind)
  is_step kind = record { list = ok.list; people = ranked_sublist seats.list _ people ranked (some_of kind); protections = protected kind }

  -- each step chooses from those who stand for it
  pub chosen_at : (kind : StepKind) → IsStepChoice (whole_step version seats people admissions kind) (admitted_by admissions kind)
  chosen_at Dereserved = last version seats people admissions ok ranked choice (is_step Dereserved)
  chosen_at kind = choice.own kind refl

  pub admitted_stand : (kind : StepKind) → AreAmong (admitted_by admissions kind) (people_of seats.list people admissions kind)
  admitted_stand kind = among_sublist _ _ (chosen_at kind).may.people

  pub admitted_within : (kind : StepKind) → AreAmong (admitted_by admissions kind) people
  admitted_within kind = among_again _ _ _ (admitted_stand kind) (among_sublist _ _ (some_of kind))

  -- and holds its choice
  pub kept : (kind : StepKind) → IsStepKept (kept_by version seats admissions kind)
  kept kind = record {
    list = ok.list;
    ranked = ranked_sublist seats.list (admitted_by admissions kind) (people_of seats.list people admissions kind) (is_step kind).people (chosen_at kind).may.people;
    few = (chosen_at kind).may.seats;
    protections = protected kind;
  }

  -- ---- who stands

  pub stands : (kind : StepKind) (person : Person) → IsAmong person (people_of seats.list people admissions kind)
      → IsAmong person people × MayStandFor seats.list kind person × IsNotTaken admissions kind person
  stands Open person here = let common = among_filter (is_common seats.list) person people here in (common.0, common.1, tt)
  stands Dereserved person here =
      let common = among_filter (is_common seats.list) person (left_over people admissions) here in
      let left = left_means own_steps people admissions person common.0 in
      (left.0, common.1, λ kind own. left.1 kind (own_among kind own))
  stands kind person here =
      let of = members_are (row_of kind) (without people (admissions Open)) person here in
      let left = among_without person people (admissions Open) of.0 in
      (left.0, of.1, left.1)

  -- a person whom no step with seats of its own took is left over
  stands_last : (person : Person) → IsAmong person people → IsNotTaken admissions Dereserved person → IsAmong person (left_over people admissions)
  stands_last person there gone = left_from people own_steps people (by_own admissions) person ranked.distinct (among_itself people) within there out
    where
      within : (kind : StepKind) → AreAmong (by_own admissions kind) people
      within Dereserved = tt
      within kind = admitted_within kind

      out : (kind : StepKind) → IsAmong person (by_own admissions kind) → ⊥
      out Dereserved here = absurd here
      out kind here = gone kind refl here

  pub may_stand : (kind : StepKind) (person : Person) → IsAmong person people → MayStandFor seats.list kind person → IsNotTaken admissions kind person
      → IsAmong person (people_of seats.list people admissions kind)
  may_stand Open person there may gone = among_filter_from (is_common seats.list) person people there may
  may_stand Dereserved person there may gone = among_filter_from (is_common seats.list) person (left_over people admissions) (stands_last person there gone) may
  may_stand kind person there may gone =
      members_from (row_of kind) (without people (admissions Open)) person
      (among_without_from people people (admissions Open) person ranked.distinct (among_itself people) (admitted_within Open) there gone) may

pub steps_are_kept : LastStepChooses → StepsAreKept
steps_are_kept last version seats people admissions kind ok may choice = kept last version seats (in_merit seats.list people) admissions ok (in_merit_ranks seats.list people may).0 choice kind
