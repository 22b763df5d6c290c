-- With fewer applicants and more seats each step of a programme has no other people than before, and no fewer seats. So its cutoffs only widen.
use Rattle.std.proofs.Common.{◌≡◌, ◌-◌, ◌≤◌, ℕ, Bool, true, false, List, [], ◌∷◌, Option, length, min, refl, sym, subst, arith}
use Rattle.std.specs.Prelude.{map, sum, if◌then◌else◌}
use Rattle.std.proofs.lemmas.List.Sums.{sum_by-cons}
use Rattle.office_base.specs.CategorySteps.{category_steps, gives_up}
use Rattle.office_base.specs.Lists.{IsAmong}
use Rattle.office_base.specs.Merit.{CanBeRanked, in_merit}
use Rattle.office_base.specs.Person.{IsTraitSet, number_in}
use Rattle.office_base.specs.StepChoice.{AreRanked}
use Rattle.office_base.specs.declared.category_steps.CategoryStep.{CategoryStep}
use Rattle.office_base.specs.declared.person.ListId.{ListId}
use Rattle.office_base.specs.declared.person.Person.{Person}
use Rattle.office_base.specs.declared.person.TraitSet.{TraitSet}
use Rattle.office_base.specs.declared.step.Step.{Step}
use Rattle.office_base.specs.declared.step.StepKind.{StepKind}
use Rattle.office_base.specs.declared.step.StepKind.TheVariants.{Open, Dereserved}
use Rattle.placements.specs.Ranks.{AreAmong}
use Rattle.placements.proofs.Ranks.{among_again, are_among, widen}
use Rattle.placements.proofs.Sublists.{length-sublist}
use Rattle.merit_choice.specs.Laws.{ChoiceSize}
use Rattle.merit_choice.proofs.InMerit.{in_merit_ranks, part_can_be_ranked, ranked_part}
use Rattle.merit_choice.specs.State.{IsStepKept}
use Rattle.step_cutoffs.specs.Cutoff.{IsCutoff, IsNoWider, IsWithin}
use Rattle.step_cutoffs.specs.Laws.{AdmittedStay, CutoffExists, EasedIsWider, IsEased}
use Rattle.step_cutoffs.specs.declared.cutoff.Cutoff.{Cutoff}
use Rattle.seat_matrix.specs.Seats.{AreProgrammeSeats, HaveMoreSeats, is_dereserved, seats_of}
use Rattle.seat_matrix.specs.declared.seats.ProgrammeSeats.{ProgrammeSeats}
use Rattle.programme_lists.specs.Chosen.{AreApplicants}
use Rattle.programme_lists.specs.Listing.{seats_filled}
use Rattle.programme_lists.specs.Programme.{Admissions, IsProgrammeChoice, admitted_by}
use Rattle.open_then_category.specs.Laws.{whole_step}
use Rattle.programme_laws.specs.Laws.{MayStandFor}
use Rattle.programme_cutoffs.specs.Cutoffs.{kept_by}
use Rattle.programme_cutoffs.specs.Laws.{ChoosesLater, CutoffsOnlyWiden, WhoMeetsStillMeets}
use Rattle.programme_cutoffs.proofs.Last.{LastStepChooses}
use Rattle.programme_cutoffs.proofs.Standing.{IsNotTaken, admitted_stand, chosen_at, is_step, kept, may_stand, stands}

-- seats that stay empty: with more of them, and fewer people, no fewer do
empty_grow : (seats more people fewer taken later : ℕ) → seats ≤ more → fewer ≤ people → taken ≡ min seats people → later ≡ min more fewer → seats - taken ≤ more - later
empty_grow seats more people fewer taken later wide few first second = omega (arith, wide, few, first, second)

-- and so of the categories together
all_grow : (version : ℕ) (seats held more later : StepKind → ℕ) (rows : List CategoryStep) → ((kind : StepKind) → seats kind - held kind ≤ more kind - later kind)
    → sum (map (λ row. if gives_up row version then seats row.step - held row.step else 0) rows) ≤ sum (map (λ row. if gives_up row version then more row.step - later row.step else 0) rows)
all_grow version seats held more later [] each = omega arith
all_grow version seats held more later (row ∷ rows) each =
    let first = sum_by-cons (λ (n : ℕ). n) (if gives_up row version then seats row.step - held row.step else 0) (map (λ row. if gives_up row version then seats row.step - held row.step else 0) rows) in
    let second = sum_by-cons (λ (n : ℕ). n) (if gives_up row version then more row.step - later row.step else 0) (map (λ row. if gives_up row version then more row.step - later row.step else 0) rows) in
    let one = by_row (gives_up row version) (seats row.step - held row.step) (more row.step - later row.step) (each row.step) in
    let rest = all_grow version seats held more later rows each in
    omega (arith, first, second, one, rest)
  where
    by_row : (gives : Bool) (a b : ℕ) → a ≤ b → (if gives then a else 0) ≤ (if gives then b else 0)
    by_row true a b fewer = fewer
    by_row false a b fewer = omega arith

module _ (last : LastStepChooses) (stay : AdmittedStay) (size : ChoiceSize) (version : ℕ) (seats more : ProgrammeSeats) (all some : List Person) (before after : Admissions)
    (ok : AreProgrammeSeats seats) (ok' : AreProgrammeSeats more) (wide : HaveMoreSeats seats more) (ranked : AreRanked seats.list all) (ranked' : AreRanked more.list some)
    (choice : IsProgrammeChoice version seats all before) (choice' : IsProgrammeChoice version more some after) (part : AreAmong some all) where
  abbrev one : StepKind → Step
  one kind = whole_step version seats all before kind

  abbrev two : StepKind → Step
  two kind = whole_step version more some after kind

  -- a step whose people were not taken before, if they are not taken now
  eased_at : (kind : StepKind) → seats_filled version seats before kind ≤ seats_filled version more after kind
      → ((other : Person) → IsAmong other some → IsNotTaken after kind other → IsNotTaken before kind other) → IsEased (one kind) (two kind)
  eased_at kind count free = record {
    is_step = is_step last version seats all before ok ranked choice kind;
    later_is_step = is_step last version more some after ok' ranked' choice' kind;
    list = wide.list;
    protections = wide.protections kind;
    seats = count;
    people = are_among (two kind).people (one kind).people (λ other here.
        let now = stands last version more some after ok' ranked' choice' kind other here in
        may_stand last version seats all before ok ranked choice kind other (widen other some all part now.0)
        (subst (λ (l : ListId). MayStandFor l kind other) wide.list now.1) (free other now.0 now.2));
  }

  -- who was admitted by it and competes for it now is admitted
  still_at : (kind : StepKind) → IsEased (one kind) (two kind) → (other : Person) → IsAmong other some → IsNotTaken after kind other → IsAmong other (admitted_by before kind)
      → IsAmong other (admitted_by after kind)
  still_at kind eased other here free was =
      let stood = stands last version seats all before ok ranked choice kind other
      (widen other (admitted_by before kind) (one kind).people (admitted_stand last version seats all before ok ranked choice kind) was) in
      stay (one kind) (two kind) (admitted_by before kind) (admitted_by after kind) other eased (chosen_at last version seats all before ok ranked choice kind)
      (chosen_at last version more some after ok' ranked' choice' kind) was
      (may_stand last version more some after ok' ranked' choice' kind other here (subst (λ (l : ListId). MayStandFor l kind other) (sym wide.list) stood.1) free)

  open_eased : IsEased (one Open) (two Open)
  open_eased = eased_at Open (wide.seats Open) (λ other here free. free)

  open_free : (other : Person) → IsAmong other some → (IsAmong other (after Open) → ⊥) → IsAmong other (before Open) → ⊥
  open_free other here gone was = gone (still_at Open open_eased other here tt was)

  early_eased : (kind : StepKind) → is_dereserved kind ≡ false → IsEased (one kind) (two kind)
  early_eased Open own = open_eased
  early_eased Dereserved own = absurd (cc own)
  early_eased kind own = eased_at kind (wide.seats kind) open_free

  from_last : (kind : StepKind) (other : Person) → IsNotTaken after Dereserved other → is_dereserved kind ≡ false → IsNotTaken after kind other
  from_last Open other free own = tt
  from_last Dereserved other free own = absurd (cc own)
  from_last kind other free own = free Open refl

  last_free : (other : Person) → IsAmong other some → IsNotTaken after Dereserved other → IsNotTaken before Dereserved other
  last_free other here free kind own was = free kind own (still_at kind (early_eased kind own) other here (from_last kind other free own) was)

  -- no fewer seats of a step stay empty
  fewer_people : (kind : StepKind) → IsEased (one kind) (two kind) → length (two kind).people ≤ length (one kind).people
  fewer_people kind eased =
      let now : AreRanked seats.list (two kind).people = subst (λ (l : ListId). AreRanked l (two kind).people) wide.list eased.later_is_step.people in
      length-sublist (two kind).people (one kind).people (ranked_part seats.list (two kind).people (one kind).people now eased.is_step.people eased.people)

  more_empty : (kind : StepKind) → IsEased (one kind) (two kind) → (one kind).seats - length (admitted_by before kind) ≤ (two kind).seats - length (admitted_by after kind)
  more_empty kind eased = empty_grow (one kind).seats (two kind).seats (length (one kind).people) (length (two kind).people) (length (admitted_by before kind)) (length (admitted_by after kind))
      eased.seats (fewer_people kind eased) (size (one kind) (admitted_by before kind) eased.is_step (chosen_at last version seats all before ok ranked choice kind))
      (size (two kind) (admitted_by after kind) eased.later_is_step (chosen_at last version more some after ok' ranked' choice' kind))

  own_empty : (kind : StepKind) → (seats_of seats kind).seats - length (before kind) ≤ (seats_of more kind).seats - length (after kind)
  own_empty Dereserved = omega arith
  own_empty kind = more_empty kind (early_eased kind refl)

  last_eased : IsEased (one Dereserved) (two Dereserved)
  last_eased = eased_at Dereserved
      (all_grow version (λ kind. (seats_of seats kind).seats) (λ kind. length (before kind)) (λ kind. (seats_of more kind).seats) (λ kind. length (after kind)) category_steps own_empty)
      last_free

  pub eased : (kind : StepKind) → IsEased (one kind) (two kind)
  eased Dereserved = last_eased
  eased kind = early_eased kind refl

-- ---- the laws

module _ (last : LastStepChooses) (stay : AdmittedStay) (size : ChoiceSize) (wider_on : EasedIsWider) (version : ℕ) (seats more : ProgrammeSeats) (all some : List Person) (before after : Admissions)
    (later : ChoosesLater version seats more all some before after) (may : AreApplicants seats.list all) (kind : StepKind) where
  abbrev ordered : List Person
  ordered = in_merit seats.list all

  abbrev ordered' : List Person
  ordered' = in_merit more.list some

  ranks : AreRanked seats.list ordered × AreAmong all ordered × AreAmong ordered all × (length ordered ≡ length all)
  ranks = in_merit_ranks seats.list all may

  ranks' : AreRanked more.list ordered' × AreAmong some ordered' × AreAmong ordered' some × (length ordered' ≡ length some)
  ranks' = in_merit_ranks more.list some (subst (λ (l : ListId). CanBeRanked l some) (sym later.more_seats.list) (part_can_be_ranked seats.list some all later.distinct may later.part))

  pub kept_later : IsStepKept (kept_by version more after kind)
  kept_later = kept last version more ordered' after later.more_are_seats ranks'.0 later.later_choice kind

  pub wider : (traits : TraitSet) (cutoff other : Cutoff) → IsTraitSet traits → IsCutoff (kept_by version seats before kind) traits cutoff → IsCutoff (kept_by version more after kind) traits other
      → IsNoWider cutoff other × ((place : Option ℕ) → IsWithin cutoff place → IsWithin other place)
  wider traits cutoff other small cut cut' =
      let part = among_again ordered' some ordered ranks'.2 (among_again some all ordered later.part ranks.1) in
      wider_on (whole_step version seats ordered before kind) (whole_step version more ordered' after kind) (admitted_by before kind) (admitted_by after kind) traits cutoff other
      (eased last stay size version seats more ordered ordered' before after later.are_seats later.more_are_seats later.more_seats ranks.0 ranks'.0 later.choice later.later_choice part kind)
      (chosen_at last version seats ordered before later.are_seats ranks.0 later.choice kind) (chosen_at last version more ordered' after later.more_are_seats ranks'.0 later.later_choice kind) small cut cut'

pub cutoffs_only_widen : LastStepChooses → AdmittedStay → ChoiceSize → EasedIsWider → CutoffsOnlyWiden
cutoffs_only_widen last stay size wider_on version seats more all some before after kind traits cutoff other later may small cut cut' =
    (wider last stay size wider_on version seats more all some before after later may kind traits cutoff other small cut cut').0

pub who_meets_still_meets : LastStepChooses → AdmittedStay → ChoiceSize → CutoffExists → EasedIsWider → WhoMeetsStillMeets
who_meets_still_meets last stay size exists wider_on version seats more all some before after person kind later may small meets =
    let cutoff = exists (kept_by version more after kind) person.traits (kept_later last stay size wider_on version seats more all some before after later may kind) small in (
      subst (λ (l : ListId). MayStandFor l kind person) (sym later.more_seats.list) meets.0,
      cutoff.0,
      cutoff.1,
      subst (λ (l : ListId). IsWithin cutoff.0 (number_in l person)) (sym later.more_seats.list)
          ((wider last stay size wider_on version seats more all some before after later may kind person.traits meets.1 cutoff.0 small meets.2 cutoff.1).1 (number_in seats.list person) meets.3),
    )
