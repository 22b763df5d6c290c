-- The cutoffs of a programme decide, step by step: a step that does not admit the person admits whom it admitted before, and the next one sees the person too.
use Rattle.std.proofs.Common.{◌≡◌, ◌⊎◌, inl, inr, ℕ, zero, suc, ◌≤◌, ◌<◌, false, List, [], ◌∷◌, length, arith, refl, sym, ap, subst}
use Rattle.std.specs.Prelude.{◌↔◌}
use Rattle.office_base.specs.CategorySteps.{all_steps}
use Rattle.office_base.specs.Lists.{IsAmong}
use Rattle.office_base.specs.Merit.{in_merit}
use Rattle.office_base.specs.StepChoice.{AreRanked}
use Rattle.office_base.specs.StepNumbers.{step_number}
use Rattle.office_base.specs.declared.person.Person.{Person}
use Rattle.office_base.specs.declared.step.Step.{Step}
use Rattle.office_base.specs.declared.step.StepKind.{StepKind}
use Rattle.office_base.specs.declared.step.StepKind.TheVariants.{Open, Dereserved}
use Rattle.office_base.proofs.Lists.{all_among, at_among}
use Rattle.office_base.proofs.StepNumbers.{kind_at}
use Rattle.placements.specs.Ranks.{AreAmong}
use Rattle.placements.proofs.Ranks.{among_again, are_among, widen}
use Rattle.merit_choice.specs.Laws.{HasMorePeople, LeavingOutRefused}
use Rattle.merit_choice.proofs.InMerit.{in_merit_ranks, part_can_be_ranked}
use Rattle.merit_choice.proofs.Needed.{decides, nobody_of}
use Rattle.step_cutoffs.specs.Laws.{CutoffExists, CutoffsDecide}
use Rattle.step_cutoffs.specs.Laws as step
use Rattle.seat_matrix.specs.Seats.{AreProgrammeSeats, is_dereserved}
use Rattle.seat_matrix.specs.declared.seats.ProgrammeSeats.{ProgrammeSeats}
use Rattle.programme_lists.specs.Chosen.{IsAdmitted, IsRefused}
use Rattle.programme_lists.specs.Listing.{seats_filled}
use Rattle.programme_lists.specs.Programme.{Admissions, IsProgrammeChoice, admitted_by, unfilled}
use Rattle.open_then_category.specs.Laws.{OneStep, whole_step}
use Rattle.programme_cutoffs.specs.Cutoffs.{MeetsCutoff, MeetsFirst, kept_by}
use Rattle.programme_cutoffs.specs.Laws.{CutoffsDecideAdmissions, CutoffsDecideSteps, IsJoinedBy}
use Rattle.programme_cutoffs.proofs.Last.{LastStepChooses}
use Rattle.programme_lists.proofs.Parts.{same_by_own}
use Rattle.programme_cutoffs.proofs.Standing.{IsNotTaken, admitted_stand, admitted_within, below_last, chosen_at, is_step, kept, may_stand, stands}

-- some step admits the person, or none does
pub some_or_none : (after : Admissions) (person : Person) → ((kind : StepKind) → IsAmong person (admitted_by after kind) ⊎ (IsAmong person (admitted_by after kind) → ⊥))
    → IsAdmitted after person ⊎ IsRefused after person
some_or_none after person decided = elim (among all_steps) [
  | inl found ↦ inl found
  | inr none ↦ inr (λ kind. none kind (at_among all_steps (step_number kind) kind (kind_at kind)))
]
  where
    among : (kinds : List StepKind) → IsAdmitted after person ⊎ ((kind : StepKind) → IsAmong kind kinds → IsAmong person (admitted_by after kind) → ⊥)
    among [] = inr (λ kind there. absurd there)
    among (first ∷ kinds) = elim (decided first) [
      | inl here ↦ inl (first, here)
      | inr out ↦ elim (among kinds) [
        | inl found ↦ inl found
        | inr none ↦ inr (λ kind there. elim there [
          | inl same ↦ subst (λ k. IsAmong person (admitted_by after k) → ⊥) (sym same) out
          | inr later ↦ none kind later
        ])
      ]
    ]

module _ (decide : CutoffsDecide) (exists : CutoffExists) (leaving : LeavingOutRefused) (last : LastStepChooses) (version : ℕ) (seats : ProgrammeSeats) (some all : List Person) (before after : Admissions)
    (ok : AreProgrammeSeats seats) (ranked : AreRanked seats.list some) (ranked' : AreRanked seats.list all) (choice : IsProgrammeChoice version seats some before)
    (choice' : IsProgrammeChoice version seats all after) (person : Person) (part : AreAmong some all) (there : IsAmong person all)
    (nobody_else : (other : Person) → IsAmong other all → IsAmong other some ⊎ (other ≡ person)) where
  -- ---- one step

  -- A step admits the person exactly if they meet its cutoff. Otherwise it admits whom it admitted before.
  record IsSettled (kind : StepKind) : Type 0 where
    pub told : IsAmong person (admitted_by after kind) ↔ MeetsCutoff version seats before person kind
    pub same : (IsAmong person (admitted_by after kind) → ⊥) → admitted_by before kind ≡ admitted_by after kind

  module _ (kind : StepKind) (count : seats_filled version seats before kind ≡ seats_filled version seats after kind) (on : (other : Person) → IsNotTaken before kind other → IsNotTaken after kind other)
      (back : (other : Person) → IsNotTaken after kind other → IsNotTaken before kind other) (free : IsNotTaken after kind person) where
    abbrev one : Step
    one = whole_step version seats some before kind

    abbrev two : Step
    two = whole_step version seats all after kind

    both : HasMorePeople one two
    both = record {
      is_step = is_step last version seats some before ok ranked choice kind;
      more_is_step = is_step last version seats all after ok ranked' choice' kind;
      list = refl;
      seats = sym count;
      protections = refl;
      people = are_among one.people two.people (λ other here.
          let was = stands last version seats some before ok ranked choice kind other here in
          may_stand last version seats all after ok ranked' choice' kind other (widen other some all part was.0) was.1 (on other was.2));
    }

    nobody : (other : Person) → IsAmong other two.people → IsAmong other one.people ⊎ (other ≡ person)
    nobody other here =
        let is = stands last version seats all after ok ranked' choice' kind other here in
        elim (nobody_else other is.0) [
          | inl was ↦ inl (may_stand last version seats some before ok ranked choice kind other was is.1 (back other is.2))
          | inr same ↦ inr same
        ]

    joined : IsAmong person two.people → step.IsJoinedBy one two person
    joined here = record { both = both; there = here; nobody_else = nobody }

    told_on : IsAmong person (admitted_by after kind) → MeetsCutoff version seats before person kind
    told_on here =
        let competes = widen person (admitted_by after kind) two.people (admitted_stand last version seats all after ok ranked' choice' kind) here in
        let cutoff = exists (kept_by version seats before kind) person.traits (kept last version seats some before ok ranked choice kind) (all_among _ all person ranked'.traits there) in (
          (stands last version seats all after ok ranked' choice' kind person competes).1,
          cutoff.0,
          cutoff.1,
          (decide one two (admitted_by before kind) (admitted_by after kind) person cutoff.0 (joined competes) (chosen_at last version seats some before ok ranked choice kind)
              (chosen_at last version seats all after ok ranked' choice' kind) cutoff.1).0 here,
        )

    told_back : MeetsCutoff version seats before person kind → IsAmong person (admitted_by after kind)
    told_back meets =
        (decide one two (admitted_by before kind) (admitted_by after kind) person meets.1 (joined (may_stand last version seats all after ok ranked' choice' kind person there meets.0 free))
        (chosen_at last version seats some before ok ranked choice kind) (chosen_at last version seats all after ok ranked' choice' kind) meets.2).1 meets.3

    settled : IsSettled kind
    settled = record {
      told = (told_on, told_back);
      same = λ gone. leaving one two (admitted_by before kind) (admitted_by after kind) both (chosen_at last version seats some before ok ranked choice kind)
          (chosen_at last version seats all after ok ranked' choice' kind) (λ other here out in_after. elim (nobody other here) [
            | inl was ↦ out was
            | inr same ↦ gone (subst (λ p. IsAmong p (admitted_by after kind)) same in_after)
          ]);
    }

  -- ---- the steps in their order

  -- no step before this one admits the person
  abbrev OutBefore : StepKind → Type 0
  OutBefore kind = (earlier : StepKind) → step_number earlier < step_number kind → IsAmong person (admitted_by after earlier) → ⊥

  open_settled : IsSettled Open
  open_settled = settled Open refl (λ other free. free) (λ other free. free) tt

  -- who is not taken by the open step was not, and the other way round
  still_free : (other : Person) → (IsAmong person (after Open) → ⊥) → (IsAmong other (before Open) → ⊥) → IsAmong other (after Open) → ⊥
  still_free other gone free here = free (subst (IsAmong other) (sym (open_settled.same gone)) here)

  was_free : (other : Person) → (IsAmong person (after Open) → ⊥) → (IsAmong other (after Open) → ⊥) → IsAmong other (before Open) → ⊥
  was_free other gone free here = free (subst (IsAmong other) (open_settled.same gone) here)

  -- before the de-reserved step
  early_settled : (kind : StepKind) → is_dereserved kind ≡ false → OutBefore kind → IsSettled kind
  early_settled Open own out = open_settled
  early_settled Dereserved own out = absurd (cc own)
  early_settled kind own out = let gone = out Open (omega arith) in settled kind refl (λ other. still_free other gone) (λ other. was_free other gone) gone

  last_settled : OutBefore Dereserved → IsSettled Dereserved
  last_settled out =
      let same : (kind : StepKind) → is_dereserved kind ≡ false → before kind ≡ after kind =
      λ kind own. (early_settled kind own (λ earlier less. out earlier (let last = below_last kind own in omega (arith, less, last)))).same (out kind (below_last kind own)) in
      settled Dereserved (ap (λ (own : Admissions). unfilled version seats own) (same_by_own before after same))
      (λ other free kind own here. free kind own (subst (IsAmong other) (sym (same kind own)) here))
      (λ other free kind own here. free kind own (subst (IsAmong other) (same kind own) here))
      (λ kind own. out kind (below_last kind own))

  settle : (kind : StepKind) → OutBefore kind → IsSettled kind
  settle Dereserved out = last_settled out
  settle kind out = early_settled kind refl out

  -- ---- the first step

  -- whom a step admits no step before it does
  abbrev AdmitsOnce : Type 0
  AdmitsOnce = (kind other : StepKind) → IsAmong person (admitted_by after kind) → IsAmong person (admitted_by after other) → kind ≡ other

  pub to_first : AdmitsOnce → (kind : StepKind) → IsAmong person (admitted_by after kind) → MeetsFirst version seats before person kind
  to_first once kind here =
      let out : OutBefore kind = λ earlier less taken. let same = ap step_number (once earlier kind taken here) in absurd (omega (arith, same, less)) in (
        (settle kind out).told.0 here,
        (λ earlier less meets. out earlier less ((settle earlier (λ one below. out one (omega (arith, below, less)))).told.1 meets)),
      )

  pub from_first : (kind : StepKind) → MeetsFirst version seats before person kind → IsAmong person (admitted_by after kind)
  from_first kind first = (settle kind (λ earlier less. none (step_number kind) earlier less (omega arith))).told.1 first.0
    where
      none : (n : ℕ) (earlier : StepKind) → step_number earlier < n → n ≤ step_number kind → IsAmong person (admitted_by after earlier) → ⊥
      none zero earlier less within here = absurd (omega (arith, less))
      none (suc n) earlier less within here =
          first.1 earlier (omega (arith, less, within)) ((settle earlier (λ one below. none n one (omega (arith, below, less)) (omega (arith, within)))).told.0 here)

  -- ---- some step

  decided : (kind : StepKind) → IsAmong person (admitted_by after kind) ⊎ (IsAmong person (admitted_by after kind) → ⊥)
  decided kind = elim (decides person (admitted_by after kind) all ranked'.distinct (admitted_within last version seats all after ok ranked' choice' kind) there) [
    | inl here ↦ inl here
    | inr apart ↦ inr (nobody_of person (admitted_by after kind) apart)
  ]

  admitted_or_refused : IsAdmitted after person ⊎ IsRefused after person
  admitted_or_refused = some_or_none after person decided

  pub to_some : AdmitsOnce → IsAdmitted after person → (kind : StepKind) × MeetsCutoff version seats before person kind
  to_some once admitted = (admitted.0, (to_first once admitted.0 admitted.1).0)

  pub from_some : (kind : StepKind) → MeetsCutoff version seats before person kind → IsAdmitted after person
  from_some kind meets = elim admitted_or_refused [
    | inl admitted ↦ admitted
    | inr none ↦ (kind, (settle kind (λ earlier less. none earlier)).told.1 meets)
  ]

-- ---- people in any order

module _ (decide : CutoffsDecide) (exists : CutoffExists) (leaving : LeavingOutRefused) (last : LastStepChooses) (once : OneStep) (version : ℕ) (seats : ProgrammeSeats) (people all : List Person) (before after : Admissions)
    (person : Person) (joined : IsJoinedBy version seats people all before after person) where
  abbrev ordered : List Person → List Person
  ordered those = in_merit seats.list those

  ranks : AreRanked seats.list (ordered people) × AreAmong people (ordered people) × AreAmong (ordered people) people × (length (ordered people) ≡ length people)
  ranks = in_merit_ranks seats.list people (part_can_be_ranked seats.list people all joined.both.distinct joined.both.may joined.both.part)

  all_ranks : AreRanked seats.list (ordered all) × AreAmong all (ordered all) × AreAmong (ordered all) all × (length (ordered all) ≡ length all)
  all_ranks = in_merit_ranks seats.list all joined.both.may

  part : AreAmong (ordered people) (ordered all)
  part = among_again (ordered people) people (ordered all) ranks.2 (among_again people all (ordered all) joined.both.part all_ranks.1)

  there : IsAmong person (ordered all)
  there = widen person all (ordered all) all_ranks.1 joined.there

  nobody_else : (other : Person) → IsAmong other (ordered all) → IsAmong other (ordered people) ⊎ (other ≡ person)
  nobody_else other here = elim (joined.nobody_else other (widen other (ordered all) all all_ranks.2 here)) [
    | inl was ↦ inl (widen other people (ordered people) ranks.1 was)
    | inr same ↦ inr same
  ]

  admits_once : (kind other : StepKind) → IsAmong person (admitted_by after kind) → IsAmong person (admitted_by after other) → kind ≡ other
  admits_once kind other here too = once version seats all after person kind other joined.both.are_seats joined.both.may joined.both.more_choice here too

  pub by_steps : (kind : StepKind) → IsAmong person (admitted_by after kind) ↔ MeetsFirst version seats before person kind
  by_steps kind = (
    to_first decide exists leaving last version seats (ordered people) (ordered all) before after joined.both.are_seats ranks.0 all_ranks.0 joined.both.choice joined.both.more_choice person part there
        nobody_else admits_once kind,
    from_first decide exists leaving last version seats (ordered people) (ordered all) before after joined.both.are_seats ranks.0 all_ranks.0 joined.both.choice joined.both.more_choice person part there
        nobody_else kind,
  )

  pub by_any : IsAdmitted after person ↔ ((kind : StepKind) × MeetsCutoff version seats before person kind)
  by_any = (
    to_some decide exists leaving last version seats (ordered people) (ordered all) before after joined.both.are_seats ranks.0 all_ranks.0 joined.both.choice joined.both.more_choice person part there
        nobody_else admits_once,
    (λ some. from_some decide exists leaving last version seats (ordered people) (ordered all) before after joined.both.are_seats ranks.0 all_ranks.0 joined.both.choice joined.both.more_choice person part there
        nobody_else some.0 some.1),
  )

pub cutoffs_decide_steps : CutoffsDecide → CutoffExists → LeavingOutRefused → LastStepChooses → OneStep → CutoffsDecideSteps
cutoffs_decide_steps decide exists leaving last once version seats people all before after person kind joined = by_steps decide exists leaving last once version seats people all before after person joined kind

pub cutoffs_decide_admissions : CutoffsDecide → CutoffExists → LeavingOutRefused → LastStepChooses → OneStep → CutoffsDecideAdmissions
cutoffs_decide_admissions decide exists leaving last once version seats people all before after person joined = by_any decide exists leaving last once version seats people all before after person joined
