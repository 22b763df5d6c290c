-- Only the choice meets the axioms: no single exchange would improve a set that does.
use Rattle.std.proofs.Common.{◌≡◌, ◌≢◌, ◌≤◌, ◌<◌, inl, inr, ℕ, zero, suc, false, Option, Some, None, List, [], ◌∷◌, length, min, take, arith, refl, sym, ap, ◌∙◌, subst}
use Rattle.std.specs.List.{AllByRecursion}
use Rattle.std.proofs.lemmas.Bool.{cases_lt}
use Rattle.office_base.specs.CategorySteps.{own_steps, row_of}
use Rattle.office_base.specs.Lists.{IsAmong, IsSublist, Pairwise}
use Rattle.office_base.specs.Merit.{in_merit}
use Rattle.office_base.specs.Person.{IsBetter, is_common, number_in}
use Rattle.office_base.specs.Placement.{IsHonoured}
use Rattle.office_base.specs.StepChoice.{AreRanked, IsStep, IsStepChoice}
use Rattle.office_base.specs.declared.category_steps.CategoryStep.{CategoryStep}
use Rattle.office_base.specs.declared.person.ListId.{ListId}
use Rattle.office_base.specs.declared.person.Person.{Person}
use Rattle.office_base.specs.declared.step.StepKind.{StepKind}
use Rattle.office_base.specs.declared.step.StepKind.TheVariants.{Open, Dereserved}
use Rattle.placements.specs.Ranks.{without}
use Rattle.placements.proofs.Filters.{filter-sublist}
use Rattle.placements.proofs.Greatest.{honoured-exists}
use Rattle.placements.proofs.Merit.{not_ahead}
use Rattle.placements.proofs.Ranks.{among_sublist, any_all, are_among, pairwise_sublist, ranked_sublist, widen}
use Rattle.placements.proofs.Sublists.{AllByRecursion-sublist, IsSublist-nil, IsSublist-same, length-sublist, sublist_again}
use Rattle.placements.proofs.Without.{without_sublist}
use Rattle.merit_choice.specs.InMerit.{InMeritRanks, RankedPart}
use Rattle.merit_choice.proofs.Needed.{apart_of}
use Rattle.seat_matrix.specs.Seats.{AreProgrammeSeats, is_dereserved, no_protections}
use Rattle.seat_matrix.specs.declared.seats.ProgrammeSeats.{ProgrammeSeats}
use Rattle.seat_matrix.proofs.Unprotected.{nobody_placed}
use Rattle.programme_lists.specs.Programme.{Admissions, IsProgrammeChoice, admitted_by, is_of, left_by, left_over, members_by, people_of, step_of, unfilled}
use Rattle.programme_lists.specs.Programme.{without as without_taken}
use Rattle.open_then_category.specs.Laws.{whole_step}
use Rattle.axiom_laws.specs.Laws.{SingleExchanges}
use Rattle.axiom_laws.specs.Laws.{MeetsThemAtEachStep, OneMeetsTheAxioms, OneMeetsTheAxiomsOfAStep}
use Rattle.programme_lists.proofs.Parts.{left_part, members_part, people_part}

-- ---- one step

size_of : (a seats people : ℕ) → a ≤ seats → a ≤ people → (a < seats → people ≤ a) → a ≡ min seats people
size_of a seats people within part full = elim (cases_lt a seats) [
  | inl less ↦ (let all = full less in omega (arith, within, part, all))
  | inr far ↦ omega (arith, within, part, far)
]

pub one_at_a_step : SingleExchanges → RankedPart → OneMeetsTheAxiomsOfAStep
one_at_a_step exchanges part step chosen ok may axioms =
    let distinct = pairwise_sublist (λ (a b : Person). a.id ≢ b.id) chosen step.people may.people ok.people.distinct in
    let ranked = ranked_sublist step.list chosen step.people ok.people may.people in
    let within = among_sublist chosen step.people may.people in
    let n = honoured-exists step.protections chosen distinct in
    let m = honoured-exists step.protections step.people ok.people.distinct in
    let same : m.0 ≡ n.0 = axioms.as_all m.0 n.0 m.1 n.1 in
    let size : length chosen ≡ min step.seats (length step.people) =
    size_of (length chosen) step.seats (length step.people) may.seats (length-sublist chosen step.people may.people) (λ empty.
    length-sublist step.people chosen (part step.list step.people chosen ok.people ranked (are_among step.people chosen (λ person there. axioms.non_wasteful empty person there)))) in
    exchanges step chosen n.0 ok may.people size n.1 (subst (IsHonoured step.protections step.people) same m.1) (λ person worse over.
    let apart = apart_of person chosen step.people ok.people.distinct within over.stands over.unlisted in
    let rest = without_sublist worse.id chosen in
    let alone = AllByRecursion-sublist (λ (other : Person). person.id ≢ other.id) (without worse.id chosen) chosen rest apart in
    let k = honoured-exists step.protections (person ∷ without worse.id chosen) (alone, pairwise_sublist (λ (a b : Person). a.id ≢ b.id) (without worse.id chosen) chosen rest distinct) in
    let less = axioms.no_justified_envy person worse k.0 n.0 over.stands over.unlisted over.there over.better k.1 n.1 in
    let more = over.as_much n.0 k.0 n.1 k.1 in
    omega (arith, less, more))

-- ---- the last step, which has no protections

none_honoured : (people : List Person) → IsHonoured no_protections people 0
none_honoured people = record {
  reached = ([], record { held = tt; once = tt; within = λ t. omega arith }, refl);
  most = λ pairs placed. (let none = nobody_placed people pairs placed in omega (arith, none));
}

-- those whom nobody better is left out for are the first of the people
first_of_all : (list : ListId) (people chosen : List Person) → Pairwise (IsBetter list) people → IsSublist chosen people
    → ((better worse : Person) → IsAmong better people → IsAmong worse chosen → IsBetter list better worse → (IsAmong better chosen → ⊥) → ⊥) → chosen ≡ take (length chosen) people
first_of_all list people [] order sub none = refl
first_of_all list [] (x ∷ chosen) order sub none = absurd (let e = ap length sub in omega (arith, e))
first_of_all list (y ∷ people) (x ∷ chosen) order sub none = elim sub [
  | inl skips ↦
      let behind = any_all (λ one. x ≡ one) (IsBetter list y) people (among_sublist (x ∷ chosen) people skips).0 order.0 in
      let ahead : IsBetter list y x = subst (λ p. IsBetter list y p) (sym behind.1) behind.2 in
      absurd (none y x (inl refl) (inl refl) ahead (λ here. not_here list y (x ∷ chosen) people order.0 skips here))
  | inr takes ↦
      let first : x ≡ y = cc (takes.1) in
      let rest : chosen ≡ takes.0 = cc (takes.1) in
      let sub' : IsSublist chosen people = subst (λ l. IsSublist l people) (sym rest) takes.2 in
      let later = first_of_all list people chosen order.1 sub' (λ better worse there here ahead gone.
      none better worse (inr there) (inr here) ahead (λ among. elim among [
        | inl is ↦
            let behind = any_all (λ one. better ≡ one) (IsBetter list y) people there order.0 in
            let after : IsBetter list y y = subst (λ p. IsBetter list y p) (sym behind.1 ∙ (is ∙ first)) behind.2 in
            not_ahead (number_in list y) after
        | inr more ↦ gone more
      ])) in
      ap (λ z. z ∷ chosen) first ∙ ap (λ l. y ∷ l) later
]
  where
    not_here : (list : ListId) (y : Person) (chosen people : List Person) → AllByRecursion (IsBetter list y) people → IsSublist chosen people → IsAmong y chosen → ⊥
    not_here list y chosen people all sub here =
        let behind = any_all (λ one. y ≡ one) (IsBetter list y) people (widen y chosen people (among_sublist chosen people sub) here) all in
        not_ahead (number_in list y) (subst (λ p. IsBetter list y p) (sym behind.1) behind.2)

took : (k n : ℕ) (people : List Person) → k ≡ min n (length people) → take k people ≡ take n people
took zero zero [] e = refl
took zero (suc n) [] e = refl
took (suc k) zero [] e = refl
took (suc k) (suc n) [] e = refl
took zero zero (x ∷ people) e = refl
took zero (suc n) (x ∷ people) e = absurd (omega (arith, e))
took (suc k) zero (x ∷ people) e = absurd (omega (arith, e))
took (suc k) (suc n) (x ∷ people) e = ap (λ l. x ∷ l) (took k n people (omega (arith, e)))

-- ---- the people of a step

-- ---- a programme

module _ (at_a_step : OneMeetsTheAxiomsOfAStep) (version : ℕ) (seats : ProgrammeSeats) (applicants : List Person) (admissions : Admissions) (ok : AreProgrammeSeats seats)
    (ranked : AreRanked seats.list applicants) (meets : MeetsThemAtEachStep version seats applicants admissions) where
  people_ranked : (kind : StepKind) → AreRanked seats.list (people_of seats.list applicants admissions kind)
  people_ranked kind = ranked_sublist seats.list _ applicants ranked (people_part seats.list applicants admissions kind)

  is_step : (kind : StepKind) → IsStep (whole_step version seats applicants admissions kind)
  is_step Dereserved = record { list = ok.list; people = people_ranked Dereserved; protections = omega arith }
  is_step kind = record { list = ok.list; people = people_ranked kind; protections = (ok.steps kind).protections }

  chosen_at : (kind : StepKind) → IsStepChoice (whole_step version seats applicants admissions kind) (admitted_by admissions kind)
  chosen_at kind = at_a_step (whole_step version seats applicants admissions kind) (admitted_by admissions kind) (is_step kind) (meets.within kind) (meets.axioms kind)

  last_is : RankedPart → admissions Dereserved ≡ take (unfilled version seats admissions) (people_of seats.list applicants admissions Dereserved)
  last_is part =
      let people = people_of seats.list applicants admissions Dereserved in
      let chosen = admissions Dereserved in
      let axioms = meets.axioms Dereserved in
      let may = meets.within Dereserved in
      let order = people_ranked Dereserved in
      let size : length chosen ≡ min (unfilled version seats admissions) (length people) =
      size_of (length chosen) (unfilled version seats admissions) (length people) may.seats (length-sublist chosen people may.people) (λ empty.
      length-sublist people chosen (part seats.list people chosen order (ranked_sublist seats.list chosen people order may.people) (are_among people chosen (λ person there. axioms.non_wasteful empty person there)))) in
      first_of_all seats.list people chosen order.in_order may.people (λ better worse there here ahead gone.
      (let less = axioms.no_justified_envy better worse 0 0 there gone here ahead (none_honoured _) (none_honoured _) in omega (arith, less)))
      ∙ took (length chosen) (unfilled version seats admissions) people size

  pub its_choice : RankedPart → IsProgrammeChoice version seats applicants admissions
  its_choice part = record { own = own; dereserved = last_is part }
    where
      own : (kind : StepKind) → is_dereserved kind ≡ false → IsStepChoice (step_of seats applicants admissions kind) (admissions kind)
      own Dereserved plain = absurd (cc plain)
      own kind plain = chosen_at kind

pub one_at_all_steps : OneMeetsTheAxiomsOfAStep → InMeritRanks → RankedPart → OneMeetsTheAxioms
one_at_all_steps at_a_step ranks part version seats people admissions ok may meets =
    its_choice at_a_step version seats (in_merit seats.list people) admissions ok (ranks seats.list people may).0 meets part
