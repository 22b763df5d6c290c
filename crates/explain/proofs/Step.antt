-- A person whom a step refuses: all its seats are taken, and in place of somebody worse the person would leave fewer
-- honoured.
use Rattle.std.proofs.Common.{◌≡◌, ◌≢◌, ◌<◌, ◌≤◌, ℕ, false, Option, Some, None, List, [], ◌∷◌, length, refl, sym, ap, ◌∙◌, subst, inl, inr, arith}
use Rattle.std.specs.Prelude.{IsSome}
use Rattle.std.specs.List.{AllByRecursion}
use Rattle.std.proofs.lemmas.Bool.{ltb-false, cases_Bool, cases_lt, cond-true, cond-false}
use Rattle.office_base.specs.Lists.{IsAmong, Pairwise}
use Rattle.office_base.specs.Merit.{is_ahead, is_better, with_person, IsNewTo}
use Rattle.office_base.specs.Person.{IsAhead, IsBetter, IsTraitSet, number_in}
use Rattle.office_base.specs.Placement.{IsHonoured}
use Rattle.office_base.specs.StepChoice.{AreRanked, IsNoWorse, IsStep, IsStepChoice, MayAdmit}
use Rattle.office_base.specs.declared.person.ListId.{ListId}
use Rattle.office_base.specs.declared.person.Person.{Person}
use Rattle.office_base.specs.declared.step.Step.{Step}
use Rattle.office_base.proofs.Lists.{all_weaker}
use Rattle.placements.specs.Ranks.{AreAmong, AreDistinct, without}
use Rattle.placements.proofs.Ranks.{any_among, any_weaker, among_again, among_itself, among_sublist, one_person, pairwise_sublist}
use Rattle.placements.proofs.Sublists.{AllByRecursion-sublist}
use Rattle.placements.proofs.Without.{all_without, length_without, pairwise_without, without_among, without_later}
use Rattle.placements.proofs.Merit.{ahead_again, not_ahead, ahead_true, not_both_better, length_with}
use Rattle.merit_choice.specs.InMerit.{RankedPart, WithPersonRanks}
use Rattle.merit_choice.specs.Laws.{ChoiceSize, OneChoice, SeatsForAll}

-- ---- the order of two

pub not_ahead_means : (first second : Option ℕ) → is_ahead first second ≡ false → IsAhead first second → ⊥
not_ahead_means None second told ahead = ahead
not_ahead_means (Some m) None told ahead = ahead
not_ahead_means (Some m) (Some n) told ahead = absurd (omega (arith, ltb-false m n told, ahead))

pub better_again : (list : ListId) (a b c : Person) → IsBetter list a b → IsBetter list b c → IsBetter list a c
better_again list a b c one two = ahead_again (number_in list a) (number_in list b) (number_in list c) one two

-- what holds of each holds of one of them
pub each : {X : Type 0} (P : X → Type 0) (x : X) (xs : List X) → IsAmong x xs → AllByRecursion P xs → P x
each P x [] among all = absurd among
each P x (y ∷ xs) among all = elim among [ inl here ↦ subst P (sym here) all.0 | inr later ↦ each P x xs later all.1 ]

-- of people in merit order, a person with the number of another is that one
pub one_number : (list : ListId) (people : List Person) → Pairwise (IsBetter list) people → (a b : Person) → IsAmong a people → IsAmong b people → number_in list a ≡ number_in list b → a ≡ b
one_number list [] order a b in_a in_b same = absurd in_a
one_number list (person ∷ people) order a b in_a in_b same = elim in_a [
  | inl here ↦ elim in_b [
    | inl here_too ↦ here ∙ sym here_too
    | inr later ↦ absurd (let ahead = each (IsBetter list person) b people later order.0 in
        not_ahead (number_in list b) (subst (λ (n : Option ℕ). IsAhead n (number_in list b)) (ap (number_in list) (sym here) ∙ same) ahead))
  ]
  | inr later ↦ elim in_b [
    | inl here ↦ absurd (let ahead = each (IsBetter list person) a people later order.0 in
        not_ahead (number_in list a) (subst (λ (n : Option ℕ). IsAhead n (number_in list a)) (ap (number_in list) (sym here) ∙ sym same) ahead))
    | inr later_too ↦ one_number list people order.1 a b later later_too same
  ]
]

-- ---- the person in place of somebody worse

-- before people who are all worse the person is the first
first_of_all : (list : ListId) (person : Person) (people : List Person) → AllByRecursion (IsBetter list person) people → (rest : List Person) × (with_person list person people ≡ person ∷ rest)
first_of_all list person [] worse = ([], refl)
first_of_all list person (other ∷ people) worse = elim (cases_Bool (is_better list person other)) [
  | inl holds ↦ (other ∷ people, cond-true _ _ _ holds)
  | inr fails ↦ absurd (not_ahead_means (number_in list person) (number_in list other) fails worse.0)
]

-- the persons in merit order are somewhere worse than those with the person in place of somebody worse
pub somewhere_worse : (list : ListId) (chosen : List Person) (person other : Person) → Pairwise (IsBetter list) chosen → AreDistinct chosen → IsAmong other chosen → IsBetter list person other
    → IsNoWorse list chosen (with_person list person (without other.id chosen)) → ⊥
somewhere_worse list [] person other order distinct among better no_worse = among
somewhere_worse list (one ∷ chosen) person other order distinct among better no_worse = elim (cases_Bool (is_better list person one)) [
  | inl holds ↦
      let ahead : IsBetter list person one = ahead_true (number_in list person) (number_in list one) holds in
      let all : AllByRecursion (IsBetter list person) (one ∷ chosen) =
      (ahead, all_weaker (IsBetter list one) (IsBetter list person) (λ (x : Person) h. better_again list person one x ahead h) chosen order.0) in
      let first = first_of_all list person (without other.id (one ∷ chosen)) (all_without (IsBetter list person) other.id (one ∷ chosen) all) in
      let here = (subst (IsNoWorse list (one ∷ chosen)) first.1 no_worse).0 in
      elim here [
        | inl same ↦ not_ahead (number_in list person) (subst (λ (x : Person). IsBetter list person x) same ahead)
        | inr back ↦ not_both_better list person one ahead back
      ]
  | inr fails ↦ elim among [
    | inl here ↦ not_ahead_means (number_in list person) (number_in list one) fails (subst (λ (x : Person). IsBetter list person x) here better)
    | inr later ↦
        let apart : one.id ≢ other.id = each (λ (x : Person). one.id ≢ x.id) other chosen later distinct.0 in
        let made : with_person list person (without other.id (one ∷ chosen)) ≡ one ∷ with_person list person (without other.id chosen) =
        ap (with_person list person) (without_later other.id one chosen apart) ∙ cond-false _ _ _ fails in
        somewhere_worse list chosen person other order.1 distinct.1 later better (subst (IsNoWorse list (one ∷ chosen)) made no_worse).1
  ]
]

-- ---- a step that refuses

-- a person of a step who is not chosen
pub record IsRefusedBy (step : Step) (chosen : List Person) (person : Person) : Type 0 where
  pub is_step : IsStep step
  pub choice : IsStepChoice step chosen
  pub among : IsAmong person step.people
  pub refused : IsAmong person chosen → ⊥

module _ (step : Step) (chosen : List Person) (person : Person) (r : IsRefusedBy step chosen person) where
  -- every seat is taken
  pub all_taken : OneChoice → ChoiceSize → SeatsForAll → length chosen ≡ step.seats
  all_taken one size for_all = elim (cases_lt step.seats (length step.people)) [
    | inl more ↦ omega (arith, size step chosen r.is_step r.choice, more)
    | inr enough ↦ absurd (r.refused (subst (IsAmong person) (one step step.people chosen r.is_step (for_all step r.is_step enough) r.choice) r.among))
  ]

  chosen_among : AreAmong chosen step.people
  chosen_among = among_sublist chosen step.people r.choice.may.people

  in_people : (other : Person) → IsAmong other chosen → IsAmong other step.people
  in_people other there = any_among (λ x. other ≡ x) chosen step.people chosen_among there

  -- nobody chosen is the person
  apart : (other : Person) → IsAmong other chosen → person ≢ other
  apart other there same = r.refused (subst (λ (x : Person). IsAmong x chosen) (sym same) there)

  chosen_ranked : AreRanked step.list chosen
  chosen_ranked = record {
    traits = AllByRecursion-sublist _ _ _ r.choice.may.people r.is_step.people.traits;
    placed = AllByRecursion-sublist _ _ _ r.choice.may.people r.is_step.people.placed;
    in_order = pairwise_sublist _ _ _ r.choice.may.people r.is_step.people.in_order;
    distinct = pairwise_sublist _ _ _ r.choice.may.people r.is_step.people.distinct;
  }

  left_ranked : (other : Person) → AreRanked step.list (without other.id chosen)
  left_ranked other = record {
    traits = all_without _ other.id chosen chosen_ranked.traits;
    placed = all_without _ other.id chosen chosen_ranked.placed;
    in_order = pairwise_without _ other.id chosen chosen_ranked.in_order;
    distinct = pairwise_without _ other.id chosen chosen_ranked.distinct;
  }

  new_to_chosen : IsNewTo step.list chosen person
  new_to_chosen = record {
    traits = each (λ (x : Person). IsTraitSet x.traits) person step.people r.among r.is_step.people.traits;
    placed = each (λ (x : Person). IsSome (number_in step.list x)) person step.people r.among r.is_step.people.placed;
    distinct = all_weaker (λ (x : Person). IsAmong x chosen) (λ (x : Person). person.id ≢ x.id)
        (λ (x : Person) there same. apart x there (one_person step.people r.is_step.people.distinct person x r.among (in_people x there) same)) chosen (among_itself chosen);
    numbers = all_weaker (λ (x : Person). IsAmong x chosen) (λ (x : Person). number_in step.list person ≢ number_in step.list x)
        (λ (x : Person) there same. apart x there (one_number step.list step.people r.is_step.people.in_order person x r.among (in_people x there) same)) chosen (among_itself chosen);
  }

  new_to_left : (other : Person) → IsNewTo step.list (without other.id chosen) person
  new_to_left other = record {
    traits = new_to_chosen.traits;
    placed = new_to_chosen.placed;
    distinct = all_without (λ (x : Person). person.id ≢ x.id) other.id chosen new_to_chosen.distinct;
    numbers = all_without (λ (x : Person). number_in step.list person ≢ number_in step.list x) other.id chosen new_to_chosen.numbers;
  }

  may_admit : RankedPart → WithPersonRanks → (other : Person) → IsAmong other chosen → MayAdmit step (with_person step.list person (without other.id chosen))
  may_admit part ranks other there =
      let swap : List Person = with_person step.list person (without other.id chosen) in
      let ranked = ranks step.list (without other.id chosen) person (left_ranked other) (new_to_left other) in
      let among : AreAmong swap step.people = among_again swap (person ∷ without other.id chosen) step.people ranked.2
      (r.among, among_again (without other.id chosen) chosen step.people (without_among other.id chosen) chosen_among) in
      let long = length_with step.list person (without other.id chosen) in
      let fewer = length_without other.id chosen (any_weaker (λ x. other ≡ x) (λ (x : Person). x.id ≡ other.id) (λ (x : Person) e. ap (λ (p : Person). p.id) (sym e)) chosen there) in
      record {
        people = part step.list swap step.people ranked.0 r.is_step.people among;
        seats = omega (arith, long, fewer, r.choice.may.seats);
      }

  -- with the person in place of somebody worse fewer are honoured
  pub fewer_honoured : RankedPart → WithPersonRanks → (other : Person) (m n : ℕ) → IsAmong other chosen → IsBetter step.list person other
      → IsHonoured step.protections (with_person step.list person (without other.id chosen)) m → IsHonoured step.protections chosen n → m < n
  fewer_honoured part ranks other m n there better theirs own =
      let swap : List Person = with_person step.list person (without other.id chosen) in
      let may = may_admit part ranks other there in
      let no_more : m ≤ n = r.choice.most swap m n may theirs own in
      elim (cases_lt m n) [
        | inl less ↦ less
        | inr back ↦ absurd (
            let same : n ≡ m = omega (arith, no_more, back) in
            somewhere_worse step.list chosen person other chosen_ranked.in_order chosen_ranked.distinct there better
            (r.choice.best swap m may theirs (subst (IsHonoured step.protections chosen) same own)))
      ]
