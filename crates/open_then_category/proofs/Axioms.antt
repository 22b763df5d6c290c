-- A programme's choice meets the axioms of Sönmez and Yenmez.
use Rattle.std.proofs.Common.{◌≡◌, ◌≢◌, ◌≤◌, ◌<◌, ℕ, zero, suc, true, List, [], ◌∷◌, length, take, refl, sym, ap, subst, inl, inr, arith}
use Rattle.std.specs.List.{filter}
use Rattle.office_base.specs.Lists.{IsAmong, IsSublist}
use Rattle.office_base.specs.Person.{IsBetter, is_common}
use Rattle.office_base.specs.StepChoice.{AreRanked, IsNoWorse, IsStep, IsStepChoice}
use Rattle.office_base.specs.declared.person.ListId.{ListId}
use Rattle.office_base.specs.declared.person.Person.{Person}
use Rattle.office_base.specs.declared.step.Step.{Step}
use Rattle.office_base.specs.declared.step.StepKind.{StepKind}
use Rattle.office_base.specs.declared.step.StepKind.TheVariants.{Open, Dereserved}
use Rattle.office_base.proofs.Lists.{length_take_most}
use Rattle.placements.proofs.Filters.{among_filter_from}
use Rattle.placements.proofs.Greatest.{honoured-exists}
use Rattle.placements.proofs.Ranks.{monotone, among_itself, among_sublist, any_all, ranked_sublist, widen}
use Rattle.placements.proofs.Sublists.{IsSublist-tail, IsSublist-take}
use Rattle.seat_matrix.specs.Seats.{AreProgrammeSeats, no_protections, seats_of}
use Rattle.seat_matrix.specs.declared.seats.ProgrammeSeats.{ProgrammeSeats}
use Rattle.seat_matrix.specs.declared.seats.Seating.{Seating}
use Rattle.seat_matrix.proofs.Unprotected.{none_honoured}
use Rattle.programme_lists.specs.Programme.{Admissions, IsProgrammeChoice, admitted_by, people_of, step_with, unfilled}
use Rattle.open_then_category.specs.Laws.{ChoicesMeetAxioms, IsOverAndAbove, MeetsStepAxioms, OpenComesFirst, whole_step}
use Rattle.open_then_category.specs.StepLaws.{AreLawful}
use Rattle.open_then_category.proofs.Last.{all_chosen}
use Rattle.open_then_category.proofs.Once.{each_sound, ranked_one_step}
use Rattle.open_then_category.proofs.ProgrammeLaws.{filtered_step, last_sublist}
use Rattle.open_then_category.proofs.Rows.{open_choice, rest_of}
use Rattle.programme_lists.proofs.Walk.{ranked_without}

-- ---- without protections the best are the choice

-- the best are the same or better at every merit place
best_no_worse : (list : ListId) (n : ℕ) (people others : List Person) → AreRanked list people → IsSublist others people → length others ≤ n → IsNoWorse list (take n people) others
best_no_worse list n people [] ranked sub few = tt
best_no_worse list zero people (other ∷ others) ranked sub few = absurd (omega (arith, few))
best_no_worse list (suc n) [] (other ∷ others) ranked sub few = absurd (let none = ap length sub in omega (arith, none))
best_no_worse list (suc n) (person ∷ people) (other ∷ others) ranked sub few =
    let rest : AreRanked list people = record { traits = ranked.traits.1; placed = ranked.placed.1; in_order = ranked.in_order.1; distinct = ranked.distinct.1 } in
    elim sub [
      | inl skips ↦
          let found = any_all (λ (one : Person). other ≡ one) (IsBetter list person) people (among_sublist (other ∷ others) people skips).0 ranked.in_order.0 in
          (inr (subst (IsBetter list person) (sym found.1) found.2), best_no_worse list n people others rest (IsSublist-tail other others people skips) (omega (arith, few)))
      | inr takes ↦
          let first : other ≡ person = cc (takes.1) in
          let later : others ≡ takes.0 = cc (takes.1) in
          (inl (sym first), best_no_worse list n people others rest (subst (λ (l : List Person). IsSublist l people) (sym later) takes.2) (omega (arith, few)))
    ]

best_chosen : (list : ListId) (n : ℕ) (people : List Person) → AreRanked list people → IsStepChoice (record { list = list; seats = n; protections = no_protections; people = people }) (take n people)
best_chosen list n people ranked = record {
  may = record { people = IsSublist-take n people; seats = length_take_most n people };
  most = λ other m k may theirs ours. (let none = none_honoured other m theirs in omega (arith, none));
  best = λ other m may theirs ours. best_no_worse list n people other ranked may.people may.seats;
}

-- ---- each step

-- a step with the seats that it fills, and its choice
record Chosen (step : Step) (chosen : List Person) : Type 0 where
  pub is_step : IsStep step
  pub choice : IsStepChoice step chosen

step_axioms : AreLawful → (step : Step) (chosen : List Person) → Chosen step chosen → MeetsStepAxioms step chosen
step_axioms laws step chosen c = record {
  non_wasteful = λ empty person here. subst (IsAmong person) (sym (all_chosen laws step chosen c.is_step c.choice empty)) here;
  greatest = c.choice.most;
  as_all = λ m n all mine. laws.honours_as_all step chosen m n c.is_step c.choice all mine;
  no_justified_envy = λ better worse m n there gone here ahead his mine. laws.no_justified_envy step chosen better worse m n c.is_step c.choice there gone here ahead his mine;
}

module _ (version : ℕ) (seats : ProgrammeSeats) (applicants : List Person) (admissions : Admissions) (ok : AreProgrammeSeats seats) (ranked : AreRanked seats.list applicants)
    (choice : IsProgrammeChoice version seats applicants admissions) where
  rest_ranked : AreRanked seats.list (rest_of applicants admissions)
  rest_ranked = ranked_without seats.list applicants (admissions Open) ranked

  chosen_at : (kind : StepKind) → Chosen (whole_step version seats applicants admissions kind) (admitted_by admissions kind)
  chosen_at Open = record { is_step = filtered_step seats.list (seats_of seats Open) _ applicants ok.list (ok.steps Open) ranked; choice = open_choice version seats applicants admissions choice }
  chosen_at Dereserved =
      let people = people_of seats.list applicants admissions Dereserved in
      let people_ranked = ranked_sublist seats.list people applicants ranked (last_sublist seats.list applicants admissions) in
      let step = whole_step version seats applicants admissions Dereserved in
      record {
        is_step = record { list = ok.list; people = people_ranked; protections = omega arith };
        choice = subst (IsStepChoice step) (sym choice.dereserved) (best_chosen seats.list (unfilled version seats admissions) people people_ranked);
      }
  chosen_at kind = record { is_step = filtered_step seats.list (seats_of seats kind) _ (rest_of applicants admissions) ok.list (ok.steps kind) rest_ranked; choice = choice.own kind refl }

  over_and_above : AreLawful → (kind : StepKind) (person : Person) → kind ≢ Open → IsAmong person applicants → IsAmong person (admitted_by admissions kind) → is_common seats.list person ≡ true
      → IsOverAndAbove seats admissions person
  over_and_above laws kind person other there here common =
      let open_step = step_axioms laws _ _ (chosen_at Open) in
      let gone : IsAmong person (admissions Open) → ⊥ = λ taken. other (ranked_one_step version seats applicants admissions person kind Open choice here taken) in
      let stands = among_filter_from (is_common seats.list) person applicants there common in
      record {
        full = filled (length (admissions Open)) (seats_of seats Open).seats (open_choice version seats applicants admissions choice).may.seats (λ empty. gone (open_step.non_wasteful empty person stands));
        no_place = λ worse m n taken ahead his mine. open_step.no_justified_envy person worse m n stands gone taken ahead his mine;
        no_more = λ m n more mine.
            let people = filter (is_common seats.list) applicants in
            let k = honoured-exists (seats_of seats Open).protections people (chosen_at Open).is_step.people.distinct in
            let low = monotone (seats_of seats Open).protections (person ∷ (admissions Open)) people m k.0 (stands, among_sublist (admissions Open) people (open_choice version seats applicants admissions choice).may.people) more k.1 in
            let same = open_step.as_all k.0 n k.1 mine in
            omega (arith, low, same);
      }
    where
      filled : (a b : ℕ) → a ≤ b → (a < b → ⊥) → a ≡ b
      filled zero zero le never = refl
      filled zero (suc b) le never = absurd (never (omega arith))
      filled (suc a) zero le never = absurd (omega (arith, le))
      filled (suc a) (suc b) le never = ap suc (filled a b (omega (arith, le)) (λ less. never (omega (arith, less))))

  admitted_there : (kind : StepKind) (person : Person) → IsAmong person (admitted_by admissions kind) → IsAmong person applicants
  admitted_there kind person here = widen person (admissions kind) applicants (each_sound version seats applicants admissions kind ranked.distinct choice).within here

pub choices_meet_axioms : AreLawful → ChoicesMeetAxioms
choices_meet_axioms laws version seats applicants admissions ok ranked choice = record {
  open_first = open_choice version seats applicants admissions choice;
  over_and_above = λ kind person other here common.
      over_and_above version seats applicants admissions ok ranked choice laws kind person other (admitted_there version seats applicants admissions ok ranked choice kind person here) here common;
  at_steps = λ kind. step_axioms laws _ _ (chosen_at version seats applicants admissions ok ranked choice kind);
}

-- ---- open first

one_choice : AreLawful → (step : Step) (one two : List Person) → IsStep step → IsStepChoice step one → IsStepChoice step two → one ≡ two
one_choice laws step one two ok first second =
    laws.leaving_out_refused step step one two
    (record { is_step = ok; more_is_step = ok; list = refl; seats = refl; protections = refl; people = among_itself step.people }) first second
    (λ person here gone. absurd (gone here))

pub open_comes_first : AreLawful → OpenComesFirst
open_comes_first laws version other seats others applicants one two ok ranked same_list same_seats first second =
    let step = step_with seats.list (seats_of seats Open) (filter (is_common seats.list) applicants) in
    let is_step = filtered_step seats.list (seats_of seats Open) (is_common seats.list) applicants ok.list (ok.steps Open) ranked in
    let its : IsStepChoice (step_with seats.list (seats_of seats Open) (filter (is_common seats.list) applicants)) (two Open) =
    subst (λ (l : ListId). IsStepChoice (step_with l (seats_of seats Open) (filter (is_common l) applicants)) (two Open)) same_list
    (subst (λ (s : Seating). IsStepChoice (step_with others.list s (filter (is_common others.list) applicants)) (two Open)) same_seats (open_choice other others applicants two second)) in
    one_choice laws step (one Open) (two Open) is_step (open_choice version seats applicants one first) its
