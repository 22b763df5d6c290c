-- Lists of a programme that break no clause name its choice.
use Rattle.std.proofs.Common.{◌≡◌, ◌≢◌, ◌≤◌, ◌+◌, ◌-◌, ℕ, zero, suc, Bool, true, false, Option, Some, None, List, [], ◌∷◌, length, take, refl, sym, ap, ◌∙◌, subst, inl, inr, arith, if◌then◌else◌}
use Rattle.std.specs.Prelude.{min}
use Rattle.std.specs.List.{AllByRecursion}
use Rattle.office_base.specs.CategorySteps.{category_steps, gives_up, own_steps, row_of}
use Rattle.office_base.specs.Lists.{IsAmong, IsSublist, Pairwise}
use Rattle.office_base.specs.Merit.{in_merit}
use Rattle.office_base.specs.Person.{IsBetter, is_common, number_in}
use Rattle.office_base.specs.Placement.{IsHonoured, IsPlacement}
use Rattle.office_base.specs.StepChoice.{AreRanked, IsStep, IsStepChoice}
use Rattle.office_base.specs.declared.person.ListId.{ListId}
use Rattle.office_base.specs.declared.person.Person.{Person}
use Rattle.office_base.specs.declared.category_steps.CategoryStep.{CategoryStep}
use Rattle.office_base.specs.declared.step.Pair.{Pair}
use Rattle.office_base.specs.declared.step.Protections.{Protections}
use Rattle.office_base.specs.declared.step.Step.{Step}
use Rattle.office_base.specs.declared.step.StepKind.{StepKind}
use Rattle.office_base.specs.declared.step.StepKind.TheVariants.{Open, Dereserved}
use Rattle.placements.specs.Ranks.{AreAmong, AreDistinct}
use Rattle.placements.proofs.Filters.{filter-sublist}
use Rattle.placements.proofs.Merit.{not_ahead}
use Rattle.placements.proofs.Ranks.{all_among, among_sublist, any_all, one_person, ranked_sublist, widen, widened}
use Rattle.placements.proofs.Sublists.{IsSublist-nil, IsSublist-same, sublist_again}
use Rattle.seat_matrix.specs.Seats.{AreProgrammeSeats, is_dereserved, seats_of}
use Rattle.seat_matrix.specs.declared.seats.ProgrammeSeats.{ProgrammeSeats}
use Rattle.programme_lists.specs.Chosen.{AreApplicants}
use Rattle.programme_lists.specs.Programme.{Admissions, is_of, left_by, left_over, members_by, people_of, step_of, unfilled, without}
use Rattle.programme_lists.specs.declared.programme.Programme.{Programme}
use Rattle.merit_choice.specs.InMerit.{InMeritRanks, RankedPart}
use Rattle.seat_matrix.proofs.Unprotected.{none_honoured}
use Rattle.list_audit.specs.Clauses.{IsSound, audited, list_of_step, named_by, seats_held, seats_shared}
use Rattle.axiom_laws.specs.Laws.{SingleExchanges}
use Rattle.list_audit.specs.Laws.{SoundListsAreTheChoice}
use Rattle.list_audit.proofs.Rows.{given_by, given_first}
use Rattle.programme_lists.proofs.Parts.{people_part}

-- ---- the people of a step

-- ---- a person who is named

-- people in merit order among distinct people are distinct
apart_in_order : (list : ListId) (people : List Person) (one : Person) (others : List Person) → AreDistinct people → IsAmong one people → AreAmong others people
    → AllByRecursion (IsBetter list one) others → AllByRecursion (λ other. one.id ≢ other.id) others
apart_in_order list people one [] distinct there among better = tt
apart_in_order list people one (other ∷ others) distinct there among better = (
  (λ e.
      let same : one ≡ other = one_person people distinct one other there among.0 e in
      not_ahead (number_in list one) (subst (λ (p : Person). IsBetter list one p) (sym same) better.0)),
  apart_in_order list people one others distinct there among.1 better.1,
)

distinct_in_order : (list : ListId) (people named : List Person) → AreDistinct people → AreAmong named people → Pairwise (IsBetter list) named → AreDistinct named
distinct_in_order list people [] distinct among order = tt
distinct_in_order list people (one ∷ named) distinct among order =
    (apart_in_order list people one named distinct among.0 among.1 order.0, distinct_in_order list people named distinct among.1 order.1)

-- people in merit order among ranked people are ranked
pub ranked_among : (list : ListId) (people named : List Person) → AreRanked list people → AreAmong named people → Pairwise (IsBetter list) named → AreRanked list named
ranked_among list people named ranked among order = record {
  traits = all_among _ named people among ranked.traits;
  placed = all_among _ named people among ranked.placed;
  in_order = order;
  distinct = distinct_in_order list people named ranked.distinct among order;
}

-- those named honour as much as the pairs that place them, where all people honour no more
pub honoured_named : (protections : Protections) (people named : List Person) (pairs : List Pair) → AreAmong named people → IsPlacement protections named pairs
    → IsHonoured protections people (length pairs) → IsHonoured protections named (length pairs)
honoured_named protections people named pairs among placed most = record {
  reached = (pairs, placed, refl);
  most = λ others p. most.most others (widened protections named people others among p);
}

-- ---- the best of the people

-- where nobody who is named is worse than somebody who is not, the named are the first of the people
pub best_named : (list : ListId) (people named : List Person) (n : ℕ) → AreRanked list people → IsSublist named people → length named ≡ min n (length people)
    → ((one worse : Person) → IsAmong one people → (IsAmong one named → ⊥) → IsAmong worse named → IsBetter list one worse → ⊥) → named ≡ take n people
best_named list [] named zero ranked sub count none = sub
best_named list [] named (suc n) ranked sub count none = sub
best_named list (one ∷ people) [] zero ranked sub count none = refl
best_named list (one ∷ people) (other ∷ named) zero ranked sub count none = absurd (omega (arith, count))
best_named list (one ∷ people) named (suc n) ranked sub count none = elim sub [
  | inl later ↦ absurd (left_out named later count none)
  | inr now ↦
      let rest : now.0 ≡ take n people =
      best_named list people now.0 n (record { traits = ranked.traits.1; placed = ranked.placed.1; in_order = ranked.in_order.1; distinct = ranked.distinct.1 }) now.2
      (let size = ap length now.1 in omega (arith, size, count))
      (λ a b there gone here better.
      let fresh : IsAmong a named → ⊥ = λ is. elim (subst (IsAmong a) now.1 is) [
        | inl first ↦
            let far = any_all (λ (o : Person). a ≡ o) (λ (o : Person). one.id ≢ o.id) people there ranked.distinct.0 in
            far.2 (ap (λ (p : Person). p.id) (sym first) ∙ ap (λ (p : Person). p.id) far.1)
        | inr again ↦ gone again
      ] in
      none a b (inr there) fresh (subst (IsAmong b) (sym now.1) (inr here)) better) in
      now.1 ∙ ap (λ (those : List Person). one ∷ those) rest
]
  where
    left_out : (named : List Person) → IsSublist named people → length named ≡ min (suc n) (suc (length people))
        → ((a worse : Person) → IsAmong a (one ∷ people) → (IsAmong a named → ⊥) → IsAmong worse named → IsBetter list a worse → ⊥) → ⊥
    left_out [] sub count none = omega (arith, count)
    left_out (other ∷ named) sub count none =
        let inside : IsAmong other people = (among_sublist (other ∷ named) people sub).0 in
        let better = any_all (λ (o : Person). other ≡ o) (IsBetter list one) people inside ranked.in_order.0 in
        let gone : IsAmong one (other ∷ named) → ⊥ = λ there.
        let far = any_all (λ (o : Person). one ≡ o) (λ (o : Person). one.id ≢ o.id) people (widen one (other ∷ named) people (among_sublist (other ∷ named) people sub) there) ranked.distinct.0 in
        far.2 (ap (λ (p : Person). p.id) far.1) in
        none one other (inl refl) gone (inl refl) (subst (IsBetter list one) (sym better.1) better.2)

-- ---- the seats of the last step

-- the persons named and the seats left unfilled make up the seats, row by row
each_shared : (version : ℕ) (seats held : StepKind → ℕ) (rows : List CategoryStep) → ((kind : StepKind) → held kind ≤ seats kind)
    → given_by version held rows + given_by version (λ kind. seats kind - held kind) rows ≡ given_by version seats rows
each_shared version seats held [] few = refl
each_shared version seats held (row ∷ rows) few =
    let a = given_first version held row rows in
    let b = given_first version (λ kind. seats kind - held kind) row rows in
    let c = given_first version seats row rows in
    let one = by_row (gives_up row version) (held row.step) (seats row.step) (few row.step) in
    let rest = each_shared version seats held rows few in
    omega (arith, a, b, c, one, rest)
  where
    by_row : (b : Bool) (n all : ℕ) → n ≤ all → (if b then n else 0) + (if b then all - n else 0) ≡ (if b then all else 0)
    by_row true n all within = omega (arith, within)
    by_row false n all within = refl

-- whom the steps with seats of their own name
abbrev by_own : Admissions → Admissions
by_own named Dereserved = []
by_own named kind = named kind

-- so the last step has the seats that are left unfilled
shared_by : (version : ℕ) (seats : ProgrammeSeats) (named : Admissions) (n : ℕ) → ((kind : StepKind) → length (by_own named kind) ≤ (seats_of seats kind).seats)
    → n + seats_held version named ≡ seats_shared version seats → n ≡ unfilled version seats named
shared_by version seats named n few told =
    let all = each_shared version (λ kind. (seats_of seats kind).seats) (λ kind. length (by_own named kind)) category_steps few in
    let same : n + seats_held version named ≡ seats_held version named + unfilled version seats named = told ∙ sym all in
    omega (arith, same)

module _ (single_exchanges : SingleExchanges) (ranked_part : RankedPart) (in_merit_ranks : InMeritRanks) where
  -- a step with seats of its own, in which no clause is broken, admits those whom its list names
  sound_step : (version : ℕ) (seats : ProgrammeSeats) (people : List Person) (programme : Programme) (kind : StepKind) → AreProgrammeSeats seats → AreApplicants seats.list people
      → IsSound (audited version seats people programme kind) → (list_of_step programme kind).seats ≡ (seats_of seats kind).seats
      → IsStepChoice (step_of seats (in_merit seats.list people) (named_by programme) kind) (list_of_step programme kind).admitted
  sound_step version seats people programme kind ok may sound own =
      let step : Step = step_of seats (in_merit seats.list people) (named_by programme) kind in
      let named : List Person = (list_of_step programme kind).admitted in
      let ranked : AreRanked seats.list step.people =
      ranked_sublist seats.list step.people (in_merit seats.list people) (in_merit_ranks seats.list people may).0 (people_part seats.list (in_merit seats.list people) (named_by programme) kind) in
      let is_step : IsStep step = record { list = ok.list; people = ranked; protections = (ok.steps kind).protections } in
      let order = ranked_among seats.list step.people named ranked sound.candidates.people sound.candidates.in_order in
      let sub = ranked_part seats.list named step.people order ranked sound.candidates.people in
      let size : length named ≡ min step.seats (length step.people) = sound.size ∙ ap (λ (n : ℕ). min n (length step.people)) own in
      let honoured = honoured_named step.protections step.people named (list_of_step programme kind).cert.pairs sound.candidates.people sound.certified.placement sound.certified.most in
      single_exchanges step named (length (list_of_step programme kind).cert.pairs) is_step sub size honoured sound.certified.most
      (λ person worse over. sound.best person (worse, over))

  -- the last step admits the best
  sound_last : (version : ℕ) (seats : ProgrammeSeats) (people : List Person) (programme : Programme) → AreApplicants seats.list people
      → IsSound (audited version seats people programme Dereserved)
      → (list_of_step programme Dereserved).admitted ≡ take (list_of_step programme Dereserved).seats (people_of seats.list (in_merit seats.list people) (named_by programme) Dereserved)
  sound_last version seats people programme may sound =
      let stand : List Person = people_of seats.list (in_merit seats.list people) (named_by programme) Dereserved in
      let named : List Person = (list_of_step programme Dereserved).admitted in
      let ranked : AreRanked seats.list stand =
      ranked_sublist seats.list stand (in_merit seats.list people) (in_merit_ranks seats.list people may).0 (people_part seats.list (in_merit seats.list people) (named_by programme) Dereserved) in
      let order = ranked_among seats.list stand named ranked sound.candidates.people sound.candidates.in_order in
      let sub = ranked_part seats.list named stand order ranked sound.candidates.people in
      best_named seats.list stand named (list_of_step programme Dereserved).seats ranked sub sound.size
      (λ one worse there gone here better. sound.best one (
        worse,
        record {
          stands = there;
          unlisted = gone;
          there = here;
          better = better;
          as_much = λ m n ours theirs. (let none = none_honoured named m ours in omega (arith, none));
        },
      ))

  pub sound_lists : SoundListsAreTheChoice
  sound_lists version seats people programme ok may sound = record {
    own = λ kind own. sound_step version seats people programme kind ok may (sound kind) (has_own kind own);
    dereserved =
        sound_last version seats people programme may (sound Dereserved)
        ∙ ap (λ (n : ℕ). take n (people_of seats.list (in_merit seats.list people) (named_by programme) Dereserved))
        (shared_by version seats (named_by programme) (list_of_step programme Dereserved).seats within (sound Dereserved).numbers.seats);
  }
    where
      has_own : (kind : StepKind) → is_dereserved kind ≡ false → (list_of_step programme kind).seats ≡ (seats_of seats kind).seats
      has_own Dereserved own = absurd (cc own)
      has_own kind own = (sound kind).numbers.seats

      within : (kind : StepKind) → length (by_own (named_by programme) kind) ≤ (seats_of seats kind).seats
      within Dereserved = omega arith
      within kind = let size = (sound kind).size in let told = (sound kind).numbers.seats in omega (arith, size, told)
