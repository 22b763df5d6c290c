-- An applicant who is better off stays admitted: by the step that admitted the person, or by an earlier one.
use Rattle.std.proofs.Common.{◌≡◌, ◌≢◌, ◌⊎◌, inl, inr, ℕ, zero, suc, Bool, true, false, Option, Some, None, List, [], ◌∷◌, length, take, arith, refl, sym, ap, ◌∙◌, subst, not}
use Rattle.std.specs.List.{AllByRecursion, filter}
use Rattle.office_base.specs.CategorySteps.{all_steps, own_steps, row_of}
use Rattle.office_base.specs.Lists.{IsAmong, Pairwise}
use Rattle.office_base.specs.Merit.{in_merit}
use Rattle.office_base.specs.Person.{IsAhead, IsBetter, is_common, number_in}
use Rattle.office_base.specs.StepChoice.{AreRanked}
use Rattle.office_base.specs.StepNumbers.{step_number}
use Rattle.office_base.specs.declared.category_steps.CategoryStep.{CategoryStep}
use Rattle.office_base.specs.declared.person.Category.{Category}
use Rattle.office_base.specs.declared.person.Category.TheVariants.{Gen}
use Rattle.office_base.specs.declared.person.ListId.{ListId}
use Rattle.office_base.specs.declared.person.Person.{Person}
use Rattle.office_base.specs.declared.step.StepKind.{StepKind}
use Rattle.office_base.specs.declared.step.StepKind.TheVariants.{Open, Dereserved}
use Rattle.office_base.proofs.Lists.{all_among, at_among, length_take_most}
use Rattle.office_base.proofs.StepNumbers.{kind_at}
use Rattle.placements.specs.Ranks.{AreAmong}
use Rattle.placements.specs.Ranks as ranks
use Rattle.placements.proofs.Filters.{among_filter, among_filter_from}
use Rattle.placements.proofs.Merit.{ahead_again, not_ahead}
use Rattle.placements.proofs.Ranks.{among_sublist, any_all, any_at, are_among, one_person, ranked_sublist, widen}
use Rattle.placements.proofs.Sublists.{IsSublist-take, length-sublist, sublist_again}
use Rattle.placements.proofs.Without.{among_without, length_without, without_sublist}
use Rattle.merit_choice.specs.Laws.{ChoiceExists, LeavingOutRefused}
use Rattle.merit_choice.proofs.InMerit.{in_merit_ranks, ranked_part}
use Rattle.merit_choice.proofs.Needed.{decides, nobody_of}
use Rattle.seat_matrix.specs.Seats.{AreProgrammeSeats, is_dereserved, seats_of}
use Rattle.seat_matrix.specs.declared.seats.ProgrammeSeats.{ProgrammeSeats}
use Rattle.programme_lists.specs.Chosen.{IsAdmitted}
use Rattle.programme_lists.specs.Programme.{Admissions, IsProgrammeChoice, is_of, is_same, is_taken, left_by, left_over, members_by, people_of, unfilled, without}
use Rattle.programme_laws.specs.Laws.{AreTheSameBut, BeingBetterOffNeverHurts, IsNoWorseOff}
use Rattle.programme_lists.proofs.Parts.{by_own, people_part, same_by_own}
use Rattle.programme_laws.proofs.Competing.{admitted_within}
use Rattle.programme_laws.proofs.PassedOver.{best_first, left_or_by, taken_or_left}
use Rattle.programme_laws.proofs.StillChosen.{AreReplaced, IsTheSame, same_choice, still_chosen}

-- ---- those who pass a test

replaced_filter : (p : Person → Bool) (before after : Person) (people others : List Person) → AreReplaced before after people others → AreReplaced before after (filter p people) (filter p others)
replaced_filter p before after people others replaced = record {
  to = λ q here apart. let f = among_filter p q people here in among_filter_from p q others (replaced.to q f.0 apart) f.1;
  back = λ q here apart. let f = among_filter p q others here in among_filter_from p q people (replaced.back q f.0 apart) f.1;
  only = λ q here e. replaced.only q (among_filter p q people here).0 e;
  only_after = λ q here e. replaced.only_after q (among_filter p q others here).0 e;
}

replaced_left : (taken : List Person) (before after : Person) (people others : List Person) → AreReplaced before after people others
    → AreReplaced before after (without people taken) (without others taken)
replaced_left taken before after people others replaced = replaced_filter (λ one. not (is_taken taken one)) before after people others replaced

-- and so those whom the same steps leave
left_replaced : (kinds : List StepKind) (admissions : Admissions) (before after : Person) (people others : List Person) → AreReplaced before after people others
    → AreReplaced before after (left_by kinds people admissions) (left_by kinds others admissions)
left_replaced [] admissions before after people others replaced = replaced
left_replaced (kind ∷ kinds) admissions before after people others replaced =
    left_replaced kinds admissions before after (without people (admissions kind)) (without others (admissions kind)) (replaced_left (admissions kind) before after people others replaced)

-- and the members of a category
members_replaced : (row : Option CategoryStep) (before after : Person) (people others : List Person) → AreReplaced before after people others
    → AreReplaced before after (members_by row people) (members_by row others)
members_replaced None before after people others replaced =
    record { to = λ p here. absurd here; back = λ p here. absurd here; only = λ p here. absurd here; only_after = λ p here. absurd here }
members_replaced (Some row) before after people others replaced = replaced_filter (is_of row.category) before after people others replaced

-- ---- the first of some people

taken_full : (n : ℕ) (people : List Person) (person : Person) → IsAmong person people → (IsAmong person (take n people) → ⊥) → length (take n people) ≡ n
taken_full zero people person there gone = refl
taken_full (suc n) [] person there gone = absurd there
taken_full (suc n) (x ∷ people) person there gone = elim there [
  | inl first ↦ absurd (gone (inl first))
  | inr later ↦ ap suc (taken_full n people person later (λ here. gone (inr here)))
]

taken_ahead : (list : ListId) (n : ℕ) (people : List Person) (one other : Person) → Pairwise (IsBetter list) people → IsAmong one (take n people) → IsAmong other people
    → (IsAmong other (take n people) → ⊥) → IsBetter list one other
taken_ahead list zero people one other order here there gone = absurd here
taken_ahead list (suc n) [] one other order here there gone = absurd here
taken_ahead list (suc n) (x ∷ people) one other order here there gone = elim there [
  | inl first ↦ absurd (gone (inl first))
  | inr later ↦ elim here [
    | inl is ↦
        let behind = any_all (λ p. other ≡ p) (IsBetter list x) people later order.0 in
        let ahead : IsBetter list x other = subst (λ p. IsBetter list x p) (sym behind.1) behind.2 in
        subst (λ p. IsBetter list p other) (sym is) ahead
    | inr among ↦ taken_ahead list n people one other order.1 among later (λ inside. gone (inr inside))
  ]
]

module _ (list : ListId) (n : ℕ) (people others : List Person) (ranked : AreRanked list people) (ranked' : AreRanked list others) (before after : Person)
    (replaced : AreReplaced before after people others) (same : IsTheSame list before after) where
  ahead_before : (one : Person) → IsBetter list one after → IsBetter list one before
  ahead_before one ahead = by_place same.place
    where
      by_place : (number_in list after ≡ number_in list before) ⊎ IsBetter list after before → IsBetter list one before
      by_place (inl e) = subst (λ k. IsAhead (number_in list one) k) e ahead
      by_place (inr better) = ahead_again (number_in list one) (number_in list after) (number_in list before) ahead better

  -- a person who was one of the first is still one of them
  still_first : IsAmong before (take n people) → IsAmong after others → IsAmong after (take n others)
  still_first here there = elim (decides after (take n others) others ranked'.distinct (among_sublist (take n others) others (IsSublist-take n others)) there) [
    | inl taken ↦ taken
    | inr apart ↦ absurd (
        let gone : IsAmong after (take n others) → ⊥ = λ inside. nobody_of after (take n others) apart inside in
        let full = taken_full n others after there gone in
        let within : AreAmong (take n others) (ranks.without before.id (take n people)) = are_among (take n others) (ranks.without before.id (take n people)) (λ q inside.
        let q_there = widen q (take n others) others (among_sublist (take n others) others (IsSublist-take n others)) inside in
        let ahead = taken_ahead list n others q after ranked'.in_order inside there gone in
        let other : q.id ≢ before.id = λ e. not_ahead (number_in list after) (subst (λ p. IsBetter list p after) (replaced.only_after q q_there e) ahead) in
        let first = best_first list n people q before ranked.in_order (replaced.back q q_there other) here (ahead_before q ahead) in
        among_without before.id q (take n people) first other) in
        let part = ranked_part list (take n others) (ranks.without before.id (take n people)) (ranked_sublist list (take n others) others ranked' (IsSublist-take n others))
        (ranked_sublist list (ranks.without before.id (take n people)) people ranked
        (sublist_again _ _ _ (without_sublist before.id (take n people)) (IsSublist-take n people))) within in
        let short = length-sublist (take n others) (ranks.without before.id (take n people)) part in
        let one_more = length_without before.id (take n people) (any_at (λ member. member.id ≡ before.id) before (take n people) here refl) in
        let few = length_take_most n people in
        omega (arith, full, short, one_more, few))
  ]

-- ---- the steps of a programme

-- some step has the first of two, or each step has the second
some_or_each : (P Q : StepKind → Type 0) (kinds : List StepKind) → ((kind : StepKind) → P kind ⊎ Q kind) → ((kind : StepKind) × P kind) ⊎ AllByRecursion Q kinds
some_or_each P Q [] each = inr tt
some_or_each P Q (kind ∷ kinds) each = elim (each kind) [
  | inl first ↦ inl (kind, first)
  | inr second ↦ elim (some_or_each P Q kinds each) [ inl found ↦ inl found | inr rest ↦ inr (second, rest) ]
]

-- a category that is declared is not GEN
no_gen : (category : Category) → (category ≡ Gen → ⊥) → is_same category Gen ≡ false
no_gen Gen apart = absurd (apart refl)
no_gen _ apart = refl

-- a category with seats of its own is declared
abbrev IsDeclared : Option CategoryStep → Type 0
IsDeclared None = Unit {0}
IsDeclared (Some row) = row.category ≢ Gen

declared : (kind : StepKind) → IsDeclared (row_of kind)
declared Open = tt
declared Dereserved = tt
declared kind = λ e. cc e

module _ (exists : ChoiceExists) (leaving : LeavingOutRefused) (version : ℕ) (seats : ProgrammeSeats) (people others : List Person) (admissions changed : Admissions) (ok : AreProgrammeSeats seats)
    (ranked : AreRanked seats.list people) (ranked' : AreRanked seats.list others) (choice : IsProgrammeChoice version seats people admissions)
    (choice' : IsProgrammeChoice version seats others changed) (before after : Person) (replaced : AreReplaced before after people others) (there' : IsAmong after others)
    (better : IsNoWorseOff seats.list before after) where
  same : IsTheSame seats.list before after
  same = record { id = better.id; traits = better.traits; place = better.place }

  -- the step admits the person after, or admits the same persons, and not this one
  abbrev IsSettled : StepKind → Type 0
  IsSettled kind = IsAmong after (changed kind) ⊎ ((IsAmong before (admissions kind) → ⊥) × (admissions kind ≡ changed kind))

  by_step : (kind : StepKind) → is_dereserved kind ≡ false
      → AreReplaced before after (people_of seats.list people admissions kind) (people_of seats.list others changed kind)
      → (IsAmong before (people_of seats.list people admissions kind) → IsAmong after (people_of seats.list others changed kind)) → IsSettled kind
  by_step kind own there moves =
      let some = people_of seats.list people admissions kind in
      let some' = people_of seats.list others changed kind in
      let one = choice.own kind own in
      let two = choice'.own kind own in
      let part' = people_part seats.list others changed kind in
      elim (decides after (changed kind) others ranked'.distinct (admitted_within version seats others changed kind choice') there') [
        | inl taken ↦ inl taken
        | inr apart ↦
            let gone : IsAmong after (changed kind) → ⊥ = λ inside. nobody_of after (changed kind) apart inside in
            let seating = seats_of seats kind in
            let few = (ok.steps kind).protections in
            let some_ranked = ranked_sublist seats.list some people ranked (people_part seats.list people admissions kind) in
            let some_ranked' = ranked_sublist seats.list some' others ranked' part' in
            let out : IsAmong before (admissions kind) → ⊥ = λ here.
            still_chosen seats.list seating.seats seating.protections some some' ok.list few some_ranked some_ranked' before after there same (admissions kind) (changed kind) one two here
            (moves (widen before (admissions kind) some (among_sublist (admissions kind) some one.may.people) here)) gone in
            inr (out, same_choice seats.list seating.seats seating.protections some some' ok.list few some_ranked some_ranked' before after there same exists leaving (admissions kind) (changed kind) one two out gone)
      ]

  -- an applicant who stays a member stays one of those whom the open step left
  of_same : (row : Option CategoryStep) (some some' : List Person) → IsDeclared row → IsAmong before (members_by row some) → IsAmong after some' → IsAmong after (members_by row some')
  of_same None some some' declared here there = absurd here
  of_same (Some row) some some' declared here there =
      among_filter_from (is_of row.category) after some' there (by_category better.category (among_filter (is_of row.category) before some here).1)
    where
      by_category : (after.category ≡ before.category) ⊎ (before.category ≡ Gen) → is_of row.category before ≡ true → is_of row.category after ≡ true
      by_category (inl e) is = ap (λ c. is_same row.category c) e ∙ is
      by_category (inr gen) is = absurd (let yes = sym (ap (λ c. is_same row.category c) gen) ∙ is in let none = no_gen row.category declared in cc)

  -- a step with seats of its own admits the same persons, and not this one
  abbrev Stays : StepKind → Type 0
  Stays kind = is_dereserved kind ≡ false → (IsAmong before (admissions kind) → ⊥) × (admissions kind ≡ changed kind)

  -- where the open step is settled, and left the person, each step admits the person after or stays
  settled : (IsAmong before (admissions Open) → ⊥) → admissions Open ≡ changed Open → IsAmong after (without others (changed Open)) → (kind : StepKind) → IsAmong after (changed kind) ⊎ Stays kind
  settled out one left Open = inr (λ own. (out, one))
  settled out one left Dereserved = inr (λ own. absurd (cc own))
  settled out one left kind =
      let moved =
      by_step kind refl
      (members_replaced (row_of kind) before after (without people (admissions Open)) (without others (changed Open))
      (subst (λ t. AreReplaced before after (without people (admissions Open)) (without others t)) one (replaced_left (admissions Open) before after people others replaced)))
      (λ here. of_same (row_of kind) (without people (admissions Open)) (without others (changed Open)) (declared kind) here left) in
      elim moved [ inl taken ↦ inl taken | inr stays ↦ inr (λ own. stays) ]

  open_settled : IsSettled Open
  open_settled =
      by_step Open refl (replaced_filter (is_common seats.list) before after people others replaced)
      (λ here. among_filter_from (is_common seats.list) after others there' (better.common (among_filter (is_common seats.list) before people here).1))

  -- where no step before the last admits the person after, these admit the same persons as before
  record AreUnchanged : Type 0 where
    pub out : (kind : StepKind) → is_dereserved kind ≡ false → IsAmong before (admissions kind) → ⊥
    pub kept : (kind : StepKind) → is_dereserved kind ≡ false → admissions kind ≡ changed kind
    pub left : IsAmong after (left_over others changed)

  by_last : AreUnchanged → IsAmong before (admissions Dereserved) → IsAmong after (changed Dereserved)
  by_last u here =
      let list = seats.list in
      let some = people_of list people admissions Dereserved in
      let some' = people_of list others changed Dereserved in
      let n = unfilled version seats admissions in
      let own : by_own admissions ≡ by_own changed = same_by_own admissions changed u.kept in
      let count : n ≡ unfilled version seats changed = ap (λ a. unfilled version seats a) own in
      let rest : AreReplaced before after (left_over people admissions) (left_over others changed) =
      subst (λ a. AreReplaced before after (left_over people admissions) (left_over others a)) own (left_replaced own_steps (by_own admissions) before after people others replaced) in
      let part = people_part list people admissions Dereserved in
      let part' = people_part list others changed Dereserved in
      let here' : IsAmong before (take n some) = subst (λ l. IsAmong before l) choice.dereserved here in
      let stood = widen before (take n some) some (among_sublist (take n some) some (IsSublist-take n some)) here' in
      let common = better.common (among_filter (is_common list) before (left_over people admissions) stood).1 in
      let stands : IsAmong after some' = among_filter_from (is_common list) after (left_over others changed) u.left common in
      let kept = still_first list n some some' (ranked_sublist list some people ranked part) (ranked_sublist list some' others ranked' part') before after
      (replaced_filter (is_common list) before after (left_over people admissions) (left_over others changed) rest) same here' stands in
      subst (λ l. IsAmong after l) (sym choice'.dereserved) (subst (λ k. IsAmong after (take k some')) count kept)

  admitted_or_unchanged : IsAdmitted changed after ⊎ AreUnchanged
  admitted_or_unchanged = elim open_settled [
    | inl taken ↦ inl (Open, taken)
    | inr o ↦ elim (taken_or_left others others (changed Open) after ranked'.distinct (within Open) there' there') [
      | inl taken ↦ inl (Open, taken)
      | inr left ↦ elim (some_or_each (λ kind. IsAmong after (changed kind)) Stays all_steps (settled o.0 o.1 left)) [
        | inl found ↦ inl found
        | inr stay ↦ elim (left_or_by others changed own_steps others after ranked'.distinct within there' there') [
          | inl taken ↦ inl taken
          | inr over ↦ inr (record {
            out = λ kind own. (of_all stay kind own).0;
            kept = λ kind own. (of_all stay kind own).1;
            left = over;
          })
        ]
      ]
    ]
  ]
    where
      within : (kind : StepKind) → AreAmong (changed kind) others
      within kind = admitted_within version seats others changed kind choice'

      of_all : AllByRecursion Stays all_steps → (kind : StepKind) → Stays kind
      of_all stay kind = all_among Stays all_steps kind stay (at_among all_steps (step_number kind) kind (kind_at kind))

  pub still_admitted : IsAdmitted admissions before → IsAdmitted changed after
  still_admitted was = elim admitted_or_unchanged [
    | inl taken ↦ taken
    | inr u ↦ by_kind u was.0 was.1
  ]
    where
      by_kind : AreUnchanged → (kind : StepKind) → IsAmong before (admissions kind) → IsAdmitted changed after
      by_kind u Dereserved here = (Dereserved, by_last u here)
      by_kind u kind here = absurd (u.out kind refl here)

-- ---- people in any order

replaced_in_order : (list : ListId) (people others : List Person) (before after : Person) → AreRanked list (in_merit list people) → AreRanked list (in_merit list others)
    → AreAmong people (in_merit list people) → AreAmong (in_merit list people) people → AreAmong others (in_merit list others) → AreAmong (in_merit list others) others
    → AreTheSameBut before after people others → after.id ≡ before.id → AreReplaced before after (in_merit list people) (in_merit list others)
replaced_in_order list people others before after ranked ranked' into back into' back' same id = record {
  to = λ p here apart. widen p others (in_merit list others) into' ((same.rest p apart).0 (widen p (in_merit list people) people back here));
  back = λ p here apart. widen p people (in_merit list people) into ((same.rest p apart).1 (widen p (in_merit list others) others back' here));
  only = λ p here e. one_person (in_merit list people) ranked.distinct p before here (widen before people (in_merit list people) into same.there) e;
  only_after = λ p here e. one_person (in_merit list others) ranked'.distinct p after here (widen after others (in_merit list others) into' same.there_after) (e ∙ sym id);
}

pub being_better_off_never_hurts : ChoiceExists → LeavingOutRefused → BeingBetterOffNeverHurts
being_better_off_never_hurts exists leaving version seats people others admissions changed before after ok may may' but better choice choice' was =
    let list = seats.list in
    let ranks = in_merit_ranks list people may in
    let ranks' = in_merit_ranks list others may' in
    still_admitted exists leaving version seats (in_merit list people) (in_merit list others) admissions changed ok ranks.0 ranks'.0 choice choice' before after
    (replaced_in_order list people others before after ranks.0 ranks'.0 ranks.1 ranks.2 ranks'.1 ranks'.2 but better.id) (widen after others (in_merit list others) ranks'.1 but.there_after) better was
