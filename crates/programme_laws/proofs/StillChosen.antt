-- A step that chooses somebody still chooses that person with more traits or a better place.
use Rattle.std.proofs.Common.{◌≡◌, ◌≢◌, ◌≤◌, ◌<◌, ◌+◌, ◌⊎◌, inl, inr, ℕ, suc, List, [], ◌∷◌, Option, Some, None, length, arith, refl, sym, ap, ◌∙◌, subst}
use Rattle.std.specs.Prelude.{sum}
use Rattle.std.specs.List.{AllByRecursion}
use Rattle.office_base.specs.Lists.{AnyByRecursion, IsAmong, IsSublist}
use Rattle.office_base.specs.Merit.{IsNewTo, is_better, with_person}
use Rattle.office_base.specs.Person.{IsAhead, IsBetter, IsList, number_in}
use Rattle.office_base.specs.Placement.{Fills, IsHonoured, IsPlacement}
use Rattle.office_base.specs.StepChoice.{AreRanked, IsNoWorse, IsStep, IsStepChoice, MayAdmit}
use Rattle.office_base.specs.declared.person.CandId.{CandId}
use Rattle.office_base.specs.declared.person.ListId.{ListId}
use Rattle.office_base.specs.declared.person.Person.{Person}
use Rattle.office_base.specs.declared.step.Pair.{Pair}
use Rattle.office_base.specs.declared.step.Protections.{Protections}
use Rattle.office_base.specs.declared.step.Step.{Step}
use Rattle.placements.specs.Ranks.{AreAmong, AreDistinct, without}
use Rattle.placements.proofs.Exchange.{Leaves}
use Rattle.placements.proofs.Greatest.{honoured-exists}
use Rattle.placements.proofs.Ranks.{among_again, among_sublist, any_all, any_at, are_among, pairwise_sublist, ranked_sublist, same_cand, widen}
use Rattle.placements.proofs.Sublists.{sublist_again}
use Rattle.placements.proofs.Without.{among_without, leaves_member, length_without, pairwise_without, without_among, without_apart, without_sublist}
use Rattle.std.proofs.lemmas.Bool.{cases_Bool, cond-false, cond-true}
use Rattle.office_base.proofs.Lists.{all_weaker}
use Rattle.merit_choice.specs.Laws.{ChoiceExists, LeavingOutRefused}
use Rattle.merit_choice.proofs.InMerit.{length-with_person, part_can_be_ranked, ranked_can, ranked_part, ranked_same, ranked_with, with_among, among_with}
use Rattle.programme_laws.specs.Laws.{HoldsEachTraitOf}

-- ---- the sum of the places

abbrev number : Option ℕ → ℕ
number None = 0
number (Some n) = n

abbrev places : ListId → List Person → ℕ
places list [] = 0
places list (person ∷ people) = number (number_in list person) + places list people

ahead_less : (a b : Option ℕ) → IsAhead a b → number a < number b
ahead_less None b ahead = absurd ahead
ahead_less (Some m) None ahead = absurd ahead
ahead_less (Some m) (Some n) ahead = ahead

not_longer : (list : ListId) (people others : List Person) → IsNoWorse list people others → length others ≤ length people
not_longer list people [] no_worse = omega arith
not_longer list [] (other ∷ others) no_worse = absurd no_worse
not_longer list (person ∷ people) (other ∷ others) no_worse = (let rest = not_longer list people others no_worse.1 in omega (arith, rest))

-- people who are no worse have no greater sum,
no_worse_sum : (list : ListId) (people others : List Person) → IsNoWorse list people others → length people ≡ length others → places list people ≤ places list others
no_worse_sum list [] [] no_worse same = omega arith
no_worse_sum list (person ∷ people) [] no_worse same = absurd (omega (arith, same))
no_worse_sum list [] (other ∷ others) no_worse same = absurd no_worse
no_worse_sum list (person ∷ people) (other ∷ others) no_worse same =
    let rest = no_worse_sum list people others no_worse.1 (omega (arith, same)) in
    elim no_worse.0 [
      | inl one ↦ (let e = ap (λ (p : Person). number (number_in list p)) one in omega (arith, rest, e))
      | inr better ↦ (let less = ahead_less (number_in list person) (number_in list other) better in omega (arith, rest, less))
    ]

-- and are the others where their sum is no smaller
no_worse_same : (list : ListId) (people others : List Person) → IsNoWorse list people others → length people ≡ length others → places list others ≤ places list people → people ≡ others
no_worse_same list [] [] no_worse same sums = refl
no_worse_same list (person ∷ people) [] no_worse same sums = absurd (omega (arith, same))
no_worse_same list [] (other ∷ others) no_worse same sums = absurd no_worse
no_worse_same list (person ∷ people) (other ∷ others) no_worse same sums =
    let below = no_worse_sum list people others no_worse.1 (omega (arith, same)) in
    elim no_worse.0 [
      | inl one ↦
          let e = ap (λ (p : Person). number (number_in list p)) one in
          let rest = no_worse_same list people others no_worse.1 (omega (arith, same)) (omega (arith, sums, e)) in
          ap (λ p. p ∷ people) one ∙ ap (λ l. other ∷ l) rest
      | inr better ↦ absurd (let less = ahead_less (number_in list person) (number_in list other) better in omega (arith, below, less, sums))
    ]

places_with : (list : ListId) (person : Person) (people : List Person) → places list (with_person list person people) ≡ number (number_in list person) + places list people
places_with list person [] = refl
places_with list person (other ∷ people) = elim (cases_Bool (is_better list person other)) [
  | inl first ↦ ap (places list) (cond-true (is_better list person other) (person ∷ other ∷ people) (other ∷ with_person list person people) first)
  | inr later ↦
      (let e = ap (places list) (cond-false (is_better list person other) (person ∷ other ∷ people) (other ∷ with_person list person people) later) in
      let rest = places_with list person people in
      omega (arith, e, rest))
]

places_leaves : (list : ListId) (person : Person) (people rest : List Person) → Leaves person people rest → places list people ≡ number (number_in list person) + places list rest
places_leaves list person [] rest leaves = absurd leaves
places_leaves list person (other ∷ people) rest leaves = elim leaves [
  | inl here ↦ (let one = ap (λ (p : Person). number (number_in list p)) here.0 in let same = ap (places list) here.1 in omega (arith, one, same))
  | inr later ↦ (let deeper = places_leaves list person people later.0 later.2 in let same = ap (places list) later.1 in omega (arith, deeper, same))
]

-- ---- a person in the place of another one of the same id

-- The second is the first person, with each trait and the same place or a better one.
pub record IsTheSame (list : ListId) (before after : Person) : Type 0 where
  pub id : after.id ≡ before.id
  pub traits : HoldsEachTraitOf after before
  pub place : (number_in list after ≡ number_in list before) ⊎ IsBetter list after before

-- the same people, but for the one of that id, who is the second person in place of the first
pub record AreReplaced (before after : Person) (people others : List Person) : Type 0 where
  pub to : (p : Person) → IsAmong p people → p.id ≢ before.id → IsAmong p others
  pub back : (p : Person) → IsAmong p others → p.id ≢ before.id → IsAmong p people
  pub only : (p : Person) → IsAmong p people → p.id ≡ before.id → p ≡ before
  pub only_after : (p : Person) → IsAmong p others → p.id ≡ before.id → p ≡ after

all_at : (P : Person → Type 0) (person : Person) (people : List Person) → IsAmong person people → AllByRecursion P people → P person
all_at P person people here all = let found = any_all (λ (o : Person). person ≡ o) P people here all in subst P (sym found.1) found.2

-- a placement of the first people places those with the second person too
fills_other : (before after : Person) (people others : List Person) → after.id ≡ before.id → HoldsEachTraitOf after before → ((p : Person) → IsAmong p people → p.id ≡ before.id → p ≡ before)
    → IsAmong after others → ((p : Person) → IsAmong p people → p.id ≢ before.id → IsAmong p others) → (pair : Pair) → AnyByRecursion (Fills pair) people → AnyByRecursion (Fills pair) others
fills_other before after people others same traits only there to pair any =
    let found = some_filler pair people any in
    elim (same_cand found.0.id before.id) [
      | inl is ↦
          let one : found.0 ≡ before = only found.0 found.1 is in
          let fills : Fills pair before = subst (λ p. Fills pair p) one found.2 in
          any_at (Fills pair) after others there (fills.0 ∙ sym same, traits pair.slot fills.1)
      | inr apart ↦ any_at (Fills pair) found.0 others (to found.0 found.1 apart) found.2
    ]
  where
    some_filler : (pair : Pair) (people : List Person) → AnyByRecursion (Fills pair) people → (p : Person) × IsAmong p people × Fills pair p
    some_filler pair [] any = absurd any
    some_filler pair (x ∷ people) any = elim any [
      | inl fills ↦ (x, inl refl, fills)
      | inr later ↦ let rest = some_filler pair people later in (rest.0, inr rest.1, rest.2)
    ]

module _ (list : ListId) (seats : ℕ) (protections : Protections) (people others : List Person) (is_list : IsList list) (few : sum protections.counts ≤ seats) (ranked : AreRanked list people)
    (ranked' : AreRanked list others) (before after : Person) (replaced : AreReplaced before after people others) (same : IsTheSame list before after) where
  abbrev step : Step
  step = record { list = list; seats = seats; protections = protections; people = people }

  abbrev step' : Step
  step' = record { list = list; seats = seats; protections = protections; people = others }

  -- those chosen after, where the person is not, are some of the people before
  outside : (chosen' : List Person) → IsSublist chosen' others → (IsAmong after chosen' → ⊥) → (p : Person) → IsAmong p chosen' → (IsAmong p people) × (p.id ≢ before.id)
  outside chosen' part gone p here =
      let there = widen p chosen' others (among_sublist chosen' others part) here in
      let apart : p.id ≢ before.id = λ e. gone (subst (λ q. IsAmong q chosen') (replaced.only_after p there e) here) in
      (replaced.back p there apart, apart)

  -- the person in the place of the one who is chosen
  abbrev swapped : List Person → List Person
  swapped chosen = with_person list after (without before.id chosen)

  rest_there : (chosen : List Person) → AreDistinct chosen → IsSublist chosen people → AreAmong (without before.id chosen) others
  rest_there chosen distinct part = are_among (without before.id chosen) others (λ p here.
      let in_chosen = widen p (without before.id chosen) chosen (without_among before.id chosen) here in
      let apart : p.id ≢ before.id = λ e. all_at (λ o. before.id ≢ o.id) p (without before.id chosen) here (without_apart before.id chosen distinct) (sym e) in
      replaced.to p (widen p chosen people (among_sublist chosen people part) in_chosen) apart)

  new_there : (chosen : List Person) → AreDistinct chosen → IsSublist chosen people → IsAmong after others → IsNewTo list (without before.id chosen) after
  new_there chosen distinct part there =
      let rest = without before.id chosen in
      let apart : AllByRecursion (λ (o : Person). after.id ≢ o.id) rest = subst (λ (c : CandId). AllByRecursion (λ (o : Person). c ≢ o.id) rest) (sym same.id) (without_apart before.id chosen distinct) in
      let can = part_can_be_ranked list (after ∷ rest) others (apart, pairwise_without (λ (a b : Person). a.id ≢ b.id) before.id chosen distinct) (ranked_can list others ranked')
      (there, rest_there chosen distinct part) in
      record { traits = can.traits.0; placed = can.placed.0; distinct = apart; numbers = can.numbers.0 }

  -- a person who was chosen is chosen still
  pub still_chosen : (chosen chosen' : List Person) → IsStepChoice step chosen → IsStepChoice step' chosen' → IsAmong before chosen → IsAmong after others → (IsAmong after chosen' → ⊥) → ⊥
  still_chosen chosen chosen' choice choice' here there gone =
      let distinct = pairwise_sublist (λ (a b : Person). a.id ≢ b.id) chosen people choice.may.people ranked.distinct in
      let distinct' = pairwise_sublist (λ (a b : Person). a.id ≢ b.id) chosen' others choice'.may.people ranked'.distinct in
      let within : AreAmong chosen' people = are_among chosen' people (λ p in_chosen. (outside chosen' choice'.may.people gone p in_chosen).0) in
      let part : IsSublist chosen' people = ranked_part list chosen' people (ranked_sublist list chosen' others ranked' choice'.may.people) ranked within in
      let may : MayAdmit step chosen' = record { people = part; seats = choice'.may.seats } in
      let rest = without before.id chosen in
      let other = swapped chosen in
      let new = new_there chosen distinct choice.may.people there in
      let rest_ranked = ranked_sublist list rest people ranked (again rest chosen people (without_sublist before.id chosen) choice.may.people) in
      let other_ranked = ranked_with list after rest rest_ranked new in
      let other_within : AreAmong other others = among_again other (after ∷ rest) others (with_among list after rest) (there, rest_there chosen distinct choice.may.people) in
      let other_part : IsSublist other others = ranked_part list other others other_ranked ranked' other_within in
      let one_more : length chosen ≡ suc (length rest) = length_without before.id chosen (any_at (λ member. member.id ≡ before.id) before chosen here refl) in
      let size : length other ≡ length chosen = length-with_person list after rest ∙ sym one_more in
      let may_other : MayAdmit step' other = record { people = other_part; seats = (let fits = choice.may.seats in omega (arith, size, fits)) } in
      let n = honoured-exists protections chosen distinct in
      let n' = honoured-exists protections chosen' distinct' in
      let m = honoured-exists protections other other_ranked.distinct in
      let first = choice.most chosen' n'.0 n.0 may n'.1 n.1 in
      let second = choice'.most other m.0 n'.0 may_other m.1 n'.1 in
      let placed : IsPlacement protections other n.1.reached.0 = record {
        held = all_weaker (λ pair. AnyByRecursion (Fills pair) chosen) (λ pair. AnyByRecursion (Fills pair) other)
            (fills_other before after chosen other same.id same.traits (λ p in_chosen e. replaced.only p (widen p chosen people (among_sublist chosen people choice.may.people) in_chosen) e)
            (among_with list after rest).0 (λ p in_chosen apart. widen p (after ∷ rest) other (among_with list after rest) (inr (among_without before.id p chosen in_chosen apart))))
            n.1.reached.0 n.1.reached.1.held;
        once = n.1.reached.1.once;
        within = n.1.reached.1.within;
      } in
      let third = m.1.most n.1.reached.0 placed in
      let count = n.1.reached.2 in
      let as_many : n.0 ≡ n'.0 = omega (arith, first, second, third, count) in
      let as_many' : m.0 ≡ n'.0 = omega (arith, first, second, third, count) in
      let best = choice.best chosen' n'.0 may n'.1 (subst (IsHonoured protections chosen) as_many n.1) in
      let best' = choice'.best other n'.0 may_other (subst (IsHonoured protections other) as_many' m.1) n'.1 in
      let long = not_longer list chosen chosen' best in
      let long' = not_longer list chosen' other best' in
      let same_size : length chosen ≡ length chosen' = omega (arith, long, long', size) in
      let sum' = no_worse_sum list chosen' other best' (omega (arith, long, long', size)) in
      let with_sum = places_with list after rest in
      let before_sum = places_leaves list before chosen rest (leaves_member before chosen distinct here) in
      let ahead = no_later same.place in
      let equal : chosen ≡ chosen' = no_worse_same list chosen chosen' best same_size (omega (arith, sum', with_sum, before_sum, ahead)) in
      (outside chosen' choice'.may.people gone before (subst (λ l. IsAmong before l) equal here)).1 refl
    where
      again : (xs ys zs : List Person) → IsSublist xs ys → IsSublist ys zs → IsSublist xs zs
      again xs ys zs first second = sublist_again xs ys zs first second

      no_later : (number_in list after ≡ number_in list before) ⊎ IsBetter list after before → number (number_in list after) ≤ number (number_in list before)
      no_later (inl e) = (let one = ap number e in omega (arith, one))
      no_later (inr better) = (let less = ahead_less (number_in list after) (number_in list before) better in omega (arith, less))

  -- where the person is not chosen after, nor was before, the choice is the same
  pub same_choice : ChoiceExists → LeavingOutRefused → (chosen chosen' : List Person) → IsStepChoice step chosen → IsStepChoice step' chosen'
      → (IsAmong before chosen → ⊥) → (IsAmong after chosen' → ⊥) → chosen ≡ chosen'
  same_choice exists leaving chosen chosen' choice choice' out out' =
      let rest = without before.id people in
      let rest_ranked = ranked_sublist list rest people ranked (without_sublist before.id people) in
      let rest' = without before.id others in
      let rest_ranked' = ranked_sublist list rest' others ranked' (without_sublist before.id others) in
      let equal : rest ≡ rest' = ranked_same list rest rest' rest_ranked rest_ranked'
      (are_among rest rest' (λ p here. let f = left people ranked.distinct p here in among_without before.id p others (replaced.to p f.0 f.1) f.1))
      (are_among rest' rest (λ p here. let f = left others ranked'.distinct p here in among_without before.id p people (replaced.back p f.0 f.1) f.1)) in
      let small : Step = record { list = list; seats = seats; protections = protections; people = rest } in
      let small_ok : IsStep small = record { list = is_list; people = rest_ranked; protections = few } in
      let c = exists small small_ok in
      let first = leaving small step c.0 chosen
      (record { is_step = small_ok; more_is_step = record { list = is_list; people = ranked; protections = few }; list = refl; seats = refl; protections = refl; people = without_among before.id people })
      c.1 choice (λ p there gone in_chosen. elim (same_cand p.id before.id) [
        | inl is ↦ out (subst (λ q. IsAmong q chosen) (replaced.only p there is) in_chosen)
        | inr apart ↦ gone (among_without before.id p people there apart)
      ]) in
      let second = leaving small step' c.0 chosen'
      (record {
        is_step = small_ok;
        more_is_step = record { list = is_list; people = ranked'; protections = few };
        list = refl;
        seats = refl;
        protections = refl;
        people = subst (λ l. AreAmong l others) (sym equal) (without_among before.id others);
      })
      c.1 choice' (λ p there gone in_chosen. elim (same_cand p.id before.id) [
        | inl is ↦ out' (subst (λ q. IsAmong q chosen') (replaced.only_after p there is) in_chosen)
        | inr apart ↦ gone (subst (λ l. IsAmong p l) (sym equal) (among_without before.id p others there apart))
      ]) in
      sym first ∙ second
    where
      left : (all : List Person) → AreDistinct all → (p : Person) → IsAmong p (without before.id all) → (IsAmong p all) × (p.id ≢ before.id)
      left all distinct p here =
          (widen p (without before.id all) all (without_among before.id all) here, (λ e. all_at (λ o. before.id ≢ o.id) p (without before.id all) here (without_apart before.id all distinct) (sym e)))
