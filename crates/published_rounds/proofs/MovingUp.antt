-- Two registers in the same order have the same seats, and a person who moves up has no worse seat.
use Rattle.std.proofs.Common.{◌≡◌, ◌≢◌, ◌-◌, ◌<◌, ◌≤◌, ◌⊎◌, inl, inr, ℕ, List, [], Option, Some, None, length, map, arith, refl, sym, ap, ◌∙◌, subst}
use Rattle.std.specs.Prelude.{◌↔◌, IsSome, option_map, slice_get, slice_set}
use Rattle.std.proofs.lemmas.Bool.{cases_eq, cases_lt}
use Rattle.std.proofs.lemmas.List.{length-map}
use Rattle.std.proofs.lemmas.Option.{slice_get_past}
use Rattle.office_base.specs.Person.{IsAhead, IsBetter}
use Rattle.office_base.specs.declared.seat.Seat.{Seat}
use Rattle.office_base.specs.declared.person.ListId.{ListId}
use Rattle.office_base.specs.declared.person.Person.{Person}
use Rattle.office_base.specs.declared.person.ProgId.{ProgId}
use Rattle.office_base.proofs.Lists.{get_set_other, there_is}
use Rattle.allocations.specs.Fair.{IsBest, IsFair, IsMarket}
use Rattle.allocations.specs.Market.{Seeker}
use Rattle.allocations.proofs.Course.{get_set_same}
use Rattle.open_then_category.specs.Laws.{OneProgrammeChoice, ProgrammeChoiceExists}
use Rattle.programme_laws.specs.Laws.{IsNoWorseOff}
use Rattle.seat_matrix.specs.Matrix.{AreSeats, SeatTable, list_in}
use Rattle.seeks.specs.declared.seek.Seek.{Seek}
use Rattle.rounds.specs.Rule.{AreEntrants, MayApplyIn, ProgrammesChooseWell, nobody, rule_of, seekers_of}
use Rattle.rounds.proofs.Entrants.{market}
use Rattle.round_laws.proofs.OneRound.{same_places}
use Rattle.history_laws.proofs.Fits.{map_at}
use Rattle.published_rounds.specs.BetterOff.{BetterOffIsNoWorse, OneIsBetterOff}
use Rattle.published_rounds.specs.Numbers.{with_numbers}
use Rattle.published_rounds.specs.Order.{OnlyTheOrderCounts}
use Rattle.published_rounds.specs.Registers.{MovingUpNeverHurts, OneMovesUp, without_numbers}
use Rattle.published_rounds.proofs.Numbered.{entrants_with, map_back, number_is, one_person}
use Rattle.published_rounds.proofs.Numbers.{rising_numbers_keep_order}
use Rattle.published_rounds.proofs.Reach.{better_from, better_to, list_at, number_at, reach_least, reach_there, rises, sum_at, with_reach}
use Rattle.published_rounds.proofs.SameOrder.{fair_map, renumbered, seekers_map}

-- numbers that are not greater stay so where a better one was better before
not_greater : (k : ℕ) (p q a b : Person) (x y m n : ℕ) → number_at k p ≡ Some x → number_at k q ≡ Some y → number_at k a ≡ Some m → number_at k b ≡ Some n
    → (IsBetter (list_at k) q b → IsBetter (list_at k) p a) → m ≤ x → n ≤ y
not_greater k p q a b x y m n e e' f f' back le = elim (cases_lt y n) [
  | inl less ↦ absurd (let was = better_from k p a x m e f (back (better_to k q b y n e' f' less)) in omega (arith, was, le))
  | inr past ↦ past
]

-- ---- the same order

-- Two registers have the same people with the same ids, apart from the numbers, in the same order.
pub record AreRenumbered (people others : List Person) : Type 0 where
  pub full : length others ≡ length people
  pub same : (i : ℕ) (a b : Person) → slice_get people i ≡ Some a → slice_get others i ≡ Some b → without_numbers b ≡ without_numbers a
  pub order : (list : ListId) (i j : ℕ) (a b c d : Person) → slice_get people i ≡ Some a → slice_get people j ≡ Some b → slice_get others i ≡ Some c → slice_get others j ≡ Some d
      → IsBetter list c d ↔ IsBetter list a b

module _ (people others : List Person) (alike : AreRenumbered people others) where
  one_number_there : (i k : ℕ) (p q : Person) (x y : ℕ) → slice_get people i ≡ Some p → slice_get others i ≡ Some q → number_at k p ≡ Some x → number_at k q ≡ Some y
      → with_reach people others k x ≡ with_reach others people k y
  one_number_there i k p q x y at at' e e' =
      let one = sum_at k people others i p q x y at at' e e' (λ h a b m n here here' f f'. not_greater k p q a b x y m n e e' f f'
      (alike.order (list_at k) i h p a q b at here at' here').0) in
      let two = sum_at k others people i q p y x at' at e' e (λ h a b m n here here' f f'. not_greater k q p a b y x m n e' e f f'
      (alike.order (list_at k) i h p b q a at here' at' here).1) in
      omega (arith, one, two)

  pub one_register : map (with_numbers (with_reach people others)) people ≡ map (with_numbers (with_reach others people)) others
  one_register =
      same_places (map (with_numbers (with_reach people others)) people) (map (with_numbers (with_reach others people)) others)
      (length-map people (with_numbers (with_reach people others)) ∙ (sym alike.full ∙ sym (length-map others (with_numbers (with_reach others people)))))
      (λ i a b at at'.
      let p = map_back (with_numbers (with_reach people others)) people i a at in
      let q = map_back (with_numbers (with_reach others people)) others i b at' in
      p.2 ∙ (one_person (with_reach people others) (with_reach others people) p.0 q.0 (alike.same i p.0 q.0 p.1 q.1)
      (λ k x y e e'. one_number_there i k p.0 q.0 x y p.1 q.1 e e') ∙ sym q.2))

-- Renumbered registers have the same best fair seats.
pub renumbered_give_the_same : OnlyTheOrderCounts → (version : ℕ) (table : SeatTable) (people others : List Person) (lists : List (List ProgId)) (seeks : List Seek) (seats : List (Option Seat))
    → AreSeats table → AreEntrants table people lists → AreEntrants table others lists → AreRenumbered people others
    → IsBest (rule_of version nobody table) (length table.programmes) (seekers_of table people lists seeks) seats
    ↔ IsBest (rule_of version nobody table) (length table.programmes) (seekers_of table others lists seeks) seats
renumbered_give_the_same order version table people others lists seeks seats ok enter enter' alike =
    let u = with_reach people others in
    let v = with_reach others people in
    let one = order version table people (λ id. id) (with_numbers u) lists seeks seats ok (rising_numbers_keep_order u (rises people others)) enter (entrants_with u (rises people others) table people lists enter) in
    let two = order version table others (λ id. id) (with_numbers v) lists seeks seats ok (rising_numbers_keep_order v (rises others people)) enter' (entrants_with v (rises others people) table others lists enter') in
    let same = one_register people others alike in (
      λ best. two.1 (subst (λ (l : List Person). IsBest (rule_of version nobody table) (length table.programmes) (seekers_of table l lists seeks) seats) same (one.0 best)),
      λ best. one.1 (subst (λ (l : List Person). IsBest (rule_of version nobody table) (length table.programmes) (seekers_of table l lists seeks) seats) (sym same) (two.0 best)),
    )

-- ---- one person moves up

module _ (i : ℕ) (before after : Person) (people others : List Person) (off : OneMovesUp i before after people others) where
  -- the people with no place for the one
  abbrev pub unplaced : List Person
  unplaced = slice_set people i (record before { places = [] })

  abbrev pub u : ℕ → ℕ → ℕ
  u = with_reach people others

  abbrev pub v : ℕ → ℕ → ℕ
  v = with_reach others unplaced

  unplaced_here : (h k n : ℕ) (a : Person) → h ≡ i → slice_get unplaced h ≡ Some a → number_at k a ≡ Some n → ⊥
  unplaced_here h k n a mine at e =
      let here = get_set_same people i (record before { places = [] }) before off.there in
      let there = subst (λ z. slice_get unplaced z ≡ Some a) mine at in
      let who : a ≡ record before { places = [] } = cc in
      let none : None ≡ Some n = subst (λ z. number_at k z ≡ Some n) who e in
      absurd (cc)

  unplaced_there : (h : ℕ) → h ≢ i → slice_get unplaced h ≡ slice_get people h
  unplaced_there h apart = get_set_other people i h (record before { places = [] }) apart

  -- another person gets the same number in both
  same_number : (j k : ℕ) (p q : Person) (x y : ℕ) → j ≢ i → slice_get people j ≡ Some p → slice_get others j ≡ Some q → number_at k p ≡ Some x → number_at k q ≡ Some y → u k x ≡ v k y
  same_number j k p q x y apart at at' e e' =
      let one = sum_at k people others j p q x y at at' e e' (λ h a b m n here here' f f'. elim (cases_eq h i) [
        | inl mine ↦
            let first : a ≡ before = (let e1 = subst (λ z. slice_get people z ≡ Some a) mine here in let e2 = off.there in cc) in
            let second : b ≡ after = (let e1 = subst (λ z. slice_get others z ≡ Some b) mine here' in let e2 = off.there_after in cc) in
            not_greater k p q a b x y m n e e' f f' (subst (λ z. IsBetter (list_at k) q z → IsBetter (list_at k) p a) (sym second)
            (subst (λ z. IsBetter (list_at k) q after → IsBetter (list_at k) p z) (sym first) (off.not_passed (list_at k) j p q apart at at')))
        | inr other ↦ not_greater k p q a b x y m n e e' f f' (off.order (list_at k) j h p a q b apart other at here at' here').0
      ]) in
      let two = sum_at k others unplaced j q p y x at' (unplaced_there j apart ∙ at) e' e (λ h a b m n here here' f f'. elim (cases_eq h i) [
        | inl mine ↦ absurd (unplaced_here h k n b mine here' f')
        | inr other ↦ not_greater k q p a b y x m n e' e f f' (off.order (list_at k) j h p b q a apart other at (sym (unplaced_there h other) ∙ here') at' here).1
      ]) in
      omega (arith, one, two)

  -- and the one no greater number
  no_greater : (k a b : ℕ) → number_at k before ≡ Some a → number_at k after ≡ Some b → v k b ≤ u k a
  no_greater k a b e e' =
      let up = reach_there k people others a i before after a b off.there off.there_after e e' (omega arith) in
      let low = reach_least k others unplaced b a (λ h q p y x here here' f f' le. elim (cases_eq h i) [
        | inl mine ↦ absurd (unplaced_here h k x p mine here' f')
        | inr other ↦ elim (cases_lt a x) [
          | inl less ↦ absurd (
              let still = better_from k after q b y e' f (off.still_ahead (list_at k) h p q other (sym (unplaced_there h other) ∙ here') here (better_to k before p a x e f' less)) in
              omega (arith, still, le))
          | inr past ↦ past
        ]
      ]) in
      omega (arith, up, low)

  place_of_one : (list : ListId) (m n : Option ℕ) → number_at (list.0 - 1) before ≡ m → number_at (list.0 - 1) after ≡ n
      → (option_map (v (list.0 - 1)) n ≡ option_map (u (list.0 - 1)) m) ⊎ IsAhead (option_map (v (list.0 - 1)) n) (option_map (u (list.0 - 1)) m)
  place_of_one list None None e e' = inl refl
  place_of_one list None (Some b) e e' = absurd (let has = (off.placed list).0 (subst (λ o. IsSome o) (sym e') refl) in let none : IsSome {T = ℕ} None = subst (λ o. IsSome o) e has in cc)
  place_of_one list (Some a) None e e' = absurd (let has = (off.placed list).1 (subst (λ o. IsSome o) (sym e) refl) in let none : IsSome {T = ℕ} None = subst (λ o. IsSome o) e' has in cc)
  place_of_one list (Some a) (Some b) e e' =
      elim (cases_eq (v (list.0 - 1) b) (u (list.0 - 1) a)) [
        | inl same ↦ inl (ap Some same)
        | inr apart ↦ inr (omega (arith, no_greater (list.0 - 1) a b e e', apart))
      ]

  no_worse_off : (list : ListId) → IsNoWorseOff list (with_numbers u before) (with_numbers v after)
  no_worse_off list = record {
    id = off.id;
    traits = off.traits;
    place =
        let k = list.0 - 1 in
        let mine = number_is u k before in
        let his = number_is v k after in
        elim (place_of_one list (number_at k before) (number_at k after) refl refl) [
          | inl same ↦ inl (his ∙ (same ∙ sym mine))
          | inr ahead ↦ inr (subst (λ o. IsAhead o (number_at k (with_numbers u before))) (sym his)
              (subst (λ o. IsAhead (option_map (v k) (number_at k after)) o) (sym mine) ahead))
        ];
    common = λ is.
        let was = sym ((rising_numbers_keep_order u (rises people others)).common list before) ∙ is in
        (rising_numbers_keep_order v (rises others unplaced)).common list after ∙ off.common list was;
    category = off.category;
  }

  rest_there : (j : ℕ) → j ≢ i → slice_get (map (with_numbers v) others) j ≡ slice_get (map (with_numbers u) people) j
  rest_there j apart = elim (cases_lt j (length people)) [
    | inl less ↦
        let p = there_is people j less in
        let full = off.full in
        let q = there_is others j (omega (arith, less, full)) in
        map_at (with_numbers v) others j q.0 q.1
        ∙ (ap Some (sym (one_person u v p.0 q.0 (off.rest j p.0 q.0 apart p.1 q.1) (λ k x y e e'. same_number j k p.0 q.0 x y apart p.1 q.1 e e')))
        ∙ sym (map_at (with_numbers u) people j p.0 p.1))
    | inr past ↦
        let size = length-map people (with_numbers u) in
        let size' = length-map others (with_numbers v) in
        slice_get_past (map (with_numbers v) others) j (omega (arith, past, off.full, size')) ∙ sym (slice_get_past (map (with_numbers u) people) j (omega (arith, past, size)))
  ]

  -- with these numbers only the one differs
  pub one_better_off : (table : SeatTable) → OneIsBetterOff table i (with_numbers u before) (with_numbers v after) (map (with_numbers u) people) (map (with_numbers v) others)
  one_better_off table = record {
    there = map_at (with_numbers u) people i before off.there;
    there_after = map_at (with_numbers v) others i after off.there_after;
    full = length-map others (with_numbers v) ∙ (off.full ∙ sym (length-map people (with_numbers u)));
    rest = rest_there;
    better = λ prog. no_worse_off (list_in table prog);
  }

-- the laws on which this rests
pub record AreLaws : Type 0 where
  pub order : OnlyTheOrderCounts
  pub no_worse : BetterOffIsNoWorse
  pub exists : ProgrammeChoiceExists
  pub one : OneProgrammeChoice
  pub well : ProgrammesChooseWell

-- fair seats are fair with other numbers that rise with the old ones
fair_with : AreLaws → (version : ℕ) (table : SeatTable) (people : List Person) (numbers : ℕ → ℕ → ℕ) (lists : List (List ProgId)) (seeks : List Seek) (seats : List (Option Seat)) → AreSeats table
    → ((list m n : ℕ) → m < n → numbers list m < numbers list n) → AreEntrants table people lists
    → IsFair (rule_of version nobody table) (length table.programmes) (seekers_of table people lists seeks) seats
    → IsFair (rule_of version nobody table) (length table.programmes) (seekers_of table (map (with_numbers numbers) people) lists seeks) seats
fair_with laws version table people numbers lists seeks seats ok rising enter fair =
    let f = with_numbers numbers in
    let same = seekers_map f table people lists seeks in
    let here = market table people lists seeks ok enter in
    let here' = subst (λ (l : List Seeker). IsMarket (MayApplyIn table) (length table.programmes) l) same
    (market table (map f people) lists seeks ok (entrants_with numbers rising table people lists enter)) in
    subst (λ (l : List Seeker). IsFair (rule_of version nobody table) (length table.programmes) l seats) (sym same)
    (fair_map laws.exists laws.one laws.well version table ok (λ id. id) f (rising_numbers_keep_order numbers rising) (seekers_of table people lists seeks) here here' seats fair)

pub moving_up_never_hurts : AreLaws → MovingUpNeverHurts
moving_up_never_hurts laws version table people changed lists seeks seats others i before after s seat other ok enter enter' off fair best there has has' =
    let n = u i before after people changed off in
    let n' = v i before after people changed off in
    let rising = rises people changed in
    let rising' = rises changed (unplaced i before after people changed off) in
    let wide = entrants_with n rising table people lists enter in
    let wide' = entrants_with n' rising' table changed lists enter' in
    let fair' = fair_with laws version table people n lists seeks seats ok rising enter fair in
    let best' = (laws.order version table changed (λ id. id) (with_numbers n') lists seeks others ok (rising_numbers_keep_order n' rising') enter' wide').0 best in
    let at : slice_get (seekers_of table (map (with_numbers n) people) lists seeks) i ≡ Some (renumbered (with_numbers n) s) =
    ap (λ (l : List Seeker). slice_get l i) (seekers_map (with_numbers n) table people lists seeks) ∙ map_at (renumbered (with_numbers n)) (seekers_of table people lists seeks) i s there in
    laws.no_worse version table (map (with_numbers n) people) (map (with_numbers n') changed) lists seeks seats others i (with_numbers n before) (with_numbers n' after)
    (renumbered (with_numbers n) s) seat other ok wide wide' (one_better_off i before after people changed off table) fair' best' at has has'
