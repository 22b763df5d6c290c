-- One protected seat more for a trait keeps the chosen holders of the trait.
use Rattle.std.proofs.Common.{◌≡◌, ◌≢◌, ◌+◌, ◌-◌, ◌<◌, ◌≤◌, inl, inr, ℕ, zero, suc, max, Bool, true, false, List, [], ◌∷◌, length, arith, refl, sym, ap, ◌∙◌, subst, if◌then◌else◌}
use Rattle.std.specs.Prelude.{IsTrue}
use Rattle.std.specs.List.{AllByRecursion}
use Rattle.std.proofs.lemmas.Bool.{cases_eq}
use Rattle.std.proofs.lemmas.Nat.Bits.{bit_at-pow_other, bit_at-pow_same}
use Rattle.office_base.specs.Lists.{AnyByRecursion, IsAmong}
use Rattle.office_base.proofs.Lists.{all_weaker}
use Rattle.office_base.specs.Person.{has_trait}
use Rattle.office_base.specs.Placement.{Fills, IsHonoured, IsPlacement, placed_on, protected}
use Rattle.office_base.specs.declared.person.CandId.{CandId}
use Rattle.office_base.specs.declared.person.Person.{Person}
use Rattle.office_base.specs.declared.step.Pair.{Pair}
use Rattle.office_base.specs.declared.step.Protections.{Protections}
use Rattle.placements.specs.Ranks.{AreAmong, AreDistinct, CanBePlaced}
use Rattle.placements.proofs.Exchange.{all_leaves, fewer, finds, finds_on, length_leaves, pairwise_leaves, Apart, apart_back, placed_on_leaves, stands_same}
use Rattle.placements.proofs.Greatest.{honoured-exists, honoured-one}
use Rattle.placements.proofs.Hall.{alone, bit_one, has_one}
use Rattle.placements.proofs.Ranks.{all_both, among_itself, among_longer, any_all, diminishing, left_out, nowhere, one_step, refused, same_people, taken}
use Rattle.merit_choice.specs.Laws.{ByHand, MarksByHand, OneChoice}
use Rattle.merit_choice.specs.Marks.{AreMarkedByHand, IsRaise, filled_up, kept, marked}
use Rattle.merit_choice.proofs.ByHand.{honoured_placed, placed_nobody}
use Rattle.published_rounds.specs.OneMore.{OneMoreKeepsItsHolders}
use Rattle.published_rounds.proofs.Simple.{apart_from_nobody, on_or_off}

-- ---- somebody else who holds one trait alone

-- the greatest number of these people
abbrev top : List Person → ℕ
top [] = 0
top (person ∷ people) = max person.id.0 (top people)

-- a person of another number, with the traits and places of nobody
abbrev stranger : ℕ → Person → List Person → Person
stranger t like people = record like { id = record { 0 = suc (top people) }; traits = alone t }

above_top : (n : ℕ) (people : List Person) → top people < n → AllByRecursion (λ other. record { 0 = n } ≢ other.id) people
above_top n [] less = tt
above_top n (person ∷ people) less =
    ((λ e. let same = ap (λ (c : CandId). c.0) e in absurd (omega (arith, less, same))), above_top n people (omega (arith, less)))

only_trait : (t s : ℕ) → IsTrue (has_trait (alone t) s) → s ≡ t
only_trait t s holds = elim (cases_eq s t) [
  | inl same ↦ same
  | inr apart ↦ absurd (let one = bit_one (alone t) s holds in let none = bit_at-pow_other t s apart in omega (arith, one, none))
]

-- ---- placements with one protected seat more

module _ (one two : Protections) (t : ℕ) (more : protected two t ≡ suc (protected one t)) (same : (s : ℕ) → s ≢ t → protected two s ≡ protected one s) where
  no_fewer : (s : ℕ) → protected one s ≤ protected two s
  no_fewer s = elim (cases_eq s t) [
    | inl e ↦ let here = subst (λ z. protected two z ≡ suc (protected one z)) (sym e) more in omega (arith, here)
    | inr apart ↦ let there = same s apart in omega (arith, there)
  ]

  wide : (people : List Person) (pairs : List Pair) → IsPlacement one people pairs → IsPlacement two people pairs
  wide people pairs p = record { held = p.held; once = p.once; within = λ s. let a = p.within s in let b = no_fewer s in omega (arith, a, b) }

  narrow : (people : List Person) (pairs : List Pair) → IsPlacement two people pairs → placed_on t pairs ≤ protected one t → IsPlacement one people pairs
  narrow people pairs p few = record {
    held = p.held;
    once = p.once;
    within = λ s. elim (cases_eq s t) [
      | inl e ↦ subst (λ z. placed_on z pairs ≤ protected one z) (sym e) few
      | inr apart ↦ let a = p.within s in let b = same s apart in omega (arith, a, b)
    ];
  }

  -- somebody else who holds that trait takes that seat
  placed_first : (person : Person) (people : List Person) (pairs : List Pair) → IsTrue (has_trait person.traits t) → AllByRecursion (λ other. person.id ≢ other.id) people
      → IsPlacement one people pairs → IsPlacement two (person ∷ people) (record { cand = person.id; slot = t } ∷ pairs)
  placed_first person people pairs holds apart p = record {
    held = (inl (refl, holds), all_weaker (λ pair. AnyByRecursion (Fills pair) people) (λ pair. AnyByRecursion (Fills pair) (person ∷ people)) (λ pair a. inr a) pairs p.held);
    once = (nowhere one person people pairs apart p, p.once);
    within = λ s. elim (on_or_off t s) [
      | inl on ↦ omega (arith, subst (λ z. placed_on z pairs < protected two z) on.0 (omega (arith, p.within t, more)))
      | inr off ↦ let was = p.within s in let few = no_fewer s in omega (arith, was, off, few)
    ];
  }

  -- at most one person more is placed
  little_more : (people : List Person) (n : ℕ) (pairs : List Pair) → IsHonoured one people n → IsPlacement two people pairs → length pairs ≤ suc n
  little_more people n pairs h p = elim (finds_on t pairs) [
    | inl found ↦
        let rest = fewer two people found.0 pairs found.1 found.2 p in
        let counts = placed_on_leaves t found.0 pairs found.1 found.2 in
        let on = stands_same t found.0 found.3 in
        omega (arith, h.most found.1 (narrow people found.1 rest (omega (arith, counts, on, p.within t, more))), length_leaves found.0 pairs found.1 found.2)
    | inr none ↦ let most = h.most pairs (narrow people pairs p (omega (arith, none))) in omega (arith, most)
  ]

  -- a stranger who holds that trait alone takes that seat
  contract : (d : Person) (people : List Person) (n : ℕ) → d.traits ≡ alone t → AllByRecursion (λ other. d.id ≢ other.id) people → IsHonoured one people n → IsHonoured two (d ∷ people) (suc n)
  contract d people n only apart h = record {
    reached = (
      record { cand = d.id; slot = t } ∷ h.reached.0,
      placed_first d people h.reached.0 (subst (λ z. IsTrue (has_trait z t)) (sym only) (has_one (alone t) t (bit_at-pow_same t))) apart h.reached.1,
      omega (arith, h.reached.2),
    );
    most = most;
  }
    where
      most : (pairs : List Pair) → IsPlacement two (d ∷ people) pairs → length pairs ≤ suc n
      most pairs p = elim (finds d.id pairs) [
        | inl found ↦
            let by = (all_leaves (λ (x : Pair). AnyByRecursion (Fills x) (d ∷ people)) found.0 pairs found.1 found.2 p.held).0 in
            let on : found.0.slot ≡ t = elim by [
              | inl mine ↦ only_trait t found.0.slot (subst (λ z. IsTrue (has_trait z found.0.slot)) only mine.1)
              | inr theirs ↦ absurd (let who = any_all (Fills found.0) (λ other. d.id ≢ other.id) people theirs apart in who.2 (sym found.3 ∙ who.1.0))
            ] in
            let rest = fewer two (d ∷ people) found.0 pairs found.1 found.2 p in
            let away : AllByRecursion (λ (x : Pair). d.id ≢ x.cand) found.1 =
            subst (λ cand. AllByRecursion (λ (x : Pair). cand ≢ x.cand) found.1) found.3 (pairwise_leaves Apart apart_back found.0 pairs found.1 found.2 p.once).0 in
            let counts = placed_on_leaves t found.0 pairs found.1 found.2 in
            let few = h.most found.1 (narrow people found.1 (left_out two d people found.1 away rest) (omega (arith, counts, stands_same t found.0 on, p.within t, more))) in
            omega (arith, few, length_leaves found.0 pairs found.1 found.2)
        | inr none ↦ little_more people n pairs h (left_out two d people pairs none p)
      ]

  -- who raises the number still does
  raises_still : (person : Person) (before : List Person) (n m : ℕ) → AreDistinct (person ∷ before) → IsHonoured one before n → IsHonoured one (person ∷ before) (suc n) → IsHonoured two before m
      → IsHonoured two (person ∷ before) (suc m)
  raises_still person before n m distinct h up h' =
      let d = stranger t person (person ∷ before) in
      let apart = above_top (suc (top (person ∷ before))) (person ∷ before) (omega arith) in
      let first = contract d before n refl apart.1 h in
      let second = contract d (person ∷ before) (suc n) refl apart up in
      let turned = same_people two (d ∷ person ∷ before) (person ∷ d ∷ before) (suc (suc n))
      (inr (inl refl), (inl refl, all_weaker (λ p. IsAmong p before) (λ p. IsAmong p (person ∷ d ∷ before)) (λ p a. inr (inr a)) before (among_itself before)))
      (inr (inl refl), (inl refl, all_weaker (λ p. IsAmong p before) (λ p. IsAmong p (d ∷ person ∷ before)) (λ p a. inr (inr a)) before (among_itself before))) second in
      let k = honoured-exists two (person ∷ before) distinct in
      let less = diminishing two person before (d ∷ before) m (suc n) k.0 (suc (suc n)) (((λ e. apart.0 (sym e)), distinct.0), (apart.1, distinct.1))
      (among_longer d before before (among_itself before)) h' first k.1 turned in
      subst (λ z. IsHonoured two (person ∷ before) z) (omega (arith, less, one_step two person before (person ∷ before) m k.0 (among_itself (person ∷ before)) h' k.1)) k.1

  -- a holder of the trait raises the number where nobody more was placed
  holder_raises : (person : Person) (before : List Person) (n : ℕ) → IsTrue (has_trait person.traits t) → AreDistinct (person ∷ before) → IsHonoured one before n → IsHonoured two before n
      → IsHonoured two (person ∷ before) (suc n)
  holder_raises person before n holds distinct h h' =
      let placed = placed_first person before h.reached.0 holds distinct.0 h.reached.1 in
      let k = honoured-exists two (person ∷ before) distinct in
      let step = one_step two person before (person ∷ before) n k.0 (among_itself (person ∷ before)) h' k.1 in
      subst (λ z. IsHonoured two (person ∷ before) z) (omega (arith, step, k.1.most (record { cand = person.id; slot = t } ∷ h.reached.0) placed)) k.1

-- ---- marks down the merit order

-- those who were marked are all placed, and as many as all before honour
record AreMarkedSoFar (protections : Protections) (before chosen : List Person) : Type 0 where
  pub among : AreAmong chosen before
  pub can : CanBePlaced protections chosen
  pub was : IsHonoured protections before (length chosen)

marked_next : (protections : Protections) (person : Person) (before chosen : List Person) (mark : Bool) → AreDistinct (person ∷ before) → AreMarkedSoFar protections before chosen
    → IsRaise protections chosen person mark → AreMarkedSoFar protections (person ∷ before) (if mark then person ∷ chosen else chosen)
marked_next protections person before chosen true distinct are raise =
    let up = raise (length chosen) (honoured_placed protections chosen are.can) in
    let all : CanBePlaced protections (person ∷ chosen) = (up.reached.0, up.reached.1, up.reached.2) in
    record { among = (inl refl, among_longer person chosen before are.among); can = all; was = taken protections person chosen before are.among are.was all }
marked_next protections person before chosen false distinct are raise =
    let same = raise (length chosen) (honoured_placed protections chosen are.can) in
    let cannot : CanBePlaced protections (person ∷ chosen) → ⊥ = λ all. absurd (omega (arith, all.2, same.most all.0 all.1)) in
    record { among = among_longer person chosen before are.among; can = are.can; was = refused protections person chosen before distinct are.among are.can are.was cannot }

-- people who come are apart from those before, and from each other
record AreToCome (people before : List Person) : Type 0 where
  pub apart : AllByRecursion (λ person. AllByRecursion (λ other. person.id ≢ other.id) before) people
  pub distinct : AreDistinct people
  pub were : AreDistinct before

first_new : (person : Person) (people before : List Person) → AreToCome (person ∷ people) before → AreDistinct (person ∷ before)
first_new person people before new = (new.apart.0, new.were)

next_new : (person : Person) (people before : List Person) → AreToCome (person ∷ people) before → AreToCome people (person ∷ before)
next_new person people before new = record {
  apart = all_both (λ (other : Person). person.id ≢ other.id) (λ (other : Person). AllByRecursion (λ o. other.id ≢ o.id) before) (λ (other : Person). AllByRecursion (λ o. other.id ≢ o.id) (person ∷ before))
      (λ other d rest. ((λ e. d (sym e)), rest)) people new.distinct.0 new.apart.1;
  distinct = new.distinct.1;
  were = first_new person people before new;
}

-- the people after those before, the last of them first
abbrev onto : List Person → List Person → List Person
onto [] before = before
onto (person ∷ people) before = onto people (person ∷ before)

-- all of them honour as many as are marked in the end
all_marked : (protections : Protections) (people before chosen : List Person) (marks : List Bool) → AreToCome people before → AreMarkedSoFar protections before chosen
    → AreMarkedByHand protections chosen people marks → IsHonoured protections (onto people before) (length chosen + marked marks)
all_marked protections [] before chosen [] new are told = subst (λ n. IsHonoured protections before n) (omega arith) are.was
all_marked protections [] before chosen (mark ∷ marks) new are told = absurd told
all_marked protections (person ∷ people) before chosen [] new are told = absurd told
all_marked protections (person ∷ people) before chosen (true ∷ marks) new are told =
    subst (λ n. IsHonoured protections (onto people (person ∷ before)) n) (omega arith)
    (all_marked protections people (person ∷ before) (person ∷ chosen) marks (next_new person people before new) (marked_next protections person before chosen true (first_new person people before new) are told.0) told.1)
all_marked protections (person ∷ people) before chosen (false ∷ marks) new are told =
    all_marked protections people (person ∷ before) chosen marks (next_new person people before new)
    (marked_next protections person before chosen false (first_new person people before new) are told.0) told.1

-- ---- side by side

module _ (one two : Protections) (t : ℕ) (more : protected two t ≡ suc (protected one t)) (same : (s : ℕ) → s ≢ t → protected two s ≡ protected one s) (person : Person)
    (holds : IsTrue (has_trait person.traits t)) where
  -- the numbers marked differ by one at most
  close : (before some others : List Person) → AreMarkedSoFar one before some → AreMarkedSoFar two before others → (length some ≤ length others) × (length others ≤ suc (length some))
  close before some others first second =
      let up = second.was.most first.was.reached.0 (wide one two t more same before first.was.reached.0 first.was.reached.1) in
      (omega (arith, up), omega (arith, little_more one two t more same before (length some) second.was.reached.0 first.was second.was.reached.1))

  -- who was marked still is
  still_marked : (first : Person) (before some others : List Person) → AreDistinct (first ∷ before) → AreMarkedSoFar one before some → AreMarkedSoFar two before others → IsRaise one some first true
      → IsRaise two others first false → ⊥
  still_marked first before some others distinct a b up stays =
      let now = marked_next one first before some true distinct a up in
      let raised = raises_still one two t more same first before (length some) (length others) distinct a.was now.was b.was in
      let not = marked_next two first before others false distinct b stays in
      absurd (omega (arith, honoured-one two (first ∷ before) (suc (length others)) (length others) raised not.was))

  -- a holder who is not marked now was not before, and there one more is marked
  not_marked : (before some others : List Person) → AreDistinct (person ∷ before) → AreMarkedSoFar one before some → AreMarkedSoFar two before others → IsRaise two others person false
      → length others ≡ suc (length some)
  not_marked before some others distinct a b stays = elim (cases_eq (length others) (length some)) [
    | inl equal ↦ absurd (
        let raised = holder_raises one two t more same person before (length some) holds distinct a.was (subst (λ n. IsHonoured two before n) equal b.was) in
        let not = marked_next two person before others false distinct b stays in
        omega (arith, honoured-one two (person ∷ before) (suc (length some)) (length others) raised not.was, equal))
    | inr apart ↦ let near = close before some others a b in omega arith
  ]

  -- the marks of both so far, and the people to come
  record SideBySide (people before some others : List Person) : Type 0 where
    pub new : AreToCome people before
    pub first : AreMarkedSoFar one before some
    pub second : AreMarkedSoFar two before others

  after : (next : Person) (people before some others : List Person) (mark its : Bool) → SideBySide (next ∷ people) before some others → IsRaise one some next mark → IsRaise two others next its
      → SideBySide people (next ∷ before) (if mark then next ∷ some else some) (if its then next ∷ others else others)
  after next people before some others mark its so_far up up' =
      let distinct = first_new next people before so_far.new in
      record { new = next_new next people before so_far.new; first = marked_next one next before some mark distinct so_far.first up; second = marked_next two next before others its distinct so_far.second up' }

  stays_chosen : (people before some others : List Person) (marks now : List Bool) (free left : ℕ) → SideBySide people before some others → AreMarkedByHand one some people marks
      → AreMarkedByHand two others people now → free + length others ≤ left + suc (length some) → IsAmong person (kept people (filled_up marks free)) → IsAmong person (kept people (filled_up now left))
  stays_chosen [] before some others marks now free left so_far told told' room here = absurd here
  stays_chosen (next ∷ people) before some others [] now free left so_far told told' room here = absurd told
  stays_chosen (next ∷ people) before some others (mark ∷ marks) [] free left so_far told told' room here = absurd told'
  stays_chosen (next ∷ people) before some others (true ∷ marks) (true ∷ now) free left so_far told told' room here = elim here [
    | inl mine ↦ inl mine
    | inr later ↦
        let now_by = after next people before some others true true so_far told.0 told'.0 in
        inr (stays_chosen people (next ∷ before) (next ∷ some) (next ∷ others) marks now free left now_by told.1 told'.1 (omega (arith, room)) later)
  ]
  stays_chosen (next ∷ people) before some others (true ∷ marks) (false ∷ now) free left so_far told told' room here =
      absurd (still_marked next before some others (first_new next people before so_far.new) so_far.first so_far.second told.0 told'.0)
  stays_chosen (next ∷ people) before some others (false ∷ marks) (true ∷ now) zero left so_far told told' room here =
      let now_by = after next people before some others false true so_far told.0 told'.0 in
      let near = close (next ∷ before) some (next ∷ others) now_by.first now_by.second in
      inr (stays_chosen people (next ∷ before) some (next ∷ others) marks now zero left now_by told.1 told'.1 (omega arith) here)
  stays_chosen (next ∷ people) before some others (false ∷ marks) (true ∷ now) (suc free) left so_far told told' room here = elim here [
    | inl mine ↦ inl mine
    | inr later ↦
        let now_by = after next people before some others false true so_far told.0 told'.0 in
        inr (stays_chosen people (next ∷ before) some (next ∷ others) marks now free left now_by told.1 told'.1 (omega (arith, room)) later)
  ]
  stays_chosen (next ∷ people) before some others (false ∷ marks) (false ∷ now) zero zero so_far told told' room here =
      stays_chosen people (next ∷ before) some others marks now zero zero (after next people before some others false false so_far told.0 told'.0) told.1 told'.1 (omega (arith, room)) here
  stays_chosen (next ∷ people) before some others (false ∷ marks) (false ∷ now) zero (suc left) so_far told told' room here =
      let near = close before some others so_far.first so_far.second in
      inr (stays_chosen people (next ∷ before) some others marks now zero left (after next people before some others false false so_far told.0 told'.0) told.1 told'.1 (omega arith) here)
  stays_chosen (next ∷ people) before some others (false ∷ marks) (false ∷ now) (suc free) zero so_far told told' room here = elim here [
    | inl mine ↦ absurd (
        let distinct = subst (λ (p : Person). AreDistinct (p ∷ before)) (sym mine) (first_new next people before so_far.new) in
        omega (arith, not_marked before some others distinct so_far.first so_far.second (subst (λ (p : Person). IsRaise two others p false) (sym mine) told'.0), room))
    | inr later ↦
        let near = close before some others so_far.first so_far.second in
        stays_chosen people (next ∷ before) some others marks now free zero (after next people before some others false false so_far told.0 told'.0) told.1 told'.1 (omega (arith, room)) later
  ]
  stays_chosen (next ∷ people) before some others (false ∷ marks) (false ∷ now) (suc free) (suc left) so_far told told' room here = elim here [
    | inl mine ↦ inl mine
    | inr later ↦
        let now_by = after next people before some others false false so_far told.0 told'.0 in
        inr (stays_chosen people (next ∷ before) some others marks now free left now_by told.1 told'.1 (omega (arith, room)) later)
  ]

nobody_marked : (protections : Protections) → AreMarkedSoFar protections [] []
nobody_marked protections = record { among = tt; can = placed_nobody protections; was = honoured_placed protections [] (placed_nobody protections) }

pub one_more_keeps_its_holders : OneChoice → MarksByHand → ByHand → OneMoreKeepsItsHolders
one_more_keeps_its_holders one_choice marks_by_hand by_hand step more chosen others person t has choice more_choice here holds =
    let marks = marks_by_hand step has.is_step in
    let now = marks_by_hand more has.more_is_step in
    let told' : AreMarkedByHand more.protections [] step.people now.0 = subst (λ (l : List Person). AreMarkedByHand more.protections [] l now.0) has.people now.1 in
    let new : AreToCome step.people [] = record { apart = apart_from_nobody step.people; distinct = has.is_step.people.distinct; were = tt } in
    let mine = one_choice step chosen (kept step.people (filled_up marks.0 (step.seats - marked marks.0))) has.is_step choice (by_hand step marks.0 has.is_step marks.1) in
    let his = one_choice more (kept more.people (filled_up now.0 (more.seats - marked now.0))) others has.more_is_step (by_hand more now.0 has.more_is_step now.1) more_choice in
    let first = all_marked step.protections step.people [] [] marks.0 new (nobody_marked step.protections) marks.1 in
    let second = all_marked more.protections step.people [] [] now.0 new (nobody_marked more.protections) told' in
    let little = little_more step.protections more.protections t has.one_more has.others (onto step.people []) (marked marks.0) second.reached.0
    (subst (λ n. IsHonoured step.protections (onto step.people []) n) (omega arith) first) second.reached.1 in
    let there = stays_chosen step.protections more.protections t has.one_more has.others person holds step.people [] [] [] marks.0 now.0 (step.seats - marked marks.0) (more.seats - marked now.0)
    (record { new = new; first = nobody_marked step.protections; second = nobody_marked more.protections }) marks.1 told' (omega (arith, little)) (subst (λ l. IsAmong person l) mine here) in
    subst (λ l. IsAmong person l) his (subst (λ (l : List Person). IsAmong person (kept l (filled_up now.0 (more.seats - marked now.0)))) (sym has.people) there)
