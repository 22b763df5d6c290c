-- The people who raise the number honoured, filled up with the best of the others, are the choice of a step.
use Rattle.std.proofs.Common.{◌≡◌, ◌≤◌, ◌<◌, ◌+◌, ◌-◌, ℕ, suc, min, sum, Bool, true, false, cond, eqb, List, [], ◌∷◌, ◌++◌, length, get_or, set, append_assoc, refl, sym, ap, ap₂, ◌∙◌, subst, inl, inr, arith}
use Rattle.std.specs.List.{AllByRecursion}
use Rattle.std.proofs.lemmas.List.Sums.{sum_by-set}
use Rattle.std.proofs.lemmas.List.{get_or_past, get_or-set_same, get_or-set_other}
use Rattle.std.proofs.lemmas.Bool.{eq-eqb, cond-true, cases_lt, cases_eq}
use Rattle.office_base.specs.Lists.{Pairwise}
use Rattle.office_base.specs.Person.{IsBetter}
use Rattle.office_base.specs.Placement.{IsHonoured, placed_on}
use Rattle.office_base.specs.StepChoice.{IsStep, IsNoWorse, MayAdmit, IsStepChoice}
use Rattle.office_base.specs.declared.person.ListId.{ListId}
use Rattle.office_base.specs.declared.person.Person.{Person}
use Rattle.office_base.specs.declared.step.Pair.{Pair}
use Rattle.office_base.specs.declared.step.Protections.{Protections}
use Rattle.office_base.specs.declared.step.Step.{Step}
use Rattle.office_base.proofs.Lists.{all_weaker, all_joined}
use Rattle.placements.proofs.Greatest.{honoured-one}
use Rattle.placements.specs.Ranks.{AreAmong}
use Rattle.placements.proofs.Ranks.{among_sublist, among_front, monotone}
use Rattle.merit_choice.specs.Marks.{marked, kept, filled_up, AreRaises}
use Rattle.merit_choice.proofs.Marks.{Leads, sublist-kept, kept-sublist, length-kept, length-filled_up, marked-filled_up, filled_up-covers, filled_up-leads}
use Rattle.merit_choice.proofs.Raises.{onto, new-from_nobody, honoured_marked, honoured_covered, honoured_again, honoured_nobody, later_from_honoured, length-raises}

-- ---- no worse, place by place

-- each of the waiting is better than all who follow
abbrev AreAhead : ListId → List Person → List Person → Type 0
AreAhead list queue people = AllByRecursion (λ one. AllByRecursion (IsBetter list one) people) queue

-- without the first of those who follow
ahead_less : (list : ListId) (person : Person) (queue people : List Person) → AreAhead list queue (person ∷ people) → AreAhead list queue people
ahead_less list person queue people ahead =
    all_weaker (λ one. AllByRecursion (IsBetter list one) (person ∷ people)) (λ one. AllByRecursion (IsBetter list one) people) (λ one h. h.1) queue ahead

-- and with that one waiting too
ahead_more : (list : ListId) (person : Person) (queue people : List Person) → AllByRecursion (IsBetter list person) people → AreAhead list queue (person ∷ people)
    → AreAhead list (queue ++ person ∷ []) people
ahead_more list person queue people better ahead =
    all_joined (λ one. AllByRecursion (IsBetter list one) people) queue (person ∷ []) (ahead_less list person queue people ahead) (better, tt)

-- one who waits at the end comes before the rest
queued : (list : ListId) (queue rest others : List Person) (person : Person) → IsNoWorse list ((queue ++ person ∷ []) ++ rest) others → IsNoWorse list (queue ++ person ∷ rest) others
queued list queue rest others person h = subst (λ (people : List Person). IsNoWorse list people others) (append_assoc queue (person ∷ []) rest) h

-- one more waits
longer_queue : (queue : List Person) (person : Person) → length (queue ++ person ∷ []) ≡ suc (length queue)
longer_queue [] person = refl
longer_queue (one ∷ queue) person = ap suc (longer_queue queue person)

-- Those whose marks lead, behind those who wait, are no worse at any place.
pub leads-no_worse : (list : ListId) (people queue : List Person) (marks others : List Bool) (lead : ℕ) → Pairwise (IsBetter list) people → AreAhead list queue people
    → length marks ≡ length people → length queue ≡ lead → Leads marks others lead → IsNoWorse list (queue ++ kept people marks) (kept people others)
leads-no_worse list [] queue marks others lead ranked ahead same waiting leads = tt
leads-no_worse list (person ∷ people) queue [] others lead ranked ahead same waiting leads = absurd (omega arith)
leads-no_worse list (person ∷ people) queue (mark ∷ marks) [] lead ranked ahead same waiting leads = absurd leads
leads-no_worse list (person ∷ people) [] (true ∷ marks) (true ∷ others) lead ranked ahead same waiting leads =
    (inl refl, leads-no_worse list people [] marks others lead ranked.1 tt (omega arith) waiting leads)
leads-no_worse list (person ∷ people) (one ∷ queue) (true ∷ marks) (true ∷ others) lead ranked ahead same waiting leads = (
  inr ahead.0.0,
  queued list queue (kept people marks) (kept people others) person
      (leads-no_worse list people (queue ++ person ∷ []) marks others lead ranked.1 (ahead_more list person queue people ranked.0 ahead.1) (omega arith) (longer_queue queue person ∙ waiting) leads),
)
leads-no_worse list (person ∷ people) queue (true ∷ marks) (false ∷ others) lead ranked ahead same waiting leads =
    queued list queue (kept people marks) (kept people others) person
    (leads-no_worse list people (queue ++ person ∷ []) marks others (suc lead) ranked.1 (ahead_more list person queue people ranked.0 ahead) (omega arith) (longer_queue queue person ∙ ap suc waiting) leads)
leads-no_worse list (person ∷ people) [] (false ∷ marks) (true ∷ others) lead ranked ahead same waiting leads = absurd (omega (arith, leads.1))
leads-no_worse list (person ∷ people) (one ∷ queue) (false ∷ marks) (true ∷ others) lead ranked ahead same waiting leads =
    (inr ahead.0.0, leads-no_worse list people queue marks others leads.0 ranked.1 (ahead_less list person queue people ahead.1) (omega arith) (omega (arith, leads.1)) leads.2)
leads-no_worse list (person ∷ people) queue (false ∷ marks) (false ∷ others) lead ranked ahead same waiting leads =
    leads-no_worse list people queue marks others lead ranked.1 (ahead_less list person queue people ahead) (omega arith) waiting leads

-- ---- the protected positions are enough for all placements

-- so many pairs of each trait as are counted are no more than the counts together
pairs_within : (counts : List ℕ) (pairs : List Pair) → ((t : ℕ) → placed_on t pairs ≤ get_or counts t 0) → length pairs ≤ sum counts
pairs_within counts [] within = omega arith
pairs_within counts (pair ∷ pairs) within =
    let t = pair.slot in
    let one : ◌≡◌ {A = ℕ} (cond (eqb t t) 1 0) 1 = cond-true (eqb t t) 1 0 (eq-eqb t t refl) in
    let here : cond (eqb t t) 1 0 + placed_on t pairs ≤ get_or counts t 0 = within t in
    let inside : t < length counts = elim (cases_lt t (length counts)) [
      | inl l ↦ l
      | inr l ↦ absurd (let e = get_or_past counts t 0 l in omega arith)
    ] in
    let less : List ℕ = set counts t (get_or counts t 0 - 1) in
    let total = sum_by-set (λ (n : ℕ). n) counts t (get_or counts t 0 - 1) 0 inside in
    let rest : length pairs ≤ sum less = pairs_within less pairs (λ s. elim (cases_eq s t) [
      | inl e ↦
          let same = get_or-set_same counts t (get_or counts t 0 - 1) 0 inside in
          let le : placed_on t pairs ≤ get_or less t 0 = omega arith in
          subst (λ (n : ℕ). placed_on n pairs ≤ get_or less n 0) (sym e) le
      | inr e ↦
          let same = get_or-set_other counts t s (get_or counts t 0 - 1) 0 e in
          let there : cond (eqb t s) 1 0 + placed_on s pairs ≤ get_or counts s 0 = within s in
          omega arith
    ]) in
    omega arith

-- no more are honoured than there are protected positions
pub honoured_within : (protections : Protections) (people : List Person) (n : ℕ) → IsHonoured protections people n → n ≤ sum protections.counts
honoured_within protections people n h = omega (arith, h.reached.2, pairs_within protections.counts h.reached.0 h.reached.1.within)

-- ---- the choice

-- those who raise the number, and the best of the others on the seats that are left
abbrev pub best_with : ℕ → List Person → List Bool → List Person
best_with seats people marks = kept people (filled_up marks (seats - marked marks))

-- the raising persons are no more than the seats
pub marked_within : (step : Step) (marks : List Bool) → IsStep step → AreRaises step.protections [] step.people marks → marked marks ≤ step.seats
marked_within step marks ok raises =
    omega (arith, honoured_within step.protections step.people (marked marks) (honoured_marked step.protections step.people marks raises), ok.protections)

-- as many persons as the seats and the people allow
pub length-best_with : (step : Step) (marks : List Bool) → IsStep step → AreRaises step.protections [] step.people marks
    → length (best_with step.seats step.people marks) ≡ min step.seats (length step.people)
length-best_with step marks ok raises =
    let free = step.seats - marked marks in
    let each = length-raises step.protections [] step.people marks raises in
    let same = length-filled_up marks free in
    let count = length-kept step.people (filled_up marks free) (same ∙ each) in
    let set = marked-filled_up marks free in
    let within = marked_within step marks ok raises in
    omega arith

-- they honour as much as all people
pub honoured_best_with : (step : Step) (marks : List Bool) → IsStep step → AreRaises step.protections [] step.people marks
    → IsHonoured step.protections (best_with step.seats step.people marks) (marked marks)
honoured_best_with step marks ok raises =
    let free = step.seats - marked marks in
    honoured_again step.protections (best_with step.seats step.people marks) (marked marks)
    (subst (λ (k : ℕ). IsHonoured step.protections (onto (best_with step.seats step.people marks) []) k) (omega arith)
    (honoured_covered step.protections [] [] step.people marks (filled_up marks free) 0 raises (filled_up-covers marks free)
    (new-from_nobody step.people ok.people.distinct) tt tt (honoured_nobody step.protections) (honoured_nobody step.protections)))

-- and are no worse at any place than others who do
pub best_with-no_worse : (step : Step) (marks : List Bool) (other : List Person) → IsStep step → AreRaises step.protections [] step.people marks
    → MayAdmit step other → IsHonoured step.protections other (marked marks) → IsNoWorse step.list (best_with step.seats step.people marks) other
best_with-no_worse step marks other ok raises may theirs =
    let free = step.seats - marked marks in
    let set = sublist-kept other step.people may.people in
    let each = length-raises step.protections [] step.people marks raises in
    let size = length-kept step.people set.0 set.1 in
    let count : length other ≡ marked set.0 = ap length set.2 ∙ size in
    let among : AreAmong other (kept step.people set.0 ++ []) = subst (λ (those : List Person). AreAmong other (those ++ [])) set.2
    (among_front other []) in
    let later = later_from_honoured step.protections other [] step.people marks set.0 0 (marked marks) raises set.1 among theirs (omega arith) (honoured_nobody step.protections) size in
    let within = marked_within step marks ok raises in
    let leads : Leads (filled_up marks free) set.0 0 = filled_up-leads marks set.0 free 0 later (omega (arith, may.seats)) in
    subst (λ (those : List Person). IsNoWorse step.list (best_with step.seats step.people marks) those) (sym set.2)
    (leads-no_worse step.list step.people [] (filled_up marks free) set.0 0 ok.people.in_order tt (length-filled_up marks free ∙ each) refl leads)

-- They are the choice of the step.
pub best_with-is_choice : (step : Step) (marks : List Bool) → IsStep step → AreRaises step.protections [] step.people marks
    → IsStepChoice step (best_with step.seats step.people marks)
best_with-is_choice step marks ok raises =
    let free = step.seats - marked marks in
    let chosen = best_with step.seats step.people marks in
    let ours = honoured_best_with step marks ok raises in
    let size = length-best_with step marks ok raises in
    record {
      may = record { people = kept-sublist step.people (filled_up marks free); seats = omega arith };
      most = λ other m n may theirs mine.
          let all = honoured_marked step.protections step.people marks raises in
          let low = monotone step.protections other step.people m (marked marks) (among_sublist other step.people may.people) theirs all in
          let e = honoured-one step.protections chosen (marked marks) n ours mine in
          omega arith;
      best = λ other m may theirs mine.
          let e = honoured-one step.protections chosen m (marked marks) mine ours in
          best_with-no_worse step marks other ok raises may (subst (λ (k : ℕ). IsHonoured step.protections other k) e theirs);
    }

-- the same, by other names
pub admitted-is_choice : (step : Step) (people admitted : List Person) (marks set : List Bool) (free : ℕ) → IsStep step → AreRaises step.protections [] step.people marks
    → people ≡ step.people → set ≡ marks → free ≡ step.seats - marked marks → admitted ≡ kept people (filled_up set free) → IsStepChoice step admitted
admitted-is_choice step people admitted marks set free ok raises all same left told =
    subst (IsStepChoice step)
    (sym (told ∙ ap (λ (those : List Person). kept those (filled_up set free)) all ∙ ap₂ (λ (each : List Bool) (n : ℕ). kept step.people (filled_up each n)) same left))
    (best_with-is_choice step marks ok raises)
