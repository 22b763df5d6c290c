-- Who is taken, and who is left out of the first of some people.
use Rattle.std.proofs.Common.{◌≡◌, ◌<◌, ◌+◌, ℕ, zero, suc, Bool, true, false, not, Option, Some, None, List, [], ◌∷◌, length, get_or, take, drop, add-one, refl, sym, ap, ◌∙◌, subst, inl, inr}
use Rattle.std.proofs.Math.Seq.{drop-cons}
use Rattle.std.specs.Prelude.{IsTrue, ◌↔◌}
use Rattle.std.specs.List.{AllByRecursion}
use Rattle.std.proofs.lemmas.Bool.{cases_Bool, cond-false, cond-true, eq-eqb, or_cases, or_left, or_right}
use Rattle.office_base.specs.CategorySteps.{category_steps}
use Rattle.office_base.specs.Lists.{AnyByRecursion, IsAmong, Pairwise}
use Rattle.office_base.specs.Merit.{is_ahead}
use Rattle.office_base.specs.Person.{IsAhead, IsBetter, number_in}
use Rattle.office_base.specs.declared.category_steps.CategoryStep.{CategoryStep}
use Rattle.office_base.specs.declared.person.Category.{Category}
use Rattle.office_base.specs.declared.person.ListId.{ListId}
use Rattle.office_base.specs.declared.person.Person.{Person}
use Rattle.placements.proofs.Merit.{ahead_true}
use Rattle.placements.proofs.Filters.{among_filter_from}
use Rattle.programme_lists.specs.Programme.{is_same, is_taken, without}
use Rattle.programme_lists.proofs.Walk.{same_category}
use Rattle.programme_lists.specs.declared.programme.StepList.{StepList}
use Rattle.explain.specs.Reason.{admitted_in, category_step, has_worse, step_among}
use Rattle.explain.proofs.Step.{each, not_ahead_means}

-- ---- who is taken

-- a person who is not taken is none of those taken
pub none_taken : (taken : List Person) (person : Person) → is_taken taken person ≡ false → IsAmong person taken → ⊥
none_taken taken person fails among = absurd (let e : false ≡ true = sym fails ∙ is_there taken among in cc)
  where
    is_there : (people : List Person) → IsAmong person people → is_taken people person ≡ true
    is_there [] there = absurd there
    is_there (other ∷ people) there = elim there [
      | inl here ↦ or_left _ _ (eq-eqb other.id.0 person.id.0 (ap (λ (p : Person). p.id.0) (sym here)))
      | inr later ↦ or_right _ _ (is_there people later)
    ]

-- and is left without them
pub stays : (people taken : List Person) (person : Person) → IsAmong person people → is_taken taken person ≡ false → IsAmong person (without people taken)
stays people taken person among fails = among_filter_from (λ (x : Person). not (is_taken taken x)) person people among (ap not fails)

-- no list has a person whom no list admits
pub not_listed : (lists : List StepList) (person : Person) → admitted_in lists person ≡ None → AllByRecursion (λ list. is_taken list.admitted person ≡ false) lists
not_listed [] person none = tt
not_listed (list ∷ lists) person none = elim (cases_Bool (is_taken list.admitted person)) [
  | inl holds ↦ absurd (let e : Some list.kind ≡ None = sym (cond-true _ _ _ holds) ∙ none in cc)
  | inr fails ↦ (fails, not_listed lists person (sym (cond-false _ _ _ fails) ∙ none))
]

-- ---- who is worse

better_true : (m n : Option ℕ) → IsAhead m n → is_ahead m n ≡ true
better_true m n ahead = elim (cases_Bool (is_ahead m n)) [
  | inl holds ↦ holds
  | inr fails ↦ absurd (not_ahead_means m n fails ahead)
]

pub tells_worse : (list : ListId) (person : Person) (admitted : List Person) → IsTrue (has_worse list person admitted) ↔ AnyByRecursion (IsBetter list person) admitted
tells_worse list person admitted = (means admitted, shows admitted)
  where
    means : (people : List Person) → has_worse list person people ≡ true → AnyByRecursion (IsBetter list person) people
    means [] told = absurd (let e : false ≡ true = told in cc)
    means (other ∷ people) told = elim (or_cases _ _ told) [
      | inl here ↦ inl (ahead_true (number_in list person) (number_in list other) here)
      | inr later ↦ inr (means people later)
    ]

    shows : (people : List Person) → AnyByRecursion (IsBetter list person) people → has_worse list person people ≡ true
    shows [] worse = absurd worse
    shows (other ∷ people) worse = elim worse [
      | inl here ↦ or_left _ _ (better_true (number_in list person) (number_in list other) here)
      | inr later ↦ or_right _ _ (shows people later)
    ]

-- ---- the first of some people

-- where a person is not among the first, these are as many as there could be, and all of them are better
pub left_by_take : (list : ListId) (n : ℕ) (people : List Person) (person : Person) → Pairwise (IsBetter list) people → IsAmong person people → (IsAmong person (take n people) → ⊥)
    → (length (take n people) ≡ n) × AllByRecursion (λ other. IsBetter list other person) (take n people)
left_by_take list zero people person order among out = (refl, tt)
left_by_take list (suc n) [] person order among out = absurd among
left_by_take list (suc n) (one ∷ people) person order among out = elim among [
  | inl here ↦ absurd (out (inl here))
  | inr later ↦
      let rest = left_by_take list n people person order.1 later (λ there. out (inr there)) in
      (ap suc rest.0, (each (IsBetter list one) person people later order.0, rest.1))
]

-- ---- the step of a category

-- a row of another category is passed over
pub passed_over : (items : List CategoryStep) (index : ℕ) (d : CategoryStep) (category : Category) → items ≡ category_steps → index < length items → ((get_or items index d).category ≡ category → ⊥)
    → step_among (drop index category_steps) category ≡ category_step category → step_among (drop (index + 1) category_steps) category ≡ category_step category
passed_over items index d category same less apart left =
    let row = get_or items index d in
    let begins : drop index category_steps ≡ row ∷ drop (index + 1) category_steps = subst (λ (rows : List CategoryStep). drop index rows ≡ row ∷ drop (index + 1) rows) same
    (rw add-one (drop-cons items index d less)) in
    let first : step_among (row ∷ drop (index + 1) category_steps) category ≡ step_among (drop (index + 1) category_steps) category = cond-false _ _ _ (other (is_same row.category category) refl) in
    sym (ap (λ (rows : List CategoryStep). step_among rows category) begins ∙ first) ∙ left
  where
    other : (found : Bool) → is_same (get_or items index d).category category ≡ found → is_same (get_or items index d).category category ≡ false
    other true is = absurd (apart (same_category (get_or items index d).category category is))
    other false is = is
