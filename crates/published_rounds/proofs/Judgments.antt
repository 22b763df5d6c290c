-- The order of the judgments takes the people whom the simple rule takes.
use Rattle.std.proofs.Common.{◌≡◌, ◌<◌, ◌≤◌, ◌+◌, ◌-◌, ◌⊎◌, inl, inr, ℕ, zero, suc, min, Bool, true, false, List, [], ◌∷◌, ◌++◌, length, take, drop, arith, refl, sym, ap, ◌∙◌, subst}
use Rattle.std.proofs.lemmas.Bool.{cases_lt}
use Rattle.std.proofs.lemmas.List.{append-nil, length-take, length-take-le, nil_from_length, length-drop, take-append-drop}
use Rattle.office_base.specs.StepChoice.{IsStep, IsStepChoice}
use Rattle.office_base.specs.declared.person.Person.{Person}
use Rattle.office_base.specs.declared.step.Protections.{Protections}
use Rattle.office_base.specs.declared.step.Step.{Step}
use Rattle.merit_choice.specs.Marks.{filled_up, kept, marked}
use Rattle.published_rounds.specs.Judgments.{AreBroughtUp, IsBroughtUp, TheOrderOfTheJudgments, locked, unmarked}
use Rattle.published_rounds.specs.Simple.{AreBestHolders, IsOneOfTheBest, TheSimpleRule, holders_of}

-- ---- marks

marked-more : (marks more : List Bool) → marked (marks ++ more) ≡ marked marks + marked more
marked-more [] more = omega arith
marked-more (true ∷ marks) more = let rest = marked-more marks more in omega (arith, rest)
marked-more (false ∷ marks) more = marked-more marks more

all-marks : (marks : List Bool) → marked marks + unmarked marks ≡ length marks
all-marks [] = refl
all-marks (true ∷ marks) = let rest = all-marks marks in omega (arith, rest)
all-marks (false ∷ marks) = let rest = all-marks marks in omega (arith, rest)

fill-none : (marks : List Bool) → filled_up marks 0 ≡ marks
fill-none [] = refl
fill-none (true ∷ marks) = ap (λ (m : List Bool). true ∷ m) (fill-none marks)
fill-none (false ∷ marks) = ap (λ (m : List Bool). false ∷ m) (fill-none marks)

-- where the first marks leave room for all, the rest stays as it is
fill-front : (marks more : List Bool) (n : ℕ) → n ≤ unmarked marks → filled_up (marks ++ more) n ≡ filled_up marks n ++ more
fill-front [] more n within = ap (filled_up more) (let none : n ≡ 0 = omega (arith, within) in none) ∙ fill-none more
fill-front (true ∷ marks) more n within = ap (λ (m : List Bool). true ∷ m) (fill-front marks more n within)
fill-front (false ∷ marks) more zero within = ap (λ (m : List Bool). false ∷ m) (fill-front marks more 0 (omega arith))
fill-front (false ∷ marks) more (suc n) within = ap (λ (m : List Bool). true ∷ m) (fill-front marks more n (omega (arith, within)))

-- with room for more than all, all are marked
fill-all : (marks : List Bool) (n : ℕ) → unmarked marks ≤ n → filled_up marks n ≡ filled_up marks (unmarked marks)
fill-all [] n enough = refl
fill-all (true ∷ marks) n enough = ap (λ (m : List Bool). true ∷ m) (fill-all marks n enough)
fill-all (false ∷ marks) zero enough = absurd (omega (arith, enough))
fill-all (false ∷ marks) (suc n) enough = ap (λ (m : List Bool). true ∷ m) (fill-all marks n (omega (arith, enough)))

-- ---- holders

-- the people before others, the last of them first
abbrev behind : List Person → List Person → List Person
behind [] better = better
behind (person ∷ people) better = behind people (person ∷ better)

holders-behind : (t : ℕ) (people better : List Person) → holders_of t (behind people better) ≡ holders_of t people + holders_of t better
holders-behind t [] better = omega arith
holders-behind t (person ∷ people) better = let rest = holders-behind t people (person ∷ better) in omega (arith, rest)

module _ (protections : Protections) where
  best-then : (better people more : List Person) (marks those : List Bool) → AreBestHolders protections better people marks → AreBestHolders protections (behind people better) more those
      → AreBestHolders protections better (people ++ more) (marks ++ those)
  best-then better [] more [] those are then = then
  best-then better [] more (mark ∷ marks) those are then = absurd are
  best-then better (person ∷ people) more [] those are then = absurd are
  best-then better (person ∷ people) more (mark ∷ marks) those are then = (are.0, best-then (person ∷ better) people more marks those are.1 then)

  as-many : (better people : List Person) (marks : List Bool) → AreBestHolders protections better people marks → length marks ≡ length people
  as-many better [] [] are = refl
  as-many better [] (mark ∷ marks) are = absurd are
  as-many better (person ∷ people) [] are = absurd are
  as-many better (person ∷ people) (mark ∷ marks) are = ap (λ (n : ℕ). suc n) (as-many (person ∷ better) people marks are.1)

  -- who is brought up is one of the best holders
  brought-best : (seated between better people : List Person) (marks : List Bool) → ((t : ℕ) → holders_of t better ≡ holders_of t seated + holders_of t between)
      → AreBroughtUp protections seated between people marks → AreBestHolders protections better people marks
  brought-best seated between better [] [] same are = tt
  brought-best seated between better [] (mark ∷ marks) same are = absurd are
  brought-best seated between better (person ∷ people) [] same are = absurd are
  brought-best seated between better (person ∷ people) (mark ∷ marks) same are = (
    (
      (λ set. let it = are.0.0 set in (it.0, it.1, let all = same it.0 in let few = it.2 in omega (arith, all, few))),
      (λ best. are.0.1 (best.0, best.1, let all = same best.0 in let few = best.2 in omega (arith, all, few))),
    ),
    brought-best seated (person ∷ between) (person ∷ better) people marks (λ t. let all = same t in omega (arith, all)) are.1,
  )

  none-below : (seated between : List Person) (people : List Person) (marks : List Bool) → people ≡ [] → AreBroughtUp protections seated between people marks → marks ≡ []
  none-below seated between people [] none are = refl
  none-below seated between [] (mark ∷ marks) none are = absurd are
  none-below seated between (person ∷ people) (mark ∷ marks) none are = absurd (cc)

-- ---- the list

module _ (step : Step) (needed brought : List Bool) (ok : IsStep step) (best : AreBestHolders step.protections [] (take step.seats step.people) needed)
    (up : AreBroughtUp step.protections (take step.seats step.people) [] (drop step.seats step.people) brought) where
  abbrev seated : List Person
  seated = take step.seats step.people

  abbrev below : List Person
  below = drop step.seats step.people

  all-best : AreBestHolders step.protections [] step.people (needed ++ brought)
  all-best =
      subst (λ (people : List Person). AreBestHolders step.protections [] people (needed ++ brought)) (take-append-drop step.seats step.people)
      (best-then step.protections [] seated below needed brought best
      (brought-best step.protections seated [] (behind seated []) below brought (λ t. let all = holders-behind t seated [] in omega (arith, all)) up))

  counts : marked needed + unmarked needed ≡ length seated
  counts = all-marks needed ∙ as-many step.protections [] seated needed best

  same-list : filled_up (needed ++ brought) (step.seats - marked (needed ++ brought)) ≡ locked needed brought
  same-list = elim (cases_lt (length step.people) step.seats) [
    | inl few ↦
        let least : length seated ≡ length step.people = let e = length-take step.seats step.people in omega (arith, e, few) in
        let nobody : brought ≡ [] = none-below step.protections seated [] below brought (nil_from_length below (let e = length-drop step.seats step.people in omega (arith, e, few))) up in
        let room : unmarked needed ≤ step.seats - marked needed = omega (arith, counts, least, few) in
        ap (λ (b : List Bool). filled_up (needed ++ b) (step.seats - marked (needed ++ b))) nobody
        ∙ ap (λ (m : List Bool). filled_up m (step.seats - marked m)) (append-nil needed)
        ∙ fill-all needed (step.seats - marked needed) room
        ∙ sym (append-nil (filled_up needed (unmarked needed)))
        ∙ ap (λ (n : ℕ). filled_up needed n ++ []) (let all : unmarked needed ≡ unmarked needed - 0 = omega arith in all)
        ∙ sym (ap (λ (b : List Bool). locked needed b) nobody)
    | inr enough ↦
        let full : length seated ≡ step.seats = length-take-le step.seats step.people (omega (arith, enough)) in
        let sum = marked-more needed brought in
        let free : step.seats - marked (needed ++ brought) ≡ unmarked needed - marked brought = omega (arith, counts, full, sum) in
        ap (filled_up (needed ++ brought)) free ∙ fill-front needed brought (unmarked needed - marked brought) (omega arith)
  ]

pub the_order : TheSimpleRule → TheOrderOfTheJudgments
the_order simple step needed brought ok one best up =
    subst (λ (marks : List Bool). IsStepChoice step (kept step.people marks)) (same-list step needed brought ok best up)
    (simple step (needed ++ brought) ok one (all-best step needed brought ok best up))
