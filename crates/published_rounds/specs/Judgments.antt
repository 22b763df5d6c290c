-- The choice of a step in the order of the judgments: the best take the seats, and then as many of the others are struck out as holders of a trait are missing.
use Rattle.std.specs.Prelude.{◌<◌, ◌-◌, ◌↔◌, ◌≡◌, ◌++◌, ℕ, suc, Bool, true, false, List, [], ◌∷◌, IsTrue, take, drop}
use Rattle.office_base.specs.Person.{has_trait}
use Rattle.office_base.specs.Placement.{protected}
use Rattle.office_base.specs.StepChoice.{IsStep, IsStepChoice}
use Rattle.office_base.specs.declared.person.Person.{Person}
use Rattle.office_base.specs.declared.step.Protections.{Protections}
use Rattle.office_base.specs.declared.step.Step.{Step}
use Rattle.merit_choice.specs.Marks.{filled_up, kept, marked}
use Rattle.published_rounds.specs.Simple.{AreBestHolders, HoldOneAtMost, holders_of}

-- how many of the marks are not set
abbrev pub unmarked : List Bool → ℕ
unmarked [] = 0
unmarked (true ∷ marks) = unmarked marks
unmarked (false ∷ marks) = suc (unmarked marks)

-- The person is brought up: holders of a trait are missing on the seats, and fewer than are missing stand between the seats and this holder.
abbrev pub IsBroughtUp : Protections → List Person → List Person → Person → Type 0
IsBroughtUp protections seated between person = (t : ℕ) × IsTrue (has_trait person.traits t) × (holders_of t between < protected protections t - holders_of t seated)

-- one mark for each of the people below the seats, down the merit order: whether the person is brought up
abbrev pub AreBroughtUp : Protections → List Person → List Person → List Person → List Bool → Type 0
AreBroughtUp protections seated between [] [] = Unit {0}
AreBroughtUp protections seated between [] (mark ∷ marks) = ⊥
AreBroughtUp protections seated between (person ∷ people) [] = ⊥
AreBroughtUp protections seated between (person ∷ people) (mark ∷ marks) =
    ((mark ≡ true) ↔ IsBroughtUp protections seated between person) × AreBroughtUp protections seated (person ∷ between) people marks

-- Who stays on the seats, and behind them who is brought up: those who are needed for a trait stay, and of the others all but the last, as many as are brought up.
abbrev pub locked : List Bool → List Bool → List Bool
locked needed brought = filled_up needed (unmarked needed - marked brought) ++ brought

-- If nobody at a step holds two of its protected traits, its choice is the list in the order of the judgments: the best people take the seats; the best holders of
-- each trait among them are needed, up to the protected number; who is missing is brought up from below; and as many of the others are struck out, the last first.
abbrev pub TheOrderOfTheJudgments : Type 0
TheOrderOfTheJudgments = (step : Step) (needed brought : List Bool) → IsStep step → HoldOneAtMost step.protections step.people → AreBestHolders step.protections [] (take step.seats step.people) needed
    → AreBroughtUp step.protections (take step.seats step.people) [] (drop step.seats step.people) brought → IsStepChoice step (kept step.people (locked needed brought))
