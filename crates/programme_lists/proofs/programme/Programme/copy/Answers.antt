use Rattle.std.proofs.Common.{◌≡◌, List, [], ◌∷◌, map, refl, ap, ◌∙◌, rules}
use Rattle.std.specs.List.{AllZip}
use Rattle.programme_lists.specs.declared.programme.Programme.{Programme}
use Rattle.programme_lists.specs.declared.programme.StepList.{StepList}
use Rattle.programme_lists.proofs.programme.Programme.copy.Goals as goal

-- what comes of a list, each of which is what v gives of its source
copies : {A B : Type 0} (R : A → B → Type 0) (v : A → B) (xs : List A) (ys : List B) → AllZip R xs ys → ((x : A) (y : B) → R x y → y ≡ v x) → ys ≡ map v xs
copies R v [] [] all each = refl
copies R v [] (y ∷ ys) all each = absurd all
copies R v (x ∷ xs) [] all each = absurd all
copies R v (x ∷ xs) (y ∷ ys) all each = ap (λ z. z ∷ ys) (each x y all.0) ∙ ap (λ zs. v x ∷ zs) (copies R v xs ys all.1 each)

pub returns : goal.returns
returns c =
    let same = copies _ (λ list. list.now) c.each_ref.result c.in_ok-steps.steps c.in_ok-steps.ensures.ok.whole (λ x y h. search rules) in
    ap (λ (steps : List StepList). let programme : Programme = record { steps = steps } in programme) (same ∙ c.each_ref.ensures.items)
