-- The seats that are left to the de-reserved step, from numbers alone.
use Rattle.std.specs.Prelude.{◌-◌, ℕ, sum, map, if◌then◌else◌}
use Rattle.office_base.specs.CategorySteps.{category_steps, gives_up}
use Rattle.office_base.specs.declared.step.StepKind.{StepKind}

-- The seats that categories left unfilled, of those whose empty seats are given away in this version: from the seats of each step and the number of
-- persons whom it admitted.
abbrev pub left_unfilled : ℕ → (StepKind → ℕ) → (StepKind → ℕ) → ℕ
left_unfilled version seats held = sum (map (λ row. if gives_up row version then seats row.step - held row.step else 0) category_steps)
