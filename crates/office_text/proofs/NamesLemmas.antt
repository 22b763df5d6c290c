-- Each step has a name of its own, and so has each kind of seat.
use Rattle.std.proofs.Common.{◌≡◌, ◌==◌, Bool, true, false, if◌then◌else◌, refl, sym, ap, ◌∙◌}
use Rattle.std.proofs.lemmas.Bool.{cond-true, eqb-true, false≢true}
use Rattle.std.proofs.lemmas.Slice.Eq.{bytes_eq-Decides}
use Rattle.std.specs.List.{list_all}
use Rattle.std.specs.Prelude.{bytes_eq, codes}
use Rattle.office_base.specs.CategorySteps.{all_steps}
use Rattle.office_base.specs.StepNumbers.{step_number}
use Rattle.office_base.specs.declared.seat.SeatKind.{SeatKind}
use Rattle.office_base.specs.declared.seat.SeatKind.TheVariants.{Kept, Under}
use Rattle.office_base.specs.declared.step.StepKind.{StepKind}
use Rattle.office_base.proofs.StepNumbers.{each_step, one_number}
use Rattle.office_text.specs.Names.{seat_kind_name, step_name}

-- where the names are the same, the steps are
abbrev same_where_named : StepKind → StepKind → Bool
same_where_named kind other = if bytes_eq (step_name kind) (step_name other) then step_number kind == step_number other else true

-- a name is that of one step
pub one_name : (kind other : StepKind) → step_name kind ≡ step_name other → kind ≡ other
one_name kind other same =
    let row = each_step (λ k. list_all (same_where_named k) all_steps) refl kind in
    let holds = each_step (same_where_named kind) row other in
    let named = (bytes_eq-Decides (step_name kind) (step_name other)).1 same in
    one_number kind other (eqb-true (step_number kind) (step_number other) (sym (cond-true (bytes_eq (step_name kind) (step_name other)) (step_number kind == step_number other) true named) ∙ holds))

-- no step has the name of the kept seats
not_kept : (step : StepKind) → bytes_eq (step_name step) (codes "KEPT") ≡ true → ⊥
not_kept step same =
    let other = each_step (λ k. if bytes_eq (step_name k) (codes "KEPT") then false else true) refl step in
    false≢true (sym (cond-true (bytes_eq (step_name step) (codes "KEPT")) false true same) ∙ other)

-- a name is that of one kind of seat
pub one_kind_name : (kind other : SeatKind) → seat_kind_name kind ≡ seat_kind_name other → kind ≡ other
one_kind_name (Under step) (Under other) same = ap Under (one_name step other same)
one_kind_name (Under step) Kept same = absurd (not_kept step ((bytes_eq-Decides (step_name step) (codes "KEPT")).1 same))
one_kind_name Kept (Under step) same = absurd (not_kept step ((bytes_eq-Decides (step_name step) (codes "KEPT")).1 (sym same)))
one_kind_name Kept Kept same = refl
