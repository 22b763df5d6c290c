use Rattle.std.proofs.Common.{◌≡◌, ◌<◌, ◌+◌, ◌++◌, ℕ, List, drop, length, get_or, append_assoc, arith, sym, ap, ◌∙◌}
use Rattle.std.proofs.lemmas.List.{drop_more}
use Rattle.office_base.specs.CategorySteps.{all_steps}
use Rattle.office_base.specs.declared.person.Person.{Person}
use Rattle.office_base.specs.declared.step.StepKind.{StepKind}
use Rattle.open_then_category.specs.State.{admissions_of}
use Rattle.programme_lists.specs.Chosen.{all_by, everybody}
use Rattle.programme_lists.specs.Programme.{Admissions}
use Rattle.choice_trials.proofs.programme_states.held_by.Goals as goal

-- whom one step more admits
one_more : (a : Admissions) (kinds : List StepKind) (i : ℕ) (d : StepKind) (all new whole : List Person) → i < length kinds → all ++ all_by (drop i kinds) a ≡ whole → new ≡ all ++ a (get_or kinds i d)
    → new ++ all_by (drop (i + 1) kinds) a ≡ whole
one_more a kinds i d all new whole less before is =
    ap (λ (l : List Person). l ++ all_by (drop (i + 1) kinds) a) is
    ∙ append_assoc all (a (get_or kinds i d)) (all_by (drop (i + 1) kinds) a)
    ∙ ap (λ (ks : List StepKind). all ++ all_by ks a) (sym (drop_more kinds i d less))
    ∙ before

pub loop-step-preserved : goal.loop-step-preserved
loop-step-preserved c =
    one_more (admissions_of c.args.state.now) all_steps c.loop-step.step-index _ c.loop-step.all.items c.extend_from_slice.new.self.items (everybody (admissions_of c.args.state.now))
    (omega (arith, c.loop-step-test.true)) c.loop-step.invariant (c.in_ok-extend_from_slice.ensures.items ∙ ap (λ (l : List Person). c.loop-step.all.items ++ l) c.admitted.ensures)
