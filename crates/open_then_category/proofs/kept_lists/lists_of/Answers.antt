use Rattle.std.proofs.Common.{◌≡◌, ◌∙◌, ◌++◌, List, [], ◌∷◌, ap, sym, subst, arith}
use Rattle.std.proofs.lemmas.Result.{IfOk-weaker}
use Rattle.std.specs.List.{AllZip}
use Rattle.office_base.specs.CategorySteps.{all_steps, category_steps}
use Rattle.office_base.specs.Merit.{in_merit}
use Rattle.office_base.specs.declared.step.StepKind.TheVariants.{Open, Dereserved}
use Rattle.office_base.specs.declared.person.Person.{Person}
use Rattle.programme_lists.specs.Chosen.{ShowsFrom}
use Rattle.programme_lists.specs.Listing.{ShowsStep}
use Rattle.programme_lists.specs.Programme.{people_of}
use Rattle.programme_lists.specs.declared.programme.Programme.{Programme}
use Rattle.open_then_category.specs.State.{admissions_of}
use Rattle.open_then_category.specs.Tried.{AreCounted, HaveCome, ShowCategories}
use Rattle.open_then_category.specs.declared.kept_lists.Tried.{Tried}
use Rattle.open_then_category.proofs.Assemble.{steps_shown}
use Rattle.open_then_category.proofs.Filling.{shows_length}
use Rattle.open_then_category.proofs.Counting.{rows_counted, rows_shown, who_came}
use Rattle.open_then_category.proofs.kept_lists.lists_of.Goals as goal

pub open_list-requires-clause-distinct : goal.open_list-requires-clause-distinct
open_list-requires-clause-distinct c = ((who_came c.args.state.now c.args.tried.now _ c.step_laws.ensures c.requires.1).ranked Open).distinct

pub open_list-requires-clause-traits : goal.open_list-requires-clause-traits
open_list-requires-clause-traits c = ((who_came c.args.state.now c.args.tried.now _ c.step_laws.ensures c.requires.1).ranked Open).traits

pub category_lists-requires : goal.category_lists-requires
category_lists-requires c =
    let k = who_came c.args.state.now c.args.tried.now _ c.step_laws.ensures c.requires.1 in
    subst (AreCounted c.args.state.now category_steps) (sym (ap (λ (t : Tried). t.members) c.requires.1.counts)) (rows_counted c.args.state.now c.requires.0 k)

pub last_list-requires-clause-distinct : goal.last_list-requires-clause-distinct
last_list-requires-clause-distinct c = ((who_came c.args.state.now c.args.tried.now _ c.step_laws.ensures c.requires.1).ranked Dereserved).distinct

pub last_list-requires-clause-traits : goal.last_list-requires-clause-traits
last_list-requires-clause-traits c = ((who_came c.args.state.now c.args.tried.now _ c.step_laws.ensures c.requires.1).ranked Dereserved).traits

pub last_list-requires-clause-few : goal.last_list-requires-clause-few
last_list-requires-clause-few c =
    let all = (who_came c.args.state.now c.args.tried.now _ c.step_laws.ensures c.requires.1).last in
    let came = ap (λ (t : Tried). t.common) c.requires.1.counts in
    omega (arith, all, came)

pub programme_of-requires : goal.programme_of-requires
programme_of-requires c = shows_length c.args.state.now category_steps c.args.tried.now.members c.in_ok-lists.lists.items c.in_ok-lists.ensures

pub returns : goal.returns
returns c =
    let state = c.args.state.now in
    let lists = c.in_ok-lists.lists.items in
    let first = c.in_ok-first.first in
    let last = c.in_ok-last.last in
    IfOk-weaker c.programme_of.result (λ (programme : Programme). programme.steps ≡ first ∷ lists ++ last ∷ [])
    (λ (programme : Programme). (people : List Person) → HaveCome state c.args.tried.now people → ShowsFrom state.version state.seats people programme)
    (λ programme steps people come.
    let a = admissions_of state in
    let k = who_came state c.args.tried.now people c.step_laws.ensures come in
    let all = in_merit state.seats.list people in
    let of = people_of state.seats.list all a in
    let rows = rows_shown state people lists k
    (subst (λ counts. ShowCategories state category_steps counts lists) (ap (λ (t : Tried). t.members) come.counts) c.in_ok-lists.ensures) in
    let common = ap (λ (t : Tried). t.common) come.counts in (
      a,
      come.choice,
      subst (λ all_lists. AllZip (ShowsStep state.version state.seats all a) all_steps all_lists) (sym steps)
          (steps_shown state.version state.seats all a first last lists
          (c.in_ok-first.ensures (of Open) (k.common ∙ sym common)) rows (c.in_ok-last.ensures (of Dereserved) (k.last ∙ sym common))),
    ))
    c.programme_of.ensures
