use Rattle.std.proofs.Common.{◌≡◌, ◌∙◌, ◌∷◌, ◌++◌, [], List, length, ap, sym, subst, arith}
use Rattle.std.proofs.lemmas.Result.{IfOk-weaker}
use Rattle.std.specs.List.{AllZip, filter}
use Rattle.office_base.specs.CategorySteps.{all_steps, category_steps}
use Rattle.office_base.specs.Lists.{IsSublist}
use Rattle.office_base.specs.Person.{is_common}
use Rattle.office_base.specs.StepChoice.{AreRanked}
use Rattle.office_base.specs.declared.person.Person.{Person}
use Rattle.placements.proofs.Sublists.{sublist_again}
use Rattle.placements.proofs.Filters.{filter-sublist}
use Rattle.programme_lists.specs.Listing.{ShowsChoice, ShowsStep}
use Rattle.programme_lists.specs.Programme.{without}
use Rattle.programme_lists.specs.declared.programme.Programme.{Programme}
use Rattle.programme_lists.proofs.Walk.{ranked_without}
use Rattle.programme_lists.proofs.Taken.{length-without}
use Rattle.open_then_category.specs.Stepwise.{IsCategoryStep, ShowsLast}
use Rattle.open_then_category.proofs.Assemble.{IsOpenStep, assembled, zip_length}
use Rattle.open_then_category.proofs.choice.choose_in_order.Goals as goal

pub without-requires-clause-taken : goal.without-requires-clause-taken
without-requires-clause-taken c =
    let commons = filter (is_common c.args.seats.now.list) c.args.applicants.now in
    subst (λ (people : List Person). IsSublist people c.args.applicants.now) (sym c.as_slice.ensures)
    (sublist_again c.in_ok-first.first.admitted commons c.args.applicants.now c.in_ok-first.ensures.choice.may.people (filter-sublist (is_common c.args.seats.now.list) c.args.applicants.now))

pub category_steps-requires-clause-ranked : goal.category_steps-requires-clause-ranked
category_steps-requires-clause-ranked c =
    let left : c.as_slice-rest.result.now ≡ without c.args.applicants.now c.as_slice.result.now = c.as_slice-rest.ensures ∙ c.in_ok-rest.ensures in
    subst (AreRanked c.args.seats.now.list) (sym left) (ranked_without c.args.seats.now.list c.args.applicants.now c.as_slice.result.now c.requires.ranked)

pub category_steps-requires-clause-few : goal.category_steps-requires-clause-few
category_steps-requires-clause-few c =
    let left : c.as_slice-rest.result.now ≡ without c.args.applicants.now c.as_slice.result.now = c.as_slice-rest.ensures ∙ c.in_ok-rest.ensures in
    let long = ap length left in
    let few = length-without c.args.applicants.now c.as_slice.result.now in
    omega arith

pub last_step-requires-clause-ranked : goal.last_step-requires-clause-ranked
last_step-requires-clause-ranked c =
    let left : c.as_slice-rest.result.now ≡ without c.args.applicants.now c.as_slice.result.now = c.as_slice-rest.ensures ∙ c.in_ok-rest.ensures in
    subst (AreRanked c.args.seats.now.list) (sym left) (ranked_without c.args.seats.now.list c.args.applicants.now c.as_slice.result.now c.requires.ranked)

pub last_step-requires-clause-few : goal.last_step-requires-clause-few
last_step-requires-clause-few c =
    let left : c.as_slice-rest.result.now ≡ without c.args.applicants.now c.as_slice.result.now = c.as_slice-rest.ensures ∙ c.in_ok-rest.ensures in
    let long = ap length left in
    let few = length-without c.args.applicants.now c.as_slice.result.now in
    omega arith

pub programme_of-requires : goal.programme_of-requires
programme_of-requires c = zip_length (IsCategoryStep c.args.seats.now c.as_slice-rest.result.now) category_steps c.in_ok-lists.lists.items c.in_ok-lists.ensures

pub returns : goal.returns
returns c =
    let seats = c.args.seats.now in
    let applicants = c.args.applicants.now in
    let first = c.in_ok-first.first in
    let rest = c.as_slice-rest.result.now in
    let lists = c.in_ok-lists.lists.items in
    let last = c.in_ok-last.last in
    let opened : IsOpenStep seats applicants rest first = record {
      left = c.as_slice-rest.ensures ∙ c.in_ok-rest.ensures ∙ ap (without applicants) c.as_slice.ensures;
      choice = c.in_ok-first.ensures.choice;
      shows = c.in_ok-first.ensures.shows;
    } in
    let shows = subst (λ some. ShowsLast c.args.version seats rest first some last) c.as_slice-2.ensures.value c.in_ok-last.ensures in
    let shown = assembled c.args.version seats applicants rest first last lists opened c.in_ok-lists.ensures shows in
    IfOk-weaker c.programme_of.result (λ (programme : Programme). programme.steps ≡ first ∷ lists ++ last ∷ []) (ShowsChoice c.args.version seats applicants)
    (λ programme steps. (
      shown.0,
      shown.1,
      subst (λ all. AllZip (ShowsStep c.args.version seats applicants shown.0) all_steps all) (sym steps) shown.2,
    ))
    c.programme_of.ensures
