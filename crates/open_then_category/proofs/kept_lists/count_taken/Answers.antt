use Rattle.std.proofs.Common.{◌≡◌, ◌≤◌, ◌<◌, ◌+◌, ◌∙◌, ℕ, List, ap, drop, get_or, length, map, sym, refl, subst, arith}
use Rattle.std.specs.Prelude.{sum}
use Rattle.std.proofs.lemmas.List.{drop_more}
use Rattle.std.specs.List.{filter}
use Rattle.office_base.specs.CategorySteps.{category_steps}
use Rattle.office_base.specs.Limits.{most_step_seats}
use Rattle.office_base.specs.Person.{is_common}
use Rattle.office_base.specs.declared.category_steps.CategoryStep.{CategoryStep}
use Rattle.office_base.specs.declared.person.Person.{Person}
use Rattle.office_base.specs.declared.step.StepKind.TheVariants.{Open}
use Rattle.seat_matrix.specs.declared.seats.ProgrammeSeats.{ProgrammeSeats}
use Rattle.open_then_category.specs.State.{admissions_of}
use Rattle.open_then_category.proofs.Counting.{few_admitted}
use Rattle.open_then_category.proofs.Rows.{sum-cons}
use Rattle.open_then_category.proofs.kept_lists.count_taken.Goals as goal

pub count_common-taken-requires-clause-few : goal.count_common-taken-requires-clause-few
count_common-taken-requires-clause-few c =
    subst (λ (people : List Person). length people ≤ most_step_seats) (sym c.admitted.ensures) (few_admitted c.args.state.now c.programme_seats.ensures.kept Open refl)

-- the sum over the rows from one on is what that row gives, and the sum over those after it
row_next : (f : CategoryStep → ℕ) (rows : List CategoryStep) (i : ℕ) (row : CategoryStep) (n : ℕ) → n ≡ f (get_or rows i row) → i < length rows → sum (map f (drop i rows)) ≡ n + sum (map f (drop (i + 1) rows))
row_next f rows i row n is less =
    ap (λ (some : List CategoryStep). sum (map f some)) (drop_more rows i row less)
    ∙ (sum-cons (f (get_or rows i row)) (map f (drop (i + 1) rows))
    ∙ ap (λ (k : ℕ). k + sum (map f (drop (i + 1) rows))) (sym is))

pub loop-row-preserved : goal.loop-row-preserved
loop-row-preserved c =
    let state = c.args.state.now in
    let f : CategoryStep → ℕ = λ row. length (filter (is_common state.seats.list) (admissions_of state row.step)) in
    let n = c.count_common-taken-in-loop-row in
    let is : n.result ≡ f (get_or category_steps c.loop-row.row-index _) =
    n.ensures.count
    ∙ ap (λ (seats : ProgrammeSeats). length (filter (is_common seats.list) c.admitted-in-loop-row.result.now)) c.programme_seats.ensures.seats
    ∙ ap (λ (people : List Person). length (filter (is_common state.seats.list) people)) c.admitted-in-loop-row.ensures in
    let next = row_next f category_steps c.loop-row.row-index _ n.result is c.loop-row-test.true in
    record { whole = omega (arith, next, c.loop-row.invariant.whole); few = omega arith }
