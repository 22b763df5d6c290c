use Rattle.std.proofs.Common.{◌≡◌, ◌∙◌, ◌++◌, List, ap, refl, subst, take_all}
use Rattle.std.specs.Prelude.{map}
use Rattle.office_base.specs.declared.person.Person.{Person}
use Rattle.merit_choice.specs.State.{StepKept}
use Rattle.cutoff_lines.specs.Found.{holding}
use Rattle.cutoff_lines.specs.Lines.{AreLinesOf}
use Rattle.cutoff_lines.specs.declared.lines.CutoffLine.{CutoffLine}
use Rattle.programme_lists.specs.declared.programme.StepList.{StepList}
use Rattle.seat_matrix.specs.declared.seats.Seating.{Seating}
use Rattle.list_cutoffs.specs.Cutoffs.{AreCutoffsIn, AreLinesIn, kept_listed, under}
use Rattle.list_cutoffs.proofs.Joining.{next_list}
use Rattle.list_cutoffs.proofs.cutoffs.cutoffs_in.Goals as goal

pub loop-list-preserved : goal.loop-list-preserved
loop-list-preserved c =
    let seats = c.args.seats.now in
    let list = c.list-item.result in
    let same : holding seats.list list.seats c.of.result.protections c.as_slice-held.result.now ≡ kept_listed seats list =
    ap (λ (seating : Seating). holding seats.list list.seats seating.protections c.as_slice-held.result.now) c.of.ensures
    ∙ ap (λ (held : List Person). let kept : StepKept = record { list = seats.list; seats = list.seats; protections = (kept_listed seats list).protections; held = held } in kept) c.as_slice-held.ensures in
    let lines = map (under list.kind) c.in_ok-lines.lines in
    let made : AreLinesIn seats list lines = (c.in_ok-lines.lines, subst (λ (kept : StepKept). AreLinesOf kept c.in_ok-lines.lines) same c.in_ok-lines.ensures.lines, c.in_ok-lines.ensures.narrow, refl) in
    next_list seats c.as_slice-list-items.result.now c.loop-list.list-index list c.loop-list.cutoffs lines c.push_under.new.cutoffs c.loop-list-test.true c.loop-list.invariant
    (subst (λ (one : StepList). AreLinesIn seats one lines) c.list-item.is made) (c.in_ok-push_under.ensures ∙ ap (λ (own : List CutoffLine). c.loop-list.cutoffs ++ map (under list.kind) own) c.as_slice.ensures)

pub returns : goal.returns
returns c =
    subst (λ (lists : List StepList). AreCutoffsIn c.args.seats.now lists c.loop-list.cutoffs)
    (take_all c.loop-list.list-index c.as_slice-list-items.result.now c.loop-list-test.false ∙ c.as_slice-list-items.ensures) c.loop-list.invariant
