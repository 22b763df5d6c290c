use Rattle.std.proofs.Common.{None, Some, inr, arith}
use Rattle.merit_choice.specs.State.{StepKept}
use Rattle.cutoff_lines.specs.Found.{holding}
use Rattle.cutoff_lines.proofs.Finding.{cutoff_found, raises}
use Rattle.cutoff_lines.proofs.Needing.{newcomer_may_join}
use Rattle.cutoff_lines.proofs.spare.cutoff_with.Goals as goal

pub returns-in_default : goal.returns-in_default
returns-in_default c = λ person new same. inr (
    let kept : StepKept = holding c.args.list c.args.seats c.args.marked.now.matching.protections c.args.held.now in
    let may = newcomer_may_join c.args.list c.args.marked.now.matching.protections c.args.held.now c.args.marked.now.matching person c.args.marked.now.needed c.requires.needed new in
    raises kept c.args.marked.now.matching.members person c.requires.kept new c.requires.needed.needs (c.in_default.ensures person may same))

pub returns-in-None : goal.returns-in-None
returns-in-None c = λ person new same.
    let kept : StepKept = holding c.args.list c.args.seats c.args.marked.now.matching.protections c.args.held.now in
    let may = newcomer_may_join c.args.list c.args.marked.now.matching.protections c.args.held.now c.args.marked.now.matching person c.args.marked.now.needed c.requires.needed new in
    let few = c.requires.kept.few in
    let most = c.if-held-seats.false in
    cutoff_found kept c.args.marked.now.matching person c.in-Some.set None c.requires.kept new c.requires.needed.needs c.requires.needed.same_protections (omega (arith, few, most))
    (c.in-Some.ensures person may same)
    c.in-None.ensures

pub returns-in-Some-last_spare : goal.returns-in-Some-last_spare
returns-in-Some-last_spare c = λ person new same.
    let kept : StepKept = holding c.args.list c.args.seats c.args.marked.now.matching.protections c.args.held.now in
    let may = newcomer_may_join c.args.list c.args.marked.now.matching.protections c.args.held.now c.args.marked.now.matching person c.args.marked.now.needed c.requires.needed new in
    let few = c.requires.kept.few in
    let most = c.if-held-seats.false in
    cutoff_found kept c.args.marked.now.matching person c.in-Some.set (Some c.in-Some-last_spare.last) c.requires.kept new c.requires.needed.needs c.requires.needed.same_protections
    (omega (arith, few, most)) (c.in-Some.ensures person may same)
    c.in-Some-last_spare.ensures
