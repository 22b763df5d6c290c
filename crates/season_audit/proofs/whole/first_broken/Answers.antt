use Rattle.std.proofs.Common.{arith, refl}
use Rattle.season_facts.specs.Season.{facts_of}
use Rattle.season_audit.specs.Audit.{papers_in}
use Rattle.season_audit.proofs.Taking.{stood_none, stood_whole}
use Rattle.season_audit.proofs.Scripts.{few_windows, stood_breaks, stood_more}
use Rattle.season_audit.proofs.whole.first_broken.Goals as goal

pub loop-at-init : goal.loop-at-init
loop-at-init c = stood_none (facts_of c.args.dossier.now.season) c.args.dossier.now.script (papers_in c.args.dossier.now) c.in_ok-auditor.auditor c.in_ok-auditor.ensures

pub overflow_add-number : goal.overflow_add-number
overflow_add-number c =
    let few = few_windows (facts_of c.args.dossier.now.season) c.args.dossier.now.script (papers_in c.args.dossier.now) c.loop-at.at c.loop-at.auditor c.loop-at.invariant in
    omega (arith, few)

pub take-requires : goal.take-requires
take-requires c = (omega arith, c.loop-at.invariant.upto)

pub loop-at-preserved : goal.loop-at-preserved
loop-at-preserved c =
    stood_more (facts_of c.args.dossier.now.season) c.args.dossier.now.script (papers_in c.args.dossier.now) c.loop-at.at c.loop-at.auditor _ c.in_ok-fault.field-0 (omega arith) c.loop-at.invariant
    c.in_default.is c.in_ok-fault.ensures

pub returns-in-Some : goal.returns-in-Some
returns-in-Some c =
    stood_breaks (facts_of c.args.dossier.now.season) c.args.dossier.now.script (papers_in c.args.dossier.now) c.loop-at.at _ c.loop-at.auditor _ c.in_ok-fault.field-0 c.in-Some.fault (omega arith)
    c.loop-at.invariant refl c.in-Some.is c.in_ok-fault.ensures

pub returns : goal.returns
returns c = stood_whole (facts_of c.args.dossier.now.season) c.args.dossier.now.script (papers_in c.args.dossier.now) c.loop-at.at c.loop-at.auditor c.loop-at.invariant (omega arith)
