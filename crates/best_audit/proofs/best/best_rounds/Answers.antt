use Rattle.std.proofs.Common.{arith, refl}
use Rattle.season_facts.specs.Season.{facts_of}
use Rattle.season_audit.specs.Audit.{papers_in}
use Rattle.best_audit.proofs.Replaying.{all_best, fair_text, few_windows, gone_next, here_best, here_not}
use Rattle.best_audit.proofs.best.best_rounds.Goals as goal

pub overflow_add-round : goal.overflow_add-round
overflow_add-round c =
    let few = few_windows (facts_of c.args.dossier.now.season) c.args.dossier.now.script (papers_in c.args.dossier.now) c.loop-at.at c.loop-at.auditor c.loop-at.invariant in
    omega (arith, few)

pub gain_at-requires : goal.gain_at-requires
gain_at-requires c = (
  omega arith,
  (
    refl,
    (
      c.loop-at.invariant.upto,
      λ request there publishes. fair_text (facts_of c.args.dossier.now.season) c.args.dossier.now.script (papers_in c.args.dossier.now) c.loop-at.at c.requires.fair (request, there, publishes),
    ),
  ),
)

pub returns-in-Some : goal.returns-in-Some
returns-in-Some c =
    here_not (facts_of c.args.dossier.now.season) c.args.dossier.now.script (papers_in c.args.dossier.now) c.loop-at.at _ c.loop-at.auditor _ c.in-Some.cand (omega arith) c.loop-at.invariant
    c.in_ok-cand.ensures c.in-Some.is refl

pub loop-at-preserved : goal.loop-at-preserved
loop-at-preserved c =
    gone_next (facts_of c.args.dossier.now.season) c.args.dossier.now.script (papers_in c.args.dossier.now) c.loop-at.at c.loop-at.auditor _ c.loop-at.invariant
    (here_best (facts_of c.args.dossier.now.season) c.args.dossier.now.script (papers_in c.args.dossier.now) c.loop-at.at _ c.in_ok-cand.ensures c.in_default.is) c.in_ok-take_next.ensures

pub returns : goal.returns
returns c = all_best (facts_of c.args.dossier.now.season) c.args.dossier.now.script (papers_in c.args.dossier.now) c.loop-at.at c.loop-at.auditor c.loop-at.invariant (omega arith)
