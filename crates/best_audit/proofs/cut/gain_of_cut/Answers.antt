use Rattle.std.proofs.Common.{◌≤◌, List, arith, subst, sym, ◌∙◌}
use Rattle.seeks.specs.declared.seek.Seek.{Seek}
use Rattle.rounds.specs.Rule.{AreSeeks}
use Rattle.office_moves.specs.Facts.{lists_in_order}
use Rattle.season_facts.specs.Season.{facts_of}
use Rattle.season_audit.specs.Audit.{papers_in}
use Rattle.best_audit.proofs.Gaining.{compared}
use Rattle.best_audit.proofs.Seeking.{seeks_fit}
use Rattle.best_audit.proofs.cut.gain_of_cut.Goals as goal

pub plain_round-requires-clause-sought : goal.plain_round-requires-clause-sought
plain_round-requires-clause-sought g c =
    let facts = facts_of c.args.dossier.now.season in
    let upto = c.requires.1.0 in
    subst (λ (z : List Seek). AreSeeks (lists_in_order facts) z) (sym c.in_ok-seeks.ensures) (seeks_fit facts g.cut.state upto.sound upto.order)

pub first_gain-requires : goal.first_gain-requires
first_gain-requires g c =
    compared (facts_of c.args.dossier.now.season) g.cut (papers_in c.args.dossier.now) c.args.auditor.now c.matrix-matrix.result.now _ c.in_ok-seeks.seeks _ c.in_ok-round.round _ _ c.rows_after-rows.result.now c.requires.0 c.requires.1.0
    c.matrix-matrix.ensures c.in_ok-seeks.ensures c.in_ok-round.ensures.round c.as_slice-seeks.ensures c.as_slice-best.ensures c.rows_after-rows.ensures (c.deref-2.ensures.value ∙ c.in_ok-seats.ensures) c.requires.1.1.1

pub seeks_at-requires : goal.seeks_at-requires
seeks_at-requires g c =
    let upto = c.requires.1.0 in
    let early = c.requires.1.1.0 in
    let few : g.cut.state.now ≤ (facts_of c.args.dossier.now.season).rounds = omega (arith, early) in
    (upto.order, (c.deref.ensures.value ∙ upto.stands few, few))
