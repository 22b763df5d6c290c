use Rattle.std.proofs.Common.{◌≡◌, Option, None, refl, subst, sym, ◌∙◌}
use Rattle.office_base.proofs.Options.{none_from}
use Rattle.season_facts.specs.Season.{facts_of}
use Rattle.audit_rules.specs.Comes.{CutComesTo}
use Rattle.audit_rules.specs.declared.fault.Fault.{Fault}
use Rattle.season_audit.specs.Audit.{papers_in}
use Rattle.season_audit.proofs.Requests.{are_lists, at_cut, fault_comes}
use Rattle.season_audit.proofs.Taking.{is_published}
use Rattle.season_audit.proofs.auditor.Auditor.publish.Goals as goal

pub cut_fault-requires : goal.cut_fault-requires
cut_fault-requires g c =
    let facts = facts_of c.args.dossier.now.season in
    let papers = papers_in c.args.dossier.now in (
      at_cut facts g.at papers c.args.self.now _ _ _ _ c.requires.0 c.requires.1.0 c.requires.1.1 c.matrix-matrix.ensures c.deref.ensures.value c.rows_after-rows.ensures (c.deref-2.ensures.value ∙ c.in_ok-seats.ensures),
      are_lists facts g.at papers c.args.self.now _ _ c.requires.0 c.requires.1.0 c.count.ensures.count c.lists_after-lists.ensures.lists c.lists_after-lists.ensures.once,
    )

pub returns-then-is_some : goal.returns-then-is_some
returns-then-is_some g c = fault_comes (facts_of c.args.dossier.now.season) g.at c.args.self.now c.in_ok-fault.fault (sym c.is_some.ensures ∙ c.if-is_some.true) c.in_ok-fault.ensures

pub stands_after-requires : goal.stands_after-requires
stands_after-requires g c =
    at_cut (facts_of c.args.dossier.now.season) g.at (papers_in c.args.dossier.now) c.args.self.now _ _ _ _ c.requires.0 c.requires.1.0 c.requires.1.1 c.matrix-matrix.ensures c.deref-3.ensures.value c.rows_after-rows.ensures
    (c.deref-4.ensures.value ∙ c.in_ok-seats.ensures)

pub returns : goal.returns
returns g c =
    let facts = facts_of c.args.dossier.now.season in
    let none : c.in_ok-fault.fault ≡ None = none_from c.in_ok-fault.fault (sym c.is_some.ensures ∙ c.if-is_some.false) in
    is_published facts g.at.papers g.at.state c.args.self.now _ c.requires.1.0 c.requires.1.1 (subst (λ (f : Option Fault). CutComesTo facts g.at f) none c.in_ok-fault.ensures) refl refl
    c.in_ok-stands.ensures
