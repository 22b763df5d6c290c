use Rattle.std.proofs.Common.{◌≡◌, ◌∙◌, List, length, ap, arith, refl, subst, sym}
use Rattle.std.specs.Vec.{with_items}
use Rattle.std.proofs.lemmas.List.{with_items_is}
use Rattle.audit_rules.specs.declared.stand.Stand.{Stand}
use Rattle.season_audit.specs.Audit.{StandAfter}
use Rattle.season_audit.specs.declared.auditor.Auditor.{Auditor}
use Rattle.season_facts.specs.Season.{facts_of}
use Rattle.season_audit.proofs.Taking.{answer_by, answer_passes, not_now, quiet}
use Rattle.season_audit.proofs.auditor.Auditor.answer.Goals as goal

pub returns-then-row-self : goal.returns-then-row-self
returns-then-row-self g c papers =
    let facts = facts_of c.args.season.now in
    quiet facts papers g.state (answer_by facts g.state c.args.by c.args.row) c.args.self.now
    (not_now facts g.state c.args.by c.args.row (λ now within. c.if-row-self.true (now ∙ sym c.requires.window))) c.requires

pub returns-then-row-season : goal.returns-then-row-season
returns-then-row-season g c papers =
    let facts = facts_of c.args.season.now in
    let over = c.if-row-season.true in
    quiet facts papers g.state (answer_by facts g.state c.args.by c.args.row) c.args.self.now (not_now facts g.state c.args.by c.args.row (λ now within. omega (arith, over, within))) c.requires

pub returns : goal.returns
returns g c papers =
    let facts = facts_of c.args.season.now in
    let new : Auditor =
    record {
      raised = c.args.self.now.raised;
      stands = with_items c.args.self.now.stands c.note.new.stands;
      window = c.args.self.now.window;
    } in
    let long : length c.note.new.stands ≡ c.args.self.now.stands.len =
    c.note.auto.stands ∙ (ap (λ (z : List Stand). length z) c.as_mut_slice.ensures.value ∙ sym c.args.self.now.stands.ok.0) in
    let made : new.stands.items ≡ c.note.new.stands = with_items_is c.args.self.now.stands c.note.new.stands long in
    answer_passes c.one_step_changes.ensures facts papers g.state c.args.by c.args.row c.args.self.now new c.requires
    (subst (λ (z : List Stand). StandAfter facts g.state c.args.row (answer_by facts g.state c.args.by c.args.row) z) (sym made) c.note.ensures) refl refl
