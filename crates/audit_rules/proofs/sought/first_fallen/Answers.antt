use Rattle.std.proofs.Common.{◌≡◌, ◌<◌, ◌∙◌, false, true, List, None, length, get_or, arith, ap, rules, subst, sym}
use Rattle.std.specs.Prelude.{is_some}
use Rattle.office_base.specs.declared.person.Person.{Person}
use Rattle.season_facts.specs.Season.{facts_of}
use Rattle.audit_rules.specs.Cut.{HasStayed, IsFirstWithout}
use Rattle.audit_rules.proofs.Seeking.{has_fallen, has_stayed, nobody_there, of_each, sought_next}
use Rattle.audit_rules.proofs.sought.first_fallen.Goals as goal
use Rattle.audit_rules.proofs.sought.first_fallen.Goals.{else-holds-via-then-holds+else-is_none, else-holds-via-else-holds}

pub returns-then-is_none-clause-some : goal.returns-then-is_none-clause-some
returns-then-is_none-clause-some g c =
    let same = c.people-person-items.ensures.same in
    let less : c.loop-k.k < length c.args.season.now.register.people = omega (arith, c.loop-k-test.true, ap length same) in
    let holding = sym c.holds.ensures ∙ c.if-holds.true in
    let none : is_some (get_or c.args.seats.now c.loop-k.k None) ≡ false = search rules in
    subst (λ (z : List Person). IsFirstWithout (HasStayed (facts_of c.args.season.now) g.at.papers g.at.state) c.args.season.now.register.people (get_or z c.loop-k.k nobody_there).id) (sym same)
    (has_fallen (facts_of c.args.season.now) g.at c.args.matrix.now c.args.stands.now c.args.seats.now c.loop-k.k _ _ nobody_there c.requires less holding none c.loop-k.invariant)

pub loop-k-preserved : goal.loop-k-preserved
loop-k-preserved g c =
    let same = c.people-person-items.ensures.same in
    let less : c.loop-k.k < length c.args.season.now.register.people = omega (arith, c.loop-k-test.true, ap length same) in
    sought_next (HasStayed (facts_of c.args.season.now) g.at.papers g.at.state) c.args.season.now.register.people c.loop-k.k nobody_there less c.loop-k.invariant
    (has_stayed (facts_of c.args.season.now) g.at c.args.matrix.now c.args.stands.now c.args.seats.now c.loop-k.k _ None nobody_there c.requires less
    (λ keeps. elim c.else-holds.branch [
      | else-holds-via-then-holds+else-is_none w ↦ search rules
      | else-holds-via-else-holds w ↦ absurd (let wrong : false ≡ true = sym w.if-holds.false ∙ (c.holds.ensures ∙ keeps) in cc)
    ]))

pub returns-clause-none : goal.returns-clause-none
returns-clause-none g c =
    of_each (HasStayed (facts_of c.args.season.now) g.at.papers g.at.state) c.args.season.now.register.people c.loop-k.k
    (omega (arith, c.loop-k-test.false, ap length c.people-person-items.ensures.same)) c.loop-k.invariant
