use Rattle.std.proofs.Common.{◌≡◌, ◌<◌, List, length, get_or, arith, ap, subst}
use Rattle.office_base.specs.declared.person.Person.{Person}
use Rattle.choice_lists.specs.Choices.{list_of}
use Rattle.office_moves.specs.Moves.{next_seek}
use Rattle.season_facts.specs.Season.{facts_of}
use Rattle.audit_rules.proofs.RegisterLists.{map_more, map_whole}
use Rattle.best_audit.proofs.Seeking.{nobody_there, seek_is}
use Rattle.best_audit.proofs.sought.seeks_at.Goals as goal

pub loop-k-preserved : goal.loop-k-preserved
loop-k-preserved g c =
    let facts = facts_of c.args.season.now in
    let same = c.people-person-items.ensures.same in
    let less : c.loop-k.k < length c.args.season.now.register.people = omega (arith, c.loop-k-test.true, ap length same) in
    let own = subst (λ (z : List Person). c.list_near-list.result.now ≡ list_of c.args.season.now.choices (get_or z c.loop-k.k nobody_there).id.0) same c.list_near-list.ensures.list in
    map_more (λ (person : Person). next_seek facts g.state person.id.0) facts.people c.loop-k.seeks _ c.loop-k.k nobody_there c.seek_of.result less c.loop-k.invariant
    (seek_is facts g.state c.args.stands.now c.loop-k.k _ nobody_there c.list_near-list.result.now c.seek_of.result c.requires.1.0 less own c.seek_of.ensures) c.in_ok-push.ensures.ok

pub returns : goal.returns
returns g c =
    let facts = facts_of c.args.season.now in
    map_whole (λ (person : Person). next_seek facts g.state person.id.0) facts.people c.loop-k.seeks c.loop-k.k (omega (arith, c.loop-k-test.false, ap length c.people-person-items.ensures.same)) c.loop-k.invariant
