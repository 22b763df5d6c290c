use Rattle.std.proofs.Common.{◌<◌, length, arith}
use Rattle.office_base.specs.declared.person.Person.{Person}
use Rattle.season_facts.specs.Season.{facts_of}
use Rattle.office_moves.specs.State.{with_round}
use Rattle.audit_rules.specs.Replay.{round_of}
use Rattle.audit_rules.specs.Stands.{stand_of}
use Rattle.audit_rules.proofs.RegisterLists.{map_more}
use Rattle.audit_rules.proofs.Seeking.{full_stands, nobody_there, stands_next}
use Rattle.audit_rules.proofs.next.stands_after.Goals as goal

pub loop-k-preserved : goal.loop-k-preserved
loop-k-preserved g c =
    let facts = facts_of c.args.season.now in
    let size = full_stands facts g.at c.args.matrix.now c.args.stands.now c.args.seats.now c.requires in
    let less : c.loop-k.k < length c.args.season.now.register.people = omega (arith, c.loop-k-test.true, size) in
    map_more (λ (person : Person). stand_of facts (with_round g.at.state (round_of facts g.at.papers g.at.state)) person.id.0) c.args.season.now.register.people c.loop-k.next.items c.push.new.self.items c.loop-k.k
    nobody_there c.cut.result less c.loop-k.invariant
    (stands_next facts g.at c.args.matrix.now c.args.stands.now c.args.seats.now c.loop-k.k _ _ nobody_there c.cut.result c.requires less c.cut.ensures) c.in_ok-push.ensures.items
