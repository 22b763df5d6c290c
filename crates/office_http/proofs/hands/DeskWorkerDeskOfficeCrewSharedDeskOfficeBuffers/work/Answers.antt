use Rattle.std.proofs.Common.{◌≡◌, ◌≤◌, arith, refl, subst}
use Rattle.office_http.specs.Asking.{AnswersAt, UnanswersAt}
use Rattle.office_http.specs.Keeping.{MayWait}
use Rattle.office_http.specs.Knowing.{known_of}
use Rattle.office_desk.specs.Words.{belongs, origin_of, shares_of}
use Rattle.door_crews.proofs.Linked.{visited_is_served}
use Rattle.door_crews.specs.Served.{telling}
use Rattle.office_http.proofs.Handing.{asked_there, ended_so}
use Rattle.office_http.proofs.hands.DeskWorkerDeskOfficeCrewSharedDeskOfficeBuffers.work.Goals as goal

pub returns : goal.returns
returns g c =
    let v = c.serve_door-self.ensures in
    let D = g.D.Door in
    let L = g.D.Conn.Link in
    let shop = c.args.shop.now.desk.now in
    let facts = (origin_of shop).office.season in
    let room = (g.K.Keeper.seen (origin_of shop).office.keeper).holds_room in
    let after = c.serve_door-self.new.counter in
    let some = c.requires.may_work in
    let w = visited_is_served (AnswersAt facts) (UnanswersAt facts room (MayWait g.K.Keeper.seen)) _ (λ k. known_of k.pass.now) (λ k. k.desk.now ≡ shop)
    (λ k k' token ask r keeps a. asked_there (λ o. (g.K.Keeper.seen o).holds_room) (MayWait g.K.Keeper.seen) shop k.desk.now k'.desk.now (known_of k.pass.now) (known_of k'.pass.now) token ask r keeps a)
    (telling D L)
    c.args.door.now c.serve_door-self.new.door _ after refl v.visited v.out (ended_so c.serve_door-self.result _ _ _ v.done v.failed) in
    let shares = w.shares in
    record {
      may_hire = (subst (λ desk. belongs desk after.pass.now) w.keeps after.same_desk, omega (arith, shares, some), omega arith);
      after_work = record { entries = w.entries; failures = w.failures; served = w.served; own = w.own; rose = w.rose; keeps = w.kept; begins = w.begins; shares = w.shares; fails = v.failed; ends = v.done };
    }
