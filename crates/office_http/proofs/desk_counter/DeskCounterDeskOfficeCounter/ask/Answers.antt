use Rattle.std.proofs.Common.{Result, refl, subst}
use Rattle.std.specs.Option.{option_copied}
use Rattle.http_sessions.specs.declared.counter.Answered.{Answered}
use Rattle.http_wire.specs.declared.faults.Fault.{Fault}
use Rattle.office_desk.specs.Words.{origin_of}
use Rattle.office_http.specs.Keeping.{MayWait}
use Rattle.office_http.specs.Knowing.{PutsInTurn, known_of}
use Rattle.office_http.proofs.Turns.{answered_at_once, answered_then, held_back}
use Rattle.office_http.proofs.desk_counter.DeskCounterDeskOfficeCounter.ask.Goals as goal

pub returns-then-settled-clause-answer : goal.returns-then-settled-clause-answer
returns-then-settled-clause-answer g c =
    let office = (origin_of c.args.self.now.desk.now).office in
    let room = (g.K.Keeper.seen office.keeper).holds_room in
    let waits = MayWait g.K.Keeper.seen in
    let p = known_of c.args.self.now.pass.now in
    let q = known_of c.put_in_turn-answer.new.pass in
    let settled = c.put_in_turn-answer.result.1 in
    let token = option_copied c.args.token in
    let put = subst (λ (r : Result Answered Fault). PutsInTurn office.season room waits p token c.args.ask.now r settled q) c.in_ok-answered.was c.put_in_turn-answer.ensures.put in
    (refl, answered_at_once office.season room waits p q token c.args.ask.now c.in_ok-answered.answered settled put c.if-settled.true)

pub returns-in-Ok-clause-answer : goal.returns-in-Ok-clause-answer
returns-in-Ok-clause-answer g c =
    let office = (origin_of c.args.self.now.desk.now).office in
    let room = (g.K.Keeper.seen office.keeper).holds_room in
    let waits = MayWait g.K.Keeper.seen in
    let p = known_of c.args.self.now.pass.now in
    let q = known_of c.put_in_turn-answer.new.pass in
    let settled = c.put_in_turn-answer.result.1 in
    let token = option_copied c.args.token in
    let put = subst (λ (r : Result Answered Fault). PutsInTurn office.season room waits p token c.args.ask.now r settled q) c.in_ok-answered.was c.put_in_turn-answer.ensures.put in
    (refl, answered_then office.season room waits p q (known_of c.settle_in_turn.new.pass) token c.args.ask.now c.in_ok-answered.answered settled c.in-Ok.field-0 put c.in-Ok.ensures.settled)

pub returns-in-Err-clause-answer : goal.returns-in-Err-clause-answer
returns-in-Err-clause-answer g c =
    let office = (origin_of c.args.self.now.desk.now).office in
    let room = (g.K.Keeper.seen office.keeper).holds_room in
    let waits = MayWait g.K.Keeper.seen in
    let p = known_of c.args.self.now.pass.now in
    let q = known_of c.put_in_turn-answer.new.pass in
    let settled = c.put_in_turn-answer.result.1 in
    let token = option_copied c.args.token in
    let put = subst (λ (r : Result Answered Fault). PutsInTurn office.season room waits p token c.args.ask.now r settled q) c.in_ok-answered.was c.put_in_turn-answer.ensures.put in
    (refl, held_back office.season room waits p q (known_of c.settle_in_turn.new.pass) token c.args.ask.now c.in_ok-answered.answered settled c.in-Err.fault put c.if-settled.false c.in-Err.ensures.settled)
