use Rattle.std.proofs.Common.{◌+◌, Ok, Err, ap, arith, inr, subst, sym}
use Rattle.std.specs.Option.{option_copied}
use Rattle.office_http.specs.Asking.{AsksOffice}
use Rattle.office_http.proofs.Settling.{answered_settled, asked_then, last_then}
use Rattle.office_http.proofs.counter.OfficeCounterCounter.ask.Goals as goal

pub put_to_office-requires-clause-made : goal.put_to_office-requires-clause-made
put_to_office-requires-clause-made g c = c.new-bodies.ensures c.args.self.now.office.now.season c.args.self.now.office.now.state

pub returns-in-Ok-clause-answer : goal.returns-in-Ok-clause-answer
returns-in-Ok-clause-answer g c =
    let asked = asked_then g.K.Keeper.seen _ _ _ _ c.args.ask.now c.in_ok-answered.answered c.args.self.now.office.now c.put_to_office.new.office c.last_number-number.ensures c.token_parts-has_token.ensures c.in_ok-answered.ensures.asked in
    let settled = c.in-Ok.ensures in
    (answered_settled g.K.Keeper.seen _ _ _ c.args.self.now.office.now c.put_to_office.new.office c.settle_office.new.office asked settled.0 settled.1, settled.1)

pub returns-in-Ok-clause-left : goal.returns-in-Ok-clause-left
returns-in-Ok-clause-left g c =
    let last = last_then g.K.Keeper.seen _ _ c.args.ask.now c.in_ok-answered.answered (Ok _) c.args.self.now.office.now c.put_to_office.new.office c.settle_office.new.office
    c.in_ok-answered.ensures.asked c.in-Ok.ensures (ap (λ n. n + 1) c.last_number-number.ensures) in
    omega (arith, last)

pub returns-clause-answer : goal.returns-clause-answer
returns-clause-answer g c =
    let asked = asked_then g.K.Keeper.seen _ _ _ _ c.args.ask.now c.in_ok-answered.answered c.args.self.now.office.now c.put_to_office.new.office c.last_number-number.ensures c.token_parts-has_token.ensures c.in_ok-answered.ensures.asked in
    inr (c.put_to_office.new.office, c.in_ok-answered.answered, asked, c.in-Err.ensures)

pub returns-clause-left : goal.returns-clause-left
returns-clause-left g c =
    let last = last_then g.K.Keeper.seen _ _ c.args.ask.now c.in_ok-answered.answered (Err _) c.args.self.now.office.now c.put_to_office.new.office c.settle_office.new.office
    c.in_ok-answered.ensures.asked c.in-Err.ensures (ap (λ n. n + 1) c.last_number-number.ensures) in
    omega (arith, last)
