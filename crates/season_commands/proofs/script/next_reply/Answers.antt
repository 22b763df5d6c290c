use Rattle.std.proofs.Common.{◌<◌, arith, sym, subst}
use Rattle.office_moves.specs.Facts.{IsSound}
use Rattle.office_moves.specs.History.{IsHistory}
use Rattle.proceedings.specs.Proceeding.{last_of}
use Rattle.season_commands.proofs.Running.{history_on}
use Rattle.season_commands.proofs.script.next_reply.Goals as goal

pub returns-clause-history : goal.returns-clause-history
returns-clause-history g c =
    let number = c.in-Some.ensures.1 in
    let last = c.last_number.ensures in
    let above : last_of c.args.office.now.entries < c.in-Some.number = omega (arith, number, last) in
    let on = history_on c.args.office.now.season c.args.office.now.entries c.handle.new.self.entries c.args.office.now.state c.handle.new.self.state c.args.request.now c.in-Some.number c.handle.result
    (c.history_grows.ensures c.args.office.now.season) c.requires.history above c.handle.ensures.moves c.handle.ensures.entries c.handle.ensures.kept.err in
    subst (λ f. IsHistory f c.handle.new.self.entries c.handle.new.self.state) (sym c.handle.ensures.kept.season) on

pub returns-clause-orderly : goal.returns-clause-orderly
returns-clause-orderly g c =
    let sound : IsSound c.args.office.now.season = subst (λ f. IsSound f) c.season.ensures c.says_what_is_sound.ensures in
    let now : IsSound c.handle.new.self.season = subst (λ f. IsSound f) (sym c.handle.ensures.kept.season) sound in
    c.orderly.ensures c.handle.new.self.season c.handle.new.self.entries c.handle.new.self.state now (returns-clause-history g c).reached
