use Rattle.std.proofs.Common.{rules}
use Rattle.http_asks.proofs.RouterLemmas.{found-on, missing-none}
use Rattle.http_asks.proofs.router.Routes.road_of.Goals as goal

pub split_at-requires : goal.split_at-requires
split_at-requires c =
    let on = found-on c.args.self.now.router c.args.path.now _ c.args.self.now.table c.in-Ok.ensures.found in
    search rules

pub returns-in-Ok-clause-some : goal.returns-in-Ok-clause-some
returns-in-Ok-clause-some c =
    let on = found-on c.args.self.now.router c.args.path.now _ c.args.self.now.table c.in-Ok.ensures.found in
    search rules

pub returns-in-Err-clause-none : goal.returns-in-Err-clause-none
returns-in-Err-clause-none c = missing-none c.args.self.now.router c.args.path.now c.args.self.now.table c.in-Err.ensures.missing
