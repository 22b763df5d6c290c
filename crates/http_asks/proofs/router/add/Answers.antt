use Rattle.std.proofs.Common.{rules}
use Rattle.matchit.specs.Route.{parse_route}
use Rattle.http_asks.specs.Router.{Fits}
use Rattle.http_asks.proofs.RouterLemmas.{added, fits}
use Rattle.http_asks.proofs.router.add.Goals as goal
use Rattle.http_asks.proofs.router.add.Goals.{in-Ok, in-Err-OutOfMemory}

pub returns : goal.returns
returns c = elim c.match-insert.branch [
  | in-Ok w ↦ rw w.result-is (added _ c.args.road c.args.router.now _ c.route.ensures.read w.in-Ok.ensures)
  | in-Err-OutOfMemory w ↦ rw w.result-is tt
]

pub unreachable-requires : goal.unreachable-requires
unreachable-requires c =
    let fit : Fits (parse_route c.route.result.now) c.args.router.now = fits _ c.args.road c.args.router.now c.route.ensures.read c.requires in
    search rules
