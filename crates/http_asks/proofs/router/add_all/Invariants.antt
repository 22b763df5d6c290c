use Rattle.std.proofs.Common.{◌≡◌, true, drop}
use Rattle.http_asks.specs.Router.{fit, roads_of, with_roads}
use Rattle.http_asks.proofs.router.add_all.Given as goal

abbrev pub invariant-loop-road : goal.invariant-loop-road
invariant-loop-road l = record {
  fit : fit (drop l.road-index l.roads) (roads_of l.router) ≡ true;
  whole : with_roads (drop l.road-index l.roads) (roads_of l.router) ≡ with_roads l.roads (roads_of l.initial.router);
}
