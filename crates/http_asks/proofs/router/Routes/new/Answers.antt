use Rattle.std.proofs.Common.{◌∙◌, ap}
use Rattle.matchit.specs.Rows.{RowsOf}
use Rattle.matchit.specs.Router.{RouteOf}
use Rattle.http_asks.specs.Roads.{all_roads}
use Rattle.http_asks.specs.Router.{roads_of, with_roads}
use Rattle.http_asks.specs.declared.roads.Road.{Road}
use Rattle.http_asks.proofs.EachRoad.{all-fit}
use Rattle.http_asks.proofs.router.Routes.new.Goals as goal

pub add_all-requires : goal.add_all-requires
add_all-requires c = rw c.new-router.ensures all-fit

pub invariant_of-result : goal.invariant_of-result
invariant_of-result c = record {
  table = c.in_ok-add_all.ensures ∙ ap (λ (rows : RowsOf (RouteOf Road)). with_roads all_roads (roads_of rows)) c.new-router.ensures;
}
