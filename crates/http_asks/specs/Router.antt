-- The roads as a router keeps them, and the paths that are on them.
use Rattle.std.specs.Prelude.{◌≡◌, ℕ, Bool, true, ◌&&◌, List, [], ◌∷◌, ◌++◌, None, is_none, Result, Ok, Err, codes}
use Rattle.matchit.specs.Order.{placed}
use Rattle.matchit.specs.Route.{Scan}
use Rattle.matchit.specs.Rows.{RowsOf}
use Rattle.matchit.specs.Router.{RouteOf, nearest, rename}
use Rattle.matchit.specs.declared.error.InsertError.{InsertError}
use Rattle.http_asks.specs.Roads.{Shape, alone, number, number_and_code, all_roads, name_of, shape_of}
use Rattle.http_asks.specs.declared.roads.Road.{Road}

-- the parameters of a shape in a pattern: 256 is a parameter, 47 is a slash
abbrev pub parameters : Shape → List ℕ
parameters (alone page) = []
parameters (number low high asked) = 256 ∷ []
parameters (number_and_code low high asked) = 256 ∷ 47 ∷ 256 ∷ []

-- the slash after the name, if parameters follow
abbrev pub slash_before : List ℕ → List ℕ
slash_before [] = []
slash_before (token ∷ tokens) = 47 ∷ []

-- how the paths of a road begin, up to the first parameter
abbrev pub road_start : Road → List ℕ
road_start road = codes "/v1/" ++ name_of road ++ slash_before (parameters (shape_of road))

-- the pattern of a road
abbrev pub pattern_of : Road → List ℕ
pattern_of road = road_start road ++ parameters (shape_of road)

-- the text of a route is read as the pattern of that road
abbrev pub IsRouteOf : Road → Result Scan InsertError → Type 0
IsRouteOf road (Ok route) = route.pattern ≡ pattern_of road
IsRouteOf road (Err fault) = ⊥

-- a route that was read may be added to those: none of them conflicts with it
abbrev pub Fits : Result Scan InsertError → RowsOf (RouteOf Road) → Type 0
Fits (Ok route) routes = nearest route.pattern routes ≡ None
Fits (Err fault) routes = ⊥

-- the roads with more, each in its place
abbrev pub with_roads : List Road → RowsOf Road → RowsOf Road
with_roads [] rows = rows
with_roads (road ∷ roads) rows = with_roads roads (placed (pattern_of road, road) rows)

-- all roads with their patterns
abbrev pub road_rows : RowsOf Road
road_rows = with_roads all_roads []

-- each of these roads may be added after those before it: none of them conflicts with it
abbrev pub fit : List Road → RowsOf Road → Bool
fit [] rows = true
fit (road ∷ roads) rows = is_none (nearest (pattern_of road) rows) && fit roads (placed (pattern_of road, road) rows)

-- the patterns of routes, each with its road
abbrev pub roads_of : RowsOf (RouteOf Road) → RowsOf Road
roads_of routes = rename (λ route. route.value) routes

-- The path is on that road: it begins as its paths do, this comes after that,
-- and nothing does if the road has no parameters.
abbrev pub IsOn : Road → List ℕ → List ℕ → Type 0
IsOn road path rest = (path ≡ road_start road ++ rest) × (parameters (shape_of road) ≡ [] → rest ≡ [])
