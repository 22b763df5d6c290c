-- The roads that a router finds are those that the pieces of paths name.
use Rattle.std.proofs.Common.{◌≡◌, ◌<◌, ◌==◌, ℕ, Bool, true, false, cond, codes, List, [], ◌∷◌, ◌++◌, length, drop, Option, None, Some, Result, Ok, Err, is_some, append_assoc, refl, sym, ap, ◌∙◌, subst, inl, inr, arith}
use Rattle.std.proofs.lemmas.Bool.{and_parts, false≢true}
use Rattle.std.proofs.lemmas.List.{append-nil}
use Rattle.std.proofs.lemmas.Slice.Eq.{bytes_eq-Decides}
use Rattle.std.proofs.lemmas.Option.{none-some}
use Rattle.matchit.specs.Order.{placed}
use Rattle.matchit.specs.Route.{Scan}
use Rattle.matchit.specs.Rows.{RowsOf, comes_before}
use Rattle.matchit.specs.Seek.{first, has_slash, seek}
use Rattle.matchit.specs.Router.{InsertsRead, RouteOf, map_key, nearest, route_from}
use Rattle.matchit.specs.declared.error.InsertError.{InsertError}
use Rattle.matchit.proofs.NearestLemmas.{nearest-rename}
use Rattle.matchit.proofs.RenameLemmas.{first-rename}
use Rattle.office_asks.specs.declared.ask.Ask.{Ask}
use Rattle.office_text.specs.Lines.{split_at_each, onto_first}
use Rattle.office_text.specs.Number.{number_within}
use Rattle.http_asks.specs.Pages.{page_at, page_named}
use Rattle.http_asks.specs.Roads.{Shape, alone, number, number_and_code, all_roads, asked_with, name_of, page_after, shape_of}
use Rattle.http_asks.specs.Router.{Fits, IsOn, IsRouteOf, parameters, pattern_of, road_rows, road_start, roads_of, slash_before, with_roads}
use Rattle.http_asks.specs.declared.pages.Page.{Page}
use Rattle.http_asks.specs.declared.roads.Road.{Road}
use Rattle.http_asks.proofs.EachRoad.{Alone, Among, HasOwnSteps, own-steps, start-bytes}
use Rattle.http_asks.proofs.PagesLemmas.{among, cond-some, slashed, slashed-cut}
use Rattle.http_asks.proofs.WalkLemmas.{Follows, Matched, along, first-matched, follows-front, last-found, pair-found}

-- ---- a road that is found

-- a path that follows the pattern of a road is on it
pattern-on : (road : Road) (path : List ℕ) → Follows (pattern_of road) path → (rest : List ℕ) × IsOn road path rest
pattern-on road path follows =
    let (rest, begins, ends) = follows-front (road_start road) (parameters (shape_of road)) path (start-bytes road) follows in
    (rest, (begins, λ none. subst (λ (tokens : List ℕ). Follows tokens rest) none ends))

-- each row is a road with its pattern
abbrev AreRoads : RowsOf Road → Type 0
AreRoads [] = Unit {0}
AreRoads ((pattern, road) ∷ rows) = (pattern ≡ pattern_of road) × AreRoads rows

-- the road of a row that a path follows is one that the path is on
matched-on : (rows : RowsOf Road) (road : Road) (path : List ℕ) → AreRoads rows → Matched rows road path → (rest : List ℕ) × IsOn road path rest
matched-on [] road path are none = absurd none
matched-on ((pattern, known) ∷ rows) road path are (inl (same, it)) =
    subst (λ (road : Road). (rest : List ℕ) × IsOn road path rest) same (pattern-on known path (subst (λ (tokens : List ℕ). Follows tokens path) are.0 it))
matched-on ((pattern, known) ∷ rows) road path are (inr it) = matched-on rows road path are.1 it

placed-roads : (road : Road) (rows : RowsOf Road) → AreRoads rows → AreRoads (placed (pattern_of road, road) rows)
placed-roads road [] are = (refl, tt)
placed-roads road ((pattern, known) ∷ rows) are = by (comes_before (pattern_of road) pattern) (placed-roads road rows are.1)
  where
    by : (is : Bool) → AreRoads (placed (pattern_of road, road) rows)
        → AreRoads (cond is ((pattern_of road, road) ∷ (pattern, known) ∷ rows) ((pattern, known) ∷ placed (pattern_of road, road) rows))
    by true later = (refl, are)
    by false later = (are.0, later)

are-roads : (roads : List Road) (rows : RowsOf Road) → AreRoads rows → AreRoads (with_roads roads rows)
are-roads [] rows are = are
are-roads (road ∷ roads) rows are = are-roads roads (placed (pattern_of road, road) rows) (placed-roads road rows are)

-- ---- each page's path is found

-- no piece has a slash
abbrev pub ArePlain : List (List ℕ) → Type 0
ArePlain [] = Unit {0}
ArePlain (piece ∷ pieces) = (has_slash piece ≡ false) × ArePlain pieces

plain-onto : (byte : ℕ) (pieces : List (List ℕ)) → (byte == 47) ≡ false → ArePlain pieces → ArePlain (onto_first byte pieces)
plain-onto byte [] isnt plain = (rw isnt refl, tt)
plain-onto byte (piece ∷ pieces) isnt plain = (rw isnt plain.0, plain.1)

plain-step : (byte : ℕ) (pieces : List (List ℕ)) (is : Bool) → (byte == 47) ≡ is → ArePlain pieces → ArePlain (cond is ([] ∷ pieces) (onto_first byte pieces))
plain-step byte pieces true is plain = (refl, plain)
plain-step byte pieces false is plain = plain-onto byte pieces is plain

plain-cut : (bytes : List ℕ) → ArePlain (split_at_each 47 bytes)
plain-cut [] = (refl, tt)
plain-cut (byte ∷ bytes) = plain-step byte (split_at_each 47 bytes) (byte == 47) refl (plain-cut bytes)

-- the router finds the path
abbrev pub IsFound : List ℕ → Type 0
IsFound path = is_some (first road_rows path) ≡ true

found-as : (path known : List ℕ) → path ≡ known → IsFound known → IsFound path
found-as path known same found = subst (λ (text : List ℕ). IsFound text) (sym same) found

-- what comes after the start of a path, and the walk from there on finds the road
record IsEnd (shape : Shape) (pieces : List (List ℕ)) (road : Road) : Type 0 where
  rest : List ℕ
  text : slashed pieces ≡ slash_before (parameters shape) ++ rest
  ends : parameters shape ≡ [] → rest ≡ []
  found : is_some (first ((parameters shape, road) ∷ []) rest) ≡ true

number-filled : (low high : ℕ) (asked : ℕ → Ask) (piece : List ℕ) (page : Page) → page_after (number low high asked) (piece ∷ []) ≡ Some page → 0 < length piece
number-filled low high asked [] page e = absurd (none-some page e)
number-filled low high asked (byte ∷ piece) page e = omega arith

-- nothing is asked without a code
codeless : (asked : ℕ → List ℕ → Ask) (read : Option ℕ) (page : Page) → asked_with asked read None ≡ Some page → ⊥
codeless asked None page e = none-some page e
codeless asked (Some n) page e = none-some page e

both-filled : (low high : ℕ) (asked : ℕ → List ℕ → Ask) (piece code : List ℕ) (page : Page) → page_after (number_and_code low high asked) (piece ∷ code ∷ []) ≡ Some page
    → (0 < length piece) × (0 < length code)
both-filled low high asked [] code page e = absurd (none-some page e)
both-filled low high asked (byte ∷ piece) [] page e = absurd (codeless asked (number_within low high (byte ∷ piece)) page e)
both-filled low high asked (byte ∷ piece) (other ∷ code) page e = (omega arith, omega arith)

-- a page's pieces are found behind the start
end-found : (shape : Shape) (pieces : List (List ℕ)) (road : Road) (page : Page) → ArePlain pieces → page_after shape pieces ≡ Some page → IsEnd shape pieces road
unfolding seek
end-found (alone known) [] road page plain e = record { rest = []; text = refl; ends = λ none. refl; found = refl }
end-found (alone known) (piece ∷ pieces) road page plain e = absurd (none-some page e)
end-found (number low high asked) [] road page plain e = absurd (none-some page e)
end-found (number low high asked) (piece ∷ []) road page plain e = record {
  rest = piece;
  text = ap (λ (text : List ℕ). 47 ∷ text) (append-nil piece);
  ends = λ none. absurd (cc);
  found = last-found road piece (number-filled low high asked piece page e) plain.0;
}
end-found (number low high asked) (piece ∷ other ∷ pieces) road page plain e = absurd (none-some page e)
end-found (number_and_code low high asked) [] road page plain e = absurd (none-some page e)
end-found (number_and_code low high asked) (piece ∷ []) road page plain e = absurd (none-some page e)
end-found (number_and_code low high asked) (piece ∷ code ∷ []) road page plain e =
    let filled = both-filled low high asked piece code page e in record {
      rest = piece ++ 47 ∷ code;
      text = ap (λ (text : List ℕ). 47 ∷ (piece ++ 47 ∷ text)) (append-nil code);
      ends = λ none. absurd (cc);
      found = pair-found road piece code filled.0 plain.0 filled.1 plain.1.0;
    }
end-found (number_and_code low high asked) (piece ∷ code ∷ third ∷ pieces) road page plain e = absurd (none-some page e)

-- the path on a road is found
road-found : (road : Road) (rest : List ℕ) → (parameters (shape_of road) ≡ [] → rest ≡ []) → is_some (first ((parameters (shape_of road), road) ∷ []) rest) ≡ true → IsFound (road_start road ++ rest)
unfolding seek
road-found road rest ends found = by (own-steps road)
  where
    by : HasOwnSteps road → IsFound (road_start road ++ rest)
    by (Alone only) = along (road_start road) road_rows rest (subst (λ (rows : RowsOf Road). is_some (first rows rest) ≡ true) (sym only) found)
    by (Among none here) =
        subst (λ (text : List ℕ). IsFound (road_start road ++ text)) (sym (ends none)) (along (road_start road) road_rows [] (ap (λ (o : Option Road). is_some o) here))

named-found : (pieces : List (List ℕ)) (page : Page) → ArePlain pieces → page_named pieces ≡ Some page → IsFound (codes "/v1" ++ slashed pieces)
named-found [] page plain e = absurd (none-some page e)
named-found (name ∷ pieces) page plain e =
    let on = among all_roads name pieces page e in
    let end = end-found (shape_of on.road) pieces on.road page plain.1 on.here in
    let slash : List ℕ = slash_before (parameters (shape_of on.road)) in
    found-as _ (road_start on.road ++ end.rest)
    (ap (λ (text : List ℕ). codes "/v1/" ++ text ++ slashed pieces) on.same
    ∙ ap (λ (text : List ℕ). codes "/v1/" ++ name_of on.road ++ text) end.text
    ∙ ap (λ (text : List ℕ). codes "/v1/" ++ text) (sym (append_assoc (name_of on.road) slash end.rest)))
    (road-found on.road end.rest end.ends end.found)

at-found : (pieces : List (List ℕ)) (path : List ℕ) (page : Page) → ArePlain pieces → slashed pieces ≡ 47 ∷ path → page_at pieces ≡ Some page → IsFound path
at-found [] path page plain same e = absurd (none-some page e)
at-found (root ∷ []) path page plain same e = absurd (none-some page e)
at-found (root ∷ version ∷ pieces) path page plain same e =
    let (tests, named) = cond-some _ (page_named pieces) page e in
    let parts = and_parts _ _ tests in
    let none : root ≡ [] = (bytes_eq-Decides root []).0 parts.0 in
    let v1 : version ≡ codes "v1" = (bytes_eq-Decides version (codes "v1")).0 parts.1 in
    let text : slashed (root ∷ version ∷ pieces) ≡ 47 ∷ codes "/v1" ++ slashed pieces = rw (none, v1) refl in
    found-as path (codes "/v1" ++ slashed pieces) (ap (λ (list : List ℕ). drop 1 list) (sym same ∙ text)) (named-found pieces page plain.1.1 named)

-- no page if the router finds nothing
page-missing : (path : List ℕ) (page : Option Page) → page_at (split_at_each 47 path) ≡ page → first road_rows path ≡ None → page ≡ None
page-missing path None is none = refl
page-missing path (Some page) is none =
    let found : IsFound path = at-found (split_at_each 47 path) path page (plain-cut path) (slashed-cut path) is in
    absurd (false≢true (ap (λ (o : Option Road). is_some o) (sym none) ∙ found))

-- ---- what the router says

walk-as : (rows : RowsOf (RouteOf Road)) (path : List ℕ) → roads_of rows ≡ road_rows → first road_rows path ≡ map_key (λ (route : RouteOf Road). route.value) (first rows path)
walk-as rows path table = ap (λ (list : RowsOf Road). first list path) (sym table) ∙ first-rename (λ (route : RouteOf Road). route.value) rows path

-- Where the router of all roads finds a route, the path is on its road.
pub found-on : (rows : RowsOf (RouteOf Road)) (path : List ℕ) (route : RouteOf Road) → roads_of rows ≡ road_rows → first rows path ≡ Some route
    → (rest : List ℕ) × IsOn route.value path rest
found-on rows path route table found =
    matched-on road_rows route.value path (are-roads all_roads [] tt) (first-matched road_rows path route.value (walk-as rows path table ∙ ap (λ (o : Option (RouteOf Road)). map_key (λ (route : RouteOf Road). route.value) o) found))

-- Where it finds none, the path is no page's.
pub missing-none : (rows : RowsOf (RouteOf Road)) (path : List ℕ) → roads_of rows ≡ road_rows → first rows path ≡ None → page_at (split_at_each 47 path) ≡ None
missing-none rows path table missing =
    page-missing path (page_at (split_at_each 47 path)) refl (walk-as rows path table ∙ ap (λ (o : Option (RouteOf Road)). map_key (λ (route : RouteOf Road). route.value) o) missing)

-- ---- roads that are added

-- a road that is read may be added if none of the roads conflicts with it
free : (pattern : List ℕ) (rows : RowsOf (RouteOf Road)) (near : Option (RouteOf Road)) → nearest pattern rows ≡ near → nearest pattern (roads_of rows) ≡ None → near ≡ None
free pattern rows None is none = refl
free pattern rows (Some route) is none =
    absurd (none-some route.value (sym none ∙ nearest-rename (λ (route : RouteOf Road). route.value) pattern (None, 0) rows ∙ ap (λ (o : Option (RouteOf Road)). map_key (λ (route : RouteOf Road). route.value) o) is))

pub fits : (read : Result Scan InsertError) (road : Road) (rows : RowsOf (RouteOf Road)) → IsRouteOf road read → nearest (pattern_of road) (roads_of rows) ≡ None → Fits read rows
fits (Err fault) road rows is none = absurd is
fits (Ok route) road rows is none = free route.pattern rows (nearest route.pattern rows) refl (ap (λ (pattern : List ℕ). nearest pattern (roads_of rows)) is ∙ none)

-- a row in its place among rows, by their roads
placed-rename : (route : RouteOf Road) (pattern : List ℕ) (rows : RowsOf (RouteOf Road)) → roads_of (placed (pattern, route) rows) ≡ placed (pattern, route.value) (roads_of rows)
placed-rename route pattern [] = refl
placed-rename route pattern ((tokens, other) ∷ rows) = by (comes_before pattern tokens) (placed-rename route pattern rows)
  where
    by : (is : Bool) → roads_of (placed (pattern, route) rows) ≡ placed (pattern, route.value) (roads_of rows)
        → roads_of (cond is ((pattern, route) ∷ (tokens, other) ∷ rows) ((tokens, other) ∷ placed (pattern, route) rows))
        ≡ cond is ((pattern, route.value) ∷ (tokens, other.value) ∷ roads_of rows) ((tokens, other.value) ∷ placed (pattern, route.value) (roads_of rows))
    by true later = refl
    by false later = ap (λ (rows : RowsOf Road). (tokens, other.value) ∷ rows) later

pub added : (read : Result Scan InsertError) (road : Road) (old new : RowsOf (RouteOf Road)) → IsRouteOf road read → InsertsRead read road old new (Ok tt)
    → roads_of new ≡ placed (pattern_of road, road) (roads_of old)
added (Err fault) road old new is it = absurd is
added (Ok route) road old new is it =
    ap (λ (rows : RowsOf (RouteOf Road)). roads_of rows) it.1
    ∙ placed-rename (route_from route road) route.pattern old
    ∙ ap (λ (pattern : List ℕ). placed (pattern, road) (roads_of old)) is
