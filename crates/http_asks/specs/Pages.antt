-- Which page of the office a target names, by the pieces of its path.
use Rattle.std.specs.Prelude.{ℕ, ◌&&◌, Bool, true, false, List, [], ◌∷◌, Option, None, bytes_eq, codes, if◌then◌else◌}
use Rattle.office_text.specs.Lines.{split_at_each}
use Rattle.http_wire.specs.declared.methods.Method.{Method}
use Rattle.http_wire.specs.declared.methods.Method.TheVariants.{Get, Post}
use Rattle.http_asks.specs.Roads.{all_roads, name_of, page_after, shape_of}
use Rattle.http_asks.specs.declared.pages.Page.{Page}
use Rattle.http_asks.specs.declared.pages.Page.TheVariants.{Answers, Cuts, Raises, Reads}
use Rattle.http_asks.specs.declared.roads.Road.{Road}

-- the first of some pieces
abbrev pub first_of_pieces : List (List ℕ) → List ℕ
first_of_pieces [] = []
first_of_pieces (piece ∷ pieces) = piece

-- the path of a target: what comes before its first `?`
abbrev pub path_of : List ℕ → List ℕ
path_of target = first_of_pieces (split_at_each 63 target)

-- the page of that name, by the pieces after it, if it is on one of these roads
abbrev pub page_among : List Road → List ℕ → List (List ℕ) → Option Page
page_among [] name pieces = None
page_among (road ∷ roads) name pieces = if bytes_eq name (name_of road) then page_after (shape_of road) pieces else page_among roads name pieces

-- the page that the pieces after the version name
abbrev pub page_named : List (List ℕ) → Option Page
page_named [] = None
page_named (name ∷ pieces) = page_among all_roads name pieces

-- the page that the pieces of a path name: nothing comes before its first slash, and `v1` after it
abbrev pub page_at : List (List ℕ) → Option Page
page_at [] = None
page_at (root ∷ []) = None
page_at (root ∷ version ∷ pieces) = if bytes_eq root [] && bytes_eq version (codes "v1") then page_named pieces else None

-- the page that a target names: its path is cut at its slashes and not decoded
unfoldable pub page_of : List ℕ → Option Page
page_of target = page_at (split_at_each 47 (path_of target))

-- the page takes a body
abbrev pub takes_body : Page → Bool
takes_body Answers = true
takes_body Cuts = true
takes_body Raises = true
takes_body (Reads ask) = false

-- the one method that a page has
abbrev pub method_of : Page → Method
method_of page = if takes_body page then Post else Get
