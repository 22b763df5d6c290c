-- What holds of each road, by its row.
use Rattle.std.proofs.Common.{◌≡◌, ◌<◌, ◌≤◌, ◌^◌, ℕ, true, codes, List, [], ◌∷◌, ◌++◌, Some, refl, arith, lit<}
use Rattle.std.specs.Fmt.{decimal}
use Rattle.std.specs.List.{list_all}
use Rattle.matchit.specs.Seek.{own}
use Rattle.office_base.specs.Codes.{is_code, is_code_byte}
use Rattle.office_asks.specs.declared.ask.Ask.TheVariants as ask
use Rattle.http_asks.specs.Laws.{HasPath, page_text}
use Rattle.http_asks.specs.Pages.{page_among}
use Rattle.http_asks.specs.Roads.{Shape, alone, number, number_and_code, all_roads, name_of, page_after, shape_of}
use Rattle.http_asks.specs.Router.{fit, parameters, road_rows, road_start}
use Rattle.http_asks.specs.declared.pages.Page.{Page}
use Rattle.http_asks.specs.declared.pages.Page.TheVariants.{Answers, Cuts, Raises, Reads}
use Rattle.http_asks.specs.declared.roads.Road.{Road}
use Rattle.http_asks.specs.declared.roads.Road.TheVariants.{Answer, AnswerList, Choices, Cut, Cutoffs, Raise, Register, Round, Seat, Why, RoundList, State}
use Rattle.http_asks.proofs.WalkLemmas.{AreBytes, steps}

-- what follows the name in the path with a number and a code, as far as the shape has them
abbrev pub tail_with : Shape → ℕ → List ℕ → List ℕ
tail_with (alone page) n code = []
tail_with (number low high asked) n code = 47 ∷ decimal n
tail_with (number_and_code low high asked) n code = 47 ∷ (decimal n ++ 47 ∷ code)

-- the page of that path
abbrev pub page_with : Shape → ℕ → List ℕ → Page
page_with (alone page) n code = page
page_with (number low high asked) n code = Reads (asked n)
page_with (number_and_code low high asked) n code = Reads (asked n code)

-- the number is within the bounds, and the code is one
abbrev pub IsWithin : Shape → ℕ → List ℕ → Type 0
IsWithin (alone page) n code = Unit {0}
IsWithin (number low high asked) n code = (low ≤ n) × (n ≤ high)
IsWithin (number_and_code low high asked) n code = (low ≤ n) × (n ≤ high) × (is_code code ≡ true)

-- the highest number
abbrev pub highest : Shape → ℕ
highest (alone page) = 0
highest (number low high asked) = high
highest (number_and_code low high asked) = high

-- the page is on a road, with a number and a code
pub record IsOf (page : Page) : Type 0 where
  pub road : Road
  pub n : ℕ
  pub code : List ℕ
  pub is : page_with (shape_of road) n code ≡ page
  pub within : IsWithin (shape_of road) n code

-- each page that has a path is on a road
pub on-road : (page : Page) → HasPath page → IsOf page
on-road Answers has = record { road = Answer; n = 0; code = []; is = refl; within = tt }
on-road Cuts has = record { road = Cut; n = 0; code = []; is = refl; within = tt }
on-road Raises has = record { road = Raise; n = 0; code = []; is = refl; within = tt }
on-road (Reads (ask.Seat cand)) range = record { road = Seat; n = cand.0; code = []; is = refl; within = range }
on-road (Reads (ask.Why cand prog)) range = record { road = Why; n = cand.0; code = prog; is = refl; within = range }
on-road (Reads (ask.List round prog)) range = record { road = RoundList; n = round; code = prog; is = refl; within = (omega arith, range.0, range.1) }
on-road (Reads (ask.Round round)) range = record { road = Round; n = round; code = []; is = refl; within = (omega arith, range) }
on-road (Reads (ask.Choices cand)) range = record { road = Choices; n = cand.0; code = []; is = refl; within = range }
on-road (Reads (ask.Cutoffs round prog)) range = record { road = Cutoffs; n = round; code = prog; is = refl; within = (omega arith, range.0, range.1) }
on-road (Reads (ask.Register cand)) range = record { road = Register; n = cand.0; code = []; is = refl; within = range }
on-road (Reads (ask.Answers cand)) range = record { road = AnswerList; n = cand.0; code = []; is = refl; within = range }
on-road (Reads ask.State) range = record { road = State; n = 0; code = []; is = refl; within = tt }
on-road (Reads (ask.Answer cand window turn choice)) range = absurd range
on-road (Reads (ask.Cut window)) range = absurd range
on-road (Reads (ask.Raise window prog step seats)) range = absurd range

-- Each of the following computes, road by road: the second line is a copy for each other road.

-- the text of a page
pub texts : (road : Road) (n : ℕ) (code : List ℕ) → page_text (page_with (shape_of road) n code) ≡ codes "/v1/" ++ name_of road ++ tail_with (shape_of road) n code
texts Answer n code = refl
texts _ n code = refl

-- numbers are small
pub small : (road : Road) → highest (shape_of road) < 2 ^ 64
small Answer = lit< tt
small _ = lit< tt

-- no other road has the name
pub own-row : (road : Road) (pieces : List (List ℕ)) → page_among all_roads (name_of road) pieces ≡ page_after (shape_of road) pieces
own-row Answer pieces = refl
own-row _ pieces = refl

-- a name could be a code
pub name-bytes : (road : Road) → list_all is_code_byte (name_of road) ≡ true
name-bytes Answer = refl
name-bytes _ = refl

pub start-bytes : (road : Road) → AreBytes (road_start road)
start-bytes Answer = grind arith
start-bytes _ = grind arith

-- No other road begins as this one does, or this one has nothing behind its start and is found there.
pub data HasOwnSteps (road : Road) : Type 0 where
  Alone : steps (road_start road) road_rows ≡ (parameters (shape_of road), road) ∷ [] → HasOwnSteps road
  Among : parameters (shape_of road) ≡ [] → own (steps (road_start road) road_rows) ≡ Some road → HasOwnSteps road

pub own-steps : (road : Road) → HasOwnSteps road
own-steps Answer = Among refl refl
own-steps Cut = Among refl refl
own-steps _ = Alone refl

-- no road conflicts with those before it
pub all-fit : fit all_roads [] ≡ true
all-fit = refl
