-- The roads to the pages: a page's name, and what its paths have after the name.
use Rattle.std.specs.Prelude.{ℕ, List, [], ◌∷◌, Option, None, Some, codes}
use Rattle.std.specs.Option.{option_and_then, option_map}
use Rattle.office_base.specs.Limits.{last_id, last_window}
use Rattle.office_asks.specs.declared.ask.Ask.{Ask}
use Rattle.office_asks.specs.declared.ask.Ask.TheVariants as ask
use Rattle.office_base.specs.declared.person.CandId.{CandId}
use Rattle.office_text.specs.Names.{code_of}
use Rattle.office_text.specs.Number.{number_within}
use Rattle.http_asks.specs.declared.pages.Page.{Page}
use Rattle.http_asks.specs.declared.pages.Page.TheVariants.{Answers, Cuts, Raises, Reads}
use Rattle.http_asks.specs.declared.roads.Road.{Road}
use Rattle.http_asks.specs.declared.roads.Road.TheVariants.{Answer, AnswerList, Choices, Cut, Cutoffs, Raise, Register, Round, Seat, Why, RoundList, State}

-- What the paths of a page have after its name, and the page that they name: nothing and this page,
-- a number within bounds and what is asked with it, or such a number and the code of a programme.
pub data Shape : Type 0 where
  alone : (page : Page) → Shape
  number : (low high : ℕ) (asked : ℕ → Ask) → Shape
  number_and_code : (low high : ℕ) (asked : ℕ → List ℕ → Ask) → Shape

-- a candidate's number
abbrev pub candidate : (CandId → Ask) → Shape
candidate asked = number 1 last_id (λ id. asked (record { 0 = id }))

-- a candidate's number and a code
abbrev pub candidate_and_code : (CandId → List ℕ → Ask) → Shape
candidate_and_code asked = number_and_code 1 last_id (λ id code. asked (record { 0 = id }) code)

-- the number of a round
abbrev pub round : (ℕ → Ask) → Shape
round asked = number 0 last_window asked

-- the number of a round and a code
abbrev pub round_and_code : (ℕ → List ℕ → Ask) → Shape
round_and_code asked = number_and_code 0 last_window asked

-- the roads to all pages
abbrev pub row_of : Road → List ℕ × Shape
row_of Answer = (codes "answer", alone Answers)
row_of AnswerList = (codes "answers", candidate (λ cand. ask.Answers cand))
row_of Choices = (codes "choices", candidate (λ cand. ask.Choices cand))
row_of Cut = (codes "cut", alone Cuts)
row_of Cutoffs = (codes "cutoffs", round_and_code (λ round prog. ask.Cutoffs round prog))
row_of RoundList = (codes "list", round_and_code (λ round prog. ask.List round prog))
row_of Raise = (codes "raise", alone Raises)
row_of Register = (codes "register", candidate (λ cand. ask.Register cand))
row_of Round = (codes "round", round (λ round. ask.Round round))
row_of Seat = (codes "seat", candidate (λ cand. ask.Seat cand))
row_of State = (codes "state", alone (Reads ask.State))
row_of Why = (codes "why", candidate_and_code (λ cand prog. ask.Why cand prog))

abbrev pub all_roads : List Road
all_roads = Answer ∷ AnswerList ∷ Choices ∷ Cut ∷ Cutoffs ∷ RoundList ∷ Raise ∷ Register ∷ Round ∷ Seat ∷ State ∷ Why ∷ []

-- the name of the page, and what comes after it
abbrev pub name_of : Road → List ℕ
name_of road = (row_of road).0

abbrev pub shape_of : Road → Shape
shape_of road = (row_of road).1

-- the piece, if there is one alone
abbrev pub one_of : List (List ℕ) → Option (List ℕ)
one_of [] = None
one_of (first ∷ []) = Some first
one_of (first ∷ second ∷ pieces) = None

-- the two pieces, if there are two
abbrev pub two_of : List (List ℕ) → Option (List ℕ × List ℕ)
two_of [] = None
two_of (first ∷ []) = None
two_of (first ∷ second ∷ []) = Some (first, second)
two_of (first ∷ second ∷ third ∷ pieces) = None

-- what is asked with a number and a code, if there are both
abbrev pub asked_with : (ℕ → List ℕ → Ask) → Option ℕ → Option (List ℕ) → Option Page
asked_with asked None code = None
asked_with asked (Some n) code = option_map (λ code. Reads (asked n code)) code

-- the page of a shape, by the pieces after the name
abbrev pub page_after : Shape → List (List ℕ) → Option Page
page_after (alone page) [] = Some page
page_after (alone page) (piece ∷ pieces) = None
page_after (number low high asked) pieces = option_map (λ n. Reads (asked n)) (option_and_then (λ piece. number_within low high piece) (one_of pieces))
page_after (number_and_code low high asked) pieces =
    option_and_then (λ both. asked_with asked (number_within low high both.0) (code_of both.1)) (two_of pieces)
