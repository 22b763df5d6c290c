-- What holds of the paths of pages, for every reader.
use Rattle.std.specs.Prelude.{◌≡◌, ◌≤◌, ℕ, List, [], ◌∷◌, ◌++◌, Some, true, codes}
use Rattle.std.specs.Fmt.{decimal}
use Rattle.office_base.specs.Codes.{is_code}
use Rattle.office_base.specs.Limits.{last_id, last_window}
use Rattle.office_asks.specs.declared.ask.Ask.{Ask}
use Rattle.office_asks.specs.declared.ask.Ask.TheVariants.{Answer, Cut, Seat, Why, List as ListOf, Round, Choices, Cutoffs, Register, Answers as AnswersOf, State, Raise}
use Rattle.http_asks.specs.Pages.{page_of, path_of}
use Rattle.http_asks.specs.declared.pages.Page.{Page}
use Rattle.http_asks.specs.declared.pages.Page.TheVariants.{Answers, Cuts, Raises, Reads}

-- the path that asks this; what a body asks has no path
abbrev pub asked_text : Ask → List ℕ
asked_text (Seat cand) = codes "/v1/seat/" ++ decimal cand.0
asked_text (Why cand prog) = codes "/v1/why/" ++ decimal cand.0 ++ 47 ∷ prog
asked_text (ListOf round prog) = codes "/v1/list/" ++ decimal round ++ 47 ∷ prog
asked_text (Round round) = codes "/v1/round/" ++ decimal round
asked_text (Choices cand) = codes "/v1/choices/" ++ decimal cand.0
asked_text (Cutoffs round prog) = codes "/v1/cutoffs/" ++ decimal round ++ 47 ∷ prog
asked_text (Register cand) = codes "/v1/register/" ++ decimal cand.0
asked_text (AnswersOf cand) = codes "/v1/answers/" ++ decimal cand.0
asked_text State = codes "/v1/state"
asked_text (Answer cand window turn choice) = []
asked_text (Cut window) = []
asked_text (Raise window prog step seats) = []

-- the path of a page
abbrev pub page_text : Page → List ℕ
page_text Answers = codes "/v1/answer"
page_text Cuts = codes "/v1/cut"
page_text Raises = codes "/v1/raise"
page_text (Reads ask) = asked_text ask

-- the numbers and the code that are asked with lie in their ranges, and a path can ask this
abbrev pub IsReadable : Ask → Type 0
IsReadable (Seat cand) = (1 ≤ cand.0) × (cand.0 ≤ last_id)
IsReadable (Why cand prog) = (1 ≤ cand.0) × (cand.0 ≤ last_id) × (is_code prog ≡ true)
IsReadable (ListOf round prog) = (round ≤ last_window) × (is_code prog ≡ true)
IsReadable (Round round) = round ≤ last_window
IsReadable (Choices cand) = (1 ≤ cand.0) × (cand.0 ≤ last_id)
IsReadable (Cutoffs round prog) = (round ≤ last_window) × (is_code prog ≡ true)
IsReadable (Register cand) = (1 ≤ cand.0) × (cand.0 ≤ last_id)
IsReadable (AnswersOf cand) = (1 ≤ cand.0) × (cand.0 ≤ last_id)
IsReadable State = Unit {0}
IsReadable (Answer cand window turn choice) = ⊥
IsReadable (Cut window) = ⊥
IsReadable (Raise window prog step seats) = ⊥

-- the page has a path
abbrev pub HasPath : Page → Type 0
HasPath Answers = Unit {0}
HasPath Cuts = Unit {0}
HasPath Raises = Unit {0}
HasPath (Reads ask) = IsReadable ask

-- A page has one path alone, and that path names it.
pub record HaveOnePath : Type 0 where
  -- each target that names a page has its path
  pub one : (target : List ℕ) (page : Page) → page_of target ≡ Some page → path_of target ≡ page_text page
  -- the path of a page names it
  pub named : (page : Page) → HasPath page → page_of (page_text page) ≡ Some page
  -- so does each target with this path, whatever follows its first `?`
  pub queried : (target : List ℕ) (page : Page) → HasPath page → path_of target ≡ page_text page → page_of target ≡ Some page
