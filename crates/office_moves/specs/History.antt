-- The history of a season: what was accepted, one after another, and the state to which it leads.
use Rattle.std.specs.Prelude.{◌≡◌, ℕ, true, List, [], ◌∷◌, ◌++◌, Option, Some, None, map}
use Rattle.office_base.specs.Numbered.{rises}
use Rattle.office_asks.specs.declared.ask.Ask.TheVariants.{Answer as AskAnswer, Cut as AskCut, Raise as AskRaise}
use Rattle.office_asks.specs.declared.ask.By.TheVariants.{Candidate, Clerk}
use Rattle.office_asks.specs.declared.ask.Request.{Request}
use Rattle.office_moves.specs.Facts.{SeasonFacts, code_in}
use Rattle.office_moves.specs.State.{State, opening}
use Rattle.office_moves.specs.Decided.{decided}
use Rattle.office_moves.specs.Moves.{IsMove}
use Rattle.office_moves.specs.declared.decide.Decision.{Decision}
use Rattle.office_moves.specs.declared.decide.Decision.TheVariants.{Refuse, NotedAgain, RaisedAgain, CutAgain, Note, Lift, Publish, Finish, Tell}
use Rattle.office_moves.specs.declared.moves.Act.{Act}
use Rattle.office_moves.specs.declared.moves.Act.TheVariants.{Answer, Raise, Cut}
use Rattle.office_moves.specs.declared.moves.Entry.{Entry}
use Rattle.office_moves.specs.declared.moves.Reply.{Reply}

-- the act, asked by its candidate or by the clerk
abbrev pub asked : SeasonFacts → Act → Request
asked facts (Answer row) = record { by = Candidate row.cand; ask = AskAnswer row.cand row.window row.turn row.choice }
asked facts (Raise row) = record { by = Clerk; ask = AskRaise row.window (code_in facts row.prog.0) row.step row.seats }
asked facts (Cut window) = record { by = Clerk; ask = AskCut window }

-- the act that a decision newly accepts, in a state whose open window has this number
abbrev pub newly : ℕ → Decision → Option Act
newly now (Refuse refusal) = None
newly now (NotedAgain row) = None
newly now (RaisedAgain row) = None
newly now (CutAgain window) = None
newly now (Note row) = Some (Answer row)
newly now (Lift row) = Some (Raise row)
newly now Publish = Some (Cut now)
newly now Finish = Some (Cut now)
newly now (Tell question) = None

-- the entries with an act more, where there is one
abbrev pub grown : List Entry → ℕ → Option Act → List Entry
grown entries number None = entries
grown entries number (Some act) = entries ++ record { number = number; act = act } ∷ []

-- Each act, asked by its candidate or by the clerk, is newly accepted at its place, and is no repeat.
abbrev pub Reaches : SeasonFacts → State → List Entry → State → Type 0
Reaches facts old [] new = new ≡ old
Reaches facts old (entry ∷ entries) new = (mid : State) × (reply : Reply) × (newly old.now (decided facts old (asked facts entry.act)) ≡ Some entry.act)
    × IsMove facts old (asked facts entry.act) reply mid × Reaches facts mid entries new

-- A history of a season leads to a state: the numbers of its entries rise from 1 on, and each act is newly accepted at its place.
pub record IsHistory (facts : SeasonFacts) (entries : List Entry) (state : State) : Type 0 where
  pub numbers : rises 0 (map (λ entry. entry.number) entries) ≡ true
  pub reached : Reaches facts opening entries state
