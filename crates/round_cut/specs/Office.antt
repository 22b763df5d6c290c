-- What an office is seen as.
use Rattle.std.specs.Prelude.{◌≡◌, ◌≤◌, ℕ, Bool, true, false, List, [], Option, Some, None, bytes_eq, if◌then◌else◌}
use Rattle.office_asks.specs.declared.ask.By.{By}
use Rattle.office_asks.specs.declared.ask.By.TheVariants.{Candidate, Clerk, Nobody}
use Rattle.office_base.specs.declared.person.CandId.{CandId}
use Rattle.rank_lists.specs.Register.{find_holder}
use Rattle.keeper_mem.specs.Keeper.{Blames, KeeperView}
use Rattle.kept_rows.specs.Tables.{IsFound, still}
use Rattle.office_moves.specs.Facts.{SeasonFacts}
use Rattle.office_moves.specs.Judge.{is_withdraw}
use Rattle.office_moves.specs.Stands.{Stand}
use Rattle.office_moves.specs.State.{State, opening}
use Rattle.proceedings.specs.Proceeding.{Proceeding, still_of}
use Rattle.office_moves.specs.declared.decide.Decision.{Decision}
use Rattle.office_moves.specs.declared.decide.Decision.TheVariants.{Refuse, NotedAgain, RaisedAgain, CutAgain, Note, Lift, Publish, Finish, Tell}
use Rattle.office_moves.specs.declared.moves.Entry.{Entry}

-- An office: the season, what was accepted, the state to which it led, how many candidates are still in,
-- and the keeper.
pub record OfficeView (K : Type 0) : Type 0 where
  pub season : SeasonFacts
  pub entries : List Entry
  pub state : State
  pub still : ℕ
  pub keeper : K

-- the office over these proceedings and this keeper
abbrev pub office_over : {K : Type 0} → Proceeding → K → OfficeView K
office_over book keeper = record { season = book.season; entries = book.entries; state = book.state; still = book.still; keeper = keeper }

-- a keeper that holds room in advance can put a withdrawal of everybody who is still in
abbrev pub HasRoom : Bool → ℕ → ℕ → Type 0
HasRoom holds still spare = holds ≡ true → still ≤ spare

-- a withdrawal is newly accepted
abbrev pub withdraws : Decision → Bool
withdraws (Refuse refusal) = false
withdraws (NotedAgain row) = false
withdraws (RaisedAgain row) = false
withdraws (CutAgain window) = false
withdraws (Note row) = is_withdraw row.choice
withdraws (Lift row) = false
withdraws Publish = false
withdraws Finish = false
withdraws (Tell question) = false

-- the candidate who holds a token, or nobody
abbrev pub holder_by : Option CandId → By
holder_by None = Nobody
holder_by (Some cand) = Candidate cand

-- who a token is for: the clerk's for the clerk, a candidate's for that candidate, any other for nobody
abbrev pub who_by : SeasonFacts → List ℕ → By
who_by facts token = if bytes_eq token facts.clerk then Clerk else holder_by (find_holder token facts.holders)

-- ---- an office that is opened

module _ {K : Type 0} (seen : K → KeeperView) where
  -- An office begins with this season over a keeper that held none: no entry, no round, room for all who are still in.
  -- The keeper did not fail.
  pub record Begins (facts : SeasonFacts) (keeper : K) (office : OfficeView K) : Type 0 where
    pub empty : IsFound false (still (seen keeper).tables (seen office.keeper).tables)
    pub season : office.season ≡ facts
    pub entries : office.entries ≡ []
    pub state : office.state ≡ opening
    pub still : office.still ≡ still_of office.season office.state
    pub stands : Stand office.season office.state (seen office.keeper).tables
    pub spare : HasRoom (seen office.keeper).holds_room office.still (seen office.keeper).spare
    pub blamed : Blames ⊥ (seen keeper) (seen office.keeper)
