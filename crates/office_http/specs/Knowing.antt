-- What a pass knows of an office at a desk, and what one ask leaves of that.
use Rattle.std.specs.Prelude.{◌≡◌, ◌≤◌, ◌++◌, Bool, true, false, ℕ, List, length, Option, Result, Ok, Err}
use Rattle.office_base.specs.Outside.{Rose}
use Rattle.office_asks.specs.declared.ask.Ask.{Ask}
use Rattle.office_base.specs.declared.booked.Booked.{Ghosts}
use Rattle.office_desk.specs.Own.{Begins}
use Rattle.office_desk.specs.Words.{count_of, found_of, kept_of, own_of, seen_of, shares_of}
use Rattle.office_desk.specs.declared.handles.Pass.{Pass}
use Rattle.office_desk.specs.declared.keeps.Keeps.{Ghosts as Kept}
use Rattle.office_moves.specs.Facts.{SeasonFacts}
use Rattle.office_moves.specs.declared.moves.Entry.{Entry}
use Rattle.http_sessions.specs.declared.counter.Answered.{Answered}
use Rattle.http_wire.specs.declared.faults.Fault.{Fault}
use Rattle.http_wire.specs.declared.faults.Fault.TheVariants.{Keeper, Memory}
use Rattle.door_crews.specs.Desk.{AsksDesk, Known}
use Rattle.office_http.specs.Asking.{AnswersAt, UnanswersAt}

-- what a pass knows
abbrev pub known_of : {V I : Type 0} {k : Kept V I} {g : Ghosts V I} → Pass V I k g → Known I
known_of pass = record { seen = seen_of pass; own = own_of pass; found = found_of pass; count = count_of pass; kept = kept_of pass; shares = shares_of pass }

-- One ask of an office of this season, at a desk, over a keeper that holds room in advance or does not, and may let rows
-- wait or does not: what the pass knows before and after it.
abbrev pub AsksInTurn : SeasonFacts → Bool → Type 0 → Known Entry → Option (List ℕ) → Ask → Result Answered Fault → Known Entry → Type 0
AsksInTurn facts room waits = AsksDesk (AnswersAt facts) (UnanswersAt facts room waits)

-- A turn in which an ask was answered at its place. If nothing waits then, all that the pass has seen is kept.
pub record IsPut (facts : SeasonFacts) (waits : Type 0) (p : Known Entry) (token : Option (List ℕ)) (ask : Ask) (answered : Answered) (settled : Bool) (p' : Known Entry) : Type 0 where
  pub place : List Entry
  pub added : List Entry
  pub begins : Begins p.seen place
  pub answers : AnswersAt facts place token ask answered added
  pub seen : p'.seen ≡ place ++ added
  pub own : p'.own ≡ p.own ++ added
  pub all : settled ≡ true → p'.kept ≡ length (place ++ added)
  pub waiting : settled ≡ false → waits
  pub keeps : p.kept ≤ p'.kept
  pub count : p.count ≤ p'.count
  pub found : p'.found ≡ p'.count
  pub shares : p'.shares ≡ p.shares

-- A turn in which an ask was put to the office: it was answered there, and something waits or nothing does, or it has no answer.
abbrev pub PutsInTurn : SeasonFacts → Bool → Type 0 → Known Entry → Option (List ℕ) → Ask → Result Answered Fault → Bool → Known Entry → Type 0
PutsInTurn facts room waits p token ask (Ok answered) settled p' = IsPut facts waits p token ask answered settled p'
PutsInTurn facts room waits p token ask (Err fault) settled p' = AsksInTurn facts room waits p token ask (Err fault) p'

-- A turn that settles adds nothing. After an Ok all is kept that the pass had seen before.
abbrev pub SettlesInTurn : Known Entry → Result (Unit {0}) Fault → Known Entry → Type 0
SettlesInTurn p (Ok done) p' = Begins p.seen p'.seen × (p'.own ≡ p.own) × (p.kept ≤ p'.kept) × (length p.seen ≤ p'.kept)
    × (p.count ≤ p'.count) × (p'.found ≡ p'.count) × (p'.shares ≡ p.shares)
SettlesInTurn p (Err Keeper) p' = Begins p.seen p'.seen × (p'.own ≡ p.own) × (p.kept ≤ p'.kept)
    × (p.count ≤ p'.found) × Rose p'.found p'.count × (p'.shares ≡ p.shares)
SettlesInTurn p (Err Memory) p' = Begins p.seen p'.seen × (p'.own ≡ p.own) × (p.kept ≤ p'.kept)
    × (p.count ≤ p'.count) × (p'.found ≡ p'.count) × (p'.shares ≡ p.shares)
