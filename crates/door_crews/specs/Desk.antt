-- An ask at a desk.
use Rattle.std.specs.Prelude.{◌≡◌, ◌≤◌, ℕ, List, ◌++◌, length, Option, Result, Ok, Err}
use Rattle.office_base.specs.Outside.{Rose}
use Rattle.office_asks.specs.declared.ask.Ask.{Ask}
use Rattle.office_desk.specs.Own.{Begins}
use Rattle.http_sessions.specs.declared.counter.Answered.{Answered}
use Rattle.http_wire.specs.declared.faults.Fault.{Fault}
use Rattle.http_wire.specs.declared.faults.Fault.TheVariants.{Keeper, Memory}

-- What a pass knows: the entries that it has seen, its own among them, the count before the last turn that it knows of
-- and after it, how many of the entries are kept, and its shares.
pub record Known (I : Type 0) : Type 0 where
  pub seen : List I
  pub own : List I
  pub found : ℕ
  pub count : ℕ
  pub kept : ℕ
  pub shares : ℕ

-- `Answers place token ask answered added`: after the entries of the place the ask is answered so, and adds these.
-- `Unanswers place token ask fault added`:
-- there it may stay unanswered with this fault, though it added these.
module _ {I : Type 0} (Answers : List I → Option (List ℕ) → Ask → Answered → List I → Type 0) (Unanswers : List I → Option (List ℕ) → Ask → Fault → List I → Type 0) where
  -- One ask, and what the pass knows before and after it.
  -- It has its place in the history, which begins with what the pass had seen.
  -- Afterwards the pass has seen the place, what the ask added there, which are entries of its own, and maybe more.
  -- What is answered is kept, and so is all that the answer could have seen.
  -- Without an answer the ask may have added an entry all the same.
  -- A fault of the keeper is reported only if the count rose in the last turn of this very ask.
  abbrev pub AsksDesk : Known I → Option (List ℕ) → Ask → Result Answered Fault → Known I → Type 0
  AsksDesk p token ask (Ok answered) p' = (place : List I) × (added : List I) × Begins p.seen place × Answers place token ask answered added
      × Begins (place ++ added) p'.seen × (p'.own ≡ p.own ++ added) × (length (place ++ added) ≤ p'.kept) × (p.kept ≤ p'.kept)
      × (p.count ≤ p'.count) × (p'.found ≡ p'.count) × (p'.shares ≡ p.shares)
  AsksDesk p token ask (Err Keeper) p' = (place : List I) × (added : List I) × Begins p.seen place × Unanswers place token ask Keeper added
      × Begins (place ++ added) p'.seen × (p'.own ≡ p.own ++ added) × (p.kept ≤ p'.kept)
      × (p.count ≤ p'.found) × Rose p'.found p'.count × (p'.shares ≡ p.shares)
  AsksDesk p token ask (Err Memory) p' = (place : List I) × (added : List I) × Begins p.seen place × Unanswers place token ask Memory added
      × Begins (place ++ added) p'.seen × (p'.own ≡ p.own ++ added) × (p.kept ≤ p'.kept)
      × (p.count ≤ p'.count) × (p'.found ≡ p'.count) × (p'.shares ≡ p.shares)
