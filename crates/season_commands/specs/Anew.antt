-- The commands that begin a season, each with a keeper of its own: a new one in memory, which never fails.
use Rattle.std.specs.Prelude.{◌≡◌, ℕ, true, List}
use Rattle.office_base.specs.Outside.{Appends, IsAtEnd}
use Rattle.office_base.specs.Visible.{Streams, Writable}
use Rattle.kept_rows.specs.Tables.{Tables, NoSeason, IsTold}
use Rattle.command_answers.specs.Answers.{Tells}
use Rattle.command_answers.specs.Ends.{BlamesStreams, EndedWith, Held, IsUnread}
use Rattle.command_answers.specs.Writes.{WritesFor}
use Rattle.command_answers.specs.declared.status.Status.{Status}
use Rattle.command_answers.specs.declared.status.Status.TheVariants.{Ok as Done, BadInput}
use Rattle.season_commands.specs.Check.{IsBundle, IsFaultyBundle}
use Rattle.season_commands.specs.Generated.{EndsGeneratedRun, IsGeneratedText}
use Rattle.season_commands.specs.Run.{EndsRun}

-- What is written, and how it ends, over a keeper without a season. The tables that the keeper has at the end are visible.
abbrev pub EndsAnew : (Tables → Tables → Status → List ℕ → Type 0) → Writable → Writable → Status → Type 0
EndsAnew Ends old new status = (after : Tables) × IsTold after × ((output : List ℕ) × Appends output old.written new.written × Ends NoSeason after status output)

-- `run`: if neither the source nor the sink failed, a bundle without faults is answered, and a faulty one is refused.
pub record RunsAnew (old new : Streams) (status : Status) : Type 0 where
  pub written : EndsAnew (EndsRun old.source.left) old.sink new.sink status
  pub read_whole : status ≡ Done → IsAtEnd new.source.left
  pub blamed : BlamesStreams status old new
  pub complete : Tells (IsBundle true) old.source.left → Held old new → EndedWith (λ end. end ≡ Done) status
  pub refused : Tells (IsFaultyBundle true) old.source.left → Held old new → EndedWith (λ end. end ≡ BadInput) status

-- `generate` with `text`: the source is not read.
pub record Generates (n seed : ℕ) (old new : Streams) (status : Status) : Type 0 where
  pub written : WritesFor (IsGeneratedText n seed) old.sink new.sink status
  pub unread : IsUnread old.source new.source
  pub blamed : BlamesStreams status old new
  pub complete : Held old new → EndedWith (λ end. end ≡ Done) status

-- `generate` with `run`.
pub record CountsAnew (n seed : ℕ) (old new : Streams) (status : Status) : Type 0 where
  pub written : EndsAnew (EndsGeneratedRun n seed) old.sink new.sink status
  pub unread : IsUnread old.source new.source
  pub blamed : BlamesStreams status old new
  pub complete : Held old new → EndedWith (λ end. end ≡ Done) status
