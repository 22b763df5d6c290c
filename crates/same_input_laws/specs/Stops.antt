-- That a stop costs nothing: who resumes what was kept goes on as if nothing had stopped.
use Rattle.std.specs.Prelude.{◌≡◌, ◌++◌, ℕ, List}
use Rattle.kept_rows.specs.Tables.{Records}
use Rattle.kept_rows.specs.declared.rows.Kept.{Kept}
use Rattle.office_asks.specs.declared.ask.Request.{Request}
use Rattle.office_moves.specs.Facts.{IsSound, SeasonFacts}
use Rattle.office_moves.specs.State.{State, opening}
use Rattle.replays.specs.Replay.{IsReplayed}
use Rattle.season_commands.specs.Runs.{AfterSome, Answers}

-- A run stopped after the first requests, over a keeper with these records, and an office resumed from the records.
-- It answers the other requests as the run that did not stop does: with the same bytes, and in the same state at the end.
abbrev pub AStopCostsNothing : Type 0
AStopCostsNothing = (facts : SeasonFacts) (first rest : List Request) (some tail whole : List ℕ) (stopped resumed end ended : State) (kept : Kept) → IsSound facts
    → AfterSome facts opening first some stopped (Records kept) → IsReplayed facts kept resumed → Answers facts resumed rest tail end → Answers facts opening (first ++ rest) whole ended
    → (some ++ tail ≡ whole) × (end ≡ ended)
