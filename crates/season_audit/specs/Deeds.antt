-- What a request may do to a replay.
use Rattle.std.specs.Prelude.{◌≡◌, ◌<◌, None, length}
use Rattle.office_asks.specs.declared.ask.By.{By}
use Rattle.office_asks.specs.declared.ask.Request.{Request}
use Rattle.office_moves.specs.Decided.{decide_answer, decide_cut, decide_raise_of, decided}
use Rattle.office_moves.specs.Facts.{SeasonFacts}
use Rattle.office_moves.specs.History.{newly}
use Rattle.office_moves.specs.State.{State, view_of}
use Rattle.season_audit.specs.declared.auditor.Deed.{Deed}
use Rattle.season_audit.specs.declared.auditor.Deed.TheVariants.{Answer, Cut, Raise, Nothing}

-- a raise is of a programme of the matrix
abbrev pub IsOfMatrix : SeasonFacts → Deed → Type 0
IsOfMatrix facts (Raise row) = row.prog.0 < length facts.matrix.programmes
IsOfMatrix facts _ = Unit {0}

-- in every state the request comes to what the deed comes to; where it does nothing, nothing is newly accepted
abbrev pub Does : SeasonFacts → Request → By → Deed → Type 0
Does facts request by (Answer row) = (state : State) → decided facts state request ≡ decide_answer facts (view_of state row.cand.0) by row
Does facts request by (Cut window) = (state : State) → decided facts state request ≡ decide_cut facts state by window
Does facts request by (Raise row) = (state : State) → decided facts state request ≡ decide_raise_of facts state by row
Does facts request by Nothing = (state : State) → newly state.now (decided facts state request) ≡ None
