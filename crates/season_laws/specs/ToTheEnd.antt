-- From the first seat to the admission: who keeps a seat at every cut never falls, and is admitted in the end.
use Rattle.std.specs.Prelude.{◌≡◌, ◌<◌, ◌≤◌, ◌+◌, ℕ, true, List, Some, length}
use Rattle.office_base.specs.declared.seat.Seat.{Seat}
use Rattle.kept_rows.specs.declared.rows.AllotRow.{AllotRow}
use Rattle.allocations.specs.Market.{place_of}
use Rattle.choice_lists.specs.Choices.{list_of}
use Rattle.round_options.specs.Options.{holds}
use Rattle.office_moves.specs.Facts.{IsSound, SeasonFacts}
use Rattle.office_moves.specs.History.{Reaches}
use Rattle.office_moves.specs.Moves.{rows_along}
use Rattle.office_moves.specs.Promise.{kept_to_the_end, standing_then}
use Rattle.office_moves.specs.State.{State, opening, seat_in}
use Rattle.office_moves.specs.declared.moves.Entry.{Entry}

-- at each cut from this window on, up to the cut of the last published round, the candidate's standing was freeze, float or slide
abbrev pub HoldsFrom : SeasonFacts → State → ℕ → ℕ → Type 0
HoldsFrom facts state first id = (window : ℕ) → first ≤ window → window < length state.rounds → holds (standing_then facts state window id) ≡ true

-- the new seat is at the same place of the candidate's choice list as the old one, or earlier
abbrev pub IsNoLower : SeasonFacts → ℕ → Seat → Seat → Type 0
IsNoLower facts id old new = place_of (list_of facts.lists id) new.prog.0 ≤ place_of (list_of facts.lists id) old.prog.0

-- Who had a seat in a round and held it at each later cut has a seat in every later round, and no lower one.
abbrev pub NobodyFallsLater : SeasonFacts → Type 0
NobodyFallsLater facts = IsSound facts → (entries : List Entry) (state : State) → Reaches facts opening entries state
    → (id first round : ℕ) (old : Seat) → HoldsFrom facts state first id → first ≤ round → round ≤ length state.rounds → seat_in facts state.rounds first id ≡ Some old
    → (new : Seat) × (seat_in facts state.rounds round id ≡ Some new) × IsNoLower facts id old new

-- Who also held it at the final cut is admitted to it: the final rows are along the people, and the one of this candidate has a seat that is no lower.
abbrev pub HoldersAreAdmitted : SeasonFacts → Type 0
HoldersAreAdmitted facts = IsSound facts → (entries : List Entry) (state : State) → Reaches facts opening entries state
    → (id first : ℕ) (old : Seat) (rows : List AllotRow) → state.finals ≡ Some rows → HoldsFrom facts state first id → holds (standing_then facts state facts.rounds id) ≡ true → first ≤ facts.rounds
    → seat_in facts state.rounds first id ≡ Some old
    → (rows ≡ rows_along (facts.rounds + 1) (kept_to_the_end facts state) facts.people) × ((new : Seat) × (kept_to_the_end facts state id ≡ Some new) × IsNoLower facts id old new)
