-- What a proof sees of the tables of a keeper of records.
use Rattle.std.specs.Prelude.{◌≡◌, ◌+◌, ℕ, Bool, true, false, List, [], ◌∷◌, ◌++◌}
use Rattle.kept_rows.specs.declared.rows.AnswerRow.{AnswerRow}
use Rattle.kept_rows.specs.declared.rows.AllotRow.{AllotRow}
use Rattle.kept_rows.specs.declared.rows.RaiseRow.{RaiseRow}
use Rattle.kept_rows.specs.declared.rows.Kept.{Kept}

-- the tables are hidden; there is no season, and the other tables are empty; or these are the records of a season
pub data Tables : Type 0 where
  Untold : Tables
  NoSeason : Tables
  Records : Kept → Tables

-- the records of a season of which nothing is kept yet but its text
abbrev pub opening_records : List ℕ → Kept
opening_records text = record { season = text; answers = []; raises = []; allots = []; cuts = 0 }

-- no season becomes the season of this text; other tables stay
abbrev pub with_season : List ℕ → Tables → Tables
with_season text Untold = Untold
with_season text NoSeason = Records (opening_records text)
with_season text (Records kept) = Records kept

-- the row is put after the answers, if there are visible records; other tables stay
abbrev pub with_answer : AnswerRow → Tables → Tables
with_answer row Untold = Untold
with_answer row NoSeason = NoSeason
with_answer row (Records kept) =
    Records (record { season = kept.season; answers = kept.answers ++ row ∷ []; raises = kept.raises; allots = kept.allots; cuts = kept.cuts })

-- the row is put after the raises
abbrev pub with_raise : RaiseRow → Tables → Tables
with_raise row Untold = Untold
with_raise row NoSeason = NoSeason
with_raise row (Records kept) =
    Records (record { season = kept.season; answers = kept.answers; raises = kept.raises ++ row ∷ []; allots = kept.allots; cuts = kept.cuts })

-- the rows are put after the allots, and there is one cut more
abbrev pub with_cut : List AllotRow → Tables → Tables
with_cut rows Untold = Untold
with_cut rows NoSeason = NoSeason
with_cut rows (Records kept) =
    Records (record { season = kept.season; answers = kept.answers; raises = kept.raises; allots = kept.allots ++ rows; cuts = kept.cuts + 1 })

-- The visible tables are the expected ones, or the tables are hidden now.
abbrev pub AreTold : Tables → Tables → Type 0
AreTold expected Untold = Unit {0}
AreTold expected NoSeason = expected ≡ NoSeason
AreTold expected (Records kept) = expected ≡ Records kept

-- the visible tables have a season, or have none
abbrev pub IsFound : Bool → Tables → Type 0
IsFound found Untold = Unit {0}
IsFound found NoSeason = found ≡ false
IsFound found (Records kept) = found ≡ true

-- these are the visible records, if any are
abbrev pub IsLoaded : Tables → Kept → Type 0
IsLoaded Untold kept = Unit {0}
IsLoaded NoSeason kept = ⊥
IsLoaded (Records told) kept = told ≡ kept

-- the tables are visible
abbrev pub IsTold : Tables → Type 0
IsTold Untold = ⊥
IsTold NoSeason = Unit {0}
IsTold (Records kept) = Unit {0}

-- the tables before, if the tables after are visible; otherwise hidden
abbrev pub still : Tables → Tables → Tables
still before Untold = Untold
still before NoSeason = before
still before (Records kept) = before
