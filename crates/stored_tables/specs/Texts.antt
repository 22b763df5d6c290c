-- The texts of the keeper, and the values that represent rows in them.
use Rattle.std.specs.Prelude.{ℕ, pos, List, [], ◌∷◌, codes}
use Rattle.sqlite.specs.Order.{Row}
use Rattle.sqlite.specs.declared.types.Value.TheVariants.{Int, Blob}
use Rattle.office_base.specs.SeatKinds.{seat_kind_number}
use Rattle.office_base.specs.StepNumbers.{step_number}
use Rattle.kept_rows.specs.declared.rows.AnswerRow.{AnswerRow}
use Rattle.kept_rows.specs.declared.rows.AllotRow.{AllotRow}
use Rattle.kept_rows.specs.declared.rows.RaiseRow.{RaiseRow}
use Rattle.stored_tables.specs.Numbers.{choice_number}

-- ---- the five tables, each made where it is not there

abbrev pub season_table : List ℕ
season_table = codes "CREATE TABLE IF NOT EXISTS season (part INTEGER PRIMARY KEY, bytes BLOB NOT NULL) STRICT"

abbrev pub answer_table : List ℕ
answer_table = codes "CREATE TABLE IF NOT EXISTS answer (seq INTEGER PRIMARY KEY, win INTEGER NOT NULL, cand INTEGER NOT NULL, turn INTEGER NOT NULL, choice INTEGER NOT NULL, UNIQUE (win, cand, turn)) STRICT"

abbrev pub allot_table : List ℕ
allot_table = codes "CREATE TABLE IF NOT EXISTS allot (rnd INTEGER NOT NULL, cand INTEGER NOT NULL, prog INTEGER NOT NULL, step INTEGER NOT NULL, PRIMARY KEY (rnd, cand)) STRICT"

abbrev pub phase_table : List ℕ
phase_table = codes "CREATE TABLE IF NOT EXISTS phase (id INTEGER PRIMARY KEY, cuts INTEGER NOT NULL) STRICT"

abbrev pub lift_table : List ℕ
lift_table = codes "CREATE TABLE IF NOT EXISTS lift (seq INTEGER PRIMARY KEY, win INTEGER NOT NULL, prog INTEGER NOT NULL, step INTEGER NOT NULL, seats INTEGER NOT NULL) STRICT"

-- all five, in this order
abbrev pub table_texts : List (List ℕ)
table_texts = season_table ∷ answer_table ∷ allot_table ∷ phase_table ∷ lift_table ∷ []

-- ---- what is put

abbrev pub answer_text : List ℕ
answer_text = codes "INSERT INTO answer (win, cand, turn, choice) VALUES (?1, ?2, ?3, ?4)"

abbrev pub answer_values : AnswerRow → Row
answer_values row = Int (pos row.window) ∷ Int (pos row.cand.0) ∷ Int (pos row.turn) ∷ Int (pos (choice_number row.choice)) ∷ []

abbrev pub raise_text : List ℕ
raise_text = codes "INSERT INTO lift (win, prog, step, seats) VALUES (?1, ?2, ?3, ?4)"

abbrev pub raise_values : RaiseRow → Row
raise_values row = Int (pos row.window) ∷ Int (pos row.prog.0) ∷ Int (pos (step_number row.step)) ∷ Int (pos row.seats) ∷ []

abbrev pub allot_text : List ℕ
allot_text = codes "INSERT INTO allot (rnd, cand, prog, step) VALUES (?1, ?2, ?3, ?4)"

abbrev pub allot_values : AllotRow → Row
allot_values row = Int (pos row.round) ∷ Int (pos row.cand.0) ∷ Int (pos row.prog.0) ∷ Int (pos (seat_kind_number row.step)) ∷ []

-- puts the number of cuts in place of the one that is there
abbrev pub cuts_text : List ℕ
cuts_text = codes "INSERT INTO phase (id, cuts) VALUES (?1, ?2) ON CONFLICT (id) DO UPDATE SET cuts = excluded.cuts"

abbrev pub cuts_values : ℕ → Row
cuts_values cuts = Int (pos 1) ∷ Int (pos cuts) ∷ []

-- puts the row of a season without cuts, if no row is there
abbrev pub opening_text : List ℕ
opening_text = codes "INSERT INTO phase (id, cuts) SELECT ?1, 0 WHERE NOT EXISTS (SELECT id FROM phase)"

abbrev pub opening_values : Row
opening_values = Int (pos 1) ∷ []

-- a part of the text of a season, with its number
abbrev pub part_text : List ℕ
part_text = codes "INSERT INTO season (part, bytes) VALUES (?1, ?2)"

abbrev pub part_values : ℕ → List ℕ → Row
part_values part bytes = Int (pos part) ∷ Blob bytes ∷ []

-- ---- what is asked

-- whether a season is there, and how many cuts were made
abbrev pub phase_query : List ℕ
phase_query = codes "SELECT id, cuts FROM phase ORDER BY id"

-- all parts of the text, answers, raises and published seats, each in their order
abbrev pub text_query : List ℕ
text_query = codes "SELECT part, bytes FROM season ORDER BY part"

abbrev pub answers_query : List ℕ
answers_query = codes "SELECT seq, win, cand, turn, choice FROM answer ORDER BY seq"

abbrev pub raises_query : List ℕ
raises_query = codes "SELECT seq, win, prog, step, seats FROM lift ORDER BY seq"

abbrev pub allots_query : List ℕ
allots_query = codes "SELECT rnd, cand, prog, step FROM allot ORDER BY rnd, cand"

-- the last key of the published seats
abbrev pub key_query : List ℕ
key_query = codes "SELECT rnd, cand FROM allot ORDER BY rnd DESC, cand DESC LIMIT 1"

-- whether there is a row, for each of the four tables other than the phase
abbrev pub any_part : List ℕ
any_part = codes "SELECT part FROM season LIMIT 1"

abbrev pub any_answer : List ℕ
any_answer = codes "SELECT seq FROM answer LIMIT 1"

abbrev pub any_raise : List ℕ
any_raise = codes "SELECT seq FROM lift LIMIT 1"

abbrev pub any_allot : List ℕ
any_allot = codes "SELECT rnd FROM allot LIMIT 1"
