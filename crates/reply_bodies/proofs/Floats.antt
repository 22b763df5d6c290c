-- No body has a number that is not whole.
use Rattle.std.proofs.Common.{◌≡◌, ℕ, false, List, [], ◌∷◌, Option, Some, None, refl}
use Rattle.serde_json.specs.Written.{has_float}
use Rattle.kept_rows.specs.declared.rows.AllotRow.{AllotRow}
use Rattle.kept_rows.specs.declared.rows.AnswerRow.{AnswerRow}
use Rattle.office_base.specs.declared.seat.Seat.{Seat}
use Rattle.office_base.specs.declared.person.Person.{Person}
use Rattle.office_base.specs.declared.person.Place.{Place}
use Rattle.office_base.specs.declared.person.Place.TheVariants.{Absent, Common, Relaxed}
use Rattle.office_base.specs.declared.person.ProgId.{ProgId}
use Rattle.office_moves.specs.declared.moves.Reply.{Reply}
use Rattle.office_moves.specs.declared.moves.Reply.TheVariants.{SeatIs, ChoicesAre, RegisterIs, AnswersAre, Refused}
use Rattle.office_moves.specs.declared.refusal.Refusal.{Refusal}
use Rattle.office_moves.specs.declared.refusal.Refusal.TheVariants.{UnknownCandidate}
use Rattle.reply_bodies.specs.Bodies.{answers_data, choices_data, codes_data, places_data, register_data, reply_data, rows_data, refused_data, seat_data}
use Rattle.round_options.specs.declared.standing.Standing.{Standing}
use Rattle.rounds.specs.declared.round.Round.{Round}
use Rattle.seat_matrix.specs.Matrix.{SeatTable}

of_refusal : (refusal : Refusal) → has_float (refused_data refusal) ≡ false
of_refusal UnknownCandidate = refl
of_refusal refusal = refl

of_seat : (table : SeatTable) (cand round : ℕ) (standing : Standing) (seat : Option Seat) → has_float (seat_data table cand round standing seat) ≡ false
of_seat table cand round standing None = refl
of_seat table cand round standing (Some seat) = refl

of_codes : (table : SeatTable) (progs : List ProgId) → has_float (codes_data table progs) ≡ false
of_codes table [] = refl
of_codes table (prog ∷ progs) = of_codes table progs

of_choices : (table : SeatTable) (cand : ℕ) (progs : List ProgId) → has_float (choices_data table cand progs) ≡ false
of_choices table cand progs = rw (of_codes table progs) refl

of_places : (places : List Place) → has_float (places_data places) ≡ false
of_places [] = refl
of_places (Absent ∷ places) = of_places places
of_places (Common n ∷ places) = of_places places
of_places (Relaxed n ∷ places) = of_places places

of_register : (person : Person) → has_float (register_data person) ≡ false
of_register person = rw (of_places person.places) refl

of_rows : (rows : List AnswerRow) → has_float (rows_data rows) ≡ false
of_rows [] = refl
of_rows (row ∷ rows) = of_rows rows

of_answers : (cand : ℕ) (rows : List AnswerRow) → has_float (answers_data cand rows) ≡ false
of_answers cand rows = rw (of_rows rows) refl

pub no_floats : (table : SeatTable) (people : List Person) (round : Option Round) (rows : List AllotRow) (reply : Reply) → has_float (reply_data table people round rows reply) ≡ false
no_floats table people round rows (SeatIs cand number standing seat) = of_seat table cand.0 number standing seat
no_floats table people round rows (ChoicesAre cand progs) = of_choices table cand.0 progs
no_floats table people round rows (RegisterIs person) = of_register person
no_floats table people round rows (AnswersAre cand answers) = of_answers cand.0 answers
no_floats table people round rows (Refused refusal) = of_refusal refusal
no_floats table people round rows reply = refl
