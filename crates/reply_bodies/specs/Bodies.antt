-- The bodies of replies in JSON. The members of an object are in the rising order of their keys.
use Rattle.std.specs.Prelude.{ℕ, List, Option, Some, None, codes, map}
use Rattle.serde_json.specs.Data.{Data, Members, null, number, unsigned, string, array, object, member, no_members, put}
use Rattle.serde_json.specs.View.{items_of}
use Rattle.serde_json.specs.Written.{compact_text}
use Rattle.kept_rows.specs.declared.rows.AllotRow.{AllotRow}
use Rattle.kept_rows.specs.declared.rows.AnswerRow.{AnswerRow}
use Rattle.office_base.specs.declared.choice.Choice.{Choice}
use Rattle.office_base.specs.declared.seat.Seat.{Seat}
use Rattle.office_base.specs.declared.person.Person.{Person}
use Rattle.office_base.specs.declared.person.Place.{Place}
use Rattle.office_base.specs.declared.person.Place.TheVariants.{Absent, Common, Relaxed}
use Rattle.office_base.specs.declared.person.ProgId.{ProgId}
use Rattle.office_base.specs.declared.step.StepKind.{StepKind}
use Rattle.office_moves.specs.Refusals.{name_of, number_of}
use Rattle.office_moves.specs.declared.moves.Reply.{Reply}
use Rattle.office_moves.specs.declared.moves.Reply.TheVariants.{Noted, Raised, Published, Final, SeatIs, WhyIs, ListIs, RoundIs, ChoicesAre, CutoffsAre, RegisterIs, AnswersAre, StateIs, Refused}
use Rattle.office_moves.specs.declared.refusal.Refusal.{Refusal}
use Rattle.office_moves.specs.declared.refusal.Refusal.TheVariants.{UnknownCandidate, UnknownProgramme, Denied, TurnUsed, Late, Ahead, Gap, Gone, NoSeat, Widening, TooManyTurns, NotChosen, NoSuchRound, LastWindow, StepFixed, Falling, SeatLimit}
use Rattle.list_cutoffs.specs.declared.cutoffs.StepCutoff.{StepCutoff}
use Rattle.programme_lists.specs.declared.programme.Programme.{Programme}
use Rattle.published_texts.specs.Texts.{code_in, list_text, reason_text}
use Rattle.reasons.specs.declared.reason.WhyAnswer.{WhyAnswer}
use Rattle.reply_texts.specs.Replies.{category_name, choice_name, cutoffs_text, place_word, shown_text, standing_name, traits_word}
use Rattle.round_options.specs.declared.standing.Standing.{Standing}
use Rattle.rounds.specs.declared.round.Round.{Round}
use Rattle.seat_matrix.specs.Matrix.{SeatTable}
use Rattle.step_lines.specs.Lines.{seat_kind_name, step_name}

-- ---- words

-- a number
abbrev pub count : ℕ → Data
count n = number (unsigned n)

-- a word
abbrev pub word : List ℕ → Data
word text = string text

-- the code of a programme
abbrev pub code : SeatTable → ℕ → Data
code table prog = string (code_in table prog)

-- ---- receipts and readings

-- the receipt of an answer
abbrev pub noted_data : ℕ → ℕ → ℕ → Choice → Data
noted_data cand window turn choice =
    object (member (codes "cand") (count cand) (member (codes "choice") (word (choice_name choice)) (member (codes "reply") (word (codes "noted"))
    (member (codes "turn") (count turn) (member (codes "window") (count window) no_members)))))

-- the receipt of a raise
abbrev pub raised_data : SeatTable → ℕ → ℕ → StepKind → ℕ → Data
raised_data table window prog step seats =
    object (member (codes "programme") (code table prog) (member (codes "reply") (word (codes "raised")) (member (codes "seats") (count seats)
    (member (codes "step") (word (step_name step)) (member (codes "window") (count window) no_members)))))

-- the receipt of a cut that published a round
abbrev pub published_data : ℕ → ℕ → Data
published_data round seated =
    object (member (codes "reply") (word (codes "published")) (member (codes "round") (count round) (member (codes "seated") (count seated) no_members)))

-- the receipt of the last cut
abbrev pub final_data : ℕ → Data
final_data admitted = object (member (codes "admitted") (count admitted) (member (codes "reply") (word (codes "final")) no_members))

-- the programme of a seat, or null without one
abbrev pub seat_programme : SeatTable → Option Seat → Data
seat_programme table None = null
seat_programme table (Some seat) = code table seat.prog.0

-- the step of a seat, or null without one
abbrev pub seat_step : Option Seat → Data
seat_step None = null
seat_step (Some seat) = word (seat_kind_name seat.step)

-- the standing of a candidate, and the seat
abbrev pub seat_data : SeatTable → ℕ → ℕ → Standing → Option Seat → Data
seat_data table cand round standing seat =
    object (member (codes "cand") (count cand) (member (codes "programme") (seat_programme table seat) (member (codes "reply") (word (codes "seat"))
    (member (codes "round") (count round) (member (codes "standing") (word (standing_name standing)) (member (codes "step") (seat_step seat) no_members))))))

-- why a candidate has no seat of a programme, or has one: the text of the reason with its line ends
abbrev pub why_data : SeatTable → ℕ → ℕ → WhyAnswer → Data
why_data table cand prog answer =
    object (member (codes "cand") (count cand) (member (codes "programme") (code table prog) (member (codes "reply") (word (codes "why"))
    (member (codes "text") (string (reason_text table cand prog answer)) no_members))))

-- the lists of a programme in a round: their text with its line ends
abbrev pub list_data : SeatTable → ℕ → ℕ → Programme → Data
list_data table round prog programme =
    object (member (codes "programme") (code table prog) (member (codes "reply") (word (codes "list")) (member (codes "round") (count round)
    (member (codes "text") (string (list_text table round prog programme)) no_members))))

-- what was published under a number: the text of the round or of the final admissions, with its line ends
abbrev pub round_data : SeatTable → List Person → Option Round → List AllotRow → ℕ → Data
round_data table people round rows n =
    object (member (codes "reply") (word (codes "round")) (member (codes "round") (count n) (member (codes "text") (string (shown_text table people round rows)) no_members)))

-- the codes of programmes
abbrev pub codes_data : SeatTable → List ProgId → Data
codes_data table progs = array (items_of (map (λ prog. code table prog.0) progs))

-- the choice list of a candidate
abbrev pub choices_data : SeatTable → ℕ → List ProgId → Data
choices_data table cand progs =
    object (member (codes "cand") (count cand) (member (codes "programmes") (codes_data table progs) (member (codes "reply") (word (codes "choices")) no_members)))

-- the cutoffs of a programme in a round: their text with its line ends
abbrev pub cutoffs_data : SeatTable → ℕ → ℕ → List StepCutoff → Data
cutoffs_data table round prog lines =
    object (member (codes "programme") (code table prog) (member (codes "reply") (word (codes "cutoffs")) (member (codes "round") (count round)
    (member (codes "text") (string (cutoffs_text table round prog lines)) no_members))))

-- a place as the register spells it, or null where there is none
abbrev pub place_data : Place → Data
place_data Absent = null
place_data (Common n) = word (place_word (Common n))
place_data (Relaxed n) = word (place_word (Relaxed n))

abbrev pub places_data : List Place → Data
places_data places = array (items_of (map place_data places))

-- what the register has of a candidate
abbrev pub register_data : Person → Data
register_data person =
    object (member (codes "cand") (count person.id.0) (member (codes "category") (word (category_name person.category)) (member (codes "places") (places_data person.places)
    (member (codes "reply") (word (codes "register")) (member (codes "traits") (word (traits_word person.traits)) no_members)))))

-- an answer
abbrev pub answer_data : AnswerRow → Data
answer_data row =
    object (member (codes "choice") (word (choice_name row.choice)) (member (codes "turn") (count row.turn) (member (codes "window") (count row.window) no_members)))

abbrev pub rows_data : List AnswerRow → Data
rows_data rows = array (items_of (map answer_data rows))

-- the answers of a candidate
abbrev pub answers_data : ℕ → List AnswerRow → Data
answers_data cand rows = object (member (codes "answers") (rows_data rows) (member (codes "cand") (count cand) (member (codes "reply") (word (codes "answers")) no_members)))

-- how far the office is
abbrev pub state_data : ℕ → ℕ → ℕ → Data
state_data now rounds published =
    object (member (codes "now") (count now) (member (codes "published") (count published) (member (codes "reply") (word (codes "state"))
    (member (codes "rounds") (count rounds) no_members))))

-- ---- refusals

-- the members that every refusal has: its name and its number
abbrev pub refused_members : Refusal → Members
refused_members refusal =
    member (codes "name") (word (name_of refusal)) (member (codes "refused") (count (number_of refusal)) (member (codes "reply") (word (codes "refused")) no_members))

-- what a refusal carries is put in its place by the order of keys
abbrev pub refused_with : Refusal → List ℕ → Data → Data
refused_with refusal key detail = object (put key detail (refused_members refusal))

-- a refusal, with what it carries
abbrev pub refused_data : Refusal → Data
refused_data UnknownCandidate = object (refused_members UnknownCandidate)
refused_data UnknownProgramme = object (refused_members UnknownProgramme)
refused_data (Denied rule) = refused_with (Denied rule) (codes "rule") (count rule)
refused_data (TurnUsed kept) = refused_with (TurnUsed kept) (codes "kept") (word (choice_name kept))
refused_data (Late window) = refused_with (Late window) (codes "now") (count window)
refused_data (Ahead window) = refused_with (Ahead window) (codes "now") (count window)
refused_data (Gap last) = refused_with (Gap last) (codes "last") (count last)
refused_data (Gone how) = refused_with (Gone how) (codes "how") (word (standing_name how))
refused_data NoSeat = object (refused_members NoSeat)
refused_data (Widening standing) = refused_with (Widening standing) (codes "standing") (word (choice_name standing))
refused_data TooManyTurns = object (refused_members TooManyTurns)
refused_data NotChosen = object (refused_members NotChosen)
refused_data (NoSuchRound published) = refused_with (NoSuchRound published) (codes "published") (count published)
refused_data LastWindow = object (refused_members LastWindow)
refused_data StepFixed = object (refused_members StepFixed)
refused_data (Falling seats) = refused_with (Falling seats) (codes "seats") (count seats)
refused_data (SeatLimit total) = refused_with (SeatLimit total) (codes "total") (count total)

-- ---- replies

-- The object of a reply. The round and the rows are those that its text shows.
abbrev pub reply_data : SeatTable → List Person → Option Round → List AllotRow → Reply → Data
reply_data table people round rows (Noted cand window turn choice) = noted_data cand.0 window turn choice
reply_data table people round rows (Raised window prog step seats) = raised_data table window prog.0 step seats
reply_data table people round rows (Published n seated) = published_data n seated
reply_data table people round rows (Final admitted) = final_data admitted
reply_data table people round rows (SeatIs cand n standing seat) = seat_data table cand.0 n standing seat
reply_data table people round rows (WhyIs cand prog answer) = why_data table cand.0 prog.0 answer
reply_data table people round rows (ListIs n prog programme) = list_data table n prog.0 programme
reply_data table people round rows (RoundIs n) = round_data table people round rows n
reply_data table people round rows (ChoicesAre cand progs) = choices_data table cand.0 progs
reply_data table people round rows (CutoffsAre n prog lines) = cutoffs_data table n prog.0 lines
reply_data table people round rows (RegisterIs person) = register_data person
reply_data table people round rows (AnswersAre cand answers) = answers_data cand.0 answers
reply_data table people round rows (StateIs now rounds published) = state_data now rounds published
reply_data table people round rows (Refused refusal) = refused_data refusal

-- the body of a reply
abbrev pub reply_body : SeatTable → List Person → Option Round → List AllotRow → Reply → List ℕ
reply_body table people round rows reply = compact_text (reply_data table people round rows reply)
