-- The texts of replies. Each line ends with LF.
use Rattle.std.specs.Prelude.{◌≡◌, ◌<◌, ◌==◌, ℕ, zero, suc, List, [], ◌∷◌, ◌++◌, length, Option, Some, None, IfSome, codes, if◌then◌else◌}
use Rattle.std.specs.Fmt.{decimal}
use Rattle.std.specs.List.{AllByRecursion, flat_map}
use Rattle.kept_rows.specs.declared.rows.AllotRow.{AllotRow}
use Rattle.kept_rows.specs.declared.rows.AnswerRow.{AnswerRow}
use Rattle.office_base.specs.Person.{has_trait}
use Rattle.office_base.specs.declared.choice.Choice.{Choice}
use Rattle.office_base.specs.declared.choice.Choice.TheVariants.{Freeze as ToFreeze, Float as ToFloat, Slide as ToSlide, Withdraw as ToWithdraw}
use Rattle.office_base.specs.declared.seat.Seat.{Seat}
use Rattle.office_base.specs.declared.person.Person.{Person}
use Rattle.office_base.specs.declared.person.Place.{Place}
use Rattle.office_base.specs.declared.person.Place.TheVariants.{Absent, Common, Relaxed}
use Rattle.office_base.specs.declared.person.ProgId.{ProgId}
use Rattle.office_base.specs.declared.person.TraitSet.{TraitSet}
pub use Rattle.office_text.specs.Names.{category_name}
use Rattle.office_text.specs.Traits.{letter}
use Rattle.step_cutoffs.specs.declared.cutoff.Cutoff.{Cutoff}
use Rattle.step_cutoffs.specs.declared.cutoff.Cutoff.TheVariants.{Nobody, UpTo, Anybody}
use Rattle.list_cutoffs.specs.declared.cutoffs.StepCutoff.{StepCutoff}
use Rattle.programme_lists.specs.declared.programme.Programme.{Programme}
use Rattle.published_texts.specs.Texts.{AreSeatsOf, IsAnswerOf, IsSeatOf, code_in, final_text, list_text, reason_text, round_text}
use Rattle.round_options.specs.declared.standing.Standing.{Standing}
use Rattle.round_options.specs.declared.standing.Standing.TheVariants.{Waiting, Offered, Freeze, Float, Slide, Withdrawn, NoShow}
use Rattle.rounds.specs.declared.round.Round.{Round}
use Rattle.seat_matrix.specs.Matrix.{SeatTable}
use Rattle.step_lines.specs.Lines.{seat_kind_name, step_name}
use Rattle.office_moves.specs.Refusals.{name_of, number_of}
use Rattle.office_moves.specs.declared.moves.Reply.{Reply}
use Rattle.office_moves.specs.declared.moves.Reply.TheVariants.{Noted, Raised, Published, Final, SeatIs, WhyIs, ListIs, RoundIs, ChoicesAre, CutoffsAre, RegisterIs, AnswersAre, StateIs, Refused}
use Rattle.office_moves.specs.declared.refusal.Refusal.{Refusal}
use Rattle.office_moves.specs.declared.refusal.Refusal.TheVariants.{UnknownCandidate, UnknownProgramme, Denied, TurnUsed, Late, Ahead, Gap, Gone, NoSeat, Widening, TooManyTurns, NotChosen, NoSuchRound, LastWindow, StepFixed, Falling, SeatLimit}

-- ---- words

abbrev pub choice_name : Choice → List ℕ
choice_name ToFreeze = codes "freeze"
choice_name ToFloat = codes "float"
choice_name ToSlide = codes "slide"
choice_name ToWithdraw = codes "withdraw"

abbrev pub standing_name : Standing → List ℕ
standing_name Waiting = codes "waiting"
standing_name Offered = codes "offered"
standing_name Freeze = codes "freeze"
standing_name Float = codes "float"
standing_name Slide = codes "slide"
standing_name Withdrawn = codes "withdrawn"
standing_name NoShow = codes "noshow"

-- ---- refusals

-- what a refusal carries, after its name
abbrev pub detail : Refusal → List ℕ
detail UnknownCandidate = []
detail UnknownProgramme = []
detail (Denied rule) = codes " rule " ++ decimal rule
detail (TurnUsed kept) = codes " kept " ++ choice_name kept
detail (Late window) = codes " now " ++ decimal window
detail (Ahead window) = codes " now " ++ decimal window
detail (Gap last) = codes " last " ++ decimal last
detail (Gone how) = codes " " ++ standing_name how
detail NoSeat = []
detail (Widening standing) = codes " standing " ++ choice_name standing
detail TooManyTurns = []
detail NotChosen = []
detail (NoSuchRound published) = codes " published " ++ decimal published
detail LastWindow = []
detail StepFixed = []
detail (Falling seats) = codes " seats " ++ decimal seats
detail (SeatLimit total) = codes " total " ++ decimal total

-- the line of a refusal: its number, its name and what it carries
abbrev pub refusal_line : Refusal → List ℕ
refusal_line refusal = codes "refused " ++ decimal (number_of refusal) ++ codes " " ++ name_of refusal ++ detail refusal ++ codes "\n"

-- ---- receipts and readings

-- the line of an accepted answer
abbrev pub noted_line : ℕ → ℕ → ℕ → Choice → List ℕ
noted_line cand window turn choice =
    codes "noted " ++ decimal cand ++ codes " window " ++ decimal window ++ codes " turn " ++ decimal turn ++ codes " " ++ choice_name choice ++ codes "\n"

-- the first line of a cut that published a round
abbrev pub published_line : ℕ → ℕ → List ℕ
published_line number seated = codes "published " ++ decimal number ++ codes " seated " ++ decimal seated ++ codes "\n"

-- the first line of the last cut
abbrev pub final_line : ℕ → List ℕ
final_line admitted = codes "final admitted " ++ decimal admitted ++ codes "\n"

-- the seat, or that there is none
abbrev pub seat_words : SeatTable → Option Seat → List ℕ
seat_words table None = codes " none\n"
seat_words table (Some seat) = codes " " ++ code_in table seat.prog.0 ++ codes " " ++ seat_kind_name seat.step ++ codes "\n"

-- the line of a candidate's standing and seat
abbrev pub standing_line : SeatTable → ℕ → ℕ → Standing → Option Seat → List ℕ
standing_line table cand number standing seat =
    codes "seat " ++ decimal cand ++ codes " round " ++ decimal number ++ codes " " ++ standing_name standing ++ seat_words table seat

-- a programme of a choice list
abbrev pub choice_word : SeatTable → ProgId → List ℕ
choice_word table prog = codes " " ++ code_in table prog.0

-- the line of a candidate's choice list
abbrev pub choices_line : SeatTable → ℕ → List ProgId → List ℕ
choices_line table cand progs = codes "choices " ++ decimal cand ++ flat_map (choice_word table) progs ++ codes "\n"

-- the letter of a trait that the set has, and nothing for another one
abbrev pub letter_if : TraitSet → ℕ → List ℕ
letter_if traits t = if has_trait traits t then letter t ∷ [] else []

-- the letters of those of the first traits, so many, that the set has
abbrev pub letters_below : TraitSet → ℕ → List ℕ
letters_below traits zero = []
letters_below traits (suc t) = letters_below traits t ++ letter_if traits t

-- how a set of traits is spelled: their letters in order, or a dash for none
abbrev pub traits_word : TraitSet → List ℕ
traits_word traits = if traits.0 == 0 then codes "-" else letters_below traits 6

-- how the register spells a place; a dash where there is none
abbrev pub place_word : Place → List ℕ
place_word Absent = codes "-"
place_word (Common number) = decimal number
place_word (Relaxed number) = decimal number ++ codes "R"

-- a place behind others
abbrev pub place_after : Place → List ℕ
place_after place = codes " " ++ place_word place

-- the line of what the register has of a candidate, up to the places
abbrev pub register_head : Person → List ℕ
register_head person = codes "register " ++ decimal person.id.0 ++ codes " " ++ category_name person.category ++ codes " " ++ traits_word person.traits

-- the whole line
abbrev pub register_line : Person → List ℕ
register_line person = register_head person ++ flat_map place_after person.places ++ codes "\n"

-- the last place of a cutoff, or that every place is within it
abbrev pub cutoff_word : Cutoff → List ℕ
cutoff_word Nobody = codes "none"
cutoff_word (UpTo last) = decimal last
cutoff_word Anybody = codes "any"

-- a line of cutoffs: the step, the traits and the last place
abbrev pub cutoff_line : StepCutoff → List ℕ
cutoff_line line = step_name line.step ++ codes " " ++ traits_word line.traits ++ codes " " ++ cutoff_word line.cutoff ++ codes "\n"

-- the first line of the cutoffs of a programme
abbrev pub cutoffs_head : SeatTable → ℕ → ℕ → List ℕ
cutoffs_head table number prog = codes "cutoffs " ++ decimal number ++ codes " " ++ code_in table prog ++ codes "\n"

-- the cutoffs of a programme in the round of this number
abbrev pub cutoffs_text : SeatTable → ℕ → ℕ → List StepCutoff → List ℕ
cutoffs_text table number prog lines = cutoffs_head table number prog ++ flat_map cutoff_line lines ++ codes "end cutoffs\n"

-- the receipt of an answer
abbrev pub row_line : AnswerRow → List ℕ
row_line row = noted_line row.cand.0 row.window row.turn row.choice

-- the first line of a candidate's answers
abbrev pub answers_head : ℕ → ℕ → List ℕ
answers_head cand noted = codes "answers " ++ decimal cand ++ codes " noted " ++ decimal noted ++ codes "\n"

-- the receipts of a candidate's answers, after a line with how many there are
abbrev pub answers_text : ℕ → List AnswerRow → List ℕ
answers_text cand rows = answers_head cand (length rows) ++ flat_map row_line rows ++ codes "end answers\n"

-- the line of how far the office is
abbrev pub state_line : ℕ → ℕ → ℕ → List ℕ
state_line window rounds published = codes "state window " ++ decimal window ++ codes " rounds " ++ decimal rounds ++ codes " published " ++ decimal published ++ codes "\n"

-- the line of an accepted raise
abbrev pub raised_line : SeatTable → ℕ → ℕ → List ℕ → ℕ → List ℕ
raised_line table window prog step seats =
    codes "raised " ++ code_in table prog ++ codes " " ++ step ++ codes " window " ++ decimal window ++ codes " seats " ++ decimal seats ++ codes "\n"

-- ---- replies

-- the text of the round that a cut published
abbrev pub text_of_round : SeatTable → List Person → Option Round → List ℕ
text_of_round table people None = []
text_of_round table people (Some round) = round_text table people round

-- what was published under a number: the round, or else the final admissions
abbrev pub shown_text : SeatTable → List Person → Option Round → List AllotRow → List ℕ
shown_text table people None rows = final_text table rows
shown_text table people (Some round) rows = round_text table people round

-- The text of a reply. The round is the one that a cut published or that was asked for, and the rows are the final admissions.
-- Only the replies to cuts, and to the question what was published, show them.
abbrev pub reply_text : SeatTable → List Person → Option Round → List AllotRow → Reply → List ℕ
reply_text table people round rows (Noted cand window turn choice) = noted_line cand.0 window turn choice
reply_text table people round rows (Raised window prog step seats) = raised_line table window prog.0 (step_name step) seats
reply_text table people round rows (Published number seated) = published_line number seated ++ text_of_round table people round
reply_text table people round rows (Final admitted) = final_line admitted ++ final_text table rows
reply_text table people round rows (SeatIs cand number standing seat) = standing_line table cand.0 number standing seat
reply_text table people round rows (WhyIs cand prog answer) = reason_text table cand.0 prog.0 answer
reply_text table people round rows (ListIs number prog programme) = list_text table number prog.0 programme
reply_text table people round rows (RoundIs number) = shown_text table people round rows
reply_text table people round rows (ChoicesAre cand progs) = choices_line table cand.0 progs
reply_text table people round rows (CutoffsAre number prog lines) = cutoffs_text table number prog.0 lines
reply_text table people round rows (RegisterIs person) = register_line person
reply_text table people round rows (AnswersAre cand answers) = answers_text cand.0 answers
reply_text table people round rows (StateIs window rounds published) = state_line window rounds published
reply_text table people round rows (Refused refusal) = refusal_line refusal

-- ---- what can be printed

-- each slot of the lists of a programme is the number of a trait
abbrev pub HasTraitSlots : Programme → Type 0
HasTraitSlots programme = AllByRecursion (λ list. AllByRecursion (λ pair. pair.slot < 6) list.cert.pairs) programme.steps

-- the round has an entry for each of the people, and its seats are in programmes of the matrix
pub record IsRoundOf (table : SeatTable) (people : List Person) (round : Round) : Type 0 where
  pub entries : length round.seats ≡ length people
  pub programmes : AreSeatsOf table round.seats

-- the round and the rows can be shown
abbrev pub AreShownOf : SeatTable → List Person → Option Round → List AllotRow → Type 0
AreShownOf table people round rows = IfSome round (IsRoundOf table people) × AllByRecursion (λ row. row.prog.0 < length table.programmes) rows

-- The programmes that a reply names are of the matrix; so are those of the round or of the rows that its text shows.
abbrev pub IsReplyOf : SeatTable → List Person → Option Round → List AllotRow → Reply → Type 0
IsReplyOf table people round rows (Raised window prog step seats) = prog.0 < length table.programmes
IsReplyOf table people round rows (Published number seated) = IfSome round (IsRoundOf table people)
IsReplyOf table people round rows (Final admitted) = AllByRecursion (λ row. row.prog.0 < length table.programmes) rows
IsReplyOf table people round rows (SeatIs cand number standing seat) = IsSeatOf table seat
IsReplyOf table people round rows (WhyIs cand prog answer) = (prog.0 < length table.programmes) × IsAnswerOf table answer
IsReplyOf table people round rows (ListIs number prog programme) = (prog.0 < length table.programmes) × HasTraitSlots programme
IsReplyOf table people round rows (RoundIs number) = AreShownOf table people round rows
IsReplyOf table people round rows (ChoicesAre cand progs) = AllByRecursion (λ prog. prog.0 < length table.programmes) progs
IsReplyOf table people round rows (CutoffsAre number prog lines) = prog.0 < length table.programmes
IsReplyOf table people round rows _ = Unit {0}
