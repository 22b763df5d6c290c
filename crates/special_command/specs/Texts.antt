-- The texts of a special round. Each line ends with LF.
use Rattle.std.specs.Prelude.{◌≡◌, ℕ, List, Some, ◌++◌, codes, length, slice_get}
use Rattle.std.specs.List.{flat_map}
use Rattle.std.specs.Fmt.{decimal}
use Rattle.office_base.specs.FaultLines.{memory_line}
use Rattle.section_rows.specs.declared.fault.TableFault.TheVariants.{Bad, OutOfMemory as NoListMemory}
use Rattle.choice_lists.specs.Kinds.{kind_name}
use Rattle.seat_matrix.specs.Matrix.{SeatTable, seats_in}
use Rattle.programme_lists.specs.declared.programme.Programme.{Programme}
use Rattle.list_cutoffs.specs.Cutoffs.{AreCutoffsIn, AreKeptListed}
use Rattle.list_cutoffs.specs.declared.cutoffs.StepCutoff.{StepCutoff}
use Rattle.rounds.specs.Round.{seated}
use Rattle.rounds.specs.declared.round.Round.{Round}
use Rattle.published_texts.specs.Texts.{AreSeatsOf, list_text, round_text}
use Rattle.reply_texts.specs.Replies.{HasTraitSlots, cutoffs_text}
use Rattle.season_texts.specs.Texts.{row_line}
use Rattle.special_round.specs.declared.fault.SpecialFault.{SpecialFault}
use Rattle.special_round.specs.declared.fault.SpecialFault.TheVariants.{Admitted, Lists, NotFinal, OutOfMemory}
use Rattle.special_round.specs.declared.round_over.Special.{Special}
use Rattle.special_command.specs.declared.lists.SpecialPapers.{SpecialPapers}
use Rattle.special_command.specs.declared.lists.SpecialPapers.TheVariants.{RoundAlone, WithLists}

-- the line of the counts: the vacant seats, and how many of them the round gives
abbrev pub special_line : ℕ → ℕ → List ℕ
special_line vacant seated = codes "special seats " ++ decimal vacant ++ codes " seated " ++ decimal seated ++ codes "\n"

-- the text of a special round: the line of its counts, and the text of its round
abbrev pub special_text : Special → List ℕ
special_text special = special_line special.vacant (seated special.round.seats) ++ round_text special.season.matrix special.season.register.people special.round

-- Its round can be shown: it has an entry for each of the people, and each seat is in a programme of the matrix.
pub record CanBeShown (special : Special) : Type 0 where
  pub entries : length special.round.seats ≡ length special.season.register.people
  pub programmes : AreSeatsOf special.season.matrix special.round.seats

-- ---- the lists and cutoffs behind the round

-- the list of a programme in a round over this matrix, and then its cutoffs there
abbrev pub IsProgrammeText : SeatTable → Round → ℕ → List ℕ → Type 0
IsProgrammeText table round prog text = (programme : Programme) × (lines : List StepCutoff) × (slice_get round.programmes prog ≡ Some programme)
    × AreCutoffsIn (seats_in table prog) programme.steps lines × (text ≡ list_text table round.number prog programme ++ cutoffs_text table round.number prog lines)

-- The texts of all programmes, in the order of their numbers.
pub record AreProgrammeTexts (table : SeatTable) (round : Round) (texts : List (List ℕ)) : Type 0 where
  pub count : length texts ≡ length table.programmes
  pub each : (prog : ℕ) (text : List ℕ) → slice_get texts prog ≡ Some text → IsProgrammeText table round prog text

-- what is written of a special round: its text alone, or also the list and the cutoffs of each programme
abbrev pub IsTextOf : SpecialPapers → Special → List ℕ → Type 0
IsTextOf RoundAlone special text = text ≡ special_text special
IsTextOf WithLists special text = (texts : List (List ℕ)) × AreProgrammeTexts special.season.matrix special.round texts × (text ≡ special_text special ++ flat_map (λ text. text) texts)

-- Its lists can be shown: each programme has them, with the slots of traits, and they have cutoffs.
pub record CanBeListed (special : Special) : Type 0 where
  pub count : length special.round.programmes ≡ length special.season.matrix.programmes
  pub slots : (prog : ℕ) (programme : Programme) → slice_get special.round.programmes prog ≡ Some programme → HasTraitSlots programme
  pub kept : (prog : ℕ) (programme : Programme) → slice_get special.round.programmes prog ≡ Some programme → AreKeptListed (seats_in special.season.matrix prog) programme.steps

-- the line that tells why there is no special round
abbrev pub special_fault_line : SpecialFault → List ℕ
special_fault_line (NotFinal now) = codes "fault: special NotFinal now " ++ decimal now ++ codes "\n"
special_fault_line (Lists (Bad row kind)) = row_line (codes "choices") row (kind_name kind)
special_fault_line (Lists NoListMemory) = memory_line
special_fault_line (Admitted row) = codes "fault: special row " ++ decimal row ++ codes " Admitted\n"
special_fault_line OutOfMemory = memory_line
