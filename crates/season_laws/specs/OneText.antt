-- That the texts of cutoffs, of entries and of answers say one thing: equal bytes have equal contents.
use Rattle.std.specs.Prelude.{◌≡◌, ◌≢◌, ◌<◌, ◌^◌, ℕ, List, length}
use Rattle.std.specs.List.{AllByRecursion}
use Rattle.kept_rows.specs.declared.rows.AnswerRow.{AnswerRow}
use Rattle.list_cutoffs.specs.declared.cutoffs.StepCutoff.{StepCutoff}
use Rattle.office_base.specs.Lists.{Pairwise}
use Rattle.office_base.specs.Person.{IsTraitSet}
use Rattle.office_base.specs.declared.person.Person.{Person}
use Rattle.office_base.specs.declared.person.Place.{Place}
use Rattle.office_base.specs.declared.person.Place.TheVariants.{Absent, Common, Relaxed}
use Rattle.reply_texts.specs.Replies.{answers_text, cutoffs_text, register_line}
use Rattle.seat_matrix.specs.Matrix.{SeatTable, codes_in}
use Rattle.step_cutoffs.specs.declared.cutoff.Cutoff.{Cutoff}
use Rattle.step_cutoffs.specs.declared.cutoff.Cutoff.TheVariants.{Nobody, UpTo, Anybody}
use Rattle.text_readers.specs.Parts.{AreSpelled}

-- each programme has a code, and no two have the same
pub record HasCodes (table : SeatTable) : Type 0 where
  pub spelled : AreSpelled table
  pub apart : Pairwise (λ a b. a ≢ b) (codes_in table.programmes)

-- the number of the last place fits 32 bits
abbrev pub IsSmallCutoff : Cutoff → Type 0
IsSmallCutoff Nobody = Unit {0}
IsSmallCutoff (UpTo last) = last < 2 ^ 32
IsSmallCutoff Anybody = Unit {0}

-- a line as the program holds one
pub record IsLine (line : StepCutoff) : Type 0 where
  pub traits : IsTraitSet line.traits
  pub cutoff : IsSmallCutoff line.cutoff

-- The text of cutoffs is that of one round, one programme and one list of lines.
abbrev pub CutoffsAreOneText : Type 0
CutoffsAreOneText = (table : SeatTable) (round number prog other : ℕ) (lines others : List StepCutoff) → HasCodes table → round < 2 ^ 16 → number < 2 ^ 16
    → prog < length table.programmes → other < length table.programmes → AllByRecursion IsLine lines → AllByRecursion IsLine others
    → cutoffs_text table round prog lines ≡ cutoffs_text table number other others → (round ≡ number) × (prog ≡ other) × (lines ≡ others)

-- the number of a place fits 32 bits
abbrev pub IsSmallPlace : Place → Type 0
IsSmallPlace Absent = Unit {0}
IsSmallPlace (Common number) = number < 2 ^ 32
IsSmallPlace (Relaxed number) = number < 2 ^ 32

-- an entry as the program holds one
pub record IsEntry (person : Person) : Type 0 where
  pub id : person.id.0 < 2 ^ 32
  pub traits : IsTraitSet person.traits
  pub places : AllByRecursion IsSmallPlace person.places

-- The line of an entry is that of one person.
abbrev pub EntriesAreOneText : Type 0
EntriesAreOneText = (person other : Person) → IsEntry person → IsEntry other → register_line person ≡ register_line other → person ≡ other

-- an answer of the candidate as the program holds one
pub record IsAnswerOf (cand : ℕ) (row : AnswerRow) : Type 0 where
  pub own : row.cand.0 ≡ cand
  pub window : row.window < 2 ^ 16
  pub turn : row.turn < 2 ^ 16

-- The text of answers is that of one candidate and one list of answers.
abbrev pub AnswersAreOneText : Type 0
AnswersAreOneText = (cand other : ℕ) (rows others : List AnswerRow) → cand < 2 ^ 32 → other < 2 ^ 32 → length rows < 2 ^ 32 → length others < 2 ^ 32
    → AllByRecursion (IsAnswerOf cand) rows → AllByRecursion (IsAnswerOf other) others
    → answers_text cand rows ≡ answers_text other others → (cand ≡ other) × (rows ≡ others)
