-- The published texts of a dossier: one after another, as they are due.
use Rattle.std.specs.Prelude.{◌≡◌, ◌+◌, ℕ, List, [], ◌∷◌, ◌++◌, Some, None, length}
use Rattle.office_base.specs.declared.person.Person.{Person}
use Rattle.office_asks.specs.declared.ask.Request.{Request}
use Rattle.text_readers.specs.Reading.{Grammar}
use Rattle.list_texts.specs.Listing.{IsListText}
use Rattle.list_texts.specs.declared.lists.ListRead.{ListRead}
use Rattle.publish.specs.Rows.{IsFinalText, IsRoundText}
use Rattle.publish.specs.declared.reads.FinalRead.{FinalRead}
use Rattle.publish.specs.declared.reads.RoundRead.{RoundRead}
use Rattle.seat_matrix.specs.Matrix.{SeatTable}
use Rattle.dossier_file.specs.Due.{cuts_accepted, due}
use Rattle.dossier_file.specs.declared.due.Due.{Due}
use Rattle.dossier_file.specs.declared.due.Due.TheVariants.{Round as RoundDue, List as ListDue, Final as FinalDue}
use Rattle.dossier_file.specs.declared.papers.Papers.{Papers}

abbrev pub no_papers : Papers
no_papers = record { rounds = []; lists = []; last = None }

-- papers with one more before them
abbrev pub with_round : RoundRead → Papers → Papers
with_round read papers = record { rounds = read ∷ papers.rounds; lists = papers.lists; last = papers.last }

abbrev pub with_list : ListRead → Papers → Papers
with_list read papers = record { rounds = papers.rounds; lists = read ∷ papers.lists; last = papers.last }

abbrev pub with_final : FinalRead → Papers → Papers
with_final read papers = record { rounds = papers.rounds; lists = papers.lists; last = Some read }

-- the texts of a grammar whose values are such
abbrev pub OwnTexts : {A : Type 0} → Grammar A → (A → Type 0) → Grammar A
OwnTexts grammar Own text value = grammar text value × Own value

-- a list is that of this programme in the round of this number
abbrev pub IsListAt : ℕ → ℕ → ListRead → Type 0
IsListAt number prog read = (read.round ≡ number) × (read.prog.0 ≡ prog)

-- the text of the round of this number
abbrev pub IsRoundOf : SeatTable → List Person → ℕ → Grammar RoundRead
IsRoundOf table people number = OwnTexts (IsRoundText table people) (λ read. read.round ≡ number)

-- the text of this programme's list in the round of this number
abbrev pub IsListOf : SeatTable → List Person → ℕ → ℕ → Grammar ListRead
IsListOf table people number prog = OwnTexts (IsListText table people) (IsListAt number prog)

-- The text is one of the first grammar and then one of the second, and their values together are this one.
pub record IsThen {A B : Type 0} (join : A → B → B) (first : Grammar A) (second : Grammar B) (text : List ℕ) (value : B) : Type 0 where
  pub front : List ℕ
  pub rest : List ℕ
  pub one : A
  pub more : B
  pub split : text ≡ front ++ rest
  pub all : value ≡ join one more
  pub begins : first front one
  pub later : second rest more

-- The texts that are due, one after another, and nothing else. The final admissions have the number of rounds plus 1.
abbrev pub ArePapers : SeatTable → List Person → ℕ → List Due → Grammar Papers
ArePapers table people rounds [] text papers = (text ≡ []) × (papers ≡ no_papers)
ArePapers table people rounds (RoundDue number ∷ dues) text papers = IsThen with_round (IsRoundOf table people number) (ArePapers table people rounds dues) text papers
ArePapers table people rounds (ListDue number prog ∷ dues) text papers = IsThen with_list (IsListOf table people number prog.0) (ArePapers table people rounds dues) text papers
ArePapers table people rounds (FinalDue ∷ dues) text papers = IsThen with_final (IsFinalText table people (rounds + 1)) (ArePapers table people rounds dues) text papers

-- the texts that the accepted cuts of a script publish in a season of so many rounds
abbrev pub AreDuePapers : SeatTable → List Person → ℕ → List Request → Grammar Papers
AreDuePapers table people rounds script = ArePapers table people rounds (due rounds (length table.programmes) (cuts_accepted rounds 0 script))
