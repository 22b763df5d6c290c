-- That a list that is published is read back as it was written.
use Rattle.std.specs.Prelude.{◌≡◌, ◌≢◌, ◌<◌, ◌^◌, ℕ, List, [], Some, length, map}
use Rattle.std.specs.List.{AllByRecursion}
use Rattle.office_base.specs.Lists.{IsSublist, Pairwise}
use Rattle.office_base.specs.declared.person.Person.{Person}
use Rattle.office_base.specs.declared.person.ProgId.{ProgId}
use Rattle.office_base.specs.declared.step.StepKind.{StepKind}
use Rattle.office_base.specs.declared.step.StepKind.TheVariants.{Dereserved}
use Rattle.programme_lists.specs.declared.programme.Programme.{Programme}
use Rattle.programme_lists.specs.declared.programme.StepList.{StepList}
use Rattle.published_texts.specs.Texts.{list_text}
use Rattle.rank_lists.specs.Register.{find_person}
use Rattle.seat_matrix.specs.Matrix.{SeatTable}
use Rattle.list_texts.specs.ListReader.{AreKnown}
use Rattle.list_texts.specs.Listing.{AreStepLists, IsListText, IsStepList, step_kinds}
use Rattle.list_texts.specs.declared.lists.ListRead.{ListRead}

-- A list as it is published: its persons are distinct ones of the register, and its pairs are in their order, as
-- those of the certificate are. In the step of the seats that categories left there are none.
pub record IsWritten (people : List Person) (kind : StepKind) (list : StepList) : Type 0 where
  pub named : list.kind ≡ kind
  pub seats : list.seats < 2 ^ 32
  pub candidates : list.candidates < 2 ^ 32
  pub known : AllByRecursion (λ person. find_person person.id.0 people ≡ Some person) list.admitted
  pub distinct : Pairwise (λ a b. a.id ≢ b.id) list.admitted
  pub in_order : IsSublist (map (λ pair. pair.cand) list.cert.pairs) (map (λ person. person.id) list.admitted)
  pub slots : AllByRecursion (λ pair. pair.slot < 6) list.cert.pairs
  pub none : kind ≡ Dereserved → list.cert.pairs ≡ []

-- a text can spell a list as it is published
abbrev pub ListsAreTold : Type 0
ListsAreTold = (people : List Person) (kind : StepKind) (list : StepList) → IsWritten people kind list → IsStepList people kind list

-- the text of the list of a programme is one that is read, as this programme, if a text can spell its lists
abbrev pub ListsAreRead : Type 0
ListsAreRead = (table : SeatTable) (people : List Person) (number : ℕ) (prog : ProgId) (programme : Programme) → number < 2 ^ 16 → prog.0 < length table.programmes → AreStepLists people step_kinds programme.steps
    → IsListText table people (list_text table number prog.0 programme) (record { round = number; prog = prog; programme = programme })

-- a text is that of one list
abbrev pub ListsAreOne : Type 0
ListsAreOne = (table : SeatTable) (people : List Person) (text : List ℕ) (a b : ListRead) → AreKnown table people → IsListText table people text a → IsListText table people text b → a ≡ b
