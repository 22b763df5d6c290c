-- The text of a programme's list as it is read: what it says of each step, row by row.
use Rattle.std.specs.Prelude.{◌≡◌, ◌<◌, ◌^◌, ◌==◌, ℕ, Bool, false, List, [], ◌∷◌, ◌++◌, Option, Some, None, IfSome, length, map}
use Rattle.std.specs.List.{list_any}
use Rattle.office_base.specs.CategorySteps.{all_steps}
use Rattle.office_base.specs.declared.person.Person.{Person}
use Rattle.office_base.specs.declared.step.Pair.{Pair}
use Rattle.office_base.specs.declared.step.StepKind.{StepKind}
use Rattle.office_base.specs.declared.step.StepKind.TheVariants.{Dereserved}
use Rattle.programme_lists.specs.declared.programme.StepList.{StepList}
use Rattle.published_texts.specs.Texts.{list_text}
use Rattle.rank_lists.specs.Register.{find_person}
use Rattle.seat_matrix.specs.Matrix.{SeatTable}
use Rattle.list_texts.specs.declared.lists.ListRead.{ListRead}

-- a row: a person, and the trait of the person's slot, where there is one
abbrev pub Entry : Type 0
Entry = Person × Option ℕ

-- the persons of rows
abbrev pub persons_of : List Entry → List Person
persons_of entries = map (λ entry. entry.0) entries

-- the pair of a person with a slot
abbrev pub pair_of : Person → Option ℕ → List Pair
pair_of person None = []
pair_of person (Some t) = record { cand = person.id; slot = t } ∷ []

-- the pairs of the rows with slots, in their order
abbrev pub pairs_of : List Entry → List Pair
pairs_of [] = []
pairs_of (entry ∷ entries) = pair_of entry.0 entry.1 ++ pairs_of entries

-- one of the persons has this id
abbrev pub is_listed : ℕ → List Person → Bool
is_listed id people = list_any (λ person. id == person.id.0) people

-- A row that may follow those of these persons: its person is of the register and none of them, and its slot is one of the six.
pub record IsEntry (people used : List Person) (entry : Entry) : Type 0 where
  pub known : find_person entry.0.id.0 people ≡ Some entry.0
  pub new : is_listed entry.0.id.0 used ≡ false
  pub slot : IfSome entry.1 (λ t. t < 6)

-- rows that may follow those of these persons, one after another
abbrev pub AreEntries : List Person → List Person → List Entry → Type 0
AreEntries people used [] = Unit {0}
AreEntries people used (entry ∷ entries) = IsEntry people used entry × AreEntries people (used ++ entry.0 ∷ []) entries

-- The list of a step, as a text can spell it: its persons are distinct ones of the register, and its pairs go along
-- with them. In the step of the seats that categories left there are none.
pub record IsStepList (people : List Person) (kind : StepKind) (list : StepList) : Type 0 where
  pub named : list.kind ≡ kind
  pub seats : list.seats < 2 ^ 32
  pub candidates : list.candidates < 2 ^ 32
  pub entries : List Entry
  pub are : AreEntries people [] entries
  pub admitted : list.admitted ≡ persons_of entries
  pub pairs : list.cert.pairs ≡ pairs_of entries
  pub none : kind ≡ Dereserved → list.cert.pairs ≡ []

-- the steps, in their order
abbrev pub step_kinds : List StepKind
step_kinds = all_steps

-- a list for each of these steps
abbrev pub AreStepLists : List Person → List StepKind → List StepList → Type 0
AreStepLists people [] [] = Unit {0}
AreStepLists people [] (list ∷ lists) = ⊥
AreStepLists people (kind ∷ kinds) [] = ⊥
AreStepLists people (kind ∷ kinds) (list ∷ lists) = IsStepList people kind list × AreStepLists people kinds lists

-- The text is that of the list of a programme in a round.
pub record IsListText (table : SeatTable) (people : List Person) (text : List ℕ) (read : ListRead) : Type 0 where
  pub number : read.round < 2 ^ 16
  pub programme : read.prog.0 < length table.programmes
  pub steps : AreStepLists people step_kinds read.programme.steps
  pub same : text ≡ list_text table read.round read.prog.0 read.programme
