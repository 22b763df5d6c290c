-- The grammar of the choices: what a row gives after the entries of the rows before it, or what is wrong with it.
use Rattle.std.specs.Prelude.{◌≡◌, ◌<◌, ◌≤◌, ◌+◌, ◌-◌, ℕ, Bool, false, not, ◌==◌, ◌||◌, nat_lt, List, [], ◌∷◌, ◌++◌, is_some, IsTrue, Option, Some, None, Result, Ok, length, map, drop, slice_get, bytes_eq, codes, position}
use Rattle.std.specs.List.{AllByRecursion}
use Rattle.std.specs.Option.{option_and_then}
use Rattle.office_base.specs.Limits.{last_id, most_choices, most_row_choices}
use Rattle.office_base.specs.Lists.{Pairwise}
use Rattle.office_base.specs.Person.{number_in}
use Rattle.office_base.specs.declared.person.Person.{Person}
use Rattle.office_base.specs.declared.person.ProgId.{ProgId}
use Rattle.office_text.specs.Names.{code_of}
use Rattle.office_text.specs.Number.{number_within}
use Rattle.section_rows.specs.Rows.{Row, field}
use Rattle.section_rows.specs.Steps.{after, first_of, needs, unless}
use Rattle.section_rows.specs.Table.{Given, IsTableFault, Reading, table_of}
use Rattle.section_rows.specs.declared.fault.TableFault.{TableFault}
use Rattle.rank_lists.specs.Register.{Ranks, find_person}
use Rattle.seat_matrix.specs.Matrix.{SeatTable}
use Rattle.seat_matrix.specs.declared.entry.Home.{Home}
use Rattle.choice_lists.specs.declared.fault.ChoiceKind.{ChoiceKind}
use Rattle.choice_lists.specs.declared.fault.ChoiceKind.TheVariants.{BadHeader, UnknownCandidate, RepeatedCandidate, UnknownProgramme, RepeatedProgramme, NotRankedThere, TooLong, TooMany}

-- the fields of the header
abbrev pub header : Row
header = codes "candidate" ∷ codes "programmes" ∷ []

-- what a row gives: a candidate's number, and the programmes that the candidate wants, the most preferred first
pub record Entry : Type 0 where
  pub candidate : ℕ
  pub programmes : List ProgId

-- the list of a candidate, where an entry is the candidate's
abbrev pub list_at : ℕ → List Entry → Option (List ProgId)
list_at candidate entries = first_of (λ entry. candidate == entry.candidate) (λ entry. entry.programmes) entries

-- the programmes of a list; none where there is no list
abbrev pub listed : Option (List ProgId) → List ProgId
listed None = []
listed (Some programmes) = programmes

-- how many programmes all entries have
abbrev pub choices_after : ℕ → List Entry → ℕ
choices_after count [] = count
choices_after count (entry ∷ entries) = choices_after (count + length entry.programmes) entries

abbrev pub all_choices : List Entry → ℕ
all_choices entries = choices_after 0 entries

-- the person whose id a text spells
abbrev pub person_of : Ranks → List ℕ → Option Person
person_of ranks text = option_and_then (λ id. find_person id ranks.people) (number_within 1 last_id text)

-- the number of the programme whose code a text spells
abbrev pub programme_of : SeatTable → List ℕ → Option ℕ
programme_of seats text = option_and_then (λ code. position (bytes_eq code) (map (λ held. held.0) seats.programmes)) (code_of text)

-- the programme of this number is among these
abbrev pub is_chosen : ℕ → List ProgId → Bool
is_chosen n [] = false
is_chosen n (prog ∷ progs) = n == prog.0 || is_chosen n progs

-- the person has a place in the merit list of the programme
abbrev pub is_ranked_for : Person → Option (List ℕ × Home) → Bool
is_ranked_for person None = false
is_ranked_for person (Some held) = is_some (number_in held.1.list person)

abbrev pub is_ranked : SeatTable → Person → ℕ → Bool
is_ranked seats person n = is_ranked_for person (slice_get seats.programmes n)

-- a programme after those that are earlier in the row
abbrev pub choice : SeatTable → Person → List ProgId → List ℕ → Result ProgId ChoiceKind
choice seats person chosen text =
    needs (programme_of seats text) UnknownProgramme
    (λ n. unless (is_chosen n chosen) RepeatedProgramme (unless (not (is_ranked seats person n)) NotRankedThere (Ok (record { 0 = n }))))

-- the programmes of some fields, after those that are earlier in the row
abbrev pub choices : SeatTable → Person → List ProgId → List (List ℕ) → Result (List ProgId) ChoiceKind
choices seats person chosen [] = Ok chosen
choices seats person chosen (text ∷ texts) = after (choice seats person chosen text) (λ prog. choices seats person (chosen ++ prog ∷ []) texts)

-- the candidate of a row, where no earlier row is the candidate's and there is room for the programmes of the row
abbrev pub new_candidate : Ranks → List Entry → Row → Result Person ChoiceKind
new_candidate ranks entries row =
    needs (person_of ranks (field row 0)) UnknownCandidate (λ person. unless (is_some (list_at person.id.0 entries)) RepeatedCandidate
    (unless (nat_lt most_row_choices (length row - 1)) TooLong (unless (nat_lt most_choices (all_choices entries + (length row - 1))) TooMany (Ok person))))

-- What a row gives after these entries, or the first of its faults.
unfoldable pub reading : Ranks → SeatTable → Reading Entry ChoiceKind
reading ranks seats entries row =
    after (new_candidate ranks entries row)
    (λ person. after (choices seats person [] (drop 1 row)) (λ programmes. Ok (record { candidate = person.id.0; programmes = programmes })))

-- the entries of the rows of choices, or the first fault
abbrev pub entries_of : Ranks → SeatTable → List Row → Given Entry ChoiceKind
entries_of ranks seats rows = table_of BadHeader header (reading ranks seats) rows

-- no programme is twice in a list
abbrev pub AreDistinct : List ProgId → Type 0
AreDistinct progs = Pairwise (λ a b. a.0 ≡ b.0 → ⊥) progs

-- the candidate is known and has a place in the merit list of the programme
abbrev pub is_ranked_there : SeatTable → Option Person → ℕ → Bool
is_ranked_there seats None n = false
is_ranked_there seats (Some person) n = is_ranked seats person n

-- A candidate's list names distinct programmes of the matrix, at most 1,000, in whose merit lists the candidate has a place.
pub record IsChoice (ranks : Ranks) (seats : SeatTable) (candidate : ℕ) (progs : List ProgId) : Type 0 where
  pub distinct : AreDistinct progs
  pub short : length progs ≤ most_row_choices
  pub numbers : AllByRecursion (λ prog. prog.0 < length seats.programmes) progs
  pub ranked : AllByRecursion (λ prog. IsTrue (is_ranked_there seats (find_person candidate ranks.people) prog.0)) progs

-- what choices show: candidates by their numbers, with their lists
abbrev pub Lists : Type 0
Lists = List (ℕ × List ProgId)

-- the list of a candidate; the empty one where the candidate has none
abbrev pub list_of : Lists → ℕ → List ProgId
list_of lists candidate = listed (first_of (λ held. candidate == held.0) (λ held. held.1) lists)

-- each list is sound for the register and the matrix
abbrev pub AreChoices : Ranks → SeatTable → Lists → Type 0
AreChoices ranks seats lists = (candidate : ℕ) → IsChoice ranks seats candidate (list_of lists candidate)

-- What holds of all choices: the lists are short and name distinct programmes.
abbrev pub AreLists : Lists → Type 0
AreLists lists = (candidate : ℕ) → AreDistinct (list_of lists candidate) × (length (list_of lists candidate) ≤ most_row_choices)

-- candidates by these ids, with these lists
abbrev pub lists_along : List ℕ → List (List ProgId) → Lists
lists_along [] lists = []
lists_along (id ∷ ids) [] = []
lists_along (id ∷ ids) (list ∷ lists) = (id, list) ∷ lists_along ids lists

-- The ids rise, there are as many lists, and the lists are short and name distinct programmes.
pub record AreKept (ids : List ℕ) (lists : List (List ProgId)) : Type 0 where
  pub rising : Pairwise (λ a b. a < b) ids
  pub count : length ids ≡ length lists
  pub sound : AreLists (lists_along ids lists)

-- the lists that these entries give all people of the register, in their order
abbrev pub lists_for : Ranks → List Entry → Lists
lists_for ranks entries = map (λ person. (person.id.0, listed (list_at person.id.0 entries))) ranks.people

-- a body's rows have no fault, and these are the lists of their entries
abbrev pub IsRead : Ranks → SeatTable → List Row → Lists → Type 0
IsRead ranks seats rows lists = (entries : List Entry) × (entries_of ranks seats rows ≡ Ok entries) × (lists ≡ lists_for ranks entries)

-- the first fault of a body's rows; `OutOfMemory` says nothing of them
abbrev pub IsFault : Ranks → SeatTable → List Row → TableFault ChoiceKind → Type 0
IsFault ranks seats rows fault = IsTableFault (entries_of ranks seats rows) fault
