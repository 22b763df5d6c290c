-- What is so while applications go on.
use Rattle.std.specs.Prelude.{if◌then◌else◌, map, ◌≡◌, ◌≢◌, ◌<◌, ◌≤◌, ◌+◌, ◌∷◌, ℕ, List, [], Option, Some, None, length, slice_get, slice_index}
use Rattle.std.specs.List.{AllByRecursion}
use Rattle.office_base.specs.Limits.{most_candidates, most_row_choices}
use Rattle.office_base.specs.Lists.{Pairwise}
use Rattle.office_base.specs.Version.{IsVersion}
use Rattle.office_base.specs.declared.person.Person.{Person}
use Rattle.office_base.specs.declared.person.ProgId.{ProgId}
use Rattle.allocations.specs.Rule.{Rule}
use Rattle.merit_choice.specs.InMerit.{PartCanBeRanked}
use Rattle.allocations.specs.Course.{AreSettled, AreSettledBut, HaveNotBegun, IsHeld, IsUnderway, places_left, tried}
use Rattle.allocations.specs.Fair.{IsBest, IsMarket}
use Rattle.allocations.specs.Market.{Seeker, applicants}
use Rattle.open_then_category.specs.Laws.{AdmittedOnce, OneProgrammeChoice, ProgrammeChoiceExists, Resumes}
use Rattle.open_then_category.specs.State.{ProgrammeKept, admissions_of, empty_programme}
use Rattle.open_then_category.specs.Tried.{counted}
use Rattle.open_then_category.specs.declared.kept_lists.Tried.{Tried}
use Rattle.programme_lists.specs.Chosen.{ChoosesFrom, ShowsFrom}
use Rattle.choice_lists.specs.Choices.{AreChoices, Lists}
use Rattle.rank_lists.specs.Register.{Ranks}
use Rattle.programme_lists.specs.declared.programme.Programme.{Programme}
use Rattle.rounds.specs.declared.round.Round.{Round}
use Rattle.seeks.specs.declared.seek.Seek.{Seek}
use Rattle.rounds.specs.Rule.{AreSeeks, MayApplyIn, ProgrammesChooseWell, StepsChooseWell, guarantees, is_programme, rule_of}
use Rattle.seat_matrix.specs.Matrix.{AreSeats, SeatTable, list_in, seats_in}
pub use Rattle.round_laws.specs.Laws.{lists_in}

-- what the laws of the choice of a programme and of rounds say
pub record AreLawful : Type 0 where
  pub one : OneProgrammeChoice
  pub some : ProgrammeChoiceExists
  pub once : AdmittedOnce
  pub resumes : Resumes
  pub well : ProgrammesChooseWell
  pub steps : StepsChooseWell
  pub part : PartCanBeRanked

-- the people with their lists for this round
abbrev pub seekers_with : List Person → List (List ProgId) → List Seeker
seekers_with [] lists = []
seekers_with (person ∷ people) [] = []
seekers_with (person ∷ people) (list ∷ lists) = record { person = person; list = list } ∷ seekers_with people lists

-- over what a round is made
pub record Setting : Type 0 where
  pub version : ℕ
  pub table : SeatTable
  pub people : List Person
  pub lists : List (List ProgId)
  -- the programme of which each of the people is guaranteed a seat, if there is one
  pub guaranteed : List (Option ProgId)

-- the programmes of the matrix, with these guarantees
abbrev pub rule_in : Setting → Rule
rule_in set = rule_of set.version (guarantees set.people set.guaranteed) set.table

-- the place of one whom the programme does not choose, unless that one is guaranteed a seat there
abbrev pub free_at : List (Option ProgId) → ℕ → ℕ → Option ℕ
free_at guaranteed place p = if is_programme p (slice_get guaranteed place) then None else Some place

abbrev pub seekers_in : Setting → List Seeker
seekers_in set = seekers_with set.people set.lists

-- What a setting has to be.
pub record IsSet (set : Setting) : Type 0 where
  pub laws : AreLawful
  pub seats : AreSeats set.table
  pub market : IsMarket (MayApplyIn set.table) (length set.table.programmes) (seekers_in set)
  pub rising : Pairwise (λ a b. a.id.0 < b.id.0) set.people
  pub full : length set.lists ≡ length set.people
  pub sure : length set.guaranteed ≡ length set.people
  pub few : length set.people ≤ most_candidates
  pub short : (i : ℕ) (list : List ProgId) → slice_get set.lists i ≡ Some list → length list ≤ most_row_choices
  pub distinct : (i : ℕ) (list : List ProgId) → slice_get set.lists i ≡ Some list → Pairwise (λ a b. a.0 ≢ b.0) list
  pub below : (i : ℕ) (list : List ProgId) → slice_get set.lists i ≡ Some list → AllByRecursion (λ prog. prog.0 < length set.table.programmes) list

-- the state of a programme shows the choice from those who tried it
pub record Show (version : ℕ) (table : SeatTable) (seekers : List Seeker) (next : List ℕ) (p : ℕ) (state : ProgrammeKept) : Type 0 where
  pub version_is : state.version ≡ version
  pub seats_are : state.seats ≡ seats_in table p
  pub choice : ChoosesFrom version (seats_in table p) (tried p seekers next) (admissions_of state)

pub record AllShow (version : ℕ) (table : SeatTable) (seekers : List Seeker) (next : List ℕ) (states : List ProgrammeKept) : Type 0 where
  pub full : length states ≡ length table.programmes
  pub each : (p : ℕ) (state : ProgrammeKept) → slice_get states p ≡ Some state → Show version table seekers next p state

-- The course is underway, and each programme shows the choice from those who tried it.
pub record IsGoing (set : Setting) (next : List ℕ) (states : List ProgrammeKept) : Type 0 where
  pub underway : IsUnderway (rule_in set) (length set.table.programmes) (seekers_in set) next
  pub shows : AllShow set.version set.table (seekers_in set) next states

-- each count of a programme is that of those who tried it
pub record AreTallied (set : Setting) (next : List ℕ) (tallies : List Tried) : Type 0 where
  pub full : length tallies ≡ length set.table.programmes
  pub each : (p : ℕ) (tally : Tried) → slice_get tallies p ≡ Some tally → tally ≡ counted (list_in set.table p) (tried p (seekers_in set) next)

-- the seeker at this place is not held
pub record IsFree (set : Setting) (next : List ℕ) (i : ℕ) : Type 0 where
  pub s : Seeker
  pub n : ℕ
  pub there : slice_get (seekers_in set) i ≡ Some s
  pub at : slice_get next i ≡ Some n
  pub free : IsHeld (rule_in set) (length set.table.programmes) (seekers_in set) next s n → ⊥

-- all before this place are settled; or all but one of them
abbrev pub IsSettledTo : Setting → List ℕ → ℕ → Type 0
IsSettledTo set next first = AreSettled (rule_in set) (length set.table.programmes) (seekers_in set) next first

abbrev pub IsSettledBut : Setting → List ℕ → ℕ → ℕ → Type 0
IsSettledBut set next first cur = AreSettledBut (rule_in set) (length set.table.programmes) (seekers_in set) next first cur

-- Where somebody is free after an offer, that one tried something and all others are settled as before; else all are.
pub record IsLeftFree (set : Setting) (before after : List ℕ) (cur out : ℕ) : Type 0 where
  pub free : IsFree set after out
  pub tried_some : (n : ℕ) → slice_get after out ≡ Some n → 0 < n
  pub settled : (first : ℕ) → IsSettledBut set before first cur → IsSettledBut set after first out

abbrev pub Leaves : Setting → List ℕ → List ℕ → ℕ → Option ℕ → Type 0
Leaves set before after cur None = (first : ℕ) → IsSettledBut set before first cur → IsSettledTo set after first
Leaves set before after cur (Some out) = IsLeftFree set before after cur out

-- each programme admits nobody yet
pub record AreBegun (version : ℕ) (table : SeatTable) (states : List ProgrammeKept) : Type 0 where
  pub full : length states ≡ length table.programmes
  pub each : (p : ℕ) (state : ProgrammeKept) → slice_get states p ≡ Some state → state ≡ empty_programme version (seats_in table p)

-- nobody came to a programme yet
pub record AreUntried (table : SeatTable) (tallies : List Tried) : Type 0 where
  pub full : length tallies ≡ length table.programmes
  pub each : (p : ℕ) (tally : Tried) → slice_get tallies p ≡ Some tally → tally ≡ counted (list_in table p) []

-- The one at this place is free, and their list has a programme left to propose to.
pub record MayPropose (over : Setting) (people : List Person) (lists : List (List ProgId)) (guaranteed : List (Option ProgId)) (next : List ℕ) (states : List ProgrammeKept) (cur : ℕ) : Type 0 where
  pub people_is : over.people ≡ people
  pub lists_is : over.lists ≡ lists
  pub guaranteed_is : over.guaranteed ≡ guaranteed
  pub set_is : IsSet over
  pub going : IsGoing over next states
  pub free : IsFree over next cur
  pub more : (list : List ProgId) → slice_get lists cur ≡ Some list → slice_index next cur < length list

-- All before `first` are settled, and nobody from `first` on has proposed to anyone.
pub record AreSettledBefore (over : Setting) (people : List Person) (lists : List (List ProgId)) (guaranteed : List (Option ProgId)) (next : List ℕ) (states : List ProgrammeKept) (first : ℕ) : Type 0 where
  pub people_is : over.people ≡ people
  pub lists_is : over.lists ≡ lists
  pub guaranteed_is : over.guaranteed ≡ guaranteed
  pub set_is : IsSet over
  pub going : IsGoing over next states
  pub settled : IsSettledTo over next first
  pub not_begun : HaveNotBegun next first

-- All before `first` are settled, and the one at `first` is the next to propose.
pub record IsNextToPropose (over : Setting) (people : List Person) (lists : List (List ProgId)) (guaranteed : List (Option ProgId)) (next : List ℕ) (states : List ProgrammeKept) (first : ℕ) : Type 0 where
  pub before : AreSettledBefore over people lists guaranteed next states first
  pub within : first < length people

-- All before `last` are settled now, and nobody from `last` on has proposed to anyone; the steps that were counted are the proposals since `before`.
pub record HasApplied (over : Setting) (before next : List ℕ) (states : List ProgrammeKept) (last steps_before steps : ℕ) : Type 0 where
  pub going : IsGoing over next states
  pub settled : IsSettledTo over next last
  pub not_begun : HaveNotBegun next last
  pub cost : steps + places_left (seekers_in over) next ≡ steps_before + places_left (seekers_in over) before

-- The setting is that of these, and sound.
pub record Enters (over : Setting) (version : ℕ) (table : SeatTable) (people : List Person) (lists : List (List ProgId)) (guaranteed : List (Option ProgId)) : Type 0 where
  pub over_is : over ≡ record { version = version; table = table; people = people; lists = lists; guaranteed = guaranteed }
  pub version_is : IsVersion version
  pub set_is : IsSet over

-- All applications were made: everybody is admitted by the programme tried last, or has come to the end of their
-- list.
pub record HasEnded (over : Setting) (next : List ℕ) : Type 0 where
  pub underway : IsUnderway (rule_in over) (length over.table.programmes) (seekers_in over) next
  pub settled : IsSettledTo over next (length over.people)

-- A round may be run: a known version, sound choices along the register, one seek for each, within the
-- candidate's own list, and for each the programme of which a seat is guaranteed, if there is one.
pub record MayRun (version : ℕ) (table : SeatTable) (ranks : Ranks) (lists : Lists) (seeks : List Seek) (guaranteed : List (Option ProgId)) : Type 0 where
  pub version_is : IsVersion version
  pub choices : AreChoices ranks table lists
  pub aligned : map (λ held. held.0) lists ≡ map (λ person. person.id.0) ranks.people
  pub sought : AreSeeks (lists_in lists) seeks
  pub sure : length guaranteed ≡ length ranks.people

-- The setting is over these people, lists and guarantees.
pub record IsOver (over : Setting) (people : List Person) (lists : List (List ProgId)) (guaranteed : List (Option ProgId)) : Type 0 where
  pub people_is : over.people ≡ people
  pub lists_is : over.lists ≡ lists
  pub guaranteed_is : over.guaranteed ≡ guaranteed

-- The round is made over a setting: its seats are the best allocation, and its programmes show their choices from those who apply.
pub record IsMade (over : Setting) (n : ℕ) (seeks : List Seek) (round : Round) : Type 0 where
  pub number : round.number ≡ n
  pub sought : round.seeks ≡ seeks
  pub best : IsBest (rule_in over) (length over.table.programmes) (seekers_in over) round.seats
  pub count : length round.programmes ≡ length over.table.programmes
  pub shown : (p : ℕ) (programme : Programme) → slice_get round.programmes p ≡ Some programme → ShowsFrom over.version (seats_in over.table p) (applicants p (seekers_in over) round.seats) programme

-- The applications over a setting have ended: each programme shows the choice from those who tried it, and the counts are theirs.
pub record HasRun (over : Setting) (next : List ℕ) (states : List ProgrammeKept) (tallies : List Tried) : Type 0 where
  pub set_is : IsSet over
  pub ended : HasEnded over next
  pub shows : AllShow over.version over.table (seekers_in over) next states
  pub tallied : AreTallied over next tallies
