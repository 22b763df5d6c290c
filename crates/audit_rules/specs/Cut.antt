-- What is checked at a cut, by the state before it and the papers: clause by clause, and which clause is broken first.
use Rattle.std.specs.Prelude.{◌≡◌, ◌≢◌, ◌<◌, ◌↔◌, ℕ, Bool, true, false, List, [], ◌∷◌, Option, Some, None, IsSome, IsTrue, ◌==◌, length, slice_get, if◌then◌else◌}
use Rattle.office_base.specs.declared.seat.Seat.{Seat}
use Rattle.office_base.specs.declared.person.CandId.{CandId}
use Rattle.office_base.specs.declared.person.Person.{Person}
use Rattle.office_base.specs.declared.person.ProgId.{ProgId}
use Rattle.office_base.specs.declared.seat.SeatKind.{SeatKind}
use Rattle.office_base.specs.declared.seat.SeatKind.TheVariants.{Kept, Under}
use Rattle.allocations.specs.Fair.{IsOwn}
use Rattle.allocations.specs.Market.{Seeker, applicants, seat_at}
use Rattle.choice_lists.specs.Choices.{list_of as choices_of}
use Rattle.list_audit.specs.Clauses.{IsListFault, list_of_step}
use Rattle.list_audit.specs.declared.clause.Clause.{Clause}
use Rattle.list_audit.specs.declared.clause.Clause.TheVariants.{NotSought, Fell, Unlisted, WrongNumbers, NotCandidate, WrongSize, BadCertificate, Overtaken, FinalDiffers}
use Rattle.office_moves.specs.Facts.{SeasonFacts, lists_in_order}
use Rattle.office_moves.specs.Moves.{final_rows, next_seek, next_seeks}
use Rattle.office_moves.specs.Raised.{matrix_at}
use Rattle.office_moves.specs.State.{State, standing_at, view_of}
use Rattle.office_moves.specs.declared.decide.Decision.{Decision}
use Rattle.office_moves.specs.declared.decide.Decision.TheVariants.{Refuse, NotedAgain, RaisedAgain, CutAgain, Note, Lift, Publish, Finish, Tell}
use Rattle.programme_lists.specs.declared.programme.Programme.{Programme}
use Rattle.round_options.specs.Options.{holds}
use Rattle.rounds.specs.Rule.{seekers_of}
use Rattle.seat_matrix.specs.Matrix.{seats_in}
use Rattle.seeks.specs.Seek.{seek_leaves}
use Rattle.audit_rules.specs.Papers.{Papers, lists_after, rows_after, seat_told, seats_told}

-- ---- who seeks what, and the seats that the round's text gives

-- what a candidate's seek leaves of their own list at a cut
abbrev pub sought_by : SeasonFacts → State → ℕ → List ProgId
sought_by facts state id = seek_leaves (matrix_at facts state) (next_seek facts state id) (choices_of facts.lists id)

-- all who seek at a cut
abbrev pub seekers_at : SeasonFacts → State → List Seeker
seekers_at facts state = seekers_of (matrix_at facts state) facts.people (lists_in_order facts) (next_seeks facts state)

-- the seat that the round's text gives to a candidate
abbrev pub seat_given : Papers → State → ℕ → Option Seat
seat_given papers state id = seat_told (rows_after papers state.now) id

-- those who apply to a programme, by the seats that the round's text gives
abbrev pub applicants_at : SeasonFacts → Papers → State → ℕ → List Person
applicants_at facts papers state p = applicants p (seekers_at facts state) (seats_told (rows_after papers state.now) facts.people)

-- the lists of this programme in the papers of the round
abbrev pub lists_at : SeasonFacts → Papers → State → ℕ → Option Programme
lists_at facts papers state p = slice_get (lists_after papers (length facts.matrix.programmes) state.now) p

-- ---- of one candidate, of one programme

-- the programme of the candidate's seat is sought
abbrev pub IsSought : SeasonFacts → Papers → State → Person → Type 0
IsSought facts papers state person = IsOwn (sought_by facts state person.id.0) (seat_given papers state person.id.0)

-- a candidate whose standing is freeze, float or slide has a seat
abbrev pub HasStayed : SeasonFacts → Papers → State → Person → Type 0
HasStayed facts papers state person = holds (standing_at facts (view_of state person.id.0) person.id.0 state.now) ≡ true → IsSome (seat_given papers state person.id.0)

-- one of the people has this id
abbrev pub is_named : ℕ → List Person → Bool
is_named id [] = false
is_named id (person ∷ people) = if person.id.0 == id then true else is_named id people

-- whom the lists of the programme name for a kind of seat: those whom the list of the step names, and for a kept seat nobody
abbrev pub named_for : Programme → SeatKind → List Person
named_for programme (Under kind) = (list_of_step programme kind).admitted
named_for programme Kept = []

-- The lists of the programme name the candidate for exactly that kind of seat which the round's text gives.
abbrev pub Agree : Papers → State → ℕ → Programme → Person → Type 0
Agree papers state p programme person = (kind : SeatKind) → IsTrue (is_named person.id.0 (named_for programme kind)) ↔ (seat_given papers state person.id.0 ≡ Some (seat_at p kind))

-- it holds of each of some people
abbrev pub OfEach : (Person → Type 0) → List Person → Type 0
OfEach P people = (at : ℕ) (person : Person) → slice_get people at ≡ Some person → P person

-- The person is the first of some people of whom it does not hold.
pub record IsFirstWithout (P : Person → Type 0) (people : List Person) (cand : CandId) : Type 0 where
  pub at : ℕ
  pub person : Person
  pub there : slice_get people at ≡ Some person
  pub is : person.id ≡ cand
  pub earlier : (k : ℕ) (other : Person) → k < at → slice_get people k ≡ Some other → P other
  pub fails : P person → ⊥

-- the lists of a programme and the round's text agree on all candidates
abbrev pub IsListed : SeasonFacts → Papers → State → ℕ → Type 0
IsListed facts papers state p = (programme : Programme) → lists_at facts papers state p ≡ Some programme → OfEach (Agree papers state p programme) facts.people

-- what the lists of a programme come to
abbrev pub ComesTo : SeasonFacts → Papers → State → ℕ → Programme → Option (Clause × Option CandId) → Type 0
ComesTo facts papers state p programme fault = IsListFault facts.version (seats_in (matrix_at facts state) p) (applicants_at facts papers state p) programme fault

-- the lists of a programme break no clause
abbrev pub IsSoundList : SeasonFacts → Papers → State → ℕ → Type 0
IsSoundList facts papers state p = (programme : Programme) → lists_at facts papers state p ≡ Some programme → ComesTo facts papers state p programme None

-- ---- a cut that publishes a round

-- No clause is broken at the cut.
pub record CutHolds (facts : SeasonFacts) (papers : Papers) (state : State) : Type 0 where
  pub sought : OfEach (IsSought facts papers state) facts.people
  pub stayed : OfEach (HasStayed facts papers state) facts.people
  pub listed : (p : ℕ) → IsListed facts papers state p
  pub sound : (p : ℕ) → IsSoundList facts papers state p

-- A candidate's seat is of this programme, and is not sought; all candidates before have what they sought.
pub record IsUnsought (facts : SeasonFacts) (papers : Papers) (state : State) (prog : ProgId) (cand : CandId) : Type 0 where
  pub first : IsFirstWithout (IsSought facts papers state) facts.people cand
  pub seat : Seat
  pub given : seat_given papers state cand.0 ≡ Some seat
  pub is : seat.prog ≡ prog

-- A candidate lost the seat, and nobody before.
pub record HasFallen (facts : SeasonFacts) (papers : Papers) (state : State) (cand : CandId) : Type 0 where
  pub sought : OfEach (IsSought facts papers state) facts.people
  pub first : IsFirstWithout (HasStayed facts papers state) facts.people cand

-- The lists of a programme and the round's text differ on a candidate, and on nobody before; those of the programmes before agree.
pub record Differ (facts : SeasonFacts) (papers : Papers) (state : State) (prog : ProgId) (cand : CandId) : Type 0 where
  pub sought : OfEach (IsSought facts papers state) facts.people
  pub stayed : OfEach (HasStayed facts papers state) facts.people
  pub before : (q : ℕ) → q < prog.0 → IsListed facts papers state q
  pub programme : Programme
  pub there : lists_at facts papers state prog.0 ≡ Some programme
  pub first : IsFirstWithout (Agree papers state prog.0 programme) facts.people cand

-- The lists of a programme break this clause first; those of the programmes before break none.
pub record IsUnsound (facts : SeasonFacts) (papers : Papers) (state : State) (clause : Clause) (prog : ProgId) (cand : Option CandId) : Type 0 where
  pub sought : OfEach (IsSought facts papers state) facts.people
  pub stayed : OfEach (HasStayed facts papers state) facts.people
  pub listed : (q : ℕ) → IsListed facts papers state q
  pub before : (q : ℕ) → q < prog.0 → IsSoundList facts papers state q
  pub programme : Programme
  pub there : lists_at facts papers state prog.0 ≡ Some programme
  pub first : ComesTo facts papers state prog.0 programme (Some (clause, cand))

-- The first clause that is broken at the cut, with the programme and the candidate whom it names.
abbrev pub CutBreaks : SeasonFacts → Papers → State → Clause → Option ProgId → Option CandId → Type 0
CutBreaks facts papers state NotSought (Some prog) (Some cand) = IsUnsought facts papers state prog cand
CutBreaks facts papers state Fell None (Some cand) = HasFallen facts papers state cand
CutBreaks facts papers state Unlisted (Some prog) (Some cand) = Differ facts papers state prog cand
CutBreaks facts papers state WrongNumbers (Some prog) cand = IsUnsound facts papers state WrongNumbers prog cand
CutBreaks facts papers state NotCandidate (Some prog) cand = IsUnsound facts papers state NotCandidate prog cand
CutBreaks facts papers state WrongSize (Some prog) cand = IsUnsound facts papers state WrongSize prog cand
CutBreaks facts papers state BadCertificate (Some prog) cand = IsUnsound facts papers state BadCertificate prog cand
CutBreaks facts papers state Overtaken (Some prog) cand = IsUnsound facts papers state Overtaken prog cand
CutBreaks facts papers state _ _ _ = ⊥

-- ---- the last cut

-- the final rows in the papers are those of the candidates who keep a seat of the last round
abbrev pub EndHolds : SeasonFacts → Papers → State → Type 0
EndHolds facts papers state = papers.finals ≡ Some (final_rows facts state)

abbrev pub EndBreaks : SeasonFacts → Papers → State → Clause → Option ProgId → Option CandId → Type 0
EndBreaks facts papers state FinalDiffers None None = EndHolds facts papers state → ⊥
EndBreaks facts papers state _ _ _ = ⊥

-- ---- every decision

-- No clause is broken where this was decided in a state: a cut is checked, and nothing else is.
abbrev pub HoldsAt : SeasonFacts → Papers → State → Decision → Type 0
HoldsAt facts papers state (Refuse refusal) = Unit {0}
HoldsAt facts papers state (NotedAgain row) = Unit {0}
HoldsAt facts papers state (RaisedAgain row) = Unit {0}
HoldsAt facts papers state (CutAgain window) = Unit {0}
HoldsAt facts papers state (Note row) = Unit {0}
HoldsAt facts papers state (Lift row) = Unit {0}
HoldsAt facts papers state Publish = CutHolds facts papers state
HoldsAt facts papers state Finish = EndHolds facts papers state
HoldsAt facts papers state (Tell question) = Unit {0}

-- The first clause that is broken there.
abbrev pub BreaksAt : SeasonFacts → Papers → State → Decision → Clause → Option ProgId → Option CandId → Type 0
BreaksAt facts papers state (Refuse refusal) clause prog cand = ⊥
BreaksAt facts papers state (NotedAgain row) clause prog cand = ⊥
BreaksAt facts papers state (RaisedAgain row) clause prog cand = ⊥
BreaksAt facts papers state (CutAgain window) clause prog cand = ⊥
BreaksAt facts papers state (Note row) clause prog cand = ⊥
BreaksAt facts papers state (Lift row) clause prog cand = ⊥
BreaksAt facts papers state Publish clause prog cand = CutBreaks facts papers state clause prog cand
BreaksAt facts papers state Finish clause prog cand = EndBreaks facts papers state clause prog cand
BreaksAt facts papers state (Tell question) clause prog cand = ⊥
