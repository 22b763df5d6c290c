-- Programmes as a rule, and those who enter a round as its seekers.
use Rattle.std.specs.Prelude.{◌≡◌, ◌≢◌, ◌<◌, ◌==◌, ℕ, Bool, false, List, [], ◌∷◌, Option, Some, None, length, slice_get, IsSome}
use Rattle.std.specs.List.{AllByRecursion}
use Rattle.office_base.specs.Lists.{Pairwise}
use Rattle.office_base.specs.Person.{IsList, IsTraitSet, at_person, number_in}
use Rattle.office_base.specs.declared.person.ListId.{ListId}
use Rattle.office_base.specs.declared.person.Person.{Person}
use Rattle.office_base.specs.declared.person.ProgId.{ProgId}
use Rattle.allocations.specs.Market.{Seeker}
use Rattle.allocations.specs.Rule.{Rule, AdmitsNoFewer, ChoosesWell, Grows}
use Rattle.kept_seats.specs.Kept.{Guarantees, GuaranteesMore, StepRule, with_kept}
use Rattle.seat_matrix.specs.Matrix.{AreSeats, SeatTable, list_in, seats_in}
use Rattle.seat_matrix.specs.Seats.{HaveMoreSeats}
use Rattle.programme_lists.specs.Chosen.{AdmitsUnder, AreApplicants}
use Rattle.seeks.specs.Seek.{IsWithinList, seek_leaves}
use Rattle.seeks.specs.declared.seek.Seek.{Seek}

-- a programme of the matrix chooses as the choice of a programme says, in this bundle version
abbrev pub steps_of : ℕ → SeatTable → StepRule
steps_of version table p = AdmitsUnder version (seats_in table p)

-- and admits whom it chooses, and beyond its seats whom it keeps
abbrev pub rule_of : ℕ → Guarantees → SeatTable → Rule
rule_of version guaranteed table = with_kept guaranteed (steps_of version table)

-- it is this programme
abbrev pub is_programme : ℕ → Option (Option ProgId) → Bool
is_programme p None = false
is_programme p (Some None) = false
is_programme p (Some (Some prog)) = prog.0 == p

-- who is guaranteed a seat: each of the people, of the programme that stands at the person's place, if there is one
abbrev pub guarantees : List Person → List (Option ProgId) → Guarantees
guarantees people guaranteed p person = is_programme p (at_person person.id.0 people guaranteed)

-- nobody is guaranteed a seat
abbrev pub nobody : Guarantees
nobody p person = false

-- the people may apply to the programme together
abbrev pub MayApplyIn : SeatTable → ℕ → List Person → Type 0
MayApplyIn table p = AreApplicants (list_in table p)

-- A choice list names distinct programmes of the matrix, in whose merit lists the person has a place.
pub record IsOwnList (table : SeatTable) (person : Person) (list : List ProgId) : Type 0 where
  pub below : AllByRecursion (λ prog. prog.0 < length table.programmes) list
  pub distinct : Pairwise (λ a b. a.0 ≢ b.0) list
  pub placed : AllByRecursion (λ prog. IsSome (number_in (list_in table prog.0) person)) list

-- Those who enter the rounds of a season: distinct persons with distinct places in each merit list, each with a choice list.
pub record AreEntrants (table : SeatTable) (people : List Person) (lists : List (List ProgId)) : Type 0 where
  pub traits : AllByRecursion (λ person. IsTraitSet person.traits) people
  pub distinct : Pairwise (λ a b. a.id ≢ b.id) people
  pub apart : (list : ListId) (i j n : ℕ) (a b : Person) → IsList list → slice_get people i ≡ Some a → slice_get people j ≡ Some b
      → number_in list a ≡ Some n → number_in list b ≡ Some n → i ≡ j
  pub full : length lists ≡ length people
  pub own : (i : ℕ) (person : Person) (list : List ProgId) → slice_get people i ≡ Some person → slice_get lists i ≡ Some list → IsOwnList table person list

-- one seek for each of the people, whose place is in the person's list
pub record AreSeeks (lists : List (List ProgId)) (seeks : List Seek) : Type 0 where
  pub full : length seeks ≡ length lists
  pub within : (i : ℕ) (list : List ProgId) (seek : Seek) → slice_get lists i ≡ Some list → slice_get seeks i ≡ Some seek → IsWithinList list seek

-- the people with what their seeks leave of their lists
abbrev pub seekers_of : SeatTable → List Person → List (List ProgId) → List Seek → List Seeker
seekers_of table [] lists seeks = []
seekers_of table (person ∷ people) [] seeks = []
seekers_of table (person ∷ people) (list ∷ lists) [] = []
seekers_of table (person ∷ people) (list ∷ lists) (seek ∷ seeks) = record { person = person; list = seek_leaves table seek list } ∷ seekers_of table people lists seeks

-- the programmes of every matrix choose well
abbrev pub ProgrammesChooseWell : Type 0
ProgrammesChooseWell = (version : ℕ) (guaranteed : Guarantees) (table : SeatTable) → AreSeats table → ChoosesWell (rule_of version guaranteed table) (MayApplyIn table)

-- and so they choose before anybody is kept beyond the seats
abbrev pub StepsChooseWell : Type 0
StepsChooseWell = (version : ℕ) (table : SeatTable) → AreSeats table → ChoosesWell (steps_of version table) (MayApplyIn table)

-- and admit no fewer from more people
abbrev pub ProgrammesAdmitNoFewer : Type 0
ProgrammesAdmitNoFewer = (version : ℕ) (guaranteed : Guarantees) (table : SeatTable) → AreSeats table → AdmitsNoFewer (rule_of version guaranteed table) (MayApplyIn table)

-- The second matrix has the same programmes and protections, and no fewer seats.
pub record IsRaised (table more : SeatTable) : Type 0 where
  pub programmes : more.programmes ≡ table.programmes
  pub seats : (p : ℕ) → HaveMoreSeats (seats_in table p) (seats_in more p)

-- and with more seats, for the same protections, they admit everybody whom they admitted before
abbrev pub ProgrammesGrow : Type 0
ProgrammesGrow = (version : ℕ) (guaranteed wider : Guarantees) (table more : SeatTable) → GuaranteesMore guaranteed wider → AreSeats table → AreSeats more → IsRaised table more
    → Grows (rule_of version guaranteed table) (rule_of version wider more) (MayApplyIn table)
