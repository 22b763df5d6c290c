-- That rows give one set of lists or have one fault, and what that depends on.
use Rattle.std.specs.Prelude.{◌≡◌, ◌⊎◌, ℕ, List, Ok, map}
use Rattle.section_rows.specs.Rows.{Row}
use Rattle.section_rows.specs.declared.fault.TableFault.TheVariants.{Bad}
use Rattle.rank_lists.specs.Register.{Ranks}
use Rattle.seat_matrix.specs.Matrix.{SeatTable}
use Rattle.choice_lists.specs.Choices.{AreChoices, Entry, IsFault, IsRead, Lists, entries_of, list_at, list_of, listed}
use Rattle.choice_lists.specs.declared.fault.ChoiceKind.{ChoiceKind}

-- Given ranks and seats, rows give sound lists or have a fault; never both, and never two that differ.
pub record HaveOneReading (ranks : Ranks) (seats : SeatTable) (rows : List Row) : Type 0 where
  pub some : ((lists : Lists) × IsRead ranks seats rows lists) ⊎ ((row : ℕ) × (kind : ChoiceKind) × IsFault ranks seats rows (Bad row kind))
  pub apart : (lists : Lists) (row : ℕ) (kind : ChoiceKind) → IsRead ranks seats rows lists → IsFault ranks seats rows (Bad row kind) → ⊥
  pub one_value : (lists other : Lists) → IsRead ranks seats rows lists → IsRead ranks seats rows other → lists ≡ other
  pub one_fault : (row other : ℕ) (kind next : ChoiceKind) → IsFault ranks seats rows (Bad row kind) → IsFault ranks seats rows (Bad other next) → (row ≡ other) × (kind ≡ next)
  pub sound : (lists : Lists) → IsRead ranks seats rows lists → AreChoices ranks seats lists
  pub aligned : (lists : Lists) → IsRead ranks seats rows lists → map (λ held. held.0) lists ≡ map (λ person. person.id.0) ranks.people
  pub own : (lists : Lists) (entries : List Entry) → IsRead ranks seats rows lists → entries_of ranks seats rows ≡ Ok entries → (candidate : ℕ) → list_of lists candidate ≡ listed (list_at candidate entries)

-- What rows give or have with these ranks and seats, they give or have with the others.
pub record CarryOver (ranks other : Ranks) (seats matrix : SeatTable) (rows : List Row) : Type 0 where
  pub value : (lists : Lists) → IsRead ranks seats rows lists → IsRead other matrix rows lists
  pub fault : (row : ℕ) (kind : ChoiceKind) → IsFault ranks seats rows (Bad row kind) → IsFault other matrix rows (Bad row kind)

-- Of the ranks only the people matter, and of the seats only the programmes.
abbrev pub DependOnPeopleAndProgrammes : List Row → Type 0
DependOnPeopleAndProgrammes rows = (ranks other : Ranks) (seats matrix : SeatTable) → ranks.people ≡ other.people → seats.programmes ≡ matrix.programmes → CarryOver ranks other seats matrix rows
