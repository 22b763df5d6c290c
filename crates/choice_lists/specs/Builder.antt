-- What choices in the making know of the entries so far.
use Rattle.std.specs.Prelude.{◌≡◌, ◌≤◌, ◌==◌, [], ℕ, false, List, Option, Some, None, Ok, Err, IsSome, is_some, length, map, drop, slice_index_or}
use Rattle.office_base.specs.Limits.{most_choices}
use Rattle.office_base.specs.declared.person.Person.{Person}
use Rattle.office_base.specs.declared.person.ProgId.{ProgId}
use Rattle.section_rows.specs.Rows.{Row}
use Rattle.rank_lists.specs.Register.{AreRanks, find_person}
use Rattle.seat_matrix.specs.Matrix.{SeatTable}
use Rattle.choice_lists.specs.Choices.{Entry, IsChoice, all_choices, choices, list_at, listed}
use Rattle.choice_lists.specs.declared.builder.ChoicesBuilder.{ChoicesBuilder}
use Rattle.choice_lists.specs.declared.fault.ChoiceKind.{ChoiceKind}

-- what the list of each of the people gives, in their order
abbrev pub along : {X : Type 0} → (Option (List ProgId) → X) → List Entry → List Person → List X
along value entries people = map (λ person. value (list_at person.id.0 entries)) people

-- The builder knows what the entries say, given its register and its matrix.
pub record Keeps (entries : List Entry) (builder : ChoicesBuilder) : Type 0 where
  pub ranks : AreRanks builder.register.now
  pub sound : (candidate : ℕ) → IsChoice builder.register.now builder.matrix.now candidate (listed (list_at candidate entries))
  pub known : (candidate : ℕ) → IsSome (list_at candidate entries) → IsSome (find_person candidate builder.register.now.people)
  pub lists : builder.lists ≡ along listed entries builder.register.now.people
  pub had_row : builder.had_row.items ≡ along is_some entries builder.register.now.people
  pub marks : length builder.named_last.items ≡ length builder.matrix.now.programmes
  pub named_last : (n candidate : ℕ) → 1 ≤ candidate → list_at candidate entries ≡ None → (slice_index_or builder.named_last.items n 0 == candidate) ≡ false
  pub guesses : length builder.guesses.items ≡ 65536
  pub total : builder.total ≡ all_choices entries
  pub few : all_choices entries ≤ most_choices

-- the fields of a row after the first give these programmes, or have this fault
abbrev pub AreGiven : SeatTable → Person → Row → List ProgId → Option ChoiceKind → Type 0
AreGiven seats person row progs None = choices seats person [] (drop 1 row) ≡ Ok progs
AreGiven seats person row progs (Some kind) = choices seats person [] (drop 1 row) ≡ Err kind
