-- The last of those held who are not needed.
use Rattle.std.specs.Prelude.{◌≡◌, ◌<◌, ℕ, List, Bool, true, false, slice_index_or}
use Rattle.std.specs.List.{remove}
use Rattle.office_base.specs.declared.person.Person.{Person}

-- the mark at this place is not set, and all later ones are
pub record IsLastFree (marks : List Bool) (at : ℕ) : Type 0 where
  pub free : slice_index_or marks at true ≡ false
  pub later : (k : ℕ) → at < k → slice_index_or marks k true ≡ true

-- each mark is set
abbrev pub AreAllSet : List Bool → Type 0
AreAllSet marks = (k : ℕ) → slice_index_or marks k true ≡ true

-- of people with their marks the last one whose mark is not set has left
pub record IsLeft (people : List Person) (marks : List Bool) (gone : Person) (rest : List Person) (rest_marks : List Bool) : Type 0 where
  pub at : ℕ
  pub last : IsLastFree marks at
  pub who : gone ≡ slice_index_or people at gone
  pub left : rest ≡ remove people at
  pub left_marks : rest_marks ≡ remove marks at
