-- What each text does to its one table, in terms of the visible tables.
use Rattle.std.specs.Prelude.{◌≡◌, ◌+◌, ◌+ℤ◌, fold, false, ℕ, pos, List, [], ◌∷◌, ◌++◌, Some, option_map}
use Rattle.std.specs.List.{AllByRecursion}
use Rattle.sqlite.specs.Tree.{Trees, rowid}
use Rattle.sqlite.specs.Edit.{id_in}
use Rattle.sqlite.specs.Effect.{Database}
use Rattle.kept_rows.specs.declared.rows.AnswerRow.{AnswerRow}
use Rattle.kept_rows.specs.declared.rows.AllotRow.{AllotRow}
use Rattle.kept_rows.specs.declared.rows.RaiseRow.{RaiseRow}
use Rattle.stored_tables.specs.Rows.{rows_from, part_of, allot_of, answers_in, raises_in, cuts_of}
use Rattle.stored_tables.specs.Told.{is_bare}

-- these trees stay
abbrev pub Stay : List ℕ → Trees → Trees → Type 0
Stay all old new = AllByRecursion (λ t. new t ≡ old t) all

-- One more answer is after the others. The other tables stay.
pub record PutsAnswer (row : AnswerRow) (old new : Database) : Type 0 where
  pub schema_is : new.schema ≡ old.schema
  pub answers : answers_in new.trees ≡ option_map (λ answers. answers ++ row ∷ []) (answers_in old.trees)
  pub stands : is_bare (new.trees 1) ≡ false
  pub others : Stay (0 ∷ 3 ∷ 5 ∷ 6 ∷ []) old.trees new.trees

-- One more raise is after the others. The other tables stay.
pub record PutsRaise (row : RaiseRow) (old new : Database) : Type 0 where
  pub schema_is : new.schema ≡ old.schema
  pub raises : raises_in new.trees ≡ option_map (λ raises. raises ++ row ∷ []) (raises_in old.trees)
  pub stands : is_bare (new.trees 6) ≡ false
  pub others : Stay (0 ∷ 1 ∷ 3 ∷ 5 ∷ []) old.trees new.trees

-- One more seat is after the others. The other tables stay.
pub record PutsAllot (row : AllotRow) (old new : Database) : Type 0 where
  pub schema_is : new.schema ≡ old.schema
  pub allots : rows_from allot_of 1 (new.trees 3) ≡ option_map (λ allots. allots ++ row ∷ []) (rows_from allot_of 1 (old.trees 3))
  pub stands : is_bare (new.trees 3) ≡ false
  pub others : Stay (0 ∷ 1 ∷ 5 ∷ 6 ∷ []) old.trees new.trees

-- These parts are in the tree of the season, and the number that comes next is this one.
pub record HasParts (next : ℕ) (parts : List (List ℕ)) (db : Trees) : Type 0 where
  pub told : rows_from part_of 0 (db 0) ≡ Some parts
  pub top : fold (λ _ row. id_in (rowid row) +ℤ pos 1) (pos 0) (db 0) ≡ pos next

-- One more part is after the others, if their numbers are lower. The other tables stay.
pub record PutsPart (part : ℕ) (bytes : List ℕ) (old new : Database) : Type 0 where
  pub schema_is : new.schema ≡ old.schema
  pub parts : (before : List (List ℕ)) → HasParts part before old.trees → HasParts (part + 1) (before ++ bytes ∷ []) new.trees
  pub others : Stay (1 ∷ 3 ∷ 5 ∷ 6 ∷ []) old.trees new.trees

-- The phase says that a season is there without cuts, where it said nothing.
pub record OpensPhase (old new : Database) : Type 0 where
  pub schema_is : new.schema ≡ old.schema
  pub bare : old.trees 5 ≡ []
  pub phase : cuts_of (new.trees 5) ≡ Some (Some 0)
  pub others : Stay (0 ∷ 1 ∷ 3 ∷ 6 ∷ []) old.trees new.trees

-- The phase says that so many cuts were made, where it said of another number.
pub record PutsCuts (cuts : ℕ) (old new : Database) : Type 0 where
  pub schema_is : new.schema ≡ old.schema
  pub phase : cuts_of (new.trees 5) ≡ Some (Some cuts)
  pub others : Stay (0 ∷ 1 ∷ 3 ∷ 6 ∷ []) old.trees new.trees
