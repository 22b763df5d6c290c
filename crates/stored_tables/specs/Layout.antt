-- The five tables as a database shows them, and whether it has these alone.
use Rattle.std.specs.Prelude.{◌≡◌, ◌==◌, ◌&&◌, ◌||◌, if◌then◌else◌, true, false, Bool, ℕ, List, [], ◌∷◌, Some, None, codes}
use base.Stored.{Gv, gnil, gnum, gcons}
use Rattle.sqlite.specs.declared.types.Value.TheVariants.{Null}
use Rattle.sqlite.specs.Table.{Table}
use Rattle.sqlite.specs.Schema.{Schema}
use Rattle.sqlite_schema.specs.declared.schema.Index.{Index}
use Rattle.sqlite.specs.Kind.TheVariants.{Integer, Blob, Any}
use Rattle.sqlite.specs.Collation.TheVariants.{Binary}
use Rattle.sqlite_schema.specs.contracts.schema.Schema.{the_row}

-- a table of this name in this tree, with no column yet
abbrev pub table : List ℕ → ℕ → Table
table name tree = record {
  name = name;
  tree = tree;
  columns = [];
  key = None;
  primary = [];
  uniques = [];
  orders = [];
  checks = [];
  references = [];
  computed = [];
  stamps = record { places = []; terms = []; formats = [] };
  is_counted = false;
}

-- the text of the season, in numbered parts; STRICT or not
abbrev pub season : Bool → Table
season strict = record (table (codes "season") 0) {
  columns = (record { name = codes "part"; kind = Integer; is_strict = strict; not_null = false; default = Null; collation = Binary })
      ∷ (record { name = codes "bytes"; kind = if strict then Blob else Any; is_strict = strict; not_null = true; default = Null; collation = Binary }) ∷ [];
  key = Some 0;
  primary = 0 ∷ [];
}

-- the answers, numbered; one a window, candidate and turn
abbrev pub answer : Bool → Table
answer strict = record (table (codes "answer") 1) {
  columns = (record { name = codes "seq"; kind = Integer; is_strict = strict; not_null = false; default = Null; collation = Binary })
      ∷ (record { name = codes "win"; kind = Integer; is_strict = strict; not_null = true; default = Null; collation = Binary })
      ∷ (record { name = codes "cand"; kind = Integer; is_strict = strict; not_null = true; default = Null; collation = Binary })
      ∷ (record { name = codes "turn"; kind = Integer; is_strict = strict; not_null = true; default = Null; collation = Binary })
      ∷ (record { name = codes "choice"; kind = Integer; is_strict = strict; not_null = true; default = Null; collation = Binary }) ∷ [];
  key = Some 0;
  primary = 0 ∷ [];
  uniques = (2 ∷ 3 ∷ 4 ∷ []) ∷ [];
  orders = (record { digits = 0 }) ∷ [];
}

-- the published seats; one a round and candidate
abbrev pub allot : Bool → Table
allot strict = record (table (codes "allot") 3) {
  columns = (record { name = codes "rnd"; kind = Integer; is_strict = strict; not_null = true; default = Null; collation = Binary })
      ∷ (record { name = codes "cand"; kind = Integer; is_strict = strict; not_null = true; default = Null; collation = Binary })
      ∷ (record { name = codes "prog"; kind = Integer; is_strict = strict; not_null = true; default = Null; collation = Binary })
      ∷ (record { name = codes "step"; kind = Integer; is_strict = strict; not_null = true; default = Null; collation = Binary }) ∷ [];
  primary = 1 ∷ 2 ∷ [];
  uniques = (1 ∷ 2 ∷ []) ∷ [];
  orders = (record { digits = 0 }) ∷ [];
}

-- the row that says that a season is there, and how many cuts were made
abbrev pub phase : Bool → Table
phase strict = record (table (codes "phase") 5) {
  columns = (record { name = codes "id"; kind = Integer; is_strict = strict; not_null = false; default = Null; collation = Binary })
      ∷ (record { name = codes "cuts"; kind = Integer; is_strict = strict; not_null = true; default = Null; collation = Binary }) ∷ [];
  key = Some 0;
  primary = 0 ∷ [];
}

-- the raises, numbered
abbrev pub lift : Table
lift = record (table (codes "lift") 6) {
  columns = (record { name = codes "seq"; kind = Integer; is_strict = true; not_null = false; default = Null; collation = Binary })
      ∷ (record { name = codes "win"; kind = Integer; is_strict = true; not_null = true; default = Null; collation = Binary })
      ∷ (record { name = codes "prog"; kind = Integer; is_strict = true; not_null = true; default = Null; collation = Binary })
      ∷ (record { name = codes "step"; kind = Integer; is_strict = true; not_null = true; default = Null; collation = Binary })
      ∷ (record { name = codes "seats"; kind = Integer; is_strict = true; not_null = true; default = Null; collation = Binary }) ∷ [];
  key = Some 0;
  primary = 0 ∷ [];
}

-- the index of the answers by window, candidate and turn
abbrev pub answer_index : Index
answer_index = record { name = codes "sqlite_autoindex_answer_1"; tree = 2; table = 1; columns = 2 ∷ 3 ∷ 4 ∷ []; order = record { digits = 0 }; is_unique = true }

-- the index of the published seats by round and candidate
abbrev pub allot_index : Index
allot_index = record { name = codes "sqlite_autoindex_allot_1"; tree = 4; table = 3; columns = 1 ∷ 2 ∷ []; order = record { digits = 0 }; is_unique = true }

-- These five alone, in this order, with the indexes of the two keys. The first four may stand from before there were raises, when they were made without
-- STRICT; the fifth is made STRICT.
abbrev pub stored : Bool → Schema
stored strict = record {
  tables = season strict ∷ answer strict ∷ allot strict ∷ phase strict ∷ lift ∷ [];
  indexes = answer_index ∷ allot_index ∷ [];
  views = [];
}

-- the same without the table of raises
abbrev pub first_four : Bool → Schema
first_four strict = record (stored strict) { tables = season strict ∷ answer strict ∷ allot strict ∷ phase strict ∷ [] }

-- no table at all
abbrev pub no_schema : Schema
no_schema = record { tables = []; indexes = []; views = [] }

-- two codes are one
abbrev pub same_code : Gv → Gv → Bool
same_code gnil gnil = true
same_code gnil (gnum n) = false
same_code gnil (gcons a b) = false
same_code (gnum m) gnil = false
same_code (gnum m) (gnum n) = m == n
same_code (gnum m) (gcons a b) = false
same_code (gcons a b) gnil = false
same_code (gcons a b) (gnum n) = false
same_code (gcons a b) (gcons c d) = same_code a c && same_code b d

-- two schemas are one: they have one code
abbrev pub same_schema : Schema → Schema → Bool
same_schema one two = same_code (the_row.coded.code one) (the_row.coded.code two)

-- the tables are those that a keeper makes, or the first four without STRICT and the fifth
abbrev pub has_tables : Schema → Bool
has_tables schema = same_schema schema (stored true) || same_schema schema (stored false)

-- A database has the tables exactly where its schema is theirs.
abbrev pub LayoutLaw : Type 0
LayoutLaw = ((schema : Schema) → has_tables schema ≡ true → (strict : Bool) × (schema ≡ stored strict)) × ((strict : Bool) → has_tables (stored strict) ≡ true)
