-- What each text means over the five tables: each meaning is found by running the grammar and the resolver on the text.
use Rattle.std.proofs.Common.{◌≡◌, ℕ, pos, negsuc, List, [], ◌∷◌, take, Bool, true, false, Some, None, Ok, refl}
use Rattle.std.specs.List.{AllByRecursion}
use Rattle.sqlite.specs.declared.types.Value.TheVariants.{Null, Int}
use Rattle.sqlite.specs.Term.{Term, lit, col, op1, op2}
use Rattle.sqlite.specs.Query.{Query, inner, counted, end}
use Rattle.sqlite.specs.Source.TheVariants as source
use Rattle.sqlite.specs.Command.TheVariants.{Insert, InsertOr, Select, CreateTable, Nothing}
use Rattle.sqlite.specs.Compile.{table_defined_by}
use Rattle.sqlite.specs.Change.{created}
use Rattle.sqlite.specs.Does.{lacks_sequence}
use Rattle.sqlite.specs.Schema.{Schema}
use Rattle.sqlite.specs.Table.{Table}
use Rattle.sqlite_tied.specs.Compute.{everything}
use Rattle.sqlite.specs.Listing.{understood, reads_listing}
use Rattle.sqlite.specs.Collation.TheVariants.{Binary}
use Rattle.sqlite.proofs.Callers.{IsPlain, command_of, statement_of}
use Rattle.sqlite_sql.specs.declared.ops.BinaryOp.TheVariants.{Compare}
use Rattle.sqlite_sql.specs.declared.ops.UnaryOp.TheVariants.{Not}
use Rattle.sqlite_sql.specs.declared.ops.CompareOp.TheVariants.{Eq}
use Rattle.sqlite_schema.specs.declared.command.Conflict.TheVariants.{Abort}
use Rattle.sqlite_value.specs.declared.keys.Key.{Key}
use Rattle.stored_tables.specs.Layout.{season, answer, allot, phase, lift, answer_index, stored, first_four, no_schema}
use Rattle.stored_tables.specs.Texts.{season_table, answer_table, allot_table, phase_table, lift_table, table_texts, answer_text, raise_text, allot_text, part_text, opening_text, cuts_text, phase_query, text_query, answers_query, raises_query, allots_query, key_query, any_part, any_answer, any_raise, any_allot}
use Rattle.stored_tables.proofs.QueryLemmas.{of_table}

pub answer_text-is : (strict : Bool) → (command_of (understood (stored strict) answer_text) ≡ Insert 1 (source.Values (lit Null ∷ lit Null ∷ col 0 0 ∷ col 0 1 ∷ col 0 2 ∷ col 0 3 ∷ []) 6)) × IsPlain (understood (stored strict) answer_text)
unfolding understood everything
answer_text-is strict = (refl, (refl, refl))

pub raise_text-is : (strict : Bool) → (command_of (understood (stored strict) raise_text) ≡ Insert 4 (source.Values (lit Null ∷ lit Null ∷ col 0 0 ∷ col 0 1 ∷ col 0 2 ∷ col 0 3 ∷ []) 6)) × IsPlain (understood (stored strict) raise_text)
unfolding understood everything
raise_text-is strict = (refl, (refl, refl))

pub allot_text-is : (strict : Bool) → (command_of (understood (stored strict) allot_text) ≡ Insert 2 (source.Values (lit Null ∷ col 0 0 ∷ col 0 1 ∷ col 0 2 ∷ col 0 3 ∷ []) 5)) × IsPlain (understood (stored strict) allot_text)
unfolding understood everything
allot_text-is strict = (refl, (refl, refl))

pub part_text-is : (strict : Bool) → (command_of (understood (stored strict) part_text) ≡ Insert 0 (source.Values (col 0 0 ∷ lit Null ∷ col 0 1 ∷ []) 3)) × IsPlain (understood (stored strict) part_text)
unfolding understood everything
part_text-is strict = (refl, (refl, refl))

-- ---- queries

abbrev pub two : List Term
two = col 1 0 ∷ col 1 2 ∷ []

abbrev pub five : List Term
five = col 1 0 ∷ col 1 2 ∷ col 1 3 ∷ col 1 4 ∷ col 1 5 ∷ []

abbrev pub by_first : List (Term × Key)
by_first = (col 1 0, record { collation = Binary; descending = false }) ∷ []

-- by round and candidate, rising or falling
abbrev pub by_key : Bool → List (Term × Key)
by_key falls = (col 1 1, record { collation = Binary; descending = falls }) ∷ (col 1 2, record { collation = Binary; descending = falls }) ∷ []

abbrev pub all_rows : Term
all_rows = lit (Int (negsuc 0))

abbrev pub one_row : Term
one_row = lit (Int (pos 1))

-- the text asks this of the table in this tree
abbrev pub IsAsked : List ℕ → ℕ → List Term → List (Term × Key) → Term → Type 0
IsAsked text t project order limit =
    (strict : Bool) → (names : List (List ℕ)) × (command_of (understood (stored strict) text) ≡ Select (record { lets = []; body = of_table t project order limit }) names) × (reads_listing (stored strict) text ≡ false) × IsPlain (understood (stored strict) text)

pub phase_query-is : IsAsked phase_query 5 two by_first all_rows
unfolding understood everything
phase_query-is strict = (_, refl, refl, (refl, refl))

pub text_query-is : IsAsked text_query 0 two by_first all_rows
unfolding understood everything
text_query-is strict = (_, refl, refl, (refl, refl))

pub answers_query-is : IsAsked answers_query 1 five by_first all_rows
unfolding understood everything
answers_query-is strict = (_, refl, refl, (refl, refl))

pub raises_query-is : IsAsked raises_query 6 five by_first all_rows
unfolding understood everything
raises_query-is strict = (_, refl, refl, (refl, refl))

pub allots_query-is : IsAsked allots_query 3 (col 1 1 ∷ col 1 2 ∷ col 1 3 ∷ col 1 4 ∷ []) (by_key false) all_rows
unfolding understood everything
allots_query-is strict = (_, refl, refl, (refl, refl))

pub key_query-is : IsAsked key_query 3 (col 1 1 ∷ col 1 2 ∷ []) (by_key true) one_row
unfolding understood everything
key_query-is strict = (_, refl, refl, (refl, refl))

pub any_part-is : IsAsked any_part 0 (col 1 0 ∷ []) [] one_row
unfolding understood everything
any_part-is strict = (_, refl, refl, (refl, refl))

pub any_answer-is : IsAsked any_answer 1 (col 1 0 ∷ []) [] one_row
unfolding understood everything
any_answer-is strict = (_, refl, refl, (refl, refl))

pub any_raise-is : IsAsked any_raise 6 (col 1 0 ∷ []) [] one_row
unfolding understood everything
any_raise-is strict = (_, refl, refl, (refl, refl))

pub any_allot-is : IsAsked any_allot 3 (col 1 1 ∷ []) [] one_row
unfolding understood everything
any_allot-is strict = (_, refl, refl, (refl, refl))

-- ---- tables

-- over this schema the text finds its table
abbrev pub IsThere : Schema → List ℕ → Type 0
IsThere schema text = (command_of (understood schema text) ≡ Nothing) × IsPlain (understood schema text)

pub all-there : (strict : Bool) → AllByRecursion (IsThere (stored strict)) table_texts
unfolding understood everything
all-there strict = ((refl, (refl, refl)), ((refl, (refl, refl)), ((refl, (refl, refl)), ((refl, (refl, refl)), ((refl, (refl, refl)), tt)))))

pub four-there : (strict : Bool) → AllByRecursion (IsThere (first_four strict)) (take 4 table_texts)
unfolding understood everything
four-there strict = ((refl, (refl, refl)), ((refl, (refl, refl)), ((refl, (refl, refl)), ((refl, (refl, refl)), tt))))

-- the schemas on the way to the first four
abbrev pub front_1 : Schema
front_1 = record no_schema { tables = season true ∷ [] }

abbrev pub front_2 : Schema
front_2 = record { tables = season true ∷ answer true ∷ []; indexes = answer_index ∷ []; views = [] }

abbrev pub front_3 : Schema
front_3 = record (stored true) { tables = season true ∷ answer true ∷ allot true ∷ [] }

-- over this schema the text makes this table
pub record IsMade (schema : Schema) (table : Table) (text : List ℕ) : Type 0 where
  pub defined : table_defined_by text ≡ Ok table
  pub creates : command_of (understood schema text) ≡ CreateTable
  pub whole : statement_of text (understood schema text) ≡ text
  pub plain : IsPlain (understood schema text)
  pub alone : lacks_sequence (created schema table) ≡ false

pub season-made : IsMade no_schema (record (season true) { tree = 0 }) season_table
unfolding understood everything
season-made = record { defined = refl; creates = refl; whole = refl; plain = (refl, refl); alone = refl }

pub answer-made : IsMade front_1 (record (answer true) { tree = 0 }) answer_table
unfolding understood everything
answer-made = record { defined = refl; creates = refl; whole = refl; plain = (refl, refl); alone = refl }

pub allot-made : IsMade front_2 (record (allot true) { tree = 0 }) allot_table
unfolding understood everything
allot-made = record { defined = refl; creates = refl; whole = refl; plain = (refl, refl); alone = refl }

pub phase-made : IsMade front_3 (record (phase true) { tree = 0 }) phase_table
unfolding understood everything
phase-made = record { defined = refl; creates = refl; whole = refl; plain = (refl, refl); alone = refl }

pub lift-made : (strict : Bool) → IsMade (first_four strict) (record lift { tree = 0 }) lift_table
unfolding understood everything
lift-made strict = record { defined = refl; creates = refl; whole = refl; plain = (refl, refl); alone = refl }

-- the row that is there gets the number of cuts that was to be put
abbrev pub mends : Query
mends = record {
  from = inner 5 end;
  filter = op2 (Compare Eq Binary) (col 1 0) (col 0 2) ∷ [];
  group = None;
  project = col 1 0 ∷ col 1 0 ∷ lit Null ∷ col 0 5 ∷ [];
  distinct = false;
  collations = [];
  order = [];
  limit = lit (Int (negsuc 0));
  offset = lit (Int (pos 0));
}

pub cuts_text-is : (strict : Bool) → (command_of (understood (stored strict) cuts_text)
    ≡ InsertOr 3 Abort (source.Values (col 0 0 ∷ lit Null ∷ col 0 1 ∷ []) 3) (record { target = Some (0 ∷ []); update = Some (record { lets = []; body = mends }) } ∷ []))
    × IsPlain (understood (stored strict) cuts_text)
unfolding understood everything
cuts_text-is strict = (refl, (refl, refl))

-- the opening row is put where the table is empty
abbrev pub opens : Query
opens = record {
  from = counted 1 (inner 5 end) [] end;
  filter = op1 Not (col 1 0) ∷ [];
  group = None;
  project = col 0 0 ∷ lit Null ∷ lit (Int (pos 0)) ∷ [];
  distinct = false;
  collations = Binary ∷ Binary ∷ Binary ∷ [];
  order = [];
  limit = lit (Int (negsuc 0));
  offset = lit (Int (pos 0));
}

pub opening_text-is : (strict : Bool) → (command_of (understood (stored strict) opening_text) ≡ Insert 3 (source.Query (record { lets = []; body = opens })))
    × IsPlain (understood (stored strict) opening_text)
unfolding understood everything
opening_text-is strict = (refl, (refl, refl))
