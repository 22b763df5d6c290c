-- Calls that follow one another in a transaction.
use Rattle.std.proofs.Common.{◌≡◌, ◌+◌, ◌<◌, ◌≤◌, ◌∙◌, ap, append-nil, append_assoc, ℕ, zero, suc, slice_get, take, drop, map, get_or, length, false, List, [], ◌∷◌, ◌++◌, Option, Some, None, Result, Ok, Err, IsTrue, IfOk, sym, subst, refl, inl, inr, arith}
use Rattle.std.proofs.lemmas.Bool.{cases_Bool}
use Rattle.std.proofs.lemmas.List.{drop_more, take_more}
use Rattle.std.specs.List.{AllByRecursion, AllZip, concat}
use Rattle.stored_tables.specs.Fits.{AllotFits}
use Rattle.sqlite.specs.Store.{Ghosts}
use Rattle.sqlite.specs.Order.{Row}
use Rattle.sqlite.specs.State.{HasCleanDisk, Executes, ExecutesInside}
use Rattle.sqlite.specs.Held.{Held, state}
use Rattle.sqlite.specs.declared.error.Error.{Error}
use Rattle.sqlite.specs.declared.error.Error.TheVariants.{SqliteFailure}
use Rattle.sqlite.specs.declared.error.ErrorCode.TheVariants.{TransactionState}
use Rattle.kept_rows.specs.declared.rows.AllotRow.{AllotRow}
use Rattle.kept_rows.specs.declared.rows.Kept.{Kept}
use Rattle.keeper_sqlite.specs.declared.rising.Key.{Key}
use Rattle.keeper_sqlite.specs.Columns.{IsKeyRow, TellsKey, IsPhaseRow, IsPartRow, IsAnswerRow, IsRaiseRow, IsAllotRow, TellsPhase}
use Rattle.keeper_sqlite.specs.Commits.{CommitsNothing}
use Rattle.keeper_sqlite.specs.Kept.{Call, DidAll, TellsRecords, TellsText, TellsTables, TellsKept, text_query, answers_query, raises_query, allots_query, TellsPhaseOf, ToldPhase, PutsText, phase_query, part_values, part_calls}
use Rattle.keeper_sqlite.specs.Kept.Call.{Runs, Places, Asks}
use Rattle.keeper_sqlite.specs.declared.halt.Halt.{Halt}
use Rattle.keeper_sqlite.proofs.CommitLemmas.{was_clean}

-- A statement runs only inside a transaction.
pub ran_inside : {S : Type 0} (g : Ghosts S) (text : List ℕ) (values : Row) (old new : Held S) (done : Result ℕ Error) (count : ℕ) → done ≡ Ok count
    → ((state g old).in_transaction ≡ false → (done ≡ Err (SqliteFailure TransactionState)) × (new ≡ old))
    → (HasCleanDisk (state g new) → IsTrue (state g old).in_transaction → ExecutesInside 0 text values (state g old) (state g new) done)
    → HasCleanDisk (state g new) → DidAll g (Runs text values ∷ []) old new
ran_inside g text values old new (Err e) count is ended runs clean = absurd (let e = is in cc)
ran_inside g text values old new (Ok other) count is ended runs clean =
    let inside : IsTrue (state g old).in_transaction = elim (cases_Bool (state g old).in_transaction) [
      | inl holds ↦ holds
      | inr fails ↦ absurd (let e = (ended fails).0 in cc)
    ] in
    (new, record { count = other; ran = (runs clean inside).0 }, refl)

-- The same of one that must change one row, and did.
pub placed_inside : {S : Type 0} (g : Ghosts S) (text : List ℕ) (values : Row) (old new : Held S) (done : Result ℕ Error) (count : ℕ) → done ≡ Ok count → count ≡ 1
    → ((state g old).in_transaction ≡ false → (done ≡ Err (SqliteFailure TransactionState)) × (new ≡ old))
    → (HasCleanDisk (state g new) → IsTrue (state g old).in_transaction → ExecutesInside 0 text values (state g old) (state g new) done)
    → HasCleanDisk (state g new) → DidAll g (Places text values ∷ []) old new
placed_inside g text values old new (Err e) count is one ended runs clean = absurd (let e = is in cc)
placed_inside g text values old new (Ok other) count is one ended runs clean =
    let inside : IsTrue (state g old).in_transaction = elim (cases_Bool (state g old).in_transaction) [
      | inl holds ↦ holds
      | inr fails ↦ absurd (let e = (ended fails).0 in cc)
    ] in
    let same : other ≡ 1 = (let e = is in let f = one in cc) in
    (new, subst (λ (n : ℕ). Executes text values (state g old) (state g new) (Ok n)) same (runs clean inside).0, refl)

-- one list of calls after another
pub did_then : {S : Type 0} (g : Ghosts S) (one two : List Call) (old mid new : Held S) → DidAll g one old mid → DidAll g two mid new → DidAll g (one ++ two) old new
did_then {S} g [] two old mid new first next = subst (λ (h : Held S). DidAll g two h new) (sym first) next
did_then g (call ∷ calls) two old mid new first next = (first.0, first.1, did_then g calls two first.0 mid new first.2 next)

-- Of all calls since the beginning these are left.
abbrev pub Leaves : {S : Type 0} → Ghosts S → List Call → List Call → Held S → Held S → Type 0
Leaves {S} g all left old mid = HasCleanDisk (state g mid) → (last : Held S) → DidAll g left mid last → DidAll g all old last

-- one of them is made
pub leaves_fewer : {S : Type 0} (g : Ghosts S) (all left : List Call) (call : Call) (old mid next : Held S) → CommitsNothing (state g mid) (state g next)
    → Leaves g all (call ∷ left) old mid → (HasCleanDisk (state g next) → DidAll g (call ∷ []) mid next) → Leaves g all left old next
leaves_fewer g all left call old mid next nothing leaves made clean last done =
    let was = was_clean nothing clean in
    leaves was last (did_then g (call ∷ []) left mid next last (made clean) done)

-- one more of the calls for a list is made
pub one_made : {S A : Type 0} (g : Ghosts S) (f : A → Call) (all : List A) (i : ℕ) (d : A) (old mid next : Held S) → i < length all → CommitsNothing (state g mid) (state g next)
    → Leaves g (map f all) (map f (drop i all)) old mid → (HasCleanDisk (state g next) → DidAll g (f (get_or all i d) ∷ []) mid next) → Leaves g (map f all) (map f (drop (i + 1) all)) old next
one_made {A = A} g f all i d old mid next within nothing leaves made =
    leaves_fewer g (map f all) (map f (drop (i + 1) all)) (f (get_or all i d)) old mid next nothing (subst (λ (left : List A). Leaves g (map f all) (map f left) old mid) (drop_more all i d within) leaves) made

-- one more seat fits
pub fit_more : (rows : List AllotRow) (i : ℕ) (d : AllotRow) → i < length rows → AllByRecursion AllotFits (take i rows) → AllotFits (get_or rows i d) → AllByRecursion AllotFits (take (i + 1) rows)
fit_more rows i d within all one = subst (AllByRecursion AllotFits) (sym (take_more rows i d within)) (push (take i rows) all)
  where
    push : (some : List AllotRow) → AllByRecursion AllotFits some → AllByRecursion AllotFits (some ++ get_or rows i d ∷ [])
    push [] h = (one, tt)
    push (row ∷ some) h = (h.0, push some h.1)

-- the rows that a query returned, as they were read
pub told_as : {S A : Type 0} (g : Ghosts S) (text : List ℕ) (rows seen : List Row) (P : List Row → A → Type 0) (old new : Held S) (ended : Result A Halt) → seen ≡ rows
    → (HasCleanDisk (state g new) → DidAll g (Asks text rows ∷ []) old new) → IfOk ended (P seen)
    → HasCleanDisk (state g new) → IfOk ended (λ found. (told : List Row) × P told found × DidAll g (Asks text told ∷ []) old new)
told_as g text rows seen P old new (Err halt) is asked tells clean = tt
told_as g text rows seen P old new (Ok found) is asked tells clean = (rows, subst (λ (r : List Row). P r found) is tells, asked clean)

pub phase_told : {S : Type 0} (g : Ghosts S) (rows seen : List Row) (old new : Held S) (ended : Result (Option ℕ) Halt) → seen ≡ rows
    → (HasCleanDisk (state g new) → DidAll g (Asks phase_query rows ∷ []) old new) → IfOk ended (TellsPhase seen)
    → HasCleanDisk (state g new) → IfOk ended (λ found. TellsPhaseOf g found old new)
phase_told g rows seen old new (Err halt) is asked tells clean = tt
phase_told g rows seen old new (Ok found) is asked tells clean = record { rows = rows; tells = subst (λ (r : List Row). TellsPhase r found) is tells; asked = asked clean }

pub only_row : (rows : List Row) (row : Row) → 1 ≤ length rows → length rows < 2 → row ≡ get_or rows 0 row → rows ≡ row ∷ []
only_row [] row least below is = absurd (omega (arith, least))
only_row (a ∷ []) row least below is = ap (λ (r : Row). r ∷ []) (sym is)
only_row (a ∷ b ∷ rows) row least below is = absurd (omega (arith, below))

-- A single row that is no phase row shows no phase.
pub row_amiss : (rows : List Row) (row : Row) → rows ≡ row ∷ [] → ((cuts : ℕ) → ¬ IsPhaseRow row cuts) → (found : Option ℕ) → ¬ TellsPhase rows found
row_amiss rows row is none None tells = let e : row ∷ [] ≡ [] = sym is ∙ tells in absurd (let f = e in cc)
row_amiss rows row is none (Some made) tells =
    let e : row ∷ [] ≡ tells.0 ∷ [] = sym is ∙ tells.1 in
    let same : tells.0 ≡ row = (let f = e in cc) in
    none made (subst (λ (r : Row). IsPhaseRow r made) same tells.2)

-- one row of the phase
pub told_one : {S : Type 0} (g : Ghosts S) (old new : Held S) (found : Option ℕ) (made : ℕ) → found ≡ Some made → TellsPhaseOf g found old new → ToldPhase g made old new
told_one {S} g old new found made is told =
    let it : TellsPhaseOf g (Some made) old new = subst (λ (f : Option ℕ). TellsPhaseOf g f old new) is told in
    let one : TellsPhase it.rows (Some made) = it.tells in
    record { row = one.0; is = one.2; asked = subst (λ (r : List Row). DidAll g (Asks phase_query r ∷ []) old new) one.1 it.asked }

-- Of a text that is put in parts, which are numbered on from here, this is left.
abbrev pub LeavesText : {S : Type 0} → Ghosts S → List ℕ → List ℕ → ℕ → List ℕ → Held S → Held S → Type 0
LeavesText {S} g insert text number rest old mid =
    HasCleanDisk (state g mid) → (last : Held S) → PutsText g (part_calls insert number) rest mid last → PutsText g (part_calls insert 0) text old last

-- one more part is put
pub part_put : {S : Type 0} (g : Ghosts S) (insert text rest part after : List ℕ) (number next : ℕ) (old mid new : Held S) → rest ≡ part ++ after → length part ≤ 65536 → next ≡ number + 1
    → CommitsNothing (state g mid) (state g new) → LeavesText g insert text number rest old mid → (HasCleanDisk (state g new) → DidAll g (Runs insert (part_values number part) ∷ []) mid new)
    → LeavesText g insert text next after old new
part_put {S} g insert text rest part after number next old mid new cut short is nothing leaves made clean last put =
    let was = was_clean nothing clean in
    let later : DidAll g (part_calls insert (number + 1) put.parts) new last = subst (λ (n : ℕ). DidAll g (part_calls insert n put.parts) new last) is put.done in
    leaves was last (record {
      parts = part ∷ put.parts;
      joined = ap (λ (bytes : List ℕ). part ++ bytes) put.joined ∙ sym cut;
      short = (short, put.short);
      done = did_then g (Runs insert (part_values number part) ∷ []) (part_calls insert (number + 1) put.parts) mid new last (made clean) later;
    })

pub text_put : {S : Type 0} (g : Ghosts S) (insert text rest : List ℕ) (number : ℕ) (old mid : Held S) → rest ≡ [] → LeavesText g insert text number rest old mid → HasCleanDisk (state g mid)
    → PutsText g (part_calls insert 0) text old mid
text_put g insert text rest number old mid none leaves clean = leaves clean mid (record { parts = []; joined = sym none; short = tt; done = refl })

-- one more row, and the record that it holds
pub zip_push : {A B : Type 0} (R : A → B → Type 0) (xs : List A) (ys : List B) (x : A) (y : B) → AllZip R xs ys → R x y → AllZip R (xs ++ x ∷ []) (ys ++ y ∷ [])
zip_push R [] [] x y all is = (is, tt)
zip_push R [] (b ∷ ys) x y all is = absurd all
zip_push R (a ∷ xs) [] x y all is = absurd all
zip_push R (a ∷ xs) (b ∷ ys) x y all is = (all.0, zip_push R xs ys x y all.1 is)

pub zip_more : {A B : Type 0} (R : A → B → Type 0) (xs : List A) (ys : List B) (i : ℕ) (x : A) (y : B) → i < length xs → x ≡ get_or xs i x → AllZip R (take i xs) ys → R x y
    → AllZip R (take (i + 1) xs) (ys ++ y ∷ [])
zip_more {A} {B} R xs ys i x y within at all is =
    subst (λ (l : List A). AllZip R l (ys ++ y ∷ [])) (sym (take_more xs i x within)) (zip_push R (take i xs) ys (get_or xs i x) y all (subst (λ (a : A). R a y) at is))

pub concat_push : (parts : List (List ℕ)) (part : List ℕ) → concat (parts ++ part ∷ []) ≡ concat parts ++ part
concat_push [] part = append-nil part
concat_push (first ∷ parts) part = ap (λ (l : List ℕ). first ++ l) (concat_push parts part) ∙ sym (append_assoc first (concat parts) part)

pub part_joined : (rows : List Row) (text longer : List ℕ) (i : ℕ) (row : Row) → i < length rows → row ≡ get_or rows i row
    → (parts : List (List ℕ)) × AllZip IsPartRow (take i rows) parts × (concat parts ≡ text) → (bytes : List ℕ) × IsPartRow row bytes × (longer ≡ text ++ bytes)
    → (parts : List (List ℕ)) × AllZip IsPartRow (take (i + 1) rows) parts × (concat parts ≡ longer)
part_joined rows text longer i row within is before next = (
  before.0 ++ next.0 ∷ [],
  zip_more IsPartRow rows before.0 i row next.0 within is before.1 next.1,
  concat_push before.0 next.0 ∙ (ap (λ (l : List ℕ). l ++ next.0) before.2 ∙ sym next.2),
)

-- the rows that a query returned, and the records that they hold
pub records_told : {S R : Type 0} (g : Ghosts S) (stands_in : Row → R → Type 0) (text : List ℕ) (rows seen : List Row) (old new : Held S) (ended : Result (List R) Halt) → seen ≡ rows
    → (HasCleanDisk (state g new) → DidAll g (Asks text rows ∷ []) old new) → IfOk ended (AllZip stands_in seen)
    → HasCleanDisk (state g new) → IfOk ended (λ records. TellsRecords g stands_in text records old new)
records_told g stands_in text rows seen old new (Err halt) is asked stand clean = tt
records_told g stands_in text rows seen old new (Ok records) is asked stand clean =
    record { rows = rows; stand = subst (λ (r : List Row). AllZip stands_in r records) is stand; asked = asked clean }

pub text_told : {S : Type 0} (g : Ghosts S) (rows seen : List Row) (old new : Held S) (ended : Result (List ℕ) Halt) → seen ≡ rows
    → (HasCleanDisk (state g new) → DidAll g (Asks text_query rows ∷ []) old new) → IfOk ended (λ text. (parts : List (List ℕ)) × AllZip IsPartRow seen parts × (concat parts ≡ text))
    → HasCleanDisk (state g new) → IfOk ended (λ text. TellsText g text old new)
text_told g rows seen old new (Err halt) is asked stand clean = tt
text_told g rows seen old new (Ok text) is asked stand clean =
    record { parts = stand.0; joined = stand.2; told = record { rows = rows; stand = subst (λ (r : List Row). AllZip IsPartRow r stand.0) is stand.1; asked = asked clean } }

-- the four tables in their order
pub tables_told : {S : Type 0} (g : Ghosts S) (kept : Kept) (old one two three new : Held S) → CommitsNothing (state g one) (state g two) → CommitsNothing (state g two) (state g three)
    → CommitsNothing (state g three) (state g new) → (HasCleanDisk (state g one) → TellsText g kept.season old one) → (HasCleanDisk (state g two) → TellsRecords g IsAnswerRow answers_query kept.answers one two)
    → (HasCleanDisk (state g three) → TellsRecords g IsRaiseRow raises_query kept.raises two three) → (HasCleanDisk (state g new) → TellsRecords g IsAllotRow allots_query kept.allots three new)
    → HasCleanDisk (state g new) → TellsTables g kept old new
tables_told g kept old one two three new first second third season answers raises allots clean =
    let later = was_clean third clean in
    let middle = was_clean second later in
    let before = was_clean first middle in
    record { one = one; two = two; three = three; season = season before; answers = answers middle; raises = raises later; allots = allots clean }

-- the phase before them
pub found_kept : {S : Type 0} (g : Ghosts S) (kept : Kept) (cuts : ℕ) (found : Option ℕ) (old mid new : Held S) → found ≡ Some cuts → kept.cuts ≡ cuts → CommitsNothing (state g mid) (state g new)
    → (HasCleanDisk (state g mid) → TellsPhaseOf g found old mid) → (HasCleanDisk (state g new) → TellsTables g kept mid new) → HasCleanDisk (state g new) → TellsKept g (Some kept) old new
found_kept {S} g kept cuts found old mid new is same nothing phase tables clean =
    let was = was_clean nothing clean in
    (mid, subst (λ (f : Option ℕ). TellsPhaseOf g f old mid) (is ∙ ap (λ (n : ℕ). Some n) (sym same)) (phase was), tables clean)

pub none_kept : {S : Type 0} (g : Ghosts S) (found : Option ℕ) (old new : Held S) → found ≡ None → (HasCleanDisk (state g new) → TellsPhaseOf g found old new) → HasCleanDisk (state g new) → TellsKept g None old new
none_kept {S} g found old new is phase clean = subst (λ (f : Option ℕ). TellsPhaseOf g f old new) is (phase clean)

-- a first row that is no key row shows no key
pub key_amiss : (rows : List Row) (row : Row) → slice_get rows 0 ≡ Some row → ((key : Key) → ¬ IsKeyRow row key) → (found : Option Key) → ¬ TellsKey rows found
key_amiss rows row first none None tells = absurd (let e = sym first ∙ ap (λ (r : List Row). slice_get r 0) tells in cc)
key_amiss rows row first none (Some key) tells = let same : tells.0 ≡ row = (let e = sym tells.1 ∙ first in cc) in none key (subst (λ (r : Row). IsKeyRow r key) same tells.2)

-- a row that holds no record has no record in any list
pub zip_amiss : {A B : Type 0} (R : A → B → Type 0) (xs : List A) (i : ℕ) (x : A) → i < length xs → x ≡ get_or xs i x → ((y : B) → ¬ R x y) → (ys : List B) → ¬ AllZip R xs ys
zip_amiss R [] i x within at none ys all = absurd (omega (arith, within))
zip_amiss R (a ∷ xs) i x within at none [] all = all
zip_amiss {A} {B} R (a ∷ xs) zero x within at none (b ∷ ys) all = none b (subst (λ (o : A). R o b) (sym at) all.0)
zip_amiss R (a ∷ xs) (suc i) x within at none (b ∷ ys) all = zip_amiss R xs i x (omega (arith, within)) at none ys all.1
