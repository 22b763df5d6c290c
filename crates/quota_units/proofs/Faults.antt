-- Bytes that are not too many come to a plain bundle or have a fault of their own.
use Rattle.std.proofs.Common.{◌≡◌, ◌<◌, ◌≤◌, ℕ, Bool, true, false, cond, List, [], ◌∷◌, Option, Some, None, Result, Ok, Err, length, take, drop, refl, sym, ap, subst, ◌∙◌, arith}
use Rattle.std.specs.Prelude.{◌+◌, nat_lt, bytes_eq, codes, if◌then◌else◌, IfErr, IfOk, IsErrOf, MatchBool}
use Rattle.std.specs.Str.{IsUtf8, is_utf8}
use Rattle.std.proofs.lemmas.Bool.{ltb-true}
use Rattle.std.proofs.lemmas.Str.{IsUtf8-from_is_utf8, is_utf8-from_IsUtf8}
use Rattle.office_base.specs.Limits.{most_bundle_bytes}
use Rattle.office_base.specs.Outside.{IsAtEnd, Took}
use Rattle.office_asks.specs.declared.ask.Request.{Request}
use Rattle.office_text.specs.Lines.{skip_mark}
use Rattle.section_rows.specs.Rows.{Row, rows_of}
use Rattle.section_rows.specs.Steps.{after, needs, unless}
use Rattle.season_file.specs.Bundle.{Parts, after_line, bundle_of, skip_empty, title}
use Rattle.season_file.specs.declared.content.Content.{Content}
use Rattle.season_file.specs.declared.fault.SeasonFault.{SeasonFault}
use Rattle.quota_units.specs.Expansion.{IsExpansion, IsFaultOf, IsUnitFault}
use Rattle.quota_units.specs.Homes.{AreAlike, Homes, home_at, states_of, units_of}
use Rattle.quota_units.specs.Input.{Input, before_bundle, split_head, expanded, expansion, input_of, with_line, with_row, with_units}
use Rattle.quota_units.specs.Mapping.{by_home, is_unit, mapped_field, mapped_fields, mapped_from, mapped_row, mapped_rows, unit_of}
use Rattle.quota_units.specs.Reads.{AllLiveRight, MappedGives, ReadsMapped}
use Rattle.quota_units.specs.declared.fault.UnitFault.{UnitFault}
use Rattle.quota_units.specs.declared.fault.UnitFault.TheVariants.{ReadFault, TooLong, BadFirstLine, Section, BadUnit, BadState, DirectUnit, NoState, OutOfMemory}
use Rattle.quota_units.proofs.AlikeLemmas.{expanded-alike}
use Rattle.quota_units.proofs.HeadLemmas.{input-short}

-- ---- which faults bytes have

-- a fault of the bytes themselves
abbrev pub IsOwn : UnitFault → Type 0
IsOwn ReadFault = ⊥
IsOwn TooLong = ⊥
IsOwn OutOfMemory = ⊥
IsOwn fault = Unit {0}

-- all faults of a result are such
abbrev Owns : {X : Type 0} → Result X UnitFault → Type 0
Owns (Ok x) = Unit {0}
Owns (Err fault) = IsOwn fault

after-owns : {X Y : Type 0} (r : Result X UnitFault) (rest : X → Result Y UnitFault) → Owns r → ((x : X) → Owns (rest x)) → Owns (after r rest)
after-owns (Ok x) rest own more = more x
after-owns (Err fault) rest own more = own

needs-owns : {X Y : Type 0} (o : Option X) (fault : UnitFault) (rest : X → Result Y UnitFault) → IsOwn fault → ((x : X) → Owns (rest x)) → Owns (needs o fault rest)
needs-owns None fault rest own more = own
needs-owns (Some x) fault rest own more = more x

unless-owns : {Y : Type 0} (b : Bool) (fault : UnitFault) (rest : Result Y UnitFault) → IsOwn fault → Owns rest → Owns (unless b fault rest)
unless-owns true fault rest own more = own
unless-owns false fault rest own more = more

home-owns : (states : Homes) (candidate : List ℕ) (number : ℕ) (field : List ℕ) (home : Option (List ℕ)) → Owns (by_home states candidate number field home)
home-owns states candidate number field None = tt
home-owns states candidate number field (Some home) = needs-owns (home_at candidate states) (NoState number) (λ state. Ok (unit_of field home state)) tt (λ state. tt)

fields-own : (units states : Homes) (candidate : List ℕ) (number : ℕ) (fields : Row) → Owns (mapped_fields units states candidate number fields)
fields-own units states candidate number [] = tt
fields-own units states candidate number (field ∷ fields) =
    after-owns (mapped_field units states candidate number field) (λ mapped. after (mapped_fields units states candidate number fields) (λ more. Ok (mapped ∷ more)))
    (unless-owns (is_unit units field) (DirectUnit number) (by_home states candidate number field (home_at field units)) tt (home-owns states candidate number field (home_at field units)))
    (λ mapped. after-owns (mapped_fields units states candidate number fields) (λ more. Ok (mapped ∷ more)) (fields-own units states candidate number fields) (λ more. tt))

row-owns : (units states : Homes) (number : ℕ) (row : Row) → Owns (mapped_row units states number row)
row-owns units states number [] = tt
row-owns units states number (candidate ∷ fields) = after-owns (mapped_fields units states candidate number fields) (λ more. Ok (candidate ∷ more)) (fields-own units states candidate number fields) (λ more. tt)

from-owns : (units states : Homes) (number : ℕ) (rows : List Row) → Owns (mapped_from units states number rows)
from-owns units states number [] = tt
from-owns units states number (row ∷ rows) =
    after-owns (mapped_row units states number row) (λ mapped. after (mapped_from units states (number + 1) rows) (λ more. Ok (mapped ∷ more))) (row-owns units states number row)
    (λ mapped. after-owns (mapped_from units states (number + 1) rows) (λ more. Ok (mapped ∷ more)) (from-owns units states (number + 1) rows) (λ more. tt))

rows-own : (units states : Homes) (rows : List Row) → Owns (mapped_rows units states rows)
rows-own units states [] = tt
rows-own units states (header ∷ rows) = after-owns (mapped_from units states 2 rows) (λ more. Ok (header ∷ more)) (from-owns units states 2 rows) (λ more. tt)

with-owns : (units states : Homes) (bundle : List ℕ) (r : Result Parts SeasonFault) → Owns (with_units units states bundle r)
with-owns units states bundle (Err fault) = tt
with-owns units states bundle (Ok parts) = after-owns (mapped_rows units states (rows_of parts.choices)) _ (rows-own units states (rows_of parts.choices)) (λ rows. tt)

expanded-owns : (units states : Homes) (bundle : List ℕ) → Owns (expanded units states bundle)
expanded-owns units states bundle = by (is_utf8 bundle)
  where
    by : (b : Bool) → Owns (if b then with_units units states bundle (bundle_of true bundle) else Ok bundle)
    by true = with-owns units states bundle (bundle_of true bundle)
    by false = tt

line-owns : (text : List ℕ) (r : Result Input (List ℕ)) → Owns (with_line text r)
line-owns text (Ok input) = tt
line-owns text (Err rest) = tt

input-owns : (text : List ℕ) → Owns (input_of text)
input-owns text =
    by (bytes_eq (title text) (codes "office units 1"))
    (with_line text (split_head (drop (before_bundle true (after_line text)) (after_line text)) (skip_empty (take (before_bundle true (after_line text)) (after_line text))))) (line-owns text _)
  where
    by : (b : Bool) (r : Result Input UnitFault) → Owns r → Owns (cond b r (Err BadFirstLine))
    by true r own = own
    by false r own = tt

row-own : {X : Type 0} (fault : ℕ → UnitFault) (r : Result X ℕ) → ((n : ℕ) → IsOwn (fault n)) → Owns (with_row fault r)
row-own fault (Ok x) own = tt
row-own fault (Err n) own = own n

-- what bytes come to that are not too many
abbrev known : List ℕ → Result (List ℕ) UnitFault
known bytes = after (input_of (skip_mark bytes)) (λ input. after (with_row BadUnit (units_of (rows_of input.units))) (λ units. after (with_row BadState (states_of (rows_of input.states))) (λ states. expanded units states input.bundle)))

few : (bytes : List ℕ) → length bytes ≤ most_bundle_bytes → expansion bytes ≡ known bytes
few bytes short = by (nat_lt most_bundle_bytes (length bytes)) refl
  where
    by : (b : Bool) → nat_lt most_bundle_bytes (length bytes) ≡ b → cond b (Err TooLong) (known bytes) ≡ known bytes
    by false e = refl
    by true e = absurd (let long : most_bundle_bytes < length bytes = ltb-true most_bundle_bytes (length bytes) e in omega (arith, long, short))

known-owns : (bytes : List ℕ) → Owns (known bytes)
known-owns bytes =
    after-owns (input_of (skip_mark bytes)) _ (input-owns (skip_mark bytes)) (λ input. after-owns (with_row BadUnit (units_of (rows_of input.units))) _ (row-own BadUnit (units_of (rows_of input.units)) (λ n. tt))
    (λ units. after-owns (with_row BadState (states_of (rows_of input.states))) _ (row-own BadState (states_of (rows_of input.states)) (λ n. tt)) (λ states. expanded-owns units states input.bundle)))

owned : {X : Type 0} (r : Result X UnitFault) (fault : UnitFault) → Owns r → r ≡ Err fault → IsOwn fault
owned r fault own e = subst Owns e own

-- A fault of bytes that are not too many is their own.
pub fault-owned : (bytes : List ℕ) (fault : UnitFault) → length bytes ≤ most_bundle_bytes → expansion bytes ≡ Err fault → IsOwn fault
fault-owned bytes fault short e = owned (known bytes) fault (known-owns bytes) (sym (few bytes short) ∙ e)

-- A fault of the bytes that a source gave is the source's.
pub given-told : (before after : Option (List ℕ)) (bytes : List ℕ) (fault : UnitFault) → length bytes ≤ most_bundle_bytes → Took bytes before after → IsAtEnd after → IsFaultOf (expansion bytes) fault
    → IsUnitFault before after fault
given-told before after bytes ReadFault short took end e = tt
given-told before after bytes TooLong short took end e = absurd (fault-owned bytes TooLong short e)
given-told before after bytes BadFirstLine short took end e = (bytes, took, end, e)
given-told before after bytes (Section line) short took end e = (bytes, took, end, e)
given-told before after bytes (BadUnit row) short took end e = (bytes, took, end, e)
given-told before after bytes (BadState row) short took end e = (bytes, took, end, e)
given-told before after bytes (DirectUnit row) short took end e = (bytes, took, end, e)
given-told before after bytes (NoState row) short took end e = (bytes, took, end, e)
given-told before after bytes OutOfMemory short took end e = tt

-- Such a fault is not that the source failed.
pub given-held : (bytes : List ℕ) (fault : UnitFault) → length bytes ≤ most_bundle_bytes → IsFaultOf (expansion bytes) fault → fault ≡ ReadFault → ⊥
given-held bytes fault short e same = fault-owned bytes ReadFault short (subst (IsFaultOf (expansion bytes)) same e)

-- ---- what bytes come to

row-ok : {X : Type 0} (fault : ℕ → UnitFault) (r : Result X ℕ) (x : X) → with_row fault r ≡ Ok x → r ≡ Ok x
row-ok fault (Ok y) x e = cc e
row-ok fault (Err n) x e = absurd cc

-- An input that is cut so, with these tables, comes to what its bundle comes to.
pub expansion-is : (bytes : List ℕ) (input : Input) (units states u s : Homes) → length bytes ≤ most_bundle_bytes → input_of (skip_mark bytes) ≡ Ok input → with_row BadUnit (units_of (rows_of input.units)) ≡ Ok units
    → AreAlike units u → with_row BadState (states_of (rows_of input.states)) ≡ Ok states → AreAlike states s → expansion bytes ≡ expanded u s input.bundle
expansion-is bytes input units states u s short cut e1 a1 e2 a2 =
    few bytes short
    ∙ ap (λ (r : Result Input UnitFault). after r (λ input. after (with_row BadUnit (units_of (rows_of input.units))) (λ units. after (with_row BadState (states_of (rows_of input.states))) (λ states. expanded units states input.bundle)))) cut
    ∙ ap (λ (r : Result Homes UnitFault). after r (λ units. after (with_row BadState (states_of (rows_of input.states))) (λ states. expanded units states input.bundle))) e1
    ∙ ap (λ (r : Result Homes UnitFault). after r (λ states. expanded units states input.bundle)) e2
    ∙ sym (expanded-alike units states u s a1 a2 input.bundle)

-- what the laws say
pub record AreLaws : Type 0 where
  pub reads : (units states : Homes) (bundle text : List ℕ) → length bundle ≤ most_bundle_bytes → (IsUtf8 bundle → IsUtf8 text) → expanded units states bundle ≡ Ok text → ReadsMapped units states bundle text
  pub living : (units states : Homes) (bundle : List ℕ) (content : Content) (script : List Request) → MappedGives units states bundle content script → AllLiveRight units states content

pub bundle-short : (bytes : List ℕ) (input : Input) → length (skip_mark bytes) ≤ length bytes → length bytes ≤ most_bundle_bytes → input_of (skip_mark bytes) ≡ Ok input → length input.bundle ≤ most_bundle_bytes
bundle-short bytes input mark short cut = omega (arith, input-short (skip_mark bytes) input cut, mark, short)

-- The text is the plain bundle that the bytes come to.
pub is-expansion : AreLaws → (bytes : List ℕ) (input : Input) (units states u s : Homes) (text : List ℕ) → length (skip_mark bytes) ≤ length bytes → length bytes ≤ most_bundle_bytes → input_of (skip_mark bytes) ≡ Ok input
    → with_row BadUnit (units_of (rows_of input.units)) ≡ Ok units → AreAlike units u → with_row BadState (states_of (rows_of input.states)) ≡ Ok states → AreAlike states s → expanded u s input.bundle ≡ Ok text
    → (IsUtf8 input.bundle → IsUtf8 text) → IsExpansion bytes text
is-expansion laws bytes input units states u s text mark short cut e1 a1 e2 a2 made utf8 =
    let reads = laws.reads units states input.bundle text (bundle-short bytes input mark short cut) utf8 (sym (expanded-alike units states u s a1 a2 input.bundle) ∙ made) in
    record {
      made = expansion-is bytes input units states u s short cut e1 a1 e2 a2 ∙ made;
      input = input;
      cut = cut;
      units = units;
      divided = row-ok BadUnit (units_of (rows_of input.units)) units e1;
      states = states;
      lived = row-ok BadState (states_of (rows_of input.states)) states e2;
      reads = reads;
      living = λ content script gives. laws.living units states input.bundle content script (reads.gives content script gives);
    }

-- ---- a bundle

pub not-utf8 : (units states : Homes) (bundle : List ℕ) → (IsUtf8 bundle → ⊥) → expanded units states bundle ≡ Ok bundle
not-utf8 units states bundle none = by (is_utf8 bundle) refl
  where
    by : (b : Bool) → is_utf8 bundle ≡ b → (if b then with_units units states bundle (bundle_of true bundle) else Ok bundle) ≡ Ok bundle
    by true is = absurd (none (IsUtf8-from_is_utf8 bundle is))
    by false is = refl

pub of-utf8 : (units states : Homes) (bundle : List ℕ) → IsUtf8 bundle → expanded units states bundle ≡ with_units units states bundle (bundle_of true bundle)
of-utf8 units states bundle is = ap (λ (b : Bool). if b then with_units units states bundle (bundle_of true bundle) else Ok bundle) (is_utf8-from_IsUtf8 bundle is)

-- ---- results

pub if-ok : {X E : Type 0} (r : Result X E) (P Q : X → Type 0) → ((x : X) → P x → Q x) → IfOk r P → IfOk r Q
if-ok (Ok x) P Q to h = to x h
if-ok (Err e) P Q to h = tt

pub if-err : {X E : Type 0} (r : Result X E) (P Q : E → Type 0) → ((e : E) → P e → Q e) → IfErr r P → IfErr r Q
if-err (Ok x) P Q to h = tt
if-err (Err e) P Q to h = to e h

pub when-true : (b : Bool) (P Q : Type 0) → b ≡ true → MatchBool b P Q → P
when-true true P Q e h = h
when-true false P Q e h = cc e

pub when-false : (b : Bool) (P Q : Type 0) → b ≡ false → MatchBool b P Q → Q
when-false true P Q e h = cc e
when-false false P Q e h = h

-- what is come to
abbrev pub came_to : List ℕ → Result (List ℕ) UnitFault
came_to text = Ok text

pub not-err : {X : Type 0} (fault : UnitFault) → (fault ≡ ReadFault → ⊥) → IsErrOf {T = X} (Err fault) ReadFault → ⊥
not-err fault other is = other (cc is)
