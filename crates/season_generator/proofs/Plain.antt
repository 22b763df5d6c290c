-- Rows of words, as they are written with commas between the words and an LF after each row, and that they are read back.
use Rattle.std.proofs.Common.{◌≡◌, ◌≤◌, ◌<◌, ◌+◌, ◌==◌, ℕ, zero, suc, Bool, true, false, not, ◌&&◌, nat_le, List, [], ◌∷◌, ◌++◌, Some, length, refl, sym, ap, ◌∙◌, append_assoc, length-append, arith}
use Rattle.std.specs.List.{AllByRecursion, list_all}
use Rattle.std.specs.Str.{IsAscii}
use Rattle.std.proofs.lemmas.Bool.{and_parts, leb-true, ne_eqb, not-true}
use Rattle.std.proofs.lemmas.List.{append-nil}
use Rattle.std.proofs.lemmas.Str.{IsAscii-append}
use Rattle.std.proofs.lemmas.Str.Ascii.{IsAscii-cons, IsAscii-nil}
use Rattle.csv.specs.Machine.{next_record}
use Rattle.csv.specs.Reading.{default_config, records_from, records_next, strip_bom}
use Rattle.csv.specs.declared.parser.State.TheVariants as st
use Rattle.csv.proofs.RoundTrip.{record-same, start-same}
use Rattle.section_rows.specs.Rows.{Row, row_before, rows_among, rows_of, without_empty_end}
use Rattle.section_rows.proofs.RecordLemmas.{none_left}

-- ---- words

-- a byte from `-` to `z` that is not `[`
abbrev pub is_word_byte : ℕ → Bool
is_word_byte byte = nat_le 45 byte && (nat_le byte 122 && not (byte == 91))

abbrev pub are_word_bytes : List ℕ → Bool
are_word_bytes text = list_all is_word_byte text

-- one such byte, or several
abbrev pub is_word : List ℕ → Bool
is_word [] = false
is_word (byte ∷ bytes) = are_word_bytes (byte ∷ bytes)

-- What a byte of a word is.
pub record IsWordByte (byte : ℕ) : Type 0 where
  pub low : 45 ≤ byte
  pub high : byte ≤ 122
  pub other : (byte == 91) ≡ false

pub word-byte : (byte : ℕ) → is_word_byte byte ≡ true → IsWordByte byte
word-byte byte e =
    let parts = and_parts (nat_le 45 byte) (nat_le byte 122 && not (byte == 91)) e in
    let more = and_parts (nat_le byte 122) (not (byte == 91)) parts.1 in
    record { low = leb-true 45 byte parts.0; high = leb-true byte 122 more.0; other = not-true (byte == 91) more.1 }

-- a byte of a word is none that is less than all of them
pub above : (byte mark : ℕ) → IsWordByte byte → mark < 45 → (byte == mark) ≡ false
above byte mark is small = ne_eqb byte mark (λ e. omega (arith, is.low, small, e))

-- the first byte of a word, and the others
pub first-word : (byte : ℕ) (bytes : List ℕ) → is_word (byte ∷ bytes) ≡ true → (is_word_byte byte ≡ true) × (are_word_bytes bytes ≡ true)
first-word byte bytes e = and_parts (is_word_byte byte) (are_word_bytes bytes) e

-- a word's bytes
pub word-bytes : (word : List ℕ) → is_word word ≡ true → are_word_bytes word ≡ true
word-bytes [] e = refl
word-bytes (byte ∷ bytes) e = e

-- ---- texts of rows

-- the further words of a row, and its end
abbrev pub further : Row → List ℕ
further [] = 10 ∷ []
further (word ∷ words) = 44 ∷ (word ++ further words)

abbrev pub line_of : Row → List ℕ
line_of [] = 10 ∷ []
line_of (word ∷ words) = word ++ further words

abbrev pub text_of : List Row → List ℕ
text_of [] = []
text_of (row ∷ rows) = line_of row ++ text_of rows

abbrev pub AreWords : Row → Type 0
AreWords words = AllByRecursion (λ word. is_word word ≡ true) words

-- a word, or several
abbrev pub IsWordRow : Row → Type 0
IsWordRow [] = ⊥
IsWordRow (word ∷ words) = (is_word word ≡ true) × AreWords words

abbrev pub AreWordRows : List Row → Type 0
AreWordRows rows = AllByRecursion IsWordRow rows

-- ---- reading

-- the bytes of a word, in a field
run : (fields : List (List ℕ)) (field word tail : List ℕ) → are_word_bytes word ≡ true
    → next_record default_config st.InField fields field (word ++ tail) ≡ next_record default_config st.InField fields (field ++ word) tail
unfolding next_record
run fields field [] tail e = rw (append-nil field) refl
run fields field (byte ∷ word) tail e =
    let parts = and_parts (is_word_byte byte) (are_word_bytes word) e in
    let is = word-byte byte parts.0 in
    let comma : (byte == 44) ≡ false = above byte 44 is (omega arith) in
    let cr : (byte == 13) ≡ false = above byte 13 is (omega arith) in
    let lf : (byte == 10) ≡ false = above byte 10 is (omega arith) in
    rw (comma, cr, lf) (run fields (field ++ (byte ∷ [])) word tail parts.1
    ∙ ap (λ (f : List ℕ). next_record default_config st.InField fields f tail) (append_assoc field (byte ∷ []) word))

-- a word from its start
begin : (fields : List (List ℕ)) (word tail : List ℕ) → is_word word ≡ true
    → next_record default_config st.StartField fields [] (word ++ tail) ≡ next_record default_config st.InField fields word tail
begin fields [] tail e = absurd cc
begin fields (byte ∷ word) tail e =
    let is = word-byte byte (first-word byte word e).0 in
    start-same fields [] byte (word ++ tail) (above byte 34 is (omega arith)) ∙ run fields [] (byte ∷ word) tail e

-- the further words, after one of them
rest-run : (fields : List (List ℕ)) (word : List ℕ) (words : Row) (tail : List ℕ) → AreWords words
    → next_record default_config st.InField fields word (further words ++ tail) ≡ Some (fields ++ (word ∷ words), st.StartRecord, tail)
unfolding next_record
rest-run fields word [] tail all = refl
rest-run fields word (next ∷ words) tail all =
    ap (λ (l : List ℕ). next_record default_config st.StartField (fields ++ word ∷ []) [] l) (append_assoc next (further words) tail)
    ∙ begin (fields ++ word ∷ []) next (further words ++ tail) all.0
    ∙ rest-run (fields ++ word ∷ []) next words tail all.1
    ∙ ap (λ (l : List (List ℕ)). Some (l, st.StartRecord, tail)) (append_assoc fields (word ∷ []) (next ∷ words))

-- a row is read
row-run : (row : Row) (tail : List ℕ) → IsWordRow row → next_record default_config st.StartRecord [] [] (line_of row ++ tail) ≡ Some (row, st.StartRecord, tail)
row-run [] tail is = absurd is
row-run ([] ∷ words) tail is = absurd (let e : false ≡ true = is.0 in cc)
row-run ((byte ∷ word) ∷ words) tail is =
    let byte-is = word-byte byte (first-word byte word is.0).0 in
    ap (λ (l : List ℕ). next_record default_config st.StartRecord [] [] l) (append_assoc (byte ∷ word) (further words) tail)
    ∙ record-same [] [] byte (word ++ (further words ++ tail)) (above byte 13 byte-is (omega arith)) (above byte 10 byte-is (omega arith))
    ∙ begin [] (byte ∷ word) (further words ++ tail) is.0
    ∙ rest-run [] (byte ∷ word) words tail is.1

rows-run : (n : ℕ) (rows : List Row) → length rows ≤ n → AreWordRows rows → records_from default_config n st.StartRecord (text_of rows) ≡ rows
unfolding records_from
rows-run n [] within all = none_left n
rows-run zero (row ∷ rows) within all = absurd (omega (arith, within))
rows-run (suc n) (row ∷ rows) within all =
    ap (λ o. records_next (records_from default_config n) o) (row-run row (text_of rows) all.0) ∙ ap (λ (l : List Row). row ∷ l) (rows-run n rows (omega (arith, within)) all.1)

-- a row of words has no empty end
ends : (words : Row) → AreWords words → without_empty_end words ≡ words
ends [] all = refl
ends ([] ∷ words) all = absurd (let e : false ≡ true = all.0 in cc)
ends ((byte ∷ word) ∷ []) all = refl
ends ((byte ∷ word) ∷ next ∷ words) all = rw (ends (next ∷ words) all.1) refl

among-all : (rows : List Row) → AreWordRows rows → rows_among rows ≡ rows
among-all [] all = refl
among-all ([] ∷ rows) all = absurd all.0
among-all ((word ∷ words) ∷ rows) all = ap (λ (r : Row). row_before r (rows_among rows)) (ends (word ∷ words) all.0) ∙ ap (λ (l : List Row). (word ∷ words) ∷ l) (among-all rows all.1)

-- each row takes a byte at least
longer : (row : Row) → 1 ≤ length (line_of row)
longer [] = omega arith
longer (word ∷ []) = omega (arith, length-append word (10 ∷ []))
longer (word ∷ next ∷ words) = omega (arith, length-append word (further (next ∷ words)))

enough : (rows : List Row) → length rows ≤ length (text_of rows)
enough [] = omega arith
enough (row ∷ rows) = omega (arith, longer row, enough rows, length-append (line_of row) (text_of rows))

-- no byte order mark begins them
no-mark : (rows : List Row) → AreWordRows rows → strip_bom (text_of rows) ≡ text_of rows
unfolding strip_bom
no-mark [] all = refl
no-mark ([] ∷ rows) all = absurd all.0
no-mark (([] ∷ words) ∷ rows) all = absurd (let e : false ≡ true = all.0.0 in cc)
no-mark (((byte ∷ word) ∷ words) ∷ rows) all = other byte _ (ne_eqb byte 239 (λ e. let is = word-byte byte (first-word byte word all.0.0).0 in omega (arith, is.high, e)))
  where
    other : (byte : ℕ) (l : List ℕ) → (byte == 239) ≡ false → strip_bom (byte ∷ l) ≡ byte ∷ l
    other byte [] e = refl
    other byte (b ∷ []) e = refl
    other byte (b ∷ c ∷ l) e = rw e refl

-- Rows of words are read back.
pub rows-back : (rows : List Row) → AreWordRows rows → rows_of (text_of rows) ≡ rows
unfolding rows_of
rows-back rows all =
    ap (λ (l : List ℕ). rows_among (records_from default_config (length l + 1) st.StartRecord l)) (no-mark rows all)
    ∙ ap rows_among (rows-run (length (text_of rows) + 1) rows (omega (arith, enough rows)) all) ∙ among-all rows all

-- ---- the bytes of the text

ascii-bytes : (word : List ℕ) → are_word_bytes word ≡ true → IsAscii word
ascii-bytes [] e = IsAscii-nil
ascii-bytes (byte ∷ word) e =
    let parts = and_parts (is_word_byte byte) (are_word_bytes word) e in
    let is = word-byte byte parts.0 in
    IsAscii-cons byte word (omega (arith, is.high)) (ascii-bytes word parts.1)

ascii-further : (words : Row) → AreWords words → IsAscii (further words)
ascii-further [] all = IsAscii-cons 10 [] (omega arith) IsAscii-nil
ascii-further (word ∷ words) all = IsAscii-cons 44 (word ++ further words) (omega arith) (IsAscii-append word (further words) (ascii-bytes word (word-bytes word all.0)) (ascii-further words all.1))

-- All bytes are ASCII.
pub ascii-rows : (rows : List Row) → AreWordRows rows → IsAscii (text_of rows)
ascii-rows [] all = IsAscii-nil
ascii-rows ([] ∷ rows) all = absurd all.0
ascii-rows ((word ∷ words) ∷ rows) all =
    IsAscii-append (line_of (word ∷ words)) (text_of rows) (IsAscii-append word (further words) (ascii-bytes word (word-bytes word all.0.0)) (ascii-further words all.0.1)) (ascii-rows rows all.1)

-- ---- rows after rows

-- The text of rows after others.
pub text-append : (rows more : List Row) → text_of (rows ++ more) ≡ text_of rows ++ text_of more
text-append [] more = refl
text-append (row ∷ rows) more = ap (λ (l : List ℕ). line_of row ++ l) (text-append rows more) ∙ sym (append_assoc (line_of row) (text_of rows) (text_of more))

pub rows-append : (rows more : List Row) → AreWordRows rows → AreWordRows more → AreWordRows (rows ++ more)
rows-append [] more all others = others
rows-append (row ∷ rows) more all others = (all.0, rows-append rows more all.1 others)
