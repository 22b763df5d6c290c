-- Where a head ends: lines as they come, and bytes that follow.
use Rattle.std.proofs.Common.{◌≡◌, ◌<◌, ◌≤◌, ◌+◌, ℕ, suc, Bool, true, false, cond, eqb, List, [], ◌∷◌, ◌++◌, length, take, drop, get_or, Option, None, Some, option_map, unwrap_or, refl, sym, ap, ◌∙◌, arith}
use Rattle.office_text.specs.Lines.{split_at_each, onto_first}
use Rattle.office_text.proofs.LinesLemmas.{IsFilled, split_at_each-filled, split_at_each-first, split_at_each-whole}
use Rattle.http_wire.specs.HeadEnds.{without_last, closed_lines, is_empty_line, onto_lines, to_empty, head_lines, bytes_of, head_len}

-- A piece before other pieces is not the last one.
kept_before : (piece : List ℕ) (pieces : List (List ℕ)) → IsFilled pieces → without_last (piece ∷ pieces) ≡ piece ∷ without_last pieces
kept_before piece pieces filled = rw filled.2 refl

-- The first LF ends the first line.
pub closed_lines-first : (bytes : List ℕ) (end : ℕ) → end < length bytes → get_or bytes end 0 ≡ 10 → ((k : ℕ) → k < end → get_or bytes k 0 ≡ 10 → ⊥) → closed_lines bytes ≡ take end bytes ∷ closed_lines (drop (suc end) bytes)
closed_lines-first bytes end within here before =
    ap without_last (split_at_each-first 10 bytes end within here before) ∙ kept_before (take end bytes) (split_at_each 10 (drop (suc end) bytes)) (split_at_each-filled 10 (drop (suc end) bytes))

-- Without LF no line has ended.
pub closed_lines-none : (bytes : List ℕ) → ((k : ℕ) → k < length bytes → get_or bytes k 0 ≡ 10 → ⊥) → closed_lines bytes ≡ []
closed_lines-none bytes before = ap without_last (split_at_each-whole 10 bytes before)

-- a byte before the first line, where there is one
abbrev pub onto : ℕ → List (List ℕ) → List (List ℕ)
onto byte [] = []
onto byte (line ∷ lines) = (byte ∷ line) ∷ lines

onto-without : (byte : ℕ) (pieces : List (List ℕ)) → without_last (onto_first byte pieces) ≡ onto byte (without_last pieces)
onto-without byte [] = refl
onto-without byte (piece ∷ []) = refl
onto-without byte (piece ∷ next ∷ pieces) = refl

-- The lines of bytes, by the first byte.
pub closed_lines-cons : (byte : ℕ) (bytes : List ℕ) → closed_lines (byte ∷ bytes) ≡ cond (eqb byte 10) ([] ∷ closed_lines bytes) (onto byte (closed_lines bytes))
closed_lines-cons byte bytes = by (eqb byte 10)
  where
    by : (ends : Bool) → without_last (cond ends ([] ∷ split_at_each 10 bytes) (onto_first byte (split_at_each 10 bytes))) ≡ cond ends ([] ∷ closed_lines bytes) (onto byte (closed_lines bytes))
    by true = kept_before [] (split_at_each 10 bytes) (split_at_each-filled 10 bytes)
    by false = onto-without byte (split_at_each 10 bytes)

-- the lines begin with those lines
abbrev pub BeginWith : List (List ℕ) → List (List ℕ) → Type 0
BeginWith all lines = (tail : List (List ℕ)) × (all ≡ lines ++ tail)

onto-begins : (byte : ℕ) (all lines : List (List ℕ)) → BeginWith all lines → BeginWith (onto byte all) (onto byte lines)
onto-begins byte all [] begins = (onto byte all, refl)
onto-begins byte all (line ∷ lines) begins = (begins.0, ap (onto byte) begins.1)

-- The lines of bytes stay, whatever follows.
pub closed_lines-append : (bytes more : List ℕ) → BeginWith (closed_lines (bytes ++ more)) (closed_lines bytes)
closed_lines-append [] more = (closed_lines more, refl)
closed_lines-append (byte ∷ bytes) more =
    let next = by (closed_lines-append bytes more) (eqb byte 10) in
    (next.0, closed_lines-cons byte (bytes ++ more) ∙ (next.1 ∙ ap (λ (lines : List (List ℕ)). lines ++ next.0) (sym (closed_lines-cons byte bytes))))
  where
    by : BeginWith (closed_lines (bytes ++ more)) (closed_lines bytes) → (ends : Bool) → BeginWith (cond ends ([] ∷ closed_lines (bytes ++ more)) (onto byte (closed_lines (bytes ++ more)))) (cond ends ([] ∷ closed_lines bytes) (onto byte (closed_lines bytes)))
    by rest true = (rest.0, ap (λ (lines : List (List ℕ)). [] ∷ lines) rest.1)
    by rest false = onto-begins byte (closed_lines (bytes ++ more)) (closed_lines bytes) rest

onto-fits : (byte : ℕ) (lines : List (List ℕ)) → bytes_of (onto byte lines) ≤ bytes_of lines + 1
onto-fits byte [] = omega arith
onto-fits byte (line ∷ lines) = omega arith

-- Lines stand in the bytes.
pub closed_lines-fit : (bytes : List ℕ) → bytes_of (closed_lines bytes) ≤ length bytes
closed_lines-fit [] = omega arith
closed_lines-fit (byte ∷ bytes) = let same = ap bytes_of (closed_lines-cons byte bytes) in let fits = by (closed_lines-fit bytes) (eqb byte 10) in omega arith
  where
    by : bytes_of (closed_lines bytes) ≤ length bytes → (ends : Bool) → bytes_of (cond ends ([] ∷ closed_lines bytes) (onto byte (closed_lines bytes))) ≤ suc (length bytes)
    by fit true = omega arith
    by fit false = omega (arith, onto-fits byte (closed_lines bytes))

-- ---- the lines of a head

-- Where one is found, the other is the same.
onto_lines-same : (line : List ℕ) (a b : Option (List (List ℕ))) (found : List (List ℕ)) → ((lines : List (List ℕ)) → a ≡ Some lines → b ≡ Some lines) → onto_lines line a ≡ Some found → onto_lines line b ≡ Some found
onto_lines-same line None b found same is = cc
onto_lines-same line (Some lines) b found same is = ap (onto_lines line) (same lines refl) ∙ is

pub to_empty-append : (lines tail found : List (List ℕ)) → to_empty lines ≡ Some found → to_empty (lines ++ tail) ≡ Some found
to_empty-append [] tail found is = cc
to_empty-append (line ∷ lines) tail found is = by (λ more. to_empty-append lines tail more) (is_empty_line line) is
  where
    by : ((more : List (List ℕ)) → to_empty lines ≡ Some more → to_empty (lines ++ tail) ≡ Some more) → (empty : Bool) → cond empty (Some (line ∷ [])) (onto_lines line (to_empty lines)) ≡ Some found → cond empty (Some (line ∷ [])) (onto_lines line (to_empty (lines ++ tail))) ≡ Some found
    by same true is = is
    by same false is = onto_lines-same line (to_empty lines) (to_empty (lines ++ tail)) found same is

pub head_lines-append : (lines tail found : List (List ℕ)) → head_lines lines ≡ Some found → head_lines (lines ++ tail) ≡ Some found
head_lines-append [] tail found is = cc
head_lines-append (line ∷ lines) tail found is = by (λ more. head_lines-append lines tail more) (is_empty_line line) is
  where
    by : ((more : List (List ℕ)) → head_lines lines ≡ Some more → head_lines (lines ++ tail) ≡ Some more) → (empty : Bool) → onto_lines line (cond empty (head_lines lines) (to_empty lines)) ≡ Some found → onto_lines line (cond empty (head_lines (lines ++ tail)) (to_empty (lines ++ tail))) ≡ Some found
    by same true is = onto_lines-same line (head_lines lines) (head_lines (lines ++ tail)) found same is
    by same false is = onto_lines-same line (to_empty lines) (to_empty (lines ++ tail)) found (λ more. to_empty-append lines tail more) is

onto_lines-begins : (line : List ℕ) (lines : List (List ℕ)) (a : Option (List (List ℕ))) (found : List (List ℕ)) → ((some : List (List ℕ)) → a ≡ Some some → BeginWith lines some) → onto_lines line a ≡ Some found → BeginWith (line ∷ lines) found
onto_lines-begins line lines None found begins is = cc
onto_lines-begins line lines (Some some) found begins is =
    let rest = begins some refl in
    (rest.0, ap (λ (more : List (List ℕ)). line ∷ more) rest.1 ∙ ap (λ (more : Option (List (List ℕ))). unwrap_or more [] ++ rest.0) is)

-- The lines of a head come first.
pub to_empty-begins : (lines found : List (List ℕ)) → to_empty lines ≡ Some found → BeginWith lines found
to_empty-begins [] found is = cc
to_empty-begins (line ∷ lines) found is = by (λ some. to_empty-begins lines some) (is_empty_line line) is
  where
    by : ((some : List (List ℕ)) → to_empty lines ≡ Some some → BeginWith lines some) → (empty : Bool) → cond empty (Some (line ∷ [])) (onto_lines line (to_empty lines)) ≡ Some found → BeginWith (line ∷ lines) found
    by begins true is = (lines, ap (λ (more : Option (List (List ℕ))). unwrap_or more [] ++ lines) is)
    by begins false is = onto_lines-begins line lines (to_empty lines) found begins is

pub head_lines-begins : (lines found : List (List ℕ)) → head_lines lines ≡ Some found → BeginWith lines found
head_lines-begins [] found is = cc
head_lines-begins (line ∷ lines) found is = by (λ some. head_lines-begins lines some) (is_empty_line line) is
  where
    by : ((some : List (List ℕ)) → head_lines lines ≡ Some some → BeginWith lines some) → (empty : Bool) → onto_lines line (cond empty (head_lines lines) (to_empty lines)) ≡ Some found → BeginWith (line ∷ lines) found
    by begins true is = onto_lines-begins line lines (head_lines lines) found begins is
    by begins false is = onto_lines-begins line lines (to_empty lines) found (λ some. to_empty-begins lines some) is

pub bytes_of-append : (lines more : List (List ℕ)) → bytes_of (lines ++ more) ≡ bytes_of lines + bytes_of more
bytes_of-append [] more = omega arith
bytes_of-append (line ∷ lines) more = omega (arith, bytes_of-append lines more)

-- A length found is that of lines found.
pub found_lines : (lines : Option (List (List ℕ))) (len : ℕ) → option_map bytes_of lines ≡ Some len → (found : List (List ℕ)) × (lines ≡ Some found) × (bytes_of found ≡ len)
found_lines None len is = cc
found_lines (Some found) len is = (found, refl, ap (λ (n : Option ℕ). unwrap_or n 0) is)

-- A head is in the bytes.
pub head_len-fits : (bytes : List ℕ) (len : ℕ) → head_len bytes ≡ Some len → len ≤ length bytes
head_len-fits bytes len is =
    let found = found_lines (head_lines (closed_lines bytes)) len is in
    let begins = head_lines-begins (closed_lines bytes) found.0 found.1 in
    omega (arith, closed_lines-fit bytes, ap bytes_of begins.1, bytes_of-append found.0 begins.0, found.2)

-- A head stays, whatever follows.
pub head_len-append : (bytes more : List ℕ) (len : ℕ) → head_len bytes ≡ Some len → head_len (bytes ++ more) ≡ Some len
head_len-append bytes more len is =
    let found = found_lines (head_lines (closed_lines bytes)) len is in
    let begins = closed_lines-append bytes more in
    ap (λ (lines : List (List ℕ)). option_map bytes_of (head_lines lines)) begins.1
    ∙ (ap (option_map bytes_of) (head_lines-append (closed_lines bytes) begins.0 found.0 found.1) ∙ ap (λ (n : ℕ). Some n) found.2)

-- ---- one line after another

-- the lines of what is left of a head, where a line that is not empty has come or not
abbrev pub lines_left : Bool → List (List ℕ) → Option (List (List ℕ))
lines_left true lines = to_empty lines
lines_left false lines = head_lines lines

-- how many bytes a head takes, of which so many were passed
abbrev pub len_left : ℕ → Bool → List ℕ → Option ℕ
len_left passed begun bytes = option_map (λ lines. passed + bytes_of lines) (lines_left begun (closed_lines bytes))
