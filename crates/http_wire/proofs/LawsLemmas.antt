-- A head is its lines.
use Rattle.std.proofs.Common.{◌≡◌, ◌<◌, ◌≤◌, ◌≢◌, ℕ, Bool, true, false, cond, eqb, ◌&&◌, ◌||◌, List, [], ◌∷◌, ◌++◌, length, take, drop, Option, None, Some, option_map, unwrap_or, refl, sym, ap, ◌∙◌, subst, arith, append_assoc}
use Rattle.std.specs.List.{AllByRecursion, list_all, list_any}
use Rattle.std.proofs.lemmas.Bool.{ne_eqb, eqb-true, false≢true}
use Rattle.std.proofs.lemmas.List.{length-append, length-take, take_at, take-append-drop}
use Rattle.http_wire.specs.HeadEnds.{closed_lines, is_empty_line, onto_lines, to_empty, head_lines, bytes_of, head_len}
use Rattle.http_wire.specs.Laws.{HasNoLf, printed, IsHead, AreHeads}
use Rattle.http_wire.proofs.HeadEndsLemmas.{closed_lines-cons, onto, head_lines-begins, found_lines, head_len-fits}

-- ---- lines and their bytes

pub bytes_of-printed : (lines : List (List ℕ)) → bytes_of lines ≡ length (printed lines)
bytes_of-printed [] = refl
bytes_of-printed (line ∷ lines) = omega (arith, bytes_of-printed lines, length-append (line ++ 10 ∷ []) (printed lines), length-append line (10 ∷ []))

printed-append : (lines more : List (List ℕ)) → printed (lines ++ more) ≡ printed lines ++ printed more
printed-append [] more = refl
printed-append (line ∷ lines) more = ap (λ (bytes : List ℕ). (line ++ 10 ∷ []) ++ bytes) (printed-append lines more) ∙ sym (append_assoc (line ++ 10 ∷ []) (printed lines) (printed more))

-- A line that an LF ended is the first one.
closed_lines-line : (line rest : List ℕ) → HasNoLf line → closed_lines (line ++ 10 ∷ rest) ≡ line ∷ closed_lines rest
closed_lines-line [] rest none = closed_lines-cons 10 rest
closed_lines-line (byte ∷ line) rest none =
    closed_lines-cons byte (line ++ 10 ∷ rest) ∙ (rw (ne_eqb byte 10 none.0) (ap (onto byte) (closed_lines-line line rest none.1)))

closed_lines-printed : (lines : List (List ℕ)) (rest : List ℕ) → AllByRecursion HasNoLf lines → closed_lines (printed lines ++ rest) ≡ lines ++ closed_lines rest
closed_lines-printed [] rest none = refl
closed_lines-printed (line ∷ lines) rest none =
    ap closed_lines (append_assoc (line ++ 10 ∷ []) (printed lines) rest ∙ append_assoc line (10 ∷ []) (printed lines ++ rest))
    ∙ (closed_lines-line line (printed lines ++ rest) none.0
    ∙ ap (λ (more : List (List ℕ)). line ∷ more) (closed_lines-printed lines rest none.1))

-- the bytes are those lines, and others that no LF ends
abbrev Prints : List ℕ → List (List ℕ) → Type 0
Prints bytes lines = (rest : List ℕ) × (bytes ≡ printed lines ++ rest)

onto-prints : (byte : ℕ) (bytes : List ℕ) (lines : List (List ℕ)) → Prints bytes lines → Prints (byte ∷ bytes) (onto byte lines)
onto-prints byte bytes [] prints = (byte ∷ bytes, refl)
onto-prints byte bytes (line ∷ lines) prints = (prints.0, ap (λ (list : List ℕ). byte ∷ list) prints.1)

closed_lines-print : (bytes : List ℕ) → Prints bytes (closed_lines bytes)
closed_lines-print [] = ([], refl)
closed_lines-print (byte ∷ bytes) = subst (Prints (byte ∷ bytes)) (sym (closed_lines-cons byte bytes)) (by (closed_lines-print bytes) (eqb byte 10) refl)
  where
    by : Prints bytes (closed_lines bytes) → (ends : Bool) → eqb byte 10 ≡ ends → Prints (byte ∷ bytes) (cond ends ([] ∷ closed_lines bytes) (onto byte (closed_lines bytes)))
    by rest true is =
        (rest.0, ap (λ (n : ℕ). n ∷ bytes) (eqb-true byte 10 is) ∙ ap (λ (list : List ℕ). 10 ∷ list) rest.1)
    by rest false is = onto-prints byte bytes (closed_lines bytes) rest

onto-no_lf : (byte : ℕ) (lines : List (List ℕ)) → byte ≢ 10 → AllByRecursion HasNoLf lines → AllByRecursion HasNoLf (onto byte lines)
onto-no_lf byte [] other none = tt
onto-no_lf byte (line ∷ lines) other none = ((other, none.0), none.1)

closed_lines-no_lf : (bytes : List ℕ) → AllByRecursion HasNoLf (closed_lines bytes)
closed_lines-no_lf [] = tt
closed_lines-no_lf (byte ∷ bytes) = subst (AllByRecursion HasNoLf) (sym (closed_lines-cons byte bytes)) (by (closed_lines-no_lf bytes) (eqb byte 10) refl)
  where
    by : AllByRecursion HasNoLf (closed_lines bytes) → (ends : Bool) → eqb byte 10 ≡ ends → AllByRecursion HasNoLf (cond ends ([] ∷ closed_lines bytes) (onto byte (closed_lines bytes)))
    by rest true is = (tt, rest)
    by rest false is = onto-no_lf byte (closed_lines bytes) (λ same. false≢true (sym is ∙ ap (λ (n : ℕ). eqb n 10) same)) rest

-- ---- the lines of a head

-- some empty lines, then one or more lines none of which is empty, then an empty line
record AreHeadLines (all : List (List ℕ)) : Type 0 where
  pub blank : List (List ℕ)
  pub lines : List (List ℕ)
  pub last : List ℕ
  pub all_is : all ≡ blank ++ (lines ++ last ∷ [])
  pub before : list_all is_empty_line blank ≡ true
  pub some : 0 < length lines
  pub filled : list_any is_empty_line lines ≡ false
  pub ended : is_empty_line last ≡ true

-- lines none of which is empty, then an empty line
record AreFilled (all : List (List ℕ)) : Type 0 where
  pub lines : List (List ℕ)
  pub last : List ℕ
  pub all_is : all ≡ lines ++ last ∷ []
  pub filled : list_any is_empty_line lines ≡ false
  pub ended : is_empty_line last ≡ true

-- What was put before lines is the first line of what was found.
found_after : (P : List (List ℕ) → Type 0) (line : List ℕ) (lines : Option (List (List ℕ))) (found : List (List ℕ)) → ((some : List (List ℕ)) → lines ≡ Some some → P (line ∷ some)) → onto_lines line lines ≡ Some found → P found
found_after P line None found each is = cc
found_after P line (Some some) found each is = subst P (ap (λ (more : Option (List (List ℕ))). unwrap_or more []) is) (each some refl)

to_empty-filled : (lines found : List (List ℕ)) → to_empty lines ≡ Some found → AreFilled found
to_empty-filled [] found is = cc
to_empty-filled (line ∷ lines) found is = by (λ some. to_empty-filled lines some) (is_empty_line line) refl is
  where
    by : ((some : List (List ℕ)) → to_empty lines ≡ Some some → AreFilled some) → (empty : Bool) → is_empty_line line ≡ empty → cond empty (Some (line ∷ [])) (onto_lines line (to_empty lines)) ≡ Some found → AreFilled found
    by each true empty is = subst AreFilled (ap (λ (more : Option (List (List ℕ))). unwrap_or more []) is) (record { lines = []; last = line; all_is = refl; filled = refl; ended = empty })
    by each false empty is = found_after AreFilled line (to_empty lines) found (λ some was. let it = each some was in record {
      lines = line ∷ it.lines;
      last = it.last;
      all_is = ap (λ (more : List (List ℕ)). line ∷ more) it.all_is;
      filled = rw empty it.filled;
      ended = it.ended;
    }) is

head_lines-are : (lines found : List (List ℕ)) → head_lines lines ≡ Some found → AreHeadLines found
head_lines-are [] found is = cc
head_lines-are (line ∷ lines) found is = by (λ some. head_lines-are lines some) (is_empty_line line) refl is
  where
    by : ((some : List (List ℕ)) → head_lines lines ≡ Some some → AreHeadLines some) → (empty : Bool) → is_empty_line line ≡ empty → onto_lines line (cond empty (head_lines lines) (to_empty lines)) ≡ Some found → AreHeadLines found
    by each true empty is = found_after AreHeadLines line (head_lines lines) found (λ some was. let it = each some was in record {
      blank = line ∷ it.blank;
      lines = it.lines;
      last = it.last;
      all_is = ap (λ (more : List (List ℕ)). line ∷ more) it.all_is;
      before = rw empty it.before;
      some = it.some;
      filled = it.filled;
      ended = it.ended;
    }) is
    by each false empty is = found_after AreHeadLines line (to_empty lines) found (λ some was. let it = to_empty-filled lines some was in record {
      blank = [];
      lines = line ∷ it.lines;
      last = it.last;
      all_is = ap (λ (more : List (List ℕ)). line ∷ more) it.all_is;
      before = refl;
      some = omega arith;
      filled = rw empty it.filled;
      ended = it.ended;
    }) is

to_empty-of : (lines : List (List ℕ)) (last : List ℕ) (tail : List (List ℕ)) → list_any is_empty_line lines ≡ false → is_empty_line last ≡ true → to_empty (lines ++ last ∷ tail) ≡ Some (lines ++ last ∷ [])
to_empty-of [] last tail filled ended = rw ended refl
to_empty-of (line ∷ lines) last tail filled ended = by (λ is. to_empty-of lines last tail is ended) (is_empty_line line) filled
  where
    by : (list_any is_empty_line lines ≡ false → to_empty (lines ++ last ∷ tail) ≡ Some (lines ++ last ∷ [])) → (empty : Bool) → (empty || list_any is_empty_line lines) ≡ false → cond empty (Some (line ∷ [])) (onto_lines line (to_empty (lines ++ last ∷ tail))) ≡ Some (line ∷ (lines ++ last ∷ []))
    by rest true is = absurd (false≢true (sym is))
    by rest false is = ap (onto_lines line) (rest is)

head_lines-of : (blank lines : List (List ℕ)) (last : List ℕ) (tail : List (List ℕ)) → list_all is_empty_line blank ≡ true → 0 < length lines → list_any is_empty_line lines ≡ false → is_empty_line last ≡ true → head_lines (blank ++ (lines ++ last ∷ tail)) ≡ Some (blank ++ (lines ++ last ∷ []))
head_lines-of [] [] last tail before some filled ended = absurd (omega arith)
head_lines-of [] (line ∷ lines) last tail before some filled ended = by (is_empty_line line) filled
  where
    by : (empty : Bool) → (empty || list_any is_empty_line lines) ≡ false → onto_lines line (cond empty (head_lines (lines ++ last ∷ tail)) (to_empty (lines ++ last ∷ tail))) ≡ Some (line ∷ (lines ++ last ∷ []))
    by true is = absurd (false≢true (sym is))
    by false is = ap (onto_lines line) (to_empty-of lines last tail is ended)
head_lines-of (line ∷ blank) lines last tail before some filled ended = by (λ is. head_lines-of blank lines last tail is some filled ended) (is_empty_line line) before
  where
    by : (list_all is_empty_line blank ≡ true → head_lines (blank ++ (lines ++ last ∷ tail)) ≡ Some (blank ++ (lines ++ last ∷ []))) → (empty : Bool) → (empty && list_all is_empty_line blank) ≡ true → onto_lines line (cond empty (head_lines (blank ++ (lines ++ last ∷ tail))) (to_empty (blank ++ (lines ++ last ∷ tail)))) ≡ Some (line ∷ (blank ++ (lines ++ last ∷ [])))
    by rest true is = ap (onto_lines line) (rest is)
    by rest false is = absurd (false≢true is)

-- ---- heads

no_lf-front : (lines more : List (List ℕ)) → AllByRecursion HasNoLf (lines ++ more) → AllByRecursion HasNoLf lines
no_lf-front [] more none = tt
no_lf-front (line ∷ lines) more none = (none.0, no_lf-front lines more none.1)

found : (bytes : List ℕ) (len : ℕ) → head_len bytes ≡ Some len → (len ≤ length bytes) × IsHead (take len bytes)
found bytes len is =
    let lines = found_lines (head_lines (closed_lines bytes)) len is in
    let begins = head_lines-begins (closed_lines bytes) lines.0 lines.1 in
    let it = head_lines-are (closed_lines bytes) lines.0 lines.1 in
    let print = closed_lines-print bytes in
    let split : bytes ≡ printed lines.0 ++ (printed begins.0 ++ print.0) = print.1 ∙ (ap (λ (all : List (List ℕ)). printed all ++ print.0) begins.1 ∙ (ap (λ (list : List ℕ). list ++ print.0) (printed-append lines.0 begins.0) ∙ append_assoc (printed lines.0) (printed begins.0) print.0)) in
    let size : length (printed lines.0) ≡ len = sym (bytes_of-printed lines.0) ∙ lines.2 in
    let none : AllByRecursion HasNoLf lines.0 = no_lf-front lines.0 begins.0 (subst (AllByRecursion HasNoLf) begins.1 (closed_lines-no_lf bytes)) in (
      head_len-fits bytes len is,
      record {
        blank = it.blank;
        lines = it.lines;
        last = it.last;
        printed = ap (take len) split ∙ (take_at (printed lines.0) (printed begins.0 ++ print.0) len size ∙ ap printed it.all_is);
        closed = subst (AllByRecursion HasNoLf) it.all_is none;
        before = it.before;
        some = it.some;
        filled = it.filled;
        ended = it.ended;
      },
    )

whole : (head more : List ℕ) → IsHead head → head_len (head ++ more) ≡ Some (length head)
whole head more it =
    let all = it.blank ++ (it.lines ++ it.last ∷ []) in
    let tail = closed_lines more in
    let lines : closed_lines (head ++ more) ≡ it.blank ++ (it.lines ++ it.last ∷ tail) = ap (λ (list : List ℕ). closed_lines (list ++ more)) it.printed ∙ (closed_lines-printed all more it.closed ∙ (append_assoc it.blank (it.lines ++ it.last ∷ []) tail ∙ ap (λ (rest : List (List ℕ)). it.blank ++ rest) (append_assoc it.lines (it.last ∷ []) tail))) in
    ap (λ (all : List (List ℕ)). option_map bytes_of (head_lines all)) lines
    ∙ (ap (option_map bytes_of) (head_lines-of it.blank it.lines it.last tail it.before it.some it.filled it.ended)
    ∙ ap (λ (n : ℕ). Some n) (bytes_of-printed all ∙ ap length (sym it.printed)))

first : (bytes : List ℕ) (len k : ℕ) → head_len bytes ≡ Some len → k < len → IsHead (take k bytes) → ⊥
first bytes len k is less it =
    let here : head_len bytes ≡ Some (length (take k bytes)) = ap head_len (sym (take-append-drop k bytes)) ∙ whole (take k bytes) (drop k bytes) it in
    let same : len ≡ length (take k bytes) = ap (λ (n : Option ℕ). unwrap_or n 0) (sym is ∙ here) in
    omega (arith, same, length-take k bytes)

pub are_heads : AreHeads
are_heads = record { found = found; whole = whole; first = first }
