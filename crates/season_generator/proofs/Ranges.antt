-- What the rows of a range of numbers give, one after another.
use Rattle.std.proofs.Common.{◌≡◌, ◌≤◌, ◌<◌, ◌+◌, ℕ, zero, suc, Bool, true, false, List, [], ◌∷◌, ◌++◌, Option, Some, None, Result, Ok, refl, sym, ap, subst, ◌∙◌, add-one, append_assoc, arith, inl, inr, if◌then◌else◌}
use Rattle.std.specs.List.{flat_map, range_with_len}
use Rattle.std.proofs.lemmas.Bool.{cases_eq, cond-true}
use Rattle.std.proofs.lemmas.List.{append-nil}
use Rattle.std.proofs.lemmas.List.Concat.{flat_map-append}
use Rattle.section_rows.specs.Rows.{Row, same_fields}
use Rattle.section_rows.specs.Steps.{first_of, or_else}
use Rattle.section_rows.specs.Table.{Reading, entries_from, table_of, then_read}
use Rattle.season_generator.proofs.RowLemmas.{range_next}
use Rattle.season_generator.proofs.Plain.{AreWordRows, rows-append, text-append, text_of}

-- ---- tables

-- the rows give these entries, one each, after those before
abbrev pub Reads : {Entry Kind : Type 0} → Reading Entry Kind → List Entry → List Row → List Entry → Type 0
Reads reading before [] [] = Unit {0}
Reads reading before [] (entry ∷ entries) = ⊥
Reads reading before (row ∷ rows) [] = ⊥
Reads reading before (row ∷ rows) (entry ∷ entries) = (reading before row ≡ Ok entry) × Reads reading (before ++ entry ∷ []) rows entries

-- Rows after others.
pub reads-append : {Entry Kind : Type 0} (reading : Reading Entry Kind) (before : List Entry) (rows : List Row) (entries : List Entry) (more : List Row) (others : List Entry)
    → Reads reading before rows entries → Reads reading (before ++ entries) more others → Reads reading before (rows ++ more) (entries ++ others)
reads-append reading before [] [] more others h k = subst (λ b. Reads reading b more others) (append-nil before) k
reads-append reading before [] (entry ∷ entries) more others h k = absurd h
reads-append reading before (row ∷ rows) [] more others h k = absurd h
reads-append reading before (row ∷ rows) (entry ∷ entries) more others h k =
    (h.0, reads-append reading (before ++ entry ∷ []) rows entries more others h.1 (subst (λ b. Reads reading b more others) (sym (append_assoc before (entry ∷ []) entries)) k))

-- one number more
pub flat-more : {X : Type 0} (f : ℕ → List X) (a : ℕ) → flat_map f (range_with_len 0 (a + 1)) ≡ flat_map f (range_with_len 0 a) ++ f a
flat-more {X} f a =
    let zero-before : 0 + a ≡ a = omega arith in
    ap (λ (n : ℕ). flat_map f (range_with_len 0 n)) (add-one a) ∙ ap (flat_map f) (range_next 0 a) ∙ flat_map-append f (range_with_len 0 a) ((0 + a) ∷ [])
    ∙ ap (λ (l : List X). flat_map f (range_with_len 0 a) ++ l) (append-nil (f (0 + a))) ∙ ap (λ (k : ℕ). flat_map f (range_with_len 0 a) ++ f k) zero-before

-- The rows of a range, where the rows of each number give its entries after those of the numbers before it.
pub reads-range : {Entry Kind : Type 0} (reading : Reading Entry Kind) (rows : ℕ → List Row) (entries : ℕ → List Entry) (a k : ℕ) (before : List Entry)
    → ((i : ℕ) → i < a + k → Reads reading (flat_map entries (range_with_len 0 i)) (rows i) (entries i)) → before ≡ flat_map entries (range_with_len 0 a)
    → Reads reading before (flat_map rows (range_with_len a k)) (flat_map entries (range_with_len a k))
reads-range reading rows entries a zero before each e = tt
reads-range {Entry} reading rows entries a (suc k) before each e =
    reads-append reading before (rows a) (entries a) (flat_map rows (range_with_len (a + 1) k)) (flat_map entries (range_with_len (a + 1) k))
    (subst (λ b. Reads reading b (rows a) (entries a)) (sym e) (each a (omega arith)))
    (reads-range reading rows entries (a + 1) k (before ++ entries a) (λ i less. each i (omega (arith, less))) (ap (λ (b : List Entry). b ++ entries a) e ∙ sym (flat-more entries a)))

reads-on : {Entry Kind : Type 0} (reading : Reading Entry Kind) (number : ℕ) (before : List Entry) (rows : List Row) (entries : List Entry) → Reads reading before rows entries
    → entries_from reading number before rows ≡ Ok (before ++ entries)
reads-on reading number before [] [] h = ap Ok (sym (append-nil before))
reads-on reading number before [] (entry ∷ entries) h = absurd h
reads-on reading number before (row ∷ rows) [] h = absurd h
reads-on {Entry} {Kind} reading number before (row ∷ rows) (entry ∷ entries) h =
    ap (λ (r : Result Entry Kind). then_read number r (λ e. entries_from reading (number + 1) (before ++ e ∷ []) rows)) h.0
    ∙ reads-on reading (number + 1) (before ++ entry ∷ []) rows entries h.1 ∙ ap Ok (append_assoc before (entry ∷ []) entries)

-- A table whose rows give these entries has them.
pub reads-table : {Entry Kind : Type 0} (bad : Kind) (names : Row) (reading : Reading Entry Kind) (header : Row) (rows : List Row) (entries : List Entry)
    → same_fields header names ≡ true → Reads reading [] rows entries → table_of bad names reading (header ∷ rows) ≡ Ok entries
reads-table bad names reading header rows entries same h = cond-true (same_fields header names) _ _ same ∙ reads-on reading 2 [] rows entries h

-- ---- what is found

-- What is found among two lists.
pub first-append : {X V : Type 0} (test : X → Bool) (value : X → V) (xs ys : List X) → first_of test value (xs ++ ys) ≡ or_else (first_of test value xs) (first_of test value ys)
first-append test value [] ys = refl
first-append {X} {V} test value (x ∷ xs) ys = by (test x) (first-append test value xs ys)
  where
    by : (b : Bool) → first_of test value (xs ++ ys) ≡ or_else (first_of test value xs) (first_of test value ys)
        → (if b then Some (value x) else first_of test value (xs ++ ys)) ≡ or_else (if b then Some (value x) else first_of test value xs) (first_of test value ys)
    by true e = refl
    by false e = e

-- Nothing is found where nothing is found among those of any number.
pub none-found : {X V : Type 0} (test : X → Bool) (value : X → V) (f : ℕ → List X) (a k : ℕ) → ((i : ℕ) → a ≤ i → i < a + k → first_of test value (f i) ≡ None)
    → first_of test value (flat_map f (range_with_len a k)) ≡ None
none-found test value f a zero each = refl
none-found {X} {V} test value f a (suc k) each =
    first-append test value (f a) (flat_map f (range_with_len (a + 1) k))
    ∙ ap (λ (o : Option V). or_else o (first_of test value (flat_map f (range_with_len (a + 1) k)))) (each a (omega arith) (omega arith))
    ∙ none-found test value f (a + 1) k (λ i low high. each i (omega (arith, low)) (omega (arith, high)))

-- The first found is that of the first number that has one.
pub first-found : {X V : Type 0} (test : X → Bool) (value : X → V) (f : ℕ → List X) (a k j : ℕ) (v : V) → a ≤ j → j < a + k → ((i : ℕ) → a ≤ i → i < j → first_of test value (f i) ≡ None)
    → first_of test value (f j) ≡ Some v → first_of test value (flat_map f (range_with_len a k)) ≡ Some v
first-found test value f a zero j v low high before here = absurd (omega (arith, low, high))
first-found {X} {V} test value f a (suc k) j v low high before here =
    first-append test value (f a) rest ∙ elim (cases_eq a j) [
      | inl same ↦ ap (λ (o : Option V). or_else o (first_of test value rest)) (ap (λ (i : ℕ). first_of test value (f i)) same ∙ here)
      | inr other ↦
          let less : a < j = omega (arith, low, other) in
          ap (λ (o : Option V). or_else o (first_of test value rest)) (before a (omega arith) less)
          ∙ first-found test value f (a + 1) k j v (omega (arith, less)) (omega (arith, high)) (λ i l h. before i (omega (arith, l)) h) here
    ]
  where
    rest : List X
    rest = flat_map f (range_with_len (a + 1) k)

-- ---- texts

-- The rows of a range are rows of words.
pub words-range : (rows : ℕ → List Row) (a k : ℕ) → ((i : ℕ) → i < a + k → AreWordRows (rows i)) → AreWordRows (flat_map rows (range_with_len a k))
words-range rows a zero each = tt
words-range rows a (suc k) each = rows-append (rows a) (flat_map rows (range_with_len (a + 1) k)) (each a (omega arith)) (words-range rows (a + 1) k (λ i less. each i (omega (arith, less))))

-- The lines of a range are the text of its rows.
pub text-range : (line : ℕ → List ℕ) (rows : ℕ → List Row) (a k : ℕ) → ((i : ℕ) → line i ≡ text_of (rows i)) → flat_map line (range_with_len a k) ≡ text_of (flat_map rows (range_with_len a k))
text-range line rows a zero each = refl
text-range line rows a (suc k) each =
    ap (λ (l : List ℕ). l ++ flat_map line (range_with_len (a + 1) k)) (each a) ∙ ap (λ (l : List ℕ). text_of (rows a) ++ l) (text-range line rows (a + 1) k each)
    ∙ sym (text-append (rows a) (flat_map rows (range_with_len (a + 1) k)))
