-- Published seats that rise by round and candidate, and the rows from which they are read.
use Rattle.std.proofs.Common.{◌≡◌, ◌<◌, ◌⊎◌, inl, inr, ℕ, pos, List, [], ◌∷◌, ◌++◌, reverse, Bool, true, false, ◌==◌, ◌&&◌, nat_lt, Some, option_map, refl, sym, ap, ap₂, subst, ◌∙◌, arith, Less, Equal, true≢false}
use Rattle.std.specs.List.{AllByRecursion}
use Rattle.std.specs.Ordering.{ordering_then}
use Rattle.std.proofs.lemmas.Bool.{cases_Bool, ltb-true, eqb-true, and_parts}
use Rattle.std.proofs.lemmas.Cmp.{tied_itself}
use Rattle.std.proofs.lemmas.List.{reverse-append}
use Rattle.sqlite.specs.declared.types.Value.TheVariants.{Int}
use Rattle.sqlite.specs.Order.{Row, column, value_cmp}
use Rattle.sqlite.specs.Tree.{IsAscending}
use Rattle.sqlite_value.proofs.OrderLemmas.{value_cmp_total}
use Rattle.office_base.proofs.Lists.{all_push}
use Rattle.kept_rows.specs.declared.rows.AllotRow.{AllotRow}
use Rattle.stored_tables.specs.Rising.{comes_after, rise_after, are_rising}
use Rattle.stored_tables.specs.Rows.{allot_of, rows_from, rising_alone}
use Rattle.stored_tables.proofs.RowLemmas.{begins, cmp_below}
use Rattle.stored_tables.proofs.StandLemmas.{allot_stands}

-- the pair comes after the other
abbrev After : ℕ → ℕ → AllotRow → Type 0
After round cand row = (round < row.round) ⊎ ((round ≡ row.round) × (cand < row.cand.0))

after_means : (round cand : ℕ) (row : AllotRow) → comes_after round cand row ≡ true → After round cand row
after_means round cand row h = elim (cases_Bool (nat_lt round row.round)) [
  | inl low ↦ inl (ltb-true round row.round low)
  | inr high ↦ (let p = and_parts (round == row.round) (nat_lt cand row.cand.0) (rw high at h) in inr (eqb-true round row.round p.0, ltb-true cand row.cand.0 p.1))
]

after_then : (round cand : ℕ) (a b : AllotRow) → After round cand a → After a.round a.cand.0 b → After round cand b
after_then round cand a b (inl p) (inl q) = inl (omega (arith, p, q))
after_then round cand a b (inl p) (inr q) = inl (omega (arith, p, q.0))
after_then round cand a b (inr p) (inl q) = inl (omega (arith, p.0, q))
after_then round cand a b (inr p) (inr q) = inr (omega (arith, p.0, q.0), omega (arith, p.1, q.1))

-- each of rows that rise comes after what they rise from
rise_all : (round cand : ℕ) (all : List AllotRow) → rise_after round cand all ≡ true → AllByRecursion (After round cand) all
rise_all round cand [] h = tt
rise_all round cand (a ∷ all) h =
    let p = and_parts (comes_after round cand a) (rise_after a.round a.cand.0 all) h in
    let first = after_means round cand a p.0 in
    (first, weaker first all (rise_all a.round a.cand.0 all p.1))
  where
    weaker : After round cand a → (more : List AllotRow) → AllByRecursion (After a.round a.cand.0) more → AllByRecursion (After round cand) more
    weaker first [] h = tt
    weaker first (b ∷ more) h = (after_then round cand a b first h.0, weaker first more h.1)

-- ---- the order of the rows

-- the key of the first row is lower
abbrev pub KeyLess : Row → Row → Type 0
KeyLess x y = ordering_then (value_cmp (column x 1) (column y 1)) (ordering_then (value_cmp (column x 2) (column y 2)) Equal) ≡ Less

key_less : (x y : Row) (a b : AllotRow) → allot_of x ≡ Some a → allot_of y ≡ Some b → After a.round a.cand.0 b → KeyLess x y
key_less x y a b p q (inl low) =
    let one = (allot_stands x a p).round.1 in
    let two = (allot_stands y b q).round.1 in
    ap (λ o. ordering_then o (ordering_then (value_cmp (column x 2) (column y 2)) Equal)) (ap₂ value_cmp one two ∙ cmp_below a.round b.round low)
key_less x y a b p q (inr same) =
    let s = allot_stands x a p in
    let t = allot_stands y b q in
    let tied : value_cmp (column x 1) (column y 1) ≡ Equal = ap₂ value_cmp s.round.1 (t.round.1 ∙ ap (λ (n : ℕ). Int (pos n)) (sym same.0)) ∙ tied_itself value_cmp_total (Int (pos a.round)) in
    ap₂ (λ o p. ordering_then o (ordering_then p Equal)) tied (ap₂ value_cmp s.cand.1 t.cand.1 ∙ cmp_below a.cand.0 b.cand.0 same.1)

all_less : (x : Row) (a : AllotRow) → allot_of x ≡ Some a → (rows : List Row) (least : ℕ) (all : List AllotRow) → rows_from allot_of least rows ≡ Some all → AllByRecursion (After a.round a.cand.0) all → AllByRecursion (KeyLess x) rows
all_less x a is [] least all told h = tt
all_less x a is (row ∷ rows) least all told h =
    let b = begins allot_of least row rows all told in
    let p : AllByRecursion (After a.round a.cand.0) (b.first ∷ b.more) = subst (AllByRecursion (After a.round a.cand.0)) b.whole h in
    (key_less x row a b.first is b.is p.0, all_less x a is rows _ b.more b.rest p.1)

pub keys_rise : (rows : List Row) (least : ℕ) (all : List AllotRow) → rows_from allot_of least rows ≡ Some all → are_rising all ≡ true → IsAscending KeyLess rows
keys_rise [] least all told h = tt
keys_rise (row ∷ rows) least all told h =
    let b = begins allot_of least row rows all told in
    let p : are_rising (b.first ∷ b.more) ≡ true = subst (λ l. are_rising l ≡ true) b.whole h in
    (all_less row b.first b.is rows _ b.more b.rest (rise_all b.first.round b.first.cand.0 b.more p), keys_rise rows _ b.more b.rest (rising_more b.first.round b.first.cand.0 b.more p))
  where
    rising_more : (round cand : ℕ) (more : List AllotRow) → rise_after round cand more ≡ true → are_rising more ≡ true
    rising_more round cand [] h = refl
    rising_more round cand (a ∷ more) h = (and_parts (comes_after round cand a) (rise_after a.round a.cand.0 more) h).1

-- ---- the last of them

abbrev pub last_row : Row → List Row → Row
last_row x [] = x
last_row x (y ∷ ys) = last_row y ys

abbrev pub last_of : AllotRow → List AllotRow → AllotRow
last_of a [] = a
last_of a (b ∷ bs) = last_of b bs

pub reverse_first : (x : Row) (xs : List Row) → (more : List Row) × (reverse (x ∷ xs) ≡ last_row x xs ∷ more)
reverse_first x [] = ([], refl)
reverse_first x (y ∷ ys) = let p = reverse_first y ys in (p.0 ++ x ∷ [], reverse-append (x ∷ []) (y ∷ ys) ∙ ap (λ l. l ++ x ∷ []) p.1)

ascending_push : {X : Type 0} (R : X → X → Type 0) (xs : List X) (x : X) → IsAscending R xs → AllByRecursion (λ y. R y x) xs → IsAscending R (xs ++ x ∷ [])
ascending_push R [] x up all = (tt, tt)
ascending_push R (y ∷ ys) x up all = (all_push (R y) ys x up.0 all.0, ascending_push R ys x up.1 all.1)

turned : {X : Type 0} (x : X) (xs : List X) → reverse (x ∷ xs) ≡ reverse xs ++ x ∷ []
turned x xs = reverse-append (x ∷ []) xs

all_reverse : {X : Type 0} (P : X → Type 0) (xs : List X) → AllByRecursion P xs → AllByRecursion P (reverse xs)
all_reverse P [] all = tt
all_reverse P (x ∷ xs) all = subst (AllByRecursion P) (sym (turned x xs)) (all_push P (reverse xs) x (all_reverse P xs all.1) all.0)

pub ascending_reverse : {X : Type 0} (R : X → X → Type 0) (xs : List X) → IsAscending R xs → IsAscending (λ a b. R b a) (reverse xs)
ascending_reverse R [] up = tt
ascending_reverse R (x ∷ xs) up = subst (IsAscending (λ a b. R b a)) (sym (turned x xs)) (ascending_push (λ a b. R b a) (reverse xs) x (ascending_reverse R xs up.1) (all_reverse (R x) xs up.0))

pub last_stands : (x : Row) (a : AllotRow) (xs : List Row) (least : ℕ) (ones : List AllotRow) → allot_of x ≡ Some a → rows_from allot_of least xs ≡ Some ones → allot_of (last_row x xs) ≡ Some (last_of a ones)
last_stands x a [] least ones is told = is ∙ ap (λ l. Some (last_of a l)) (let none : [] ≡ ones = (let e = told in cc) in none)
last_stands x a (y ∷ ys) least ones is told =
    let b = begins allot_of least y ys ones told in
    last_stands y b.first ys _ b.more b.is b.rest ∙ ap (λ l. Some (last_of a l)) (sym b.whole)

-- rows that rise above the last of those that rise make them longer
pub rise_on : (a : AllotRow) (ones rows : List AllotRow) → are_rising (a ∷ ones) ≡ true → rise_after (last_of a ones).round (last_of a ones).cand.0 rows ≡ true → are_rising ((a ∷ ones) ++ rows) ≡ true
rise_on a [] rows h more = more
rise_on a (b ∷ bs) rows h more =
    let p = and_parts (comes_after a.round a.cand.0 b) (rise_after b.round b.cand.0 bs) h in
    ap₂ ◌&&◌ p.0 (rise_on b bs rows p.1 more)

-- and rows that rise rise up to each of them
pub rise_before : (round cand : ℕ) (ones rows : List AllotRow) → rise_after round cand (ones ++ rows) ≡ true → rise_after round cand ones ≡ true
rise_before round cand [] rows h = refl
rise_before round cand (a ∷ ones) rows h =
    let p = and_parts (comes_after round cand a) (rise_after a.round a.cand.0 (ones ++ rows)) h in
    ap₂ ◌&&◌ p.0 (rise_before a.round a.cand.0 ones rows p.1)

abbrev pub more_rise : List AllotRow → List AllotRow → Type 0
more_rise [] rows = are_rising rows ≡ true
more_rise (a ∷ ones) rows = rise_after (last_of a ones).round (last_of a ones).cand.0 rows ≡ true

-- the seats that are read with some put after them are those that were read before, and these
pub rising_exactly : (all rows : List AllotRow) → (are_rising all ≡ true → more_rise all rows) → rising_alone (all ++ rows) ≡ option_map (λ some. some ++ rows) (rising_alone all)
rising_exactly [] rows h = rw (h refl)
rising_exactly (a ∷ ones) rows h = elim (cases_Bool (are_rising (a ∷ ones))) [
  | inl rise ↦ (let e = rise_on a ones rows rise (h rise) in rw (rise, e))
  | inr not ↦ (let e = falls (are_rising ((a ∷ ones) ++ rows)) refl not in rw (not, e))
]
  where
    falls : (b : Bool) → are_rising ((a ∷ ones) ++ rows) ≡ b → are_rising (a ∷ ones) ≡ false → are_rising ((a ∷ ones) ++ rows) ≡ false
    falls true is not = absurd (true≢false (sym (rise_before a.round a.cand.0 ones rows is) ∙ not))
    falls false is not = is
