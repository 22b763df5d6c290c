-- What a row that is put above the others is read as.
use Rattle.std.proofs.Common.{◌≡◌, ◌<◌, ◌≤◌, ◌+◌, inl, inr, ℕ, ℤ, pos, negsuc, ◌+ℤ◌, List, [], ◌∷◌, ◌++◌, fold, true, false, nat_lt, Option, Some, None, option_map, refl, sym, ap, ap₂, subst, ◌∙◌, arith, Ordering, Less, Equal, Greater, true≢false}
use Rattle.std.specs.Ordering.{match_ordering}
use Rattle.std.specs.List.{AllByRecursion}
use Rattle.std.proofs.lemmas.Bool.{cases_Bool, ltb-true, lt-ltb}
use Rattle.std.proofs.lemmas.Int.{ints}
use Rattle.sqlite.specs.declared.types.Value.{Value}
use Rattle.sqlite.specs.declared.types.Value.TheVariants.{Null, Int, Real, Text, Blob}
use Rattle.sqlite.specs.Order.{Row, value_cmp}
use Rattle.sqlite.specs.Tree.{rowid, put_row, IsAscending}
use Rattle.sqlite.specs.Edit.{id_in, is_taken}
use Rattle.sqlite_value.proofs.OrderLemmas.{value_cmp-Int}
use Rattle.sqlite_keyed.proofs.KeyedLemmas.{Less-from_lt}
use Rattle.sqlite_keyed.proofs.ListLemmas.{all_weaker}
use Rattle.stored_tables.specs.Rows.{after_of, first_of, row_from, rows_from}

-- a value that is numbered from some number on is that number
pub is_number : (least : ℕ) (v : Value) → nat_lt least (after_of v) ≡ true → (n : ℕ) × (v ≡ Int (pos n)) × (after_of v ≡ n + 1) × (least ≤ n)
is_number least Null h = absurd (omega (arith, ltb-true least 0 h))
is_number least (Int (pos n)) h = (n, refl, refl, omega (arith, ltb-true least (n + 1) h))
is_number least (Int (negsuc n)) h = absurd (omega (arith, ltb-true least 0 h))
is_number least (Real x) h = absurd (omega (arith, ltb-true least 0 h))
is_number least (Text t) h = absurd (omega (arith, ltb-true least 0 h))
is_number least (Blob b) h = absurd (omega (arith, ltb-true least 0 h))

-- the parts of a list that is read
pub parts_of : {A : Type 0} (first : Option A) (rest : Option (List A)) (all : List A) → first_of first rest ≡ Some all → (a : A) × (more : List A) × (first ≡ Some a) × (rest ≡ Some more) × (all ≡ a ∷ more)
parts_of None rest all h = absurd (let e = h in cc)
parts_of (Some a) None all h = absurd (let e = h in cc)
parts_of (Some a) (Some more) all h = (a, more, refl, refl, let e = h in cc)

abbrev pub after : ℤ → Row → ℤ
after _ row = id_in (rowid row) +ℤ pos 1

pub cmp_below : (m n : ℕ) → m < n → value_cmp (Int (pos m)) (Int (pos n)) ≡ Less
cmp_below m n h = value_cmp-Int (pos m) (pos n) ∙ Less-from_lt (pos m) (pos n) (omega (arith, ints, h))

module _ {R : Type 0} (of : Row → Option R) where
  pub some_from : (least : ℕ) (row : Row) (r : R) → row_from of least row ≡ Some r → (nat_lt least (after_of (rowid row)) ≡ true) × (of row ≡ Some r)
  some_from least row r h = elim (cases_Bool (nat_lt least (after_of (rowid row)))) [
    | inl above ↦ (above, rw above at h)
    | inr below ↦ absurd (let e = rw below at h in cc)
  ]

  -- a record with this number
  pub record IsNumbered (new : Row) (r : R) (n : ℕ) : Type 0 where
    pub id : rowid new ≡ Int (pos n)
    pub is : of new ≡ Some r

  pub from_numbered : (new : Row) (r : R) (n least : ℕ) → IsNumbered new r n → least ≤ n → row_from of least new ≡ Some r
  from_numbered new r n least it low =
      let high : nat_lt least (after_of (rowid new)) ≡ true = ap (λ v. nat_lt least (after_of v)) it.id ∙ lt-ltb least (n + 1) (omega (arith, low)) in
      rw high it.is

  -- the first row of rows that are read, and the others
  pub record Begins (least : ℕ) (row : Row) (rows : List Row) (all : List R) : Type 0 where
    pub first : R
    pub more : List R
    pub is : of row ≡ Some first
    pub n : ℕ
    pub id : rowid row ≡ Int (pos n)
    pub low : least ≤ n
    pub from : row_from of least row ≡ Some first
    pub after_is : after_of (rowid row) ≡ n + 1
    pub rest : rows_from of (after_of (rowid row)) rows ≡ Some more
    pub whole : all ≡ first ∷ more

  pub begins : (least : ℕ) (row : Row) (rows : List Row) (all : List R) → rows_from of least (row ∷ rows) ≡ Some all → Begins least row rows all
  begins least row rows all told =
      let p = parts_of (row_from of least row) (rows_from of (after_of (rowid row)) rows) all told in
      let at = some_from least row p.0 p.2 in
      let it = is_number least (rowid row) at.0 in
      record { first = p.0; more = p.1; is = at.1; n = it.0; id = it.1; low = it.3; from = p.2; after_is = it.2; rest = p.3; whole = p.4 }

  moved : (row : Row) (rows : List Row) (n : ℕ) (top : ℤ) → rowid row ≡ Int (pos n) → after_of (rowid row) ≡ n + 1 → fold after (id_in (rowid row) +ℤ pos 1) rows ≡ top → fold after (pos (after_of (rowid row))) rows ≡ top
  moved row rows n top id next is = ap (λ (m : ℕ). fold after (pos m) rows) next ∙ (ap (λ v. fold after (id_in v +ℤ pos 1) rows) (sym id) ∙ is)

  -- the number after the last is above each
  pub tops : (rows : List Row) (least top : ℕ) (all : List R) → rows_from of least rows ≡ Some all → fold after (pos least) rows ≡ pos top → least ≤ top
  tops [] least top all told is = let e : least ≡ top = (let f = is in cc) in omega (arith, e)
  tops (row ∷ rows) least top all told is =
      let b = begins least row rows all told in
      let high = tops rows (after_of (rowid row)) top b.more b.rest (moved row rows b.n (pos top) b.id b.after_is is) in
      omega (arith, b.low, b.after_is, high)

  -- the number after the last of rows that are read
  pub top_of : (rows : List Row) (least : ℕ) (all : List R) → rows_from of least rows ≡ Some all → (top : ℕ) × (fold after (pos least) rows ≡ pos top)
  top_of [] least all told = (least, refl)
  top_of (row ∷ rows) least all told =
      let b = begins least row rows all told in
      let more = top_of rows (after_of (rowid row)) b.more b.rest in
      (more.0, ap (λ v. fold after (id_in v +ℤ pos 1) rows) b.id ∙ (ap (λ (m : ℕ). fold after (pos m) rows) (sym b.after_is) ∙ more.1))

  -- a row with this number or a higher one is read after the others
  pub told_next : (new : Row) (r : R) (rows : List Row) (least top n : ℕ) (all : List R) → rows_from of least rows ≡ Some all → fold after (pos least) rows ≡ pos top → top ≤ n
      → IsNumbered new r n → rows_from of least (put_row new rows) ≡ Some (all ++ r ∷ [])
  told_next new r [] least top n all told is high next =
      let none : [] ≡ all = (let e = told in cc) in
      let same : least ≡ top = (let f = is in cc) in
      ap (λ o. first_of o (Some [])) (from_numbered new r n least next (omega (arith, same, high))) ∙ ap (λ l. Some (l ++ r ∷ [])) none
  told_next new r (row ∷ rows) least top n all told is high next =
      let b = begins least row rows all told in
      let there = moved row rows b.n (pos top) b.id b.after_is is in
      let below = tops rows (after_of (rowid row)) top b.more b.rest there in
      let less : value_cmp (rowid row) (rowid new) ≡ Less = ap₂ value_cmp b.id next.id ∙ cmp_below b.n n (omega (arith, below, high, b.after_is)) in
      let more = told_next new r rows (after_of (rowid row)) top n b.more b.rest there high next in
      let put : put_row new (row ∷ rows) ≡ row ∷ put_row new rows = rw less in
      ap (rows_from of least) put ∙ (ap₂ first_of b.from more ∙ ap (λ l. Some (l ++ r ∷ [])) (sym b.whole))

  -- rows that are read with one that was put were read before
  pub told_before : (new : Row) (rows : List Row) (least : ℕ) (all : List R) → is_taken rows new ≡ false → rows_from of least (put_row new rows) ≡ Some all
      → (before : List R) × (rows_from of least rows ≡ Some before)
  told_before new [] least all fresh told = ([], refl)
  told_before new (row ∷ rows) least all fresh told = go (value_cmp (rowid row) (rowid new)) refl (told_before new rows (after_of (rowid row)))
    where
      go : (o : Ordering) → value_cmp (rowid row) (rowid new) ≡ o
          → ((all : List R) → is_taken rows new ≡ false → rows_from of (after_of (rowid row)) (put_row new rows) ≡ Some all → (before : List R) × (rows_from of (after_of (rowid row)) rows ≡ Some before))
          → (before : List R) × (rows_from of least (row ∷ rows) ≡ Some before)
      go Less e again =
          let stays : rows_from of least (row ∷ put_row new rows) ≡ Some all =
          subst (λ (o : Ordering). rows_from of least (match_ordering o (row ∷ put_row new rows) (new ∷ rows) (new ∷ row ∷ rows)) ≡ Some all) e told in
          let left : is_taken rows new ≡ false = rw e at fresh in
          let b = begins least row (put_row new rows) all stays in
          let more = again b.more left b.rest in
          (b.first ∷ more.0, ap₂ first_of b.from more.1)
      go Equal e again = absurd (true≢false (rw e at fresh))
      go Greater e again =
          let stays : rows_from of least (new ∷ row ∷ rows) ≡ Some all =
          subst (λ (o : Ordering). rows_from of least (match_ordering o (row ∷ put_row new rows) (new ∷ rows) (new ∷ row ∷ rows)) ≡ Some all) e told in
          let b = begins least new (row ∷ rows) all stays in
          let c = begins (after_of (rowid new)) row rows b.more b.rest in
          let first : row_from of least row ≡ Some c.first = from_numbered row c.first c.n least (record { id = c.id; is = c.is }) (omega (arith, b.low, b.after_is, c.low)) in
          (c.first ∷ c.more, ap₂ first_of first c.rest)

  -- what is read with a row above the others is what was read, and the row
  pub told_exactly : (new : Row) (r : R) (rows : List Row) (least : ℕ) → ((top : ℕ) → fold after (pos least) rows ≡ pos top → (n : ℕ) × (top ≤ n) × IsNumbered new r n) → is_taken rows new ≡ false
      → rows_from of least (put_row new rows) ≡ option_map (λ all. all ++ r ∷ []) (rows_from of least rows)
  told_exactly new r rows least next fresh = go (rows_from of least rows) refl
    where
      none : (o : Option (List R)) → rows_from of least (put_row new rows) ≡ o → rows_from of least rows ≡ None → o ≡ None
      none None is was = refl
      none (Some all) is was = absurd (let e = sym was ∙ (told_before new rows least all fresh is).1 in cc)

      go : (o : Option (List R)) → rows_from of least rows ≡ o → rows_from of least (put_row new rows) ≡ option_map (λ all. all ++ r ∷ []) o
      go None was = none _ refl was
      go (Some all) was = let top = top_of rows least all was in let it = next top.0 top.1 in told_next new r rows least top.0 it.0 all was top.1 it.1 it.2

  -- the numbers of rows that are read rise
  pub rising : (rows : List Row) (least : ℕ) (all : List R) → rows_from of least rows ≡ Some all
      → AllByRecursion (λ row. (n : ℕ) × (rowid row ≡ Int (pos n)) × (least ≤ n)) rows × IsAscending (λ a b. value_cmp (rowid a) (rowid b) ≡ Less) rows
  rising [] least all told = (tt, tt)
  rising (row ∷ rows) least all told =
      let b = begins least row rows all told in
      let more = rising rows (after_of (rowid row)) b.more b.rest in
      let above : AllByRecursion (λ r. value_cmp (rowid row) (rowid r) ≡ Less) rows =
      all_weaker _ _ (λ r h. ap₂ value_cmp b.id h.1 ∙ cmp_below b.n h.0 (omega (arith, b.after_is, h.2))) rows more.0 in
      let from = all_weaker _ _ (λ r h. (h.0, h.1, omega (arith, b.low, b.after_is, h.2))) rows more.0 in
      (((b.n, b.id, b.low), from), (above, more.1))

  -- the number after the last, once the row with the number after the last was put
  pub top_next : (new : Row) (n : ℕ) (rows : List Row) (least : ℕ) (all : List R) → rows_from of least rows ≡ Some all → fold after (pos least) rows ≡ pos n → rowid new ≡ Int (pos n)
      → fold after (pos least) (put_row new rows) ≡ pos (n + 1)
  top_next new n [] least all told is id = ap (λ v. id_in v +ℤ pos 1) id
  top_next new n (row ∷ rows) least all told is id =
      let b = begins least row rows all told in
      let there = moved row rows b.n (pos n) b.id b.after_is is in
      let below = tops rows (after_of (rowid row)) n b.more b.rest there in
      let less : value_cmp (rowid row) (rowid new) ≡ Less = ap₂ value_cmp b.id id ∙ cmp_below b.n n (omega (arith, below, b.after_is)) in
      let put : put_row new (row ∷ rows) ≡ row ∷ put_row new rows = rw less in
      let more = top_next new n rows (after_of (rowid row)) b.more b.rest there id in
      ap (fold after (pos least)) put ∙ (ap (λ v. fold after (id_in v +ℤ pos 1) (put_row new rows)) b.id ∙ (ap (λ (m : ℕ). fold after (pos m) (put_row new rows)) (sym b.after_is) ∙ more))
