-- Which rows can follow, and that so many can exactly where some text completes them.
use Rattle.std.proofs.Common.{◌≡◌, ◌<◌, ◌≤◌, ◌+◌, ◌^◌, inl, inr, ℕ, zero, suc, eqb, List, [], ◌∷◌, ◌++◌, Some, is_some, length, map, refl, sym, ap, subst, ◌∙◌, arith, append_assoc, eq-eqb}
use Rattle.std.proofs.lemmas.Bool.{cond-true, cond-false, ne_eqb, cases_eq, false≢true}
use Rattle.std.specs.List.{flat_map}
use Rattle.std.specs.Option.{unwrap_or}
use Rattle.kept_rows.specs.declared.rows.AllotRow.{AllotRow}
use Rattle.office_base.specs.Lists.{IsSublist}
use Rattle.office_base.specs.declared.person.Person.{Person}
use Rattle.office_base.specs.declared.seat.SeatKind.TheVariants.{Kept}
use Rattle.seat_matrix.specs.Matrix.{SeatTable}
use Rattle.text_readers.specs.Parts.{AreSmall}
use Rattle.text_readers.proofs.PartsLemmas.{heads, tails}
use Rattle.publish.specs.Rows.{AreRows, CanGoOn, IsTail, ending, people_after, row_line, row_words, tail_text, word}
use Rattle.publish.specs.declared.sort.Sort.{Sort}

-- the ids of people
abbrev pub ids : List Person → List ℕ
ids people = map (λ person. person.id.0) people

-- the candidates of rows
abbrev pub cands : List AllotRow → List ℕ
cands rows = map (λ row. row.cand.0) rows

-- ---- lists within lists

pub sub-nothing : (ys : List ℕ) → IsSublist [] ys
sub-nothing [] = refl
sub-nothing (y ∷ ys) = inl (sub-nothing ys)

-- without its first, it is still one
pub sub-rest : (x : ℕ) (xs ys : List ℕ) → IsSublist (x ∷ xs) ys → IsSublist xs ys
sub-rest x xs [] e = absurd (omega (arith, ap length e))
sub-rest x xs (y ∷ ys) (inl later) = inl (sub-rest x xs ys later)
sub-rest x xs (y ∷ ys) (inr (rest, e, in')) = inl (subst (λ z. IsSublist z ys) (sym (tails x y xs rest e)) in')

-- it is no longer
pub sub-short : (xs ys : List ℕ) → IsSublist xs ys → length xs ≤ length ys
sub-short xs [] e = omega (arith, ap length e)
sub-short xs (y ∷ ys) (inl later) = omega (arith, sub-short xs ys later)
sub-short xs (y ∷ ys) (inr (rest, e, in')) = omega (arith, ap length e, sub-short rest ys in')

-- a candidate is found, and the later ones come after it
sub-after : (id : ℕ) (later : List ℕ) (people : List Person) → IsSublist (id ∷ later) (ids people)
    → (rest : List Person) × (people_after id people ≡ Some rest) × IsSublist later (ids rest)
sub-after id later [] e = absurd (omega (arith, ap length e))
sub-after id later (p ∷ people) (inl sub) = elim (cases_eq p.id.0 id) [
  | inl same ↦ (people, cond-true (eqb p.id.0 id) (Some people) (people_after id people) (eq-eqb p.id.0 id same), sub-rest id later (ids people) sub)
  | inr other ↦ let (rest, is, in') = sub-after id later people sub in (rest, cond-false (eqb p.id.0 id) (Some people) (people_after id people) (ne_eqb p.id.0 id other) ∙ is, in')
]
sub-after id later (p ∷ people) (inr (rest, e, in')) =
    let same : p.id.0 ≡ id = sym (heads id p.id.0 later rest e) in
    (people, cond-true (eqb p.id.0 id) (Some people) (people_after id people) (eq-eqb p.id.0 id same), subst (λ z. IsSublist z (ids people)) (sym (tails id p.id.0 later rest e)) in')

-- and back
sub-before : (id : ℕ) (later : List ℕ) (people rest : List Person) → people_after id people ≡ Some rest → IsSublist later (ids rest) → IsSublist (id ∷ later) (ids people)
sub-before id later [] rest e in' = absurd (false≢true (ap is_some e))
sub-before id later (p ∷ people) rest e in' = elim (cases_eq p.id.0 id) [
  | inl same ↦
      let found : people ≡ rest = ap (λ o. unwrap_or o people) (sym (cond-true (eqb p.id.0 id) (Some people) (people_after id people) (eq-eqb p.id.0 id same)) ∙ e) in
      inr (later, ap (λ z. z ∷ later) (sym same), subst (λ z. IsSublist later (ids z)) (sym found) in')
  | inr other ↦ inl (sub-before id later people rest (sym (cond-false (eqb p.id.0 id) (Some people) (people_after id people) (ne_eqb p.id.0 id other)) ∙ e) in')
]

-- a candidate's id is small, and so are those of the people after
pub sub-small : (id : ℕ) (later : List ℕ) (people : List Person) → AreSmall people → IsSublist (id ∷ later) (ids people) → id < 2 ^ 32
sub-small id later [] small e = absurd (omega (arith, ap length e))
sub-small id later (p ∷ people) small (inl sub) = sub-small id later people small.1 sub
sub-small id later (p ∷ people) small (inr (rest, e, in')) = omega (arith, small.0, heads id p.id.0 later rest e)

pub after-small : (id : ℕ) (people rest : List Person) → AreSmall people → people_after id people ≡ Some rest → AreSmall rest
after-small id [] rest small e = absurd (false≢true (ap is_some e))
after-small id (p ∷ people) rest small e = elim (cases_eq p.id.0 id) [
  | inl same ↦ subst AreSmall (ap (λ o. unwrap_or o people) (sym (cond-true (eqb p.id.0 id) (Some people) (people_after id people) (eq-eqb p.id.0 id same)) ∙ e)) small.1
  | inr other ↦ after-small id people rest small.1 (sym (cond-false (eqb p.id.0 id) (Some people) (people_after id people) (ne_eqb p.id.0 id other)) ∙ e)
]

-- ---- what can follow

pub ids-length : (people : List Person) → length (ids people) ≡ length people
ids-length [] = refl
ids-length (p ∷ people) = ap suc (ids-length people)

pub cands-length : (rows : List AllotRow) → length (cands rows) ≡ length rows
cands-length [] = refl
cands-length (row ∷ rows) = ap suc (cands-length rows)

-- the rows of the first people, all in the first programme
pub made : (table : SeatTable) (people : List Person) (number left : ℕ) → CanGoOn table people left → (rows : List AllotRow) × AreRows table people number rows × (length rows ≡ left)
made table people number zero can = ([], record { order = sub-nothing (ids people); known = tt }, refl)
made table [] number (suc n) can = absurd (omega (arith, can.few))
made table (p ∷ people) number (suc n) can =
    let some : 0 < length table.programmes = can.some (omega arith) in
    let (rows, are, count) = made table people number n (record { few = omega (arith, can.few); some = λ _. some }) in (
      record { round = number; cand = p.id; prog = record { 0 = 0 }; step = Kept } ∷ rows,
      record { order = inr (cands rows, refl, are.order); known = ((some, refl), are.known) },
      ap suc count,
    )

-- so some text completes them
pub can-tail : (sort : Sort) (table : SeatTable) (people : List Person) (number left : ℕ) → CanGoOn table people left → (text : List ℕ) × (rows : List AllotRow) × IsTail sort table people number left text rows
can-tail sort table people number left can =
    let (rows, are, count) = made table people number left can in
    (tail_text sort table rows, rows, record { are = are; count = count; same = refl })

-- and where a text does, they can follow
rows-few : (table : SeatTable) (people : List Person) (number : ℕ) (rows : List AllotRow) → AreRows table people number rows → length rows ≤ length people
rows-few table people number rows are = omega (arith, sub-short (cands rows) (ids people) are.order, ids-length people, cands-length rows)

rows-some : (table : SeatTable) (people : List Person) (number : ℕ) (rows : List AllotRow) → AreRows table people number rows → 0 < length rows → 0 < length table.programmes
rows-some table people number [] are some = absurd (omega (arith, some))
rows-some table people number (row ∷ rows) are some = omega (arith, are.known.0.0)

pub rows-can : (table : SeatTable) (people : List Person) (number left : ℕ) (rows : List AllotRow) → AreRows table people number rows → length rows ≡ left → CanGoOn table people left
rows-can table people number left rows are count = record {
  few = omega (arith, rows-few table people number rows are, count);
  some = λ above. rows-some table people number rows are (omega (arith, above, count));
}

-- ---- one row

-- The first row of what completes a text, and what completes it after that row.
pub record IsFirstRow (sort : Sort) (table : SeatTable) (people : List Person) (number n : ℕ) (text : List ℕ) (row : AllotRow) (later : List AllotRow) (next : List Person) : Type 0 where
  pub same : text ≡ row_words (word sort) table row.cand.0 row.prog.0 row.step ++ 10 ∷ tail_text sort table later
  pub within : row.prog.0 < length table.programmes
  pub small : row.cand.0 < 2 ^ 32
  pub after : people_after row.cand.0 people ≡ Some next
  pub tail : IsTail sort table next number n (tail_text sort table later) later

-- the text of rows is that of the first, and of the later ones
pub tail-more : (sort : Sort) (table : SeatTable) (row : AllotRow) (later : List AllotRow)
    → tail_text sort table (row ∷ later) ≡ row_words (word sort) table row.cand.0 row.prog.0 row.step ++ 10 ∷ tail_text sort table later
tail-more sort table row later =
    let words = row_words (word sort) table row.cand.0 row.prog.0 row.step in
    let lines = flat_map (row_line sort table) later in
    let last = ending sort ++ 10 ∷ [] in
    ap (λ z. z ++ last) (append_assoc words (10 ∷ []) lines) ∙ append_assoc words (10 ∷ lines) last

pub first-row : (sort : Sort) (table : SeatTable) (people : List Person) (number left n : ℕ) (text : List ℕ) (rows : List AllotRow) → AreSmall people → left ≡ n + 1
    → IsTail sort table people number left text rows → (row : AllotRow) × (later : List AllotRow) × (next : List Person) × IsFirstRow sort table people number n text row later next
first-row sort table people number left n text [] small e tail = absurd (omega (arith, e, tail.count))
first-row sort table people number left n text (row ∷ later) small e tail =
    let (next, after, order) = sub-after row.cand.0 (cands later) people tail.are.order in (
      row,
      later,
      next,
      record {
        same = tail.same ∙ tail-more sort table row later;
        within = tail.are.known.0.0;
        small = sub-small row.cand.0 (cands later) people small tail.are.order;
        after = after;
        tail = record { are = record { order = order; known = tail.are.known.1 }; count = omega (arith, e, tail.count); same = refl };
      },
    )

-- and back
pub row-before : (sort : Sort) (table : SeatTable) (people next : List Person) (number left n : ℕ) (more : List ℕ) (row : AllotRow) (later : List AllotRow)
    → left ≡ n + 1 → row.prog.0 < length table.programmes → row.round ≡ number → people_after row.cand.0 people ≡ Some next → IsTail sort table next number n more later
    → IsTail sort table people number left (row_words (word sort) table row.cand.0 row.prog.0 row.step ++ 10 ∷ more) (row ∷ later)
row-before sort table people next number left n more row later e within round after tail = record {
  are = record { order = sub-before row.cand.0 (cands later) people next after tail.are.order; known = ((within, round), tail.are.known) };
  count = omega (arith, e, tail.count);
  same = ap (λ z. row_words (word sort) table row.cand.0 row.prog.0 row.step ++ 10 ∷ z) tail.same ∙ sym (tail-more sort table row later);
}

-- after a candidate there are no more people
pub after-short : (id : ℕ) (people rest : List Person) → people_after id people ≡ Some rest → length rest ≤ length people
after-short id [] rest e = absurd (false≢true (ap is_some e))
after-short id (p ∷ people) rest e = elim (cases_eq p.id.0 id) [
  | inl same ↦ omega (arith, ap length (ap (λ o. unwrap_or o people) (sym (cond-true (eqb p.id.0 id) (Some people) (people_after id people) (eq-eqb p.id.0 id same)) ∙ e)))
  | inr other ↦ omega (arith, after-short id people rest (sym (cond-false (eqb p.id.0 id) (Some people) (people_after id people) (ne_eqb p.id.0 id other)) ∙ e))
]
