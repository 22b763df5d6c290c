-- What is published is read back as it was written.
use Rattle.std.proofs.Common.{◌≡◌, ◌<◌, ◌^◌, ℕ, List, [], ◌∷◌, ◌++◌, Option, Some, None, length, map, refl, sym, inl, inr, ap, subst, ◌∙◌, arith}
use Rattle.std.specs.Fmt.{decimal}
use Rattle.std.specs.List.{AllByRecursion, flat_map}
use Rattle.std.specs.Prelude.{codes}
use Rattle.kept_rows.specs.declared.rows.AllotRow.{AllotRow}
use Rattle.office_base.specs.Lists.{IsSublist}
use Rattle.office_base.specs.declared.seat.Seat.{Seat}
use Rattle.office_base.specs.declared.person.Person.{Person}
use Rattle.office_base.specs.declared.seat.SeatKind.{SeatKind}
use Rattle.office_text.proofs.NamesLemmas.{one_kind_name}
use Rattle.published_texts.specs.Texts.{AreSeatsOf, allot_line, allot_lines, code_in, round_head}
use Rattle.rounds.specs.Round.{seated}
use Rattle.seat_matrix.specs.Matrix.{SeatTable}
use Rattle.step_lines.specs.Lines.{seat_kind_name}
use Rattle.text_readers.specs.Parts.{AreSmall}
use Rattle.text_readers.proofs.KnownLemmas.{code-clear, code-one}
use Rattle.text_readers.proofs.NumberLemmas.{digits-clear}
use Rattle.text_readers.proofs.PartsLemmas.{cut-one}
use Rattle.publish.specs.Laws.{AreDistinct, FinalsAreOne, FinalsAreRead, RoundsAreOne, RoundsAreRead, rows_of}
use Rattle.publish.specs.Rows.{AreRows, IsRow, IsRowsText, allot_row_line, head_words, row_words, tail_text, word}
use Rattle.publish.specs.declared.sort.Sort.{Sort}
use Rattle.publish.specs.declared.sort.Sort.TheVariants.{Round as RoundSort, Final}
use Rattle.publish.proofs.HeadLemmas.{head-clear, head-one}
use Rattle.publish.proofs.RowLemmas.{row-clear, row-code, row-one}
use Rattle.publish.proofs.RowsLemmas.{word-clear}
use Rattle.publish.proofs.TailLemmas.{cands, ids, rows-can, sub-nothing, sub-rest, sub-small, tail-more}
use Rattle.publish.proofs.WholeLemmas.{text-final, text-round}

-- ---- what is written is read

ids-sub : (number : ℕ) (people : List Person) (seats : List (Option Seat)) → IsSublist (map (λ row. row.cand.0) (rows_of number people seats)) (map (λ person. person.id.0) people)
ids-sub number [] seats = refl
ids-sub number (person ∷ people) [] = sub-nothing (map (λ p. p.id.0) (person ∷ people))
ids-sub number (person ∷ people) (None ∷ seats) = inl (ids-sub number people seats)
ids-sub number (person ∷ people) (Some seat ∷ seats) = inr (map (λ row. row.cand.0) (rows_of number people seats), refl, ids-sub number people seats)

rows-known : (table : SeatTable) (number : ℕ) (people : List Person) (seats : List (Option Seat)) → AreSeatsOf table seats
    → AllByRecursion (λ row. (row.prog.0 < length table.programmes) × (row.round ≡ number)) (rows_of number people seats)
rows-known table number [] seats are = tt
rows-known table number (person ∷ people) [] are = tt
rows-known table number (person ∷ people) (None ∷ seats) are = rows-known table number people seats are.1
rows-known table number (person ∷ people) (Some seat ∷ seats) are = ((are.0, refl), rows-known table number people seats are.1)

rows-lines : (table : SeatTable) (number : ℕ) (people : List Person) (seats : List (Option Seat)) → allot_lines table people seats ≡ flat_map (allot_row_line table) (rows_of number people seats)
rows-lines table number [] seats = refl
rows-lines table number (person ∷ people) [] = refl
rows-lines table number (person ∷ people) (None ∷ seats) = rows-lines table number people seats
rows-lines table number (person ∷ people) (Some seat ∷ seats) = ap (λ z. allot_line table person.id.0 (Some seat) ++ z) (rows-lines table number people seats)

rows-seated : (number : ℕ) (people : List Person) (seats : List (Option Seat)) → length seats ≡ length people → seated seats ≡ length (rows_of number people seats)
rows-seated number [] [] e = refl
rows-seated number [] (seat ∷ seats) e = absurd (omega (arith, e))
rows-seated number (person ∷ people) [] e = absurd (omega (arith, e))
rows-seated number (person ∷ people) (None ∷ seats) e = grind (arith, rows-seated number people seats (omega (arith, e)))
rows-seated number (person ∷ people) (Some seat ∷ seats) e = grind (arith, rows-seated number people seats (omega (arith, e)))

pub rounds-read : RoundsAreRead
rounds-read table people round e are small = record {
  rows = record { order = ids-sub round.number people round.seats; known = rows-known table round.number people round.seats are };
  number = small;
  same = ap (λ n. round_head round.number n ++ allot_lines table people round.seats ++ codes "end round\n") (rows-seated round.number people round.seats e)
      ∙ ap (λ z. round_head round.number (length (rows_of round.number people round.seats)) ++ z ++ codes "end round\n") (rows-lines table round.number people round.seats);
}

pub finals-read : FinalsAreRead
finals-read table people number rows are = record { rows = are; same = refl }

-- ---- what is read is one value

-- a row of its parts
abbrev row_with : ℕ → ℕ → ℕ → SeatKind → AllotRow
row_with round cand prog step = record { round = round; cand = record { 0 = cand }; prog = record { 0 = prog }; step = step }

module _ (sort : Sort) (table : SeatTable) (people : List Person) (distinct : AreDistinct table people) (number : ℕ) where
  -- two rows with one line are one
  row-same : (row other : AllotRow) → row.cand.0 < 2 ^ 32 → other.cand.0 < 2 ^ 32 → row.prog.0 < length table.programmes → other.prog.0 < length table.programmes → row.round ≡ number → other.round ≡ number
      → row_words (word sort) table row.cand.0 row.prog.0 row.step ≡ row_words (word sort) table other.cand.0 other.prog.0 other.step → row ≡ other
  row-same row other small fits within below mine its e =
      let line = row_words (word sort) table other.cand.0 other.prog.0 other.step in
      let is : IsRow (word sort) table line row.cand.0 row.prog.0 row.step = record { same = sym e; within = within } in
      let its-row : IsRow (word sort) table line other.cand.0 other.prog.0 other.step = record { same = refl; within = below } in
      let cand = row-one (word sort) table line row.cand.0 row.prog.0 row.step other.cand.0 other.prog.0 other.step distinct.spelled small fits is its-row in
      let (code, name) = row-code (word sort) table line other.cand.0 other.prog.0 other.step distinct.spelled fits its-row
      (decimal row.cand.0 ++ 32 ∷ (code_in table row.prog.0 ++ 32 ∷ seat_kind_name row.step)) (decimal row.cand.0) (code_in table row.prog.0 ++ 32 ∷ seat_kind_name row.step) (code_in table row.prog.0) (seat_kind_name row.step)
      (sym e) refl (digits-clear 32 row.cand.0 (omega (arith, small)) refl) refl (code-clear 32 (code_in table row.prog.0) refl (distinct.spelled row.prog.0 within)) in
      let prog = code-one table distinct.codes row.prog.0 other.prog.0 within below code in
      let step = one_kind_name row.step other.step name in
      ap (λ z. row_with z row.cand.0 row.prog.0 row.step) (mine ∙ sym its) ∙ ap (λ z. row_with other.round z row.prog.0 row.step) cand
      ∙ ap (λ z. row_with other.round other.cand.0 z row.step) prog ∙ ap (λ z. row_with other.round other.cand.0 other.prog.0 z) step

  rows-same : (rows others : List AllotRow) → AllByRecursion (λ row. row.cand.0 < 2 ^ 32) rows → AllByRecursion (λ row. row.cand.0 < 2 ^ 32) others
      → AllByRecursion (λ row. (row.prog.0 < length table.programmes) × (row.round ≡ number)) rows → AllByRecursion (λ row. (row.prog.0 < length table.programmes) × (row.round ≡ number)) others
      → length rows ≡ length others → tail_text sort table rows ≡ tail_text sort table others → rows ≡ others
  rows-same [] [] small fits known such count e = refl
  rows-same [] (other ∷ others) small fits known such count e = absurd (omega (arith, count))
  rows-same (row ∷ rows) [] small fits known such count e = absurd (omega (arith, count))
  rows-same (row ∷ rows) (other ∷ others) small fits known such count e =
      let lines = sym (tail-more sort table row rows) ∙ e ∙ tail-more sort table other others in
      let (line, rest) = cut-one 10 (row_words (word sort) table row.cand.0 row.prog.0 row.step) (row_words (word sort) table other.cand.0 other.prog.0 other.step) (tail_text sort table rows) (tail_text sort table others)
      (row-clear (word sort) table row.cand.0 row.prog.0 row.step (word-clear sort) distinct.spelled small.0 known.0.0)
      (row-clear (word sort) table other.cand.0 other.prog.0 other.step (word-clear sort) distinct.spelled fits.0 such.0.0) lines in
      ap (λ z. z ∷ rows) (row-same row other small.0 fits.0 known.0.0 such.0.0 known.0.1 such.0.1 line) ∙ ap (λ z. other ∷ z) (rows-same rows others small.1 fits.1 known.1 such.1 (omega (arith, count)) rest)

cands-small : (people : List Person) (rows : List AllotRow) → AreSmall people → IsSublist (cands rows) (ids people) → AllByRecursion (λ row. row.cand.0 < 2 ^ 32) rows
cands-small people [] small sub = tt
cands-small people (row ∷ rows) small sub = (sub-small row.cand.0 (cands rows) people small sub, cands-small people rows small (sub-rest row.cand.0 (cands rows) (ids people) sub))

-- a text of rows spells one number and one list of rows
texts-same : (sort : Sort) (table : SeatTable) (people : List Person) (known : ℕ) (text : List ℕ) (number other : ℕ) (rows others : List AllotRow) → known < 2 ^ 16 → AreDistinct table people
    → IsRowsText sort table people known text (number, rows) → IsRowsText sort table people known text (other, others) → (number ≡ other) × (rows ≡ others)
texts-same sort table people known text number other rows others fits distinct is its =
    let few = rows-can table people number (length rows) rows is.rows refl in
    let enough = rows-can table people other (length others) others its.rows refl in
    let (head, tail) = cut-one 10 (head_words sort number (length rows)) (head_words sort other (length others)) (tail_text sort table rows) (tail_text sort table others)
    (head-clear sort known number (length rows) fits (omega (arith, few.few, distinct.few)) is.number) (head-clear sort known other (length others) fits (omega (arith, enough.few, distinct.few)) its.number) (sym is.same ∙ its.same) in
    let (same, count) = head-one sort known number (length rows) other (length others) fits (omega (arith, few.few, distinct.few)) (omega (arith, enough.few, distinct.few)) is.number its.number head in
    let moved = subst (λ n. AreRows table people n others) (sym same) its.rows in
    (same, rows-same sort table people distinct number rows others (cands-small people rows distinct.small is.rows.order) (cands-small people others distinct.small its.rows.order) is.rows.known moved.known count tail)

pub rounds-one : RoundsAreOne
rounds-one table people text a b distinct is its =
    texts-same RoundSort table people 0 text a.round b.round a.rows b.rows (omega arith) distinct (text-round table people 0 text a is) (text-round table people 0 text b its)

pub finals-one : FinalsAreOne
finals-one table people number text a b fits distinct is its =
    (texts-same Final table people number text number number a.rows b.rows fits distinct (text-final table people number text a is) (text-final table people number text b its)).1
