-- Whole texts of rows, as they are published.
use Rattle.std.proofs.Common.{◌≡◌, ℕ, List, [], ◌∷◌, ◌++◌, length, refl, sym, ap, subst, ◌∙◌, arith, append_assoc}
use Rattle.std.specs.Fmt.{decimal}
use Rattle.std.specs.List.{flat_map}
use Rattle.std.specs.Prelude.{codes}
use Rattle.kept_rows.specs.declared.rows.AllotRow.{AllotRow}
use Rattle.office_base.specs.declared.person.Person.{Person}
use Rattle.published_texts.specs.Texts.{admit_line, code_in, final_head, final_text, round_head, seat_line}
use Rattle.seat_matrix.specs.Matrix.{SeatTable}
use Rattle.step_lines.specs.Lines.{seat_kind_name}
use Rattle.text_readers.specs.Reading.{Begins, IsTextFault}
use Rattle.text_readers.specs.declared.fault.TextFault.{TextFault}
use Rattle.text_readers.proofs.ReadLemmas.{fault-on}
use Rattle.publish.specs.Rows.{AreRows, IsFinalText, IsRoundText, IsRowsText, allot_row_line, head_words, round_rows_text, row_line, tail_text, word}
use Rattle.publish.specs.declared.reads.FinalRead.{FinalRead}
use Rattle.publish.specs.declared.reads.RoundRead.{RoundRead}
use Rattle.publish.specs.declared.sort.Sort.{Sort}
use Rattle.publish.specs.declared.sort.Sort.TheVariants.{Round, Final}
use Rattle.publish.proofs.RowsLemmas.{row-assoc}
use Rattle.publish.proofs.TailLemmas.{can-tail}

-- some text is there
pub some-text : (sort : Sort) (table : SeatTable) (people : List Person) (known : ℕ) → Begins (IsRowsText sort table people known) []
some-text Round table people known =
    let (text, later, tail) = can-tail Round table people 0 0 (record { few = omega arith; some = λ below. absurd (omega (arith, below)) }) in
    (head_words Round 0 (length later) ++ 10 ∷ tail_text Round table later, (0, later), record { rows = tail.are; number = omega arith; same = refl })
some-text Final table people known =
    let (text, later, tail) = can-tail Final table people known 0 (record { few = omega arith; some = λ below. absurd (omega (arith, below)) }) in
    (head_words Final known (length later) ++ 10 ∷ tail_text Final table later, (known, later), record { rows = tail.are; number = refl; same = refl })

-- ---- lines

seat-assoc : (table : SeatTable) (cand prog : ℕ) (step : _) → seat_line table cand prog step ≡ decimal cand ++ 32 ∷ (code_in table prog ++ 32 ∷ (seat_kind_name step ++ 10 ∷ []))
seat-assoc table cand prog step =
    let d = decimal cand in
    let c = code_in table prog in
    let s = seat_kind_name step in
    append_assoc (d ++ 32 ∷ [] ++ c ++ 32 ∷ []) s (10 ∷ [])
    ∙ append_assoc (d ++ 32 ∷ [] ++ c) (32 ∷ []) (s ++ 10 ∷ [])
    ∙ append_assoc (d ++ 32 ∷ []) c (32 ∷ (s ++ 10 ∷ []))
    ∙ append_assoc d (32 ∷ []) (c ++ 32 ∷ (s ++ 10 ∷ []))

row-same : (sort : Sort) (table : SeatTable) (row : AllotRow) → word sort ++ seat_line table row.cand.0 row.prog.0 row.step ≡ row_line sort table row
row-same sort table row = ap (λ z. word sort ++ z) (seat-assoc table row.cand.0 row.prog.0 row.step) ∙ sym (row-assoc (word sort) table row.cand.0 row.prog.0 row.step)

final-lines : (table : SeatTable) (rows : List AllotRow) → flat_map (admit_line table) rows ≡ flat_map (row_line Final table) rows
final-lines table [] = refl
final-lines table (row ∷ rows) = ap (λ z. z ++ flat_map (admit_line table) rows) (row-same Final table row) ∙ ap (λ z. row_line Final table row ++ z) (final-lines table rows)

round-lines : (table : SeatTable) (rows : List AllotRow) → flat_map (allot_row_line table) rows ≡ flat_map (row_line Round table) rows
round-lines table [] = refl
round-lines table (row ∷ rows) = ap (λ z. z ++ flat_map (allot_row_line table) rows) (row-same Round table row) ∙ ap (λ z. row_line Round table row ++ z) (round-lines table rows)

final-same : (table : SeatTable) (number : ℕ) (rows : List AllotRow) → final_text table rows ≡ head_words Final number (length rows) ++ 10 ∷ tail_text Final table rows
final-same table number rows =
    let head = head_words Final number (length rows) in
    ap (λ z. final_head (length rows) ++ z ++ codes "end final\n") (final-lines table rows)
    ∙ append_assoc (head ++ 10 ∷ []) (flat_map (row_line Final table) rows) (codes "end final\n")
    ∙ append_assoc head (10 ∷ []) (tail_text Final table rows)

round-head : (number count : ℕ) → round_head number count ≡ head_words Round number count ++ 10 ∷ []
round-head number count =
    ap (λ z. z ++ 10 ∷ []) (append_assoc (codes "round " ++ decimal number) (codes " seated ") (decimal count)
    ∙ append_assoc (codes "round ") (decimal number) (codes " seated " ++ decimal count))

round-same : (table : SeatTable) (number : ℕ) (rows : List AllotRow) → round_rows_text table number rows ≡ head_words Round number (length rows) ++ 10 ∷ tail_text Round table rows
round-same table number rows =
    let head = head_words Round number (length rows) in
    ap (λ z. z ++ flat_map (allot_row_line table) rows ++ codes "end round\n") (round-head number (length rows))
    ∙ ap (λ z. (head ++ 10 ∷ []) ++ z ++ codes "end round\n") (round-lines table rows)
    ∙ append_assoc (head ++ 10 ∷ []) (flat_map (row_line Round table) rows) (codes "end round\n")
    ∙ append_assoc head (10 ∷ []) (tail_text Round table rows)

-- ---- texts

pub final-text : (table : SeatTable) (people : List Person) (known number : ℕ) (text : List ℕ) (rows : List AllotRow) → IsRowsText Final table people known text (number, rows)
    → IsFinalText table people known text (record { rows = rows })
final-text table people known number text rows is = record {
  rows = subst (λ z. AreRows table people z rows) is.number is.rows;
  same = is.same ∙ sym (final-same table number rows);
}

pub text-final : (table : SeatTable) (people : List Person) (known : ℕ) (text : List ℕ) (read : FinalRead) → IsFinalText table people known text read → IsRowsText Final table people known text (known, read.rows)
text-final table people known text read is = record { rows = is.rows; number = refl; same = is.same ∙ final-same table known read.rows }

pub round-text : (table : SeatTable) (people : List Person) (known number : ℕ) (text : List ℕ) (rows : List AllotRow) → IsRowsText Round table people known text (number, rows)
    → IsRoundText table people text (record { round = number; rows = rows })
round-text table people known number text rows is = record { rows = is.rows; number = is.number; same = is.same ∙ sym (round-same table number rows) }

pub text-round : (table : SeatTable) (people : List Person) (known : ℕ) (text : List ℕ) (read : RoundRead) → IsRoundText table people text read → IsRowsText Round table people known text (read.round, read.rows)
text-round table people known text read is = record { rows = is.rows; number = is.number; same = is.same ∙ round-same table read.round read.rows }

-- ---- faults

pub final-fault : (table : SeatTable) (people : List Person) (known : ℕ) (text : List ℕ) (fault : TextFault) → IsTextFault (IsRowsText Final table people known) text fault → IsTextFault (IsFinalText table people known) text fault
final-fault table people known text fault is =
    fault-on (IsRowsText Final table people known) (IsFinalText table people known)
    (λ bytes read there. (record { rows = read.1 }, final-text table people known read.0 bytes read.1 there))
    (λ bytes read there. ((known, read.rows), text-final table people known bytes read there)) text fault is

pub round-fault : (table : SeatTable) (people : List Person) (known : ℕ) (text : List ℕ) (fault : TextFault) → IsTextFault (IsRowsText Round table people known) text fault → IsTextFault (IsRoundText table people) text fault
round-fault table people known text fault is =
    fault-on (IsRowsText Round table people known) (IsRoundText table people)
    (λ bytes read there. (record { round = read.0; rows = read.1 }, round-text table people known read.0 bytes read.1 there))
    (λ bytes read there. ((read.round, read.rows), text-round table people known bytes read there)) text fault is
